use Rattle.std.proofs.Common.{◌∙◌, ap, ℕ, List, Bor, rules, tests}
use Rattle.std.specs.List.{list_any}
use Rattle.std.specs.Str.{bytes_eq}
use Rattle.std.proofs.lemmas.Iterator.{YieldsList-from_slice}
use Rattle.std.proofs.lemmas.Iterator.Search.{any_from_yields_List}
use Rattle.java_types.proofs.Lent.{any_lent}
use Rattle.java_types.proofs.walked.Walked.has.Goals as goal

pub returns : goal.returns
returns c =
    any_from_yields_List (λ (n : Bor (List ℕ)). bytes_eq c.args.name.now n.now) _ _ c.any.result c.any.ensures.ran (YieldsList-from_slice c.self.inside.names.items cc) (λ x b q k. search (rules, tests))
    ∙ any_lent c.args.name.now c.self.inside.names.items
    ∙ ap (list_any (bytes_eq c.args.name.now)) c.self.view_is
