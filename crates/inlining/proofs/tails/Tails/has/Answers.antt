use Rattle.std.proofs.Common.{◌≡◌, ◌∙◌, ap}
use Rattle.std.specs.Prelude.{bytes_eq}
use Rattle.std.specs.List.{list_any}
use Rattle.java_ast.specs.Names.{is_among}
use Rattle.inlining.specs.Endings.{Endings}
use Rattle.inlining.proofs.Marks.{has_lent}
use Rattle.inlining.proofs.tails.Tails.has.Goals as goal

pub returns : goal.returns
returns c =
    let e : c.contains.result ≡ list_any (λ k. bytes_eq c.args.x.now k.now) c.self.inside.tails.keys = c.contains.ensures in
    e ∙ has_lent c.args.x.now c.self.inside.tails.keys ∙ ap (λ (t : Endings). is_among t.0 c.args.x.now) c.self.view_is
