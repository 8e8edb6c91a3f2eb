use Rattle.std.proofs.Common.{◌≡◌, ℕ, List, Bool, true, false, cond, Some, Option, refl, ap, ◌∙◌}
use Rattle.std.specs.Prelude.{if◌then◌else◌}
use Rattle.std.specs.Str.{bytes_eq}
use Rattle.std.proofs.lemmas.Map.Text.{btree_map_updates_str}
use Rattle.sql_ast.specs.Places.{joined, number_of}
use Rattle.sql_ast.proofs.places.Places.put.Goals as goal

joined_if : (b : Bool) (w : Option ℕ) (r : Option (Option ℕ)) → joined (cond b (Some w) r) ≡ (if b then w else joined r)
joined_if true w r = refl
joined_if false w r = refl

pub returns-in-Ok-clause-ok : goal.returns-in-Ok-clause-ok
returns-in-Ok-clause-ok c other =
    ap joined (btree_map_updates_str c.as_str.result.now c.args.self.now.numbers c.insert.new.self _ c.in-Ok.ensures.updates other)
    ∙ joined_if (bytes_eq c.as_str.result.now other) c.args.number _
    ∙ ap (λ (name : List ℕ). if bytes_eq name other then c.args.number else number_of c.args.self.now other) c.as_str.ensures
