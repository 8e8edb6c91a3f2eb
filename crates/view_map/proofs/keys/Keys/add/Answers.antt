use Rattle.std.proofs.Common.{◌≡◌, ◌∙◌, ap, List, ℕ}
use Rattle.std.specs.Prelude.{bytes_eq, not}
use Rattle.std.specs.List.{list_any}
use Rattle.view_map.specs.Keys.{is_key}
use Rattle.view_map.proofs.Among.{among}
use Rattle.view_map.proofs.keys.Keys.add.Goals.{in-Ok, in-Err}
use Rattle.view_map.proofs.keys.Keys.add.Goals as goal

pub returns-clause-is_new : goal.returns-clause-is_new
returns-clause-is_new c = elim c.match-insert.branch [
  | in-Ok w ↦
      let e : w.in-Ok.is_new ≡ not (list_any (λ k. bytes_eq c.args.key.items k.items) c.self.inside.keys.keys) = rw w.in-Ok.is at c.insert.ensures.added in
      rw w.result-is
      (e ∙ ap not (among (λ k. k.items) c.args.key.items c.self.inside.keys.keys ∙ ap (λ (ks : List (List ℕ)). is_key ks c.args.key.items) c.self.view_is))
  | in-Err w ↦ rw w.result-is tt
]
