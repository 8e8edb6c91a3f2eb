use Rattle.std.proofs.Common.{◌≡◌, ◌∙◌, ap, map, ℕ, List}
use Rattle.indexmap.specs.IndexSet.{insert_key}
use Rattle.java_ast.specs.Names.{with_name}
use Rattle.call_rules.proofs.Numbers.{same}
use Rattle.inlining.specs.Endings.{Endings}
use Rattle.inlining.proofs.Marks.{put_lent}
use Rattle.inlining.proofs.tails.Tails.insert.Goals.{in-Ok, in-Err}
use Rattle.inlining.proofs.tails.Tails.insert.Goals as goal

pub returns : goal.returns
returns c = elim c.match-insert.branch [
  | in-Ok w ↦
      let e : c.insert.new.self.keys ≡ insert_key same c.self.inside.tails.keys c.args.x = rw w.in-Ok.is at c.insert.ensures.keys in
      rw w.result-is
      (ap (λ (l : List (List ℕ)). (l, c.self.inside.count)) (ap (map (λ k. k.now)) e ∙ put_lent c.args.x c.self.inside.tails.keys) ∙ ap (λ (t : Endings). (with_name t.0 c.args.x.now, t.1)) c.self.view_is)
  | in-Err w ↦ rw w.result-is tt
]
