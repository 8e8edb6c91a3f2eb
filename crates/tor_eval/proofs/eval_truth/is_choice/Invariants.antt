use Rattle.std.proofs.Common.{◌≡◌, drop, map}
use Rattle.tor_terms.specs.Truth as spec
use Rattle.tor_terms.specs.Worlds as worlds
use Rattle.tor_eval.proofs.eval_truth.is_choice.Given as goal

abbrev pub invariant-loop-j : goal.invariant-loop-j
invariant-loop-j l = worlds.same_rows l.choice (map (spec.row_at (worlds.world_of l.env).current l.tuple) l.loops) ≡ worlds.same_rows l.rest (map (spec.row_at (worlds.world_of l.env).current l.tuple) (drop l.j-index l.loops))
