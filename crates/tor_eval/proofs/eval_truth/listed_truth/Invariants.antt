use Rattle.std.proofs.Common.{◌≡◌, drop, map}
use Rattle.tor_terms.specs.Truth as spec
use Rattle.tor_terms.specs.Worlds as worlds
use Rattle.tor_eval.proofs.eval_truth.listed_truth.Given as goal

abbrev pub invariant-loop-choice : goal.invariant-loop-choice
invariant-loop-choice l = worlds.listed_truth l.table.rows l.table.truths (map (spec.row_at (worlds.world_of l.env).current l.tuple) l.loops) ≡ worlds.listed_truth (drop l.choice-index l.table.rows) l.truths (map (spec.row_at (worlds.world_of l.env).current l.tuple) l.loops)
