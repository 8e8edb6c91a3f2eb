use Rattle.std.proofs.Common.{◌≡◌, take}
use Rattle.tor_terms.specs.Value as spec
use Rattle.tor_terms.specs.Worlds.{world_of}
use Rattle.tor_eval.proofs.eval_lists.here.Given as goal

abbrev pub invariant-loop-j : goal.invariant-loop-j
invariant-loop-j l = l.tuple ≡ spec.here (world_of l.env) (take l.j-index l.loops)
