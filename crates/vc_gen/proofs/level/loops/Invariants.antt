use Rattle.std.proofs.Common.{◌≡◌, take}
use Rattle.kernel_lang.specs.Postcondition.{loops_of}
use Rattle.vc_gen.specs.Levels.{layers_seen}
use Rattle.vc_gen.proofs.level.loops.Given as goal

abbrev pub invariant-loop-level : goal.invariant-loop-level
invariant-loop-level l = l.all ≡ loops_of (layers_seen (take l.level-index l.levels))
