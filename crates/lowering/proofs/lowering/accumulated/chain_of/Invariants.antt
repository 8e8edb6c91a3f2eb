use Rattle.std.proofs.Common.{◌≡◌, ◌++◌, drop, map}
use Rattle.java_loops.specs.Lowering.Numbering.{loop_number}
use Rattle.lowering.specs.InCode.Contexts.{setting_given}
use Rattle.lowering.proofs.lowering.accumulated.chain_of.Given as goal

abbrev pub invariant-loop-j : goal.invariant-loop-j
invariant-loop-j l = l.chain ++ map (loop_number (setting_given l.context).sites) (drop l.j-index l.loops) ≡ map (loop_number (setting_given l.context).sites) l.loops
