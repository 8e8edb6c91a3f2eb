use Rattle.std.proofs.Common.{take}
use Rattle.java_steps.specs.Met.{AreFirsts}
use Rattle.java_steps.proofs.firsts.firsts_of.Given as goal

abbrev pub invariant-loop-row : goal.invariant-loop-row
invariant-loop-row l = AreFirsts l.met l.list.items (take l.row-index l.rows)
