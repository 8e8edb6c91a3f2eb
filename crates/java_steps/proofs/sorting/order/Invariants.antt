use Rattle.std.proofs.Common.{◌≡◌, drop}
use Rattle.java_mean.specs.Statement.{in_order}
use Rattle.java_steps.proofs.sorting.order.Given as goal

abbrev pub invariant-loop-i : goal.invariant-loop-i
invariant-loop-i l = in_order l.schema (drop l.i l.keys) (drop l.i l.down) l.a l.b ≡ in_order l.schema l.keys l.down l.a l.b
