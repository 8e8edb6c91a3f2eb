use Rattle.std.proofs.Common.{◌≡◌, take}
use Rattle.kernel_interp.specs.Reading.{rows_seen}
use Rattle.kernel_interp.proofs.list.lent.Given as goal

abbrev pub invariant-loop-row : goal.invariant-loop-row
invariant-loop-row l = rows_seen l.all.items ≡ take l.row-index l.rows
