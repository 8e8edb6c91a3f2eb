use Rattle.std.proofs.Common.{◌≡◌, ◌-◌, ◌+◌, length, drop}
use Rattle.std.specs.List.{list_any}
use Rattle.kernel_lang.specs.Plain.{accumulator}
use Rattle.kernel_lang.specs.Running.{layers_of}
use Rattle.kernel_interp.specs.Reading.{rows_in, rows_seen, world_of, plain_of, guard_at}
use Rattle.kernel_interp.proofs.Marked.{through}
use Rattle.kernel_interp.proofs.mark.+marks.Given as goal

abbrev pub decreases-marks : goal.decreases-marks
decreases-marks l = length l.acc.now.chain - l.level

abbrev pub invariant-loop-row : goal.invariant-loop-row
invariant-loop-row l =
    list_any (through (world_of l.setting) (plain_of l.setting).atoms l.over (guard_at (accumulator l.acc).guards l.level) (drop (l.level + 1) (layers_of (accumulator l.acc))) (rows_in l.place)) (rows_seen (drop l.row-index l.rows))
    ≡ list_any (through (world_of l.setting) (plain_of l.setting).atoms l.over (guard_at (accumulator l.acc).guards l.level) (drop (l.level + 1) (layers_of (accumulator l.acc))) (rows_in l.place)) (rows_seen l.rows)
