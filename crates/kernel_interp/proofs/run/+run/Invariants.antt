use Rattle.std.proofs.Common.{◌≡◌, ◌-◌, ◌+◌, length, drop}
use Rattle.std.specs.List.{AllByRecursion}
use Rattle.kernel_lang.specs.Plain.{accumulator}
use Rattle.kernel_lang.specs.Running.{layers_of, with_row, each_row}
use Rattle.kernel_interp.specs.Ends.{NumbersFit, update_of, data_of}
use Rattle.kernel_interp.specs.Reading.{rows_in, rows_seen, world_of, flagged, plain_of, guard_at}
use Rattle.kernel_interp.proofs.Steps.{step}
use Rattle.kernel_interp.proofs.run.+run.Given as goal

abbrev pub decreases-run : goal.decreases-run
decreases-run l = length l.acc.now.chain - l.level

abbrev pub invariant-loop-row : goal.invariant-loop-row
invariant-loop-row l = record {
  left : each_row (rows_seen (drop l.row-index l.rows)) (step (flagged l.setting) (plain_of l.setting).atoms (update_of l.initial.current) l.over (guard_at (accumulator l.acc).guards l.level) (drop (l.level + 1) (layers_of (accumulator l.acc))) (rows_in l.place)) (data_of l.current)
      ≡ each_row (rows_seen l.rows) (step (flagged l.setting) (plain_of l.setting).atoms (update_of l.initial.current) l.over (guard_at (accumulator l.acc).guards l.level) (drop (l.level + 1) (layers_of (accumulator l.acc))) (rows_in l.place)) (data_of l.initial.current);
  fits : AllByRecursion (λ r. NumbersFit (world_of l.setting).lists (update_of l.initial.current) (drop (l.level + 1) (layers_of (accumulator l.acc))) (with_row (rows_in l.place) l.over r)) (rows_seen (drop l.row-index l.rows));
  same : update_of l.current ≡ update_of l.initial.current;
}
