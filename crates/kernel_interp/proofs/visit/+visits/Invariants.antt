use Rattle.std.proofs.Common.{◌≡◌, length, drop}
use Rattle.std.specs.List.{list_any}
use Rattle.kernel_interp.specs.Members.{forms_lent}
use Rattle.kernel_interp.specs.Reading.{rows_in, rows_seen, world_of, plain_of}
use Rattle.kernel_interp.proofs.Visited.{visited}
use Rattle.kernel_interp.proofs.visit.+visits.Given as goal

abbrev pub decreases-visits : goal.decreases-visits
decreases-visits l = length l.loops.now

abbrev pub invariant-loop-row : goal.invariant-loop-row
invariant-loop-row l =
    list_any (visited (world_of l.setting) (plain_of l.setting).atoms (forms_lent l.fs) l.over l.inner (rows_in l.place)) (rows_seen (drop l.row-index l.rows))
    ≡ list_any (visited (world_of l.setting) (plain_of l.setting).atoms (forms_lent l.fs) l.over l.inner (rows_in l.place)) (rows_seen l.rows)
