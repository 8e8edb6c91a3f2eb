use Rattle.std.proofs.Common.{◌≡◌, ◌++◌, length, take}
use Rattle.std.specs.List.{flat_map}
use Rattle.kernel_interp.specs.Claiming.{chosen_world}
use Rattle.kernel_interp.specs.Members.{forms_lent}
use Rattle.kernel_interp.specs.Reading.{rows_in, rows_seen, plain_of}
use Rattle.kernel_interp.proofs.Visited.{taken_at}
use Rattle.kernel_interp.proofs.claim.+push_taken.Given as goal

abbrev pub decreases-push_taken : goal.decreases-push_taken
decreases-push_taken l = length l.loops.now

abbrev pub invariant-loop-row : goal.invariant-loop-row
invariant-loop-row l =
    l.all ≡ l.initial.all ++ flat_map (taken_at (chosen_world l.claims) (plain_of l.claims.setting).atoms (forms_lent l.fs) l.e l.over l.inner (rows_in l.place)) (rows_seen (take l.row-index l.rows))
