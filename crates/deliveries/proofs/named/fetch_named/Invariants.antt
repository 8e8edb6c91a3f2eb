use Rattle.deliveries.specs.Reads.{looks}
use Rattle.deliveries.proofs.Naming.{IsSoFar}
use Rattle.deliveries.proofs.named.fetch_named.Given as goal

-- the files of the names so far are read
abbrev pub invariant-loop-name : goal.invariant-loop-name
invariant-loop-name g l =
    IsSoFar (looks g.F.Files.told g.F.Files.faults g.F.Files.may_fail g.F.Files.by_read) l.names l.name-index l.limit l.left l.fn.texts l.texts l.fn.files l.files
