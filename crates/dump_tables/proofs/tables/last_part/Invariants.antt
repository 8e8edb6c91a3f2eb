use Rattle.std.proofs.Common.{◌≡◌, length}
use Rattle.dump_tables.specs.Tables.{last_part}
use Rattle.dump_tables.proofs.tables.last_part.Given as goal

abbrev pub invariant-loop-rest : goal.invariant-loop-rest
invariant-loop-rest l = last_part l.part l.rest ≡ last_part l.fn.first l.fn.behind

abbrev pub decreases-loop-rest : goal.decreases-loop-rest
decreases-loop-rest l = length l.rest
