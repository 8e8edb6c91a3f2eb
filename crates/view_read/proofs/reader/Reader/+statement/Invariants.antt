use Rattle.std.proofs.Common.{◌+◌, ◌*◌}
use Rattle.view_read.proofs.reader.Reader.+statement.Given as goal

-- how deep statements may stand yet, and below that the order of the functions

abbrev pub decreases-statement : goal.decreases-statement
decreases-statement l = l.room * 8

abbrev pub decreases-statements_to_brace : goal.decreases-statements_to_brace
decreases-statements_to_brace l = l.room * 8 + 1

abbrev pub decreases-rest_of_block : goal.decreases-rest_of_block
decreases-rest_of_block l = l.room * 8 + 2

abbrev pub decreases-body : goal.decreases-body
decreases-body l = l.room * 8 + 3

abbrev pub decreases-conditional : goal.decreases-conditional
decreases-conditional l = l.room * 8 + 4

abbrev pub decreases-repeated : goal.decreases-repeated
decreases-repeated l = l.room * 8 + 4

abbrev pub decreases-skip : goal.decreases-skip
decreases-skip l = l.room * 8 + 4

abbrev pub decreases-for_each : goal.decreases-for_each
decreases-for_each l = l.room * 8 + 4

abbrev pub decreases-walk_by : goal.decreases-walk_by
decreases-walk_by l = l.room * 8 + 4

abbrev pub decreases-walk : goal.decreases-walk
decreases-walk l = l.room * 8 + 5
