use Rattle.std.proofs.Common.{◌+◌, ◌*◌}
use Rattle.view_read.proofs.reader.Reader.+blocks.Given as goal

-- how deep blocks may stand yet, and below that the order of the functions

abbrev pub decreases-look_into : goal.decreases-look_into
decreases-look_into l = l.room * 8

abbrev pub decreases-look_into_headed : goal.decreases-look_into_headed
decreases-look_into_headed l = l.room * 8 + 1

abbrev pub decreases-put_sequence : goal.decreases-put_sequence
decreases-put_sequence l = l.room * 8 + 1

abbrev pub decreases-end_sequence : goal.decreases-end_sequence
decreases-end_sequence l = l.room * 8 + 2

abbrev pub decreases-from_statement : goal.decreases-from_statement
decreases-from_statement l = l.room * 8 + 3

abbrev pub decreases-block : goal.decreases-block
decreases-block l = l.room * 8 + 4

abbrev pub decreases-look_into_blocks : goal.decreases-look_into_blocks
decreases-look_into_blocks l = l.room * 8 + 5

abbrev pub decreases-look_into_branches : goal.decreases-look_into_branches
decreases-look_into_branches l = l.room * 8 + 1
