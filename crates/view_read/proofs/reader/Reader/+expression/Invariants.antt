use Rattle.std.proofs.Common.{◌+◌, ◌*◌}
use Rattle.view_read.proofs.reader.Reader.+expression.Given as goal

-- the room that is left, and below that the order of the functions

abbrev pub decreases-postfix : goal.decreases-postfix
decreases-postfix l = l.room * 8

abbrev pub decreases-primary : goal.decreases-primary
decreases-primary l = l.room * 8

abbrev pub decreases-joined : goal.decreases-joined
decreases-joined l = l.room * 8

abbrev pub decreases-part : goal.decreases-part
decreases-part l = l.room * 8

abbrev pub decreases-operated : goal.decreases-operated
decreases-operated l = l.room * 8

abbrev pub decreases-with_operand : goal.decreases-with_operand
decreases-with_operand l = l.room * 8

abbrev pub decreases-unary : goal.decreases-unary
decreases-unary l = l.room * 8

abbrev pub decreases-arguments : goal.decreases-arguments
decreases-arguments l = l.room * 8

abbrev pub decreases-expression : goal.decreases-expression
decreases-expression l = l.room * 8 + 1

abbrev pub decreases-joined_with : goal.decreases-joined_with
decreases-joined_with l = l.room * 8 + 1

abbrev pub decreases-query : goal.decreases-query
decreases-query l = l.room * 8 + 1

abbrev pub decreases-group : goal.decreases-group
decreases-group l = l.room * 8 + 2

abbrev pub decreases-with_equals : goal.decreases-with_equals
decreases-with_equals l = l.room * 8 + 2

abbrev pub decreases-objects_equals : goal.decreases-objects_equals
decreases-objects_equals l = l.room * 8 + 2

abbrev pub decreases-argument : goal.decreases-argument
decreases-argument l = l.room * 8 + 2

abbrev pub decreases-new_set_of : goal.decreases-new_set_of
decreases-new_set_of l = l.room * 8 + 2

abbrev pub decreases-argument_of : goal.decreases-argument_of
decreases-argument_of l = l.room * 8 + 2

abbrev pub decreases-with_part : goal.decreases-with_part
decreases-with_part l = l.room * 8 + 3

abbrev pub decreases-got : goal.decreases-got
decreases-got l = l.room * 8 + 3

abbrev pub decreases-containing : goal.decreases-containing
decreases-containing l = l.room * 8 + 3

abbrev pub decreases-new_value : goal.decreases-new_value
decreases-new_value l = l.room * 8 + 3

abbrev pub decreases-of_list : goal.decreases-of_list
decreases-of_list l = l.room * 8 + 4

abbrev pub decreases-own : goal.decreases-own
decreases-own l = l.room * 8 + 5

abbrev pub decreases-named : goal.decreases-named
decreases-named l = l.room * 8 + 6
