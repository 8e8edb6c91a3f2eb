use Rattle.std.proofs.Common.{◌≡◌, ◌+◌, ◌-◌, ◌*◌, length, map}
use Rattle.readers.specs.Reading.{up_to}
use Rattle.java_ast.specs.Reading.{expression}
use Rattle.java_grammar.specs.Marks.{Tok, all_strict}
use Rattle.java_grammar.specs.ReadingExpressions.{inside, is_no_comma, next_argument_at, arguments_at}
use Rattle.readers.proofs.Loops.{with_front}
use Rattle.java_grammar.proofs.expressions.+expressions.Given as goal

-- 2 ^ 40 for what is open, 2 ^ 36 for a rank, and below that for the number of parts and the order of the functions

abbrev pub decreases-enclosed : goal.decreases-enclosed
decreases-enclosed l = l.room * 1099511627776

abbrev pub decreases-negated : goal.decreases-negated
decreases-negated l = l.room * 1099511627776

abbrev pub decreases-ranked : goal.decreases-ranked
decreases-ranked l = l.room * 1099511627776 + 34359738368 + l.rank * 68719476736

abbrev pub decreases-operand : goal.decreases-operand
decreases-operand l = l.room * 1099511627776 + 34359738369 + l.rank * 68719476736

abbrev pub decreases-chain : goal.decreases-chain
decreases-chain l = l.room * 1099511627776 + 34359738370 + l.left + l.rank * 68719476736

abbrev pub decreases-unary : goal.decreases-unary
decreases-unary l = l.room * 1099511627776 + 17179869185

abbrev pub decreases-negation : goal.decreases-negation
decreases-negation l = l.room * 1099511627776 + 1

abbrev pub decreases-postfix : goal.decreases-postfix
decreases-postfix l = l.room * 1099511627776 + 17179869184

abbrev pub decreases-parts : goal.decreases-parts
decreases-parts l = l.room * 1099511627776 + 8589934592 + l.left

abbrev pub decreases-head : goal.decreases-head
decreases-head l = l.room * 1099511627776 + 10

abbrev pub decreases-named : goal.decreases-named
decreases-named l = l.room * 1099511627776 + 9

abbrev pub decreases-behind_variable : goal.decreases-behind_variable
decreases-behind_variable l = l.room * 1099511627776 + 8

abbrev pub decreases-dotted : goal.decreases-dotted
decreases-dotted l = l.room * 1099511627776 + 7

abbrev pub decreases-part : goal.decreases-part
decreases-part l = l.room * 1099511627776 + 7

abbrev pub decreases-suffix : goal.decreases-suffix
decreases-suffix l = l.room * 1099511627776 + 6

abbrev pub decreases-called : goal.decreases-called
decreases-called l = l.room * 1099511627776 + 5

abbrev pub decreases-call_parts : goal.decreases-call_parts
decreases-call_parts l = l.room * 1099511627776 + 4

abbrev pub decreases-query_of_element : goal.decreases-query_of_element
decreases-query_of_element l = l.room * 1099511627776 + 3

abbrev pub decreases-query_of_long : goal.decreases-query_of_long
decreases-query_of_long l = l.room * 1099511627776 + 3

abbrev pub decreases-query_of_truth : goal.decreases-query_of_truth
decreases-query_of_truth l = l.room * 1099511627776 + 3

abbrev pub decreases-arguments : goal.decreases-arguments
decreases-arguments l = l.room * 1099511627776 + 2

abbrev pub decreases-next_argument : goal.decreases-next_argument
decreases-next_argument l = l.room * 1099511627776 + 1

abbrev pub decreases-enclosed_query : goal.decreases-enclosed_query
decreases-enclosed_query l = l.room * 1099511627776 + 1

abbrev pub decreases-query : goal.decreases-query
decreases-query l = l.room * 1099511627776 + 5

abbrev pub decreases-source : goal.decreases-source
decreases-source l = l.room * 1099511627776 + 2

abbrev pub decreases-source_end : goal.decreases-source_end
decreases-source_end l = l.room * 1099511627776 + 3

abbrev pub decreases-new : goal.decreases-new
decreases-new l = l.room * 1099511627776 + 4

abbrev pub decreases-grouped : goal.decreases-grouped
decreases-grouped l = l.room * 1099511627776 + 1

abbrev pub decreases-atom : goal.decreases-atom
decreases-atom l = l.room * 1099511627776 + 5

abbrev pub invariant-arguments-loop : goal.invariant-arguments-loop
invariant-arguments-loop l =
    with_front (map expression l.arguments.items) (up_to (λ (t : Tok). is_no_comma t.token.node) (next_argument_at (inside l.room)) (length l.tokens - l.counter) (all_strict l.rest))
    ≡ arguments_at (inside l.room) (all_strict l.tokens)
