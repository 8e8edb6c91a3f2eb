use Rattle.std.proofs.Common.{◌≡◌, ◌+◌, ◌-◌, ◌*◌, length, map}
use Rattle.readers.specs.Reading.{up_to}
use Rattle.java_ast.specs.Reading.{statement}
use Rattle.java_grammar.specs.Marks.{Tok, all_strict}
use Rattle.java_grammar.specs.Reading.{many_at}
use Rattle.java_grammar.specs.ReadingBodies.{is_close, item_at}
use Rattle.readers.proofs.Loops.{with_front}
use Rattle.java_grammar.proofs.bodies.+bodies.Given as goal

-- what is open, and below that the order of the functions

abbrev pub decreases-enclosed : goal.decreases-enclosed
decreases-enclosed l = l.room * 16

abbrev pub decreases-single : goal.decreases-single
decreases-single l = l.room * 16

abbrev pub decreases-block : goal.decreases-block
decreases-block l = l.room * 16 + 1

abbrev pub decreases-body : goal.decreases-body
decreases-body l = l.room * 16 + 2

abbrev pub decreases-otherwise : goal.decreases-otherwise
decreases-otherwise l = l.room * 16 + 3

abbrev pub decreases-conditional : goal.decreases-conditional
decreases-conditional l = l.room * 16 + 4

abbrev pub decreases-for_each : goal.decreases-for_each
decreases-for_each l = l.room * 16 + 4

abbrev pub decreases-repeated : goal.decreases-repeated
decreases-repeated l = l.room * 16 + 4

abbrev pub decreases-statement : goal.decreases-statement
decreases-statement l = l.room * 16 + 5

abbrev pub decreases-item : goal.decreases-item
decreases-item l = l.room * 16 + 6

abbrev pub decreases-statements : goal.decreases-statements
decreases-statements l = l.room * 16 + 7

abbrev pub invariant-statements-loop : goal.invariant-statements-loop
invariant-statements-loop l =
    with_front (map statement l.statements.items) (up_to (λ (t : Tok). is_close t.token.node) (item_at l.room) (length l.tokens - l.counter) (all_strict l.rest))
    ≡ many_at is_close (item_at l.room) (all_strict l.tokens)
