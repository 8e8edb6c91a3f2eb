use Rattle.std.proofs.Common.{◌≡◌, ◌-◌, length}
use Rattle.readers.specs.Reading.{up_to}
use Rattle.java_grammar.specs.Marks.{Tok, all_strict}
use Rattle.java_grammar.specs.ReadingStatements.{is_no_dot, further_at, all_further_at}
use Rattle.readers.proofs.Loops.{with_front}
use Rattle.java_grammar.proofs.sorts.all_further.Given as goal

abbrev pub invariant-loop : goal.invariant-loop
invariant-loop l =
    with_front l.parts.items (up_to (λ (t : Tok). is_no_dot t.token.node) (further_at l.room) (length l.tokens - l.counter) (all_strict l.rest))
    ≡ all_further_at l.room (all_strict l.tokens)
