use Rattle.std.proofs.Common.{◌≡◌, ◌-◌, length, map}
use Rattle.readers.specs.Reading.{up_to}
use Rattle.java_ast.specs.Reading.{method}
use Rattle.java_grammar.specs.ReadingBodies.{is_close}
use Rattle.java_grammar.specs.ReadingPrograms.{method_at}
use Rattle.java_grammar.specs.Marks.{Tok, all_strict}
use Rattle.java_grammar.specs.Reading.{many_at}
use Rattle.readers.proofs.Loops.{with_front}
use Rattle.java_grammar.proofs.classes.all_methods.Given as goal

abbrev pub invariant-loop : goal.invariant-loop
invariant-loop l =
    with_front (map method l.methods.items) (up_to (λ (t : Tok). is_close t.token.node) (method_at l.room) (length l.tokens - l.counter) (all_strict l.rest))
    ≡ many_at is_close (method_at l.room) (all_strict l.tokens)
