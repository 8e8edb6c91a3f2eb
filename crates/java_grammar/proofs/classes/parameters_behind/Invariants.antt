use Rattle.std.proofs.Common.{◌≡◌, ◌-◌, ◌∷◌, List, length, map}
use Rattle.readers.specs.Reading.{up_to, made}
use Rattle.java_ast.specs.Tree.{PlainParam}
use Rattle.java_ast.specs.Reading.{param}
use Rattle.java_grammar.specs.ReadingExpressions.{is_no_comma}
use Rattle.java_grammar.specs.ReadingPrograms.{next_parameter_at}
use Rattle.java_grammar.specs.Marks.{Tok, all_strict}
use Rattle.java_grammar.specs.Reading.{many_at}
use Rattle.readers.proofs.Loops.{with_front}
use Rattle.java_grammar.proofs.classes.parameters_behind.Given as goal

abbrev pub invariant-loop : goal.invariant-loop
invariant-loop l =
    with_front (map param l.params.items) (up_to (λ (t : Tok). is_no_comma t.token.node) next_parameter_at (length l.tokens - l.counter) (all_strict l.rest))
    ≡ made (λ (xs : List PlainParam). param l.fn.first ∷ xs) (many_at is_no_comma next_parameter_at) (all_strict l.tokens)
