use Rattle.std.proofs.Common.{◌≡◌, ◌-◌, length}
use Rattle.readers.specs.Reading.{up_to}
use Rattle.std.proofs.Common.{true, codes}
use Rattle.java_grammar.specs.ReadingPrograms.{is_no_import, dotted_name_at, imports_at}
use Rattle.java_grammar.specs.Marks.{Tok, all_strict}
use Rattle.readers.proofs.Loops.{with_front}
use Rattle.java_grammar.proofs.classes.imports.Given as goal

abbrev pub invariant-loop : goal.invariant-loop
invariant-loop l =
    with_front (l.names.items) (up_to (λ (t : Tok). is_no_import t.token.node) (dotted_name_at (codes "import") true) (length l.tokens - l.counter) (all_strict l.rest))
    ≡ imports_at (all_strict l.tokens)
