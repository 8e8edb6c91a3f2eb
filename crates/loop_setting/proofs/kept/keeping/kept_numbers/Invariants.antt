use Rattle.std.proofs.Common.{◌≡◌, ◌+◌, ◌++◌, drop}
use Rattle.java_ast.specs.Reading.{statements}
use Rattle.loop_setting.specs.Reading.{fragment_in_code}
use Rattle.java_ast.specs.Names.{names_lent}
use Rattle.loop_text.specs.Statements.Wanted as specs
use Rattle.loop_setting.proofs.kept.keeping.kept_numbers.Given as goal

abbrev pub invariant-loop-i : goal.invariant-loop-i
invariant-loop-i l =
    l.numbers ++ specs.kept_numbers (fragment_in_code l.f) (names_lent l.wanted.names) (l.first + l.i) (statements (drop l.i l.f.run.now))
    ≡ specs.kept_numbers (fragment_in_code l.f) (names_lent l.wanted.names) l.first (statements l.f.run.now)
