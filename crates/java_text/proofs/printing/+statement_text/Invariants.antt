use Rattle.std.proofs.Common.{◌≡◌, ◌++◌, drop}
use Rattle.std.specs.String.{string_bytes}
use Rattle.java_ast.specs.Reading.{statements}
use Rattle.java_text.specs.Canonical.{canonical_statements}
use Rattle.java_text.proofs.printing.+statement_text.Given as goal

abbrev pub invariant-put_statements-loop-s : goal.invariant-put_statements-loop-s
invariant-put_statements-loop-s l = string_bytes l.out ++ canonical_statements l.margin (statements (drop l.s-index l.body)) ≡ string_bytes l.fn.out ++ canonical_statements l.margin (statements l.body)
