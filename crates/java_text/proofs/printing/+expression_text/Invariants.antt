use Rattle.std.proofs.Common.{◌≡◌, ◌++◌, drop}
use Rattle.std.specs.String.{string_bytes}
use Rattle.java_ast.specs.Reading.{expressions}
use Rattle.java_text.specs.Canonical.{canonical_arguments}
use Rattle.java_text.proofs.printing.+expression_text.Given as goal

abbrev pub invariant-put_arguments-loop-argument : goal.invariant-put_arguments-loop-argument
invariant-put_arguments-loop-argument l = string_bytes l.out ++ canonical_arguments (expressions (drop l.argument-index l.arguments)) ≡ string_bytes l.fn.out ++ canonical_arguments (expressions l.arguments)
