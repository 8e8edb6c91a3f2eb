use Rattle.std.proofs.Common.{drop}
use Rattle.deriv_check.specs.Bundles.{entries_of}
use Rattle.java_ast.specs.Reading.{program as plain_program}
use Rattle.rewrite_core.proofs.ShownLoops.{IsUnder}
use Rattle.rewrite_core.proofs.checking.check_bundle.Given as goal

abbrev pub invariant-loop-i : goal.invariant-loop-i
invariant-loop-i l = IsUnder l.schema (plain_program l.typed.program) (entries_of l.bundle) l.i (plain_program l.now.program) (entries_of (drop l.i l.bundle))
