use Rattle.std.proofs.Common.{drop}
use Rattle.java_ast.specs.Reading.{statements}
use Rattle.renamed_copies.specs.Renamings.{renaming_of}
use Rattle.inlining.proofs.Arguments.{PutSoFar, rest_given}
use Rattle.inlining.proofs.helper.put_arguments.Given as goal

abbrev pub invariant-loop-i : goal.invariant-loop-i
invariant-loop-i l =
    PutSoFar (rest_given l.span (renaming_of l.g) l.params (renaming_of l.f) l.arguments) (rest_given l.span (renaming_of l.g) (drop l.i l.params) (renaming_of l.f) (drop l.i l.arguments)) l.fn.counts l.counts (statements l.fn.out.items) (statements l.out.items)
