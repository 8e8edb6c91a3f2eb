use Rattle.std.proofs.Common.{drop, map}
use Rattle.java_ast.specs.Reading.{method, program}
use Rattle.inlining.specs.Walked.{most_open}
use Rattle.inlining.proofs.Methods.{AreSoFar}
use Rattle.inlining.proofs.inlined.inline_methods.Given as goal

abbrev pub invariant-loop-m : goal.invariant-loop-m
invariant-loop-m l = AreSoFar most_open (program l.program) l.m-index (map method (drop l.m-index l.program.methods)) l.counts (map method l.all)
