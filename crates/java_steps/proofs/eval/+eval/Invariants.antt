use Rattle.std.proofs.Common.{◌≡◌, drop}
use Rattle.java_ast.specs.Reading.{expressions}
use Rattle.java_mean.specs.Expression.{scalars_of}
use Rattle.java_steps.specs.Running.{world}
use Rattle.java_steps.specs.Words.{prefixed}
use Rattle.java_steps.proofs.eval.+eval.Given as goal

abbrev pub invariant-scalars-loop-e : goal.invariant-scalars-loop-e
invariant-scalars-loop-e l = prefixed l.xs (scalars_of (expressions (drop l.e-index l.es)) (world l.source) l.store) ≡ scalars_of (expressions l.es) (world l.source) l.store
