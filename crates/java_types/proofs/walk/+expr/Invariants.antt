use Rattle.std.proofs.Common.{◌≡◌, drop}
use Rattle.std.specs.Option.{option_map}
use Rattle.java_ast.specs.Reading.{spelled, expressions}
use Rattle.java_mean.specs.Places.{in_expressions}
use Rattle.java_mean.specs.WellTyped.{faults_in}
use Rattle.java_mean.specs.Least.{least}
use Rattle.java_types.specs.Texts.{read_by}
use Rattle.java_types.proofs.walk.+expr.Given as goal

abbrev pub invariant-walk_all-loop-e : goal.invariant-walk_all-loop-e
invariant-walk_all-loop-e l = least l.kept (faults_in l.schema (read_by l.schema) (option_map spelled l.result_type) (in_expressions l.scope (expressions (drop l.e-index l.es)))) ≡ least l.initial.kept (faults_in l.schema (read_by l.schema) (option_map spelled l.result_type) (in_expressions l.scope (expressions l.es)))
