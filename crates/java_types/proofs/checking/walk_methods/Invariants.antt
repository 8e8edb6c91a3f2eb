use Rattle.std.proofs.Common.{◌≡◌, drop, map}
use Rattle.java_ast.specs.Reading.{method as plain_method}
use Rattle.java_mean.specs.WellTyped.{faults_in_methods}
use Rattle.java_mean.specs.Least.{least}
use Rattle.java_types.specs.Texts.{read_by}
use Rattle.java_types.proofs.checking.walk_methods.Given as goal

abbrev pub invariant-loop-m : goal.invariant-loop-m
invariant-loop-m l = least l.kept (faults_in_methods l.schema (read_by l.schema) l.names (map plain_method (drop l.m-index l.methods))) ≡ least l.initial.kept (faults_in_methods l.schema (read_by l.schema) l.initial.names (map plain_method l.methods))
