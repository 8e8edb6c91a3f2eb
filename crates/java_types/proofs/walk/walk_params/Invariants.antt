use Rattle.std.proofs.Common.{◌≡◌, drop, map}
use Rattle.std.specs.Option.{option_map}
use Rattle.java_ast.specs.Reading.{spelled, param as plain_param}
use Rattle.java_mean.specs.Places.{in_params}
use Rattle.java_mean.specs.Visible.{with_params}
use Rattle.java_mean.specs.WellTyped.{faults_in}
use Rattle.java_mean.specs.Least.{least}
use Rattle.java_types.specs.Texts.{read_by}
use Rattle.java_types.proofs.walk.walk_params.Given as goal

abbrev pub invariant-loop-p : goal.invariant-loop-p
invariant-loop-p l = record {
  so_far : least l.kept (faults_in l.schema (read_by l.schema) (option_map spelled l.result_type) (in_params l.schema l.scope l.at (map plain_param (drop l.p-index l.params)))) ≡ least l.initial.kept (faults_in l.schema (read_by l.schema) (option_map spelled l.result_type) (in_params l.schema l.initial.scope l.at (map plain_param l.params)));
  visible : with_params l.schema l.scope (map plain_param (drop l.p-index l.params)) ≡ with_params l.schema l.initial.scope (map plain_param l.params);
}
