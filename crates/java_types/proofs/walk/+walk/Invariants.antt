use Rattle.std.proofs.Common.{◌≡◌, drop, take, length}
use Rattle.std.specs.Option.{option_map}
use Rattle.java_ast.specs.Reading.{spelled, statements}
use Rattle.java_mean.specs.Places.{around, in_statements}
use Rattle.java_mean.specs.WellTyped.{faults_in}
use Rattle.java_mean.specs.Least.{least}
use Rattle.java_types.specs.Texts.{read_by}
use Rattle.java_types.proofs.walk.+walk.Given as goal

abbrev pub invariant-walk_block-loop-i : goal.invariant-walk_block-loop-i
invariant-walk_block-loop-i l = record {
  so_far : least l.kept (faults_in l.schema (read_by l.schema) (option_map spelled l.result_type) (in_statements l.schema l.scope (around l.walked l.in_loop l.end) (statements (drop l.i l.block)))) ≡ least l.initial.kept (faults_in l.schema (read_by l.schema) (option_map spelled l.result_type) (in_statements l.schema l.initial.scope (around l.initial.walked l.in_loop l.end) (statements l.block)));
  outer : take (length l.initial.scope) l.scope ≡ l.initial.scope;
  walking : l.walked ≡ l.initial.walked;
}
