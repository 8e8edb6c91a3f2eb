use Rattle.std.proofs.Common.{◌≡◌, ◌≤◌, ◌+◌, ◌*◌}
use Rattle.sql_ast.specs.InSight.{in_sight}
use Rattle.sql_ast.specs.Knowns.{knowns_of}
use Rattle.sql_ast.specs.Names.{named_condition}
use Rattle.sql_parse.specs.declared.raw.RawCond.{size-RawCond}
use Rattle.sql_parse.specs.Said.{condition_of}
use Rattle.sql_parse.specs.Scopes.{scope_of}
use Rattle.sql_parse.proofs.Climbing.{over}
use Rattle.sql_parse.proofs.Depths.{filter_depth}
use Rattle.sql_parse.proofs.naming.+condition.Given as goal

abbrev pub decreases-condition : goal.decreases-condition
decreases-condition l = size-RawCond l.raw.now * 4 + 5

abbrev pub decreases-part : goal.decreases-part
decreases-part l = size-RawCond l.raw.now * 4 + 4

abbrev pub decreases-inside : goal.decreases-inside
decreases-inside l = filter_depth l.raw.now

abbrev pub invariant-condition-loop-rest : goal.invariant-condition-loop-rest
invariant-condition-loop-rest l = record {
  inside : size-RawCond l.rest ≤ size-RawCond l.raw;
  same : in_sight l.known ≡ in_sight l.fn.known;
  so_far : over l.steps.items (named_condition l.schema (scope_of l.around (knowns_of (in_sight l.fn.known))) (condition_of l.rest)) ≡ named_condition l.schema (scope_of l.around (knowns_of (in_sight l.fn.known))) (condition_of l.raw);
}
