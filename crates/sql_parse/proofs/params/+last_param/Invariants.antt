use Rattle.std.proofs.Common.{◌≡◌, ◌≤◌, max}
use Rattle.sql_ast.specs.declared.tree.Cond.{size-Cond}
use Rattle.sql_ast.specs.Reading.{condition}
use Rattle.sql_ast.specs.Typing.{last_param}
use Rattle.sql_parse.proofs.params.+last_param.Given as goal

abbrev pub invariant-loop-rest : goal.invariant-loop-rest
invariant-loop-rest l = record {
  inside : size-Cond l.rest ≤ size-Cond l.cond;
  so_far : max l.last (last_param (condition l.rest)) ≡ last_param (condition l.cond);
}
