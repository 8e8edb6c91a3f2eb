use Rattle.std.proofs.Common.{◌≡◌}
use Rattle.sql_ast.specs.Reading.{filter_of}
use Rattle.sql_ast.specs.Typing.{ty_of_param}
use Rattle.sql_parse.specs.Types.{froms_of, tys_below}
use Rattle.sql_parse.proofs.params.tys_to.Given as goal

abbrev pub invariant-loop-number : goal.invariant-loop-number
invariant-loop-number l = record {
  tys : l.tys.items ≡ tys_below (ty_of_param l.schema (froms_of l.initial.froms.items) (filter_of l.filter)) l.number;
  same : l.froms.items ≡ l.initial.froms.items;
}
