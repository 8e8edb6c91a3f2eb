use Rattle.std.proofs.Common.{suc, List, length, ap, ◌∙◌}
use Rattle.sql_ast.specs.declared.tree.FromItem.{FromItem}
use Rattle.sql_ast.specs.Reading.{filter_of}
use Rattle.sql_ast.specs.Typing.{ty_of_param, filter_param}
use Rattle.sql_parse.specs.Types.{param_at, tys_below}
use Rattle.sql_parse.proofs.Parameters.{table_is, table_len}
use Rattle.sql_parse.proofs.params.param_tys.Goals as goal

pub returns-clause-value : goal.returns-clause-value
returns-clause-value c =
    ap param_at (c.in_ok-tys.ensures.value ∙ ap (λ (froms : List FromItem). tys_below (ty_of_param c.args.schema.now froms (filter_of c.args.filter.now)) (suc c.filter_param-last.result)) c.in_ok-froms.ensures)
    ∙ table_is c.args.schema.now c.args.from.now (filter_of c.args.filter.now) c.filter_param-last.result c.filter_param-last.ensures

pub returns-clause-len : goal.returns-clause-len
returns-clause-len c =
    ap length (c.in_ok-tys.ensures.value ∙ ap (λ (froms : List FromItem). tys_below (ty_of_param c.args.schema.now froms (filter_of c.args.filter.now)) (suc c.filter_param-last.result)) c.in_ok-froms.ensures)
    ∙ table_len (ty_of_param c.args.schema.now c.args.from.now (filter_of c.args.filter.now)) c.filter_param-last.result (filter_param (filter_of c.args.filter.now)) c.filter_param-last.ensures
