use Rattle.std.proofs.Common.{List, ap₂, ◌∙◌}
use Rattle.std.proofs.lemmas.Result.{IfOk-weaker}
use Rattle.qbs_base.specs.Values.{Schema}
use Rattle.java_ast.specs.Reading.{expression}
use Rattle.select_parts.specs.Selects.{is_text_operand}
use Rattle.sql_ast.specs.declared.tree.ListQuery.{ListQuery}
use Rattle.sql_ast.specs.Reading.{listing}
use Rattle.spreads.proofs.Asked.{compared}
use Rattle.spreads.proofs.condition.comparison_in.Goals as goal

pub returns : goal.returns
returns c =
    IfOk-weaker c.compared_in.result _ _
    (λ e h.
    compared c.is_text_operand-text.result _ c.args.at c.args.cmp (expression c.in_ok-a.a.value) _ (expression c.in_ok-b.b.value) _ (expression e.value)
    (c.is_text_operand-text.ensures ∙ ap₂ (λ (s : Schema) (q : ListQuery). is_text_operand s (listing q) c.args.a.now) c.tables.ensures.value c.deref.ensures) c.in_ok-a.ensures c.in_ok-b.ensures h)
    c.compared_in.ensures
