use Rattle.std.proofs.Common.{◌∙◌, ◌+◌, sym, ap, List}
use Rattle.std.proofs.lemmas.Result.{on_ok_weaker}
use Rattle.std.specs.Option.{option_map}
use Rattle.java_ast.specs.declared.tree.Expr.{Expr}
use Rattle.java_ast.specs.Reading.{spelled, expression, expressions}
use Rattle.java_mean.specs.Places.{in_expressions}
use Rattle.java_types.specs.Texts.{read_by}
use Rattle.java_types.proofs.Passed.{next_item, expression_walked, operands_walked, none_walked, one_walked, both_walked, one_part, two_parts, all_parts, no_parts}
use Rattle.std.proofs.Common.{drop}
use Rattle.java_types.proofs.walk.+expr.Goals as goal

pub walk_all-loop-e-preserved : goal.walk_all-loop-e-preserved
walk_all-loop-e-preserved t c =
    expression_walked c.args.schema.now (read_by c.args.schema.now) (option_map spelled c.args.result_type.now) c.args.scope.now c.e-item.result (drop (c.loop-e.e-index + 1) c.args.es.now) (drop c.loop-e.e-index c.args.es.now) c.loop-e.kept c.walk_expr.new.kept
    (next_item c.args.es.now c.loop-e.e-index c.e-item.result c.loop-e-test.true c.e-item.is)
    c.in_ok-walk_expr.ensures
    ∙ c.loop-e.invariant

pub walk_expr-returns-in-Field : goal.walk_expr-returns-in-Field
walk_expr-returns-in-Field t c =
    on_ok_weaker c.walk_expr-in-Field.result (one_walked c.args.schema.now (read_by c.args.schema.now) (option_map spelled c.args.result_type.now) c.args.scope.now (expression c.args.e.now) c.deref-in-Field.result.now c.in-Field.a.value c.args.kept.now c.at_value.new.kept c.walk_expr-in-Field.new.kept
    (one_part c.args.scope.now c.args.e.now.node c.in-Field.a c.args.e.now.span c.in-Field.is)
    c.deref-in-Field.ensures
    c.in_ok-at_value.ensures)
    c.walk_expr-in-Field.ensures

pub walk_expr-returns-in_ok-walk_expr-in-Binary : goal.walk_expr-returns-in_ok-walk_expr-in-Binary
walk_expr-returns-in_ok-walk_expr-in-Binary t c =
    on_ok_weaker c.walk_expr-in-Binary-2.result (both_walked c.args.schema.now (read_by c.args.schema.now) (option_map spelled c.args.result_type.now) c.args.scope.now (expression c.args.e.now) c.deref-in-Binary.result.now c.in-Binary.a.value c.deref-in-Binary-2.result.now c.in-Binary.b.value c.args.kept.now c.at_value.new.kept c.walk_expr-in-Binary.new.kept c.walk_expr-in-Binary-2.new.kept
    (two_parts c.args.scope.now c.args.e.now.node c.in-Binary.a c.in-Binary.b c.args.e.now.span c.in-Binary.is)
    c.deref-in-Binary.ensures
    c.deref-in-Binary-2.ensures
    c.in_ok-at_value.ensures
    c.in_ok-walk_expr-in-Binary.ensures)
    c.walk_expr-in-Binary-2.ensures

pub walk_expr-returns-in-Query : goal.walk_expr-returns-in-Query
walk_expr-returns-in-Query t c =
    on_ok_weaker c.walk_all.result (operands_walked c.args.schema.now (read_by c.args.schema.now) (option_map spelled c.args.result_type.now) c.args.scope.now (expression c.args.e.now) (in_expressions c.args.scope.now (expressions c.deref-in-Query.result.now)) c.args.kept.now c.at_value.new.kept c.walk_all.new.kept
    (all_parts c.args.scope.now c.args.e.now c.in-Query.args c.in-Query.is ∙ ap (λ (l : List Expr). in_expressions c.args.scope.now (expressions l)) (sym c.deref-in-Query.ensures.value))
    c.in_ok-at_value.ensures)
    c.walk_all.ensures

pub walk_expr-returns-in-Lit : goal.walk_expr-returns-in-Lit
walk_expr-returns-in-Lit t c =
    none_walked c.args.schema.now (read_by c.args.schema.now) (option_map spelled c.args.result_type.now) c.args.scope.now (expression c.args.e.now) c.args.kept.now c.at_value.new.kept
    (no_parts c.args.scope.now c.args.e.now.node c.args.e.now.span c.in-Lit.is)
    c.in_ok-at_value.ensures
