use Rattle.std.proofs.Common.{◌∙◌, sym, ap, Bool, List}
use Rattle.std.specs.Prelude.{not, Option}
use Rattle.std.specs.Option.{option_map}
use Rattle.qbs_base.specs.declared.span.Span.{Span}
use Rattle.java_ast.specs.declared.tree.Expr.{Expr}
use Rattle.java_ast.specs.declared.tree.ExprNode.{ExprNode}
use Rattle.java_ast.specs.Reading.{spelled, expression, expressions, node_expression}
use Rattle.java_ast.specs.Tree as plain
use Rattle.java_ast.specs.Tree.{Expression}
use Rattle.java_mean.specs.declared.types.Single.{Single}
use Rattle.java_mean.specs.declared.types.Kindred.{Kindred}
use Rattle.java_mean.specs.declared.rule.TypeRule.TheVariants as broken
use Rattle.java_mean.specs.Places.{value}
use Rattle.java_mean.specs.Rules.{type_of, at_of, only_if, unless_single, scalars_of}
use Rattle.java_mean.specs.WellTyped.{marked, faults_at}
use Rattle.java_mean.specs.Least.{least}
use Rattle.java_types.specs.Texts.{read_by}
use Rattle.java_ast.proofs.Nodes.{query_is, query_long_is, query_boolean_is}
use Rattle.java_types.proofs.Passed.{contains_noted}
use Rattle.java_types.proofs.values.at_value.Goals as goal

pub returns-in-Contains : goal.returns-in-Contains
returns-in-Contains c =
    contains_noted c.args.schema.now (read_by c.args.schema.now) (option_map spelled c.args.result_type.now) c.args.scope.now c.args.e.now.span c.in-Contains.x (expression c.in-Contains.a.value) c.type_of-k-in-Contains.result c.args.kept.now c.note_if-in-Contains.new.kept c.unless_scalars.new.kept c.unless_single.new.kept
    c.type_of-k-in-Contains.ensures
    (c.note_if-in-Contains.ensures ∙ ap (λ (b : Bool). least c.args.kept.now (marked broken.Unknown (only_if (not b) c.args.e.now.span))) c.has-in-Contains.ensures)
    c.unless_scalars.ensures
    (c.unless_single.ensures
    ∙ ap (λ (j : Option Kindred). least c.unless_scalars.new.kept (marked broken.Mismatch (unless_single j c.scalars_of.result c.place_of-in-Contains.result))) (c.type_of-in-Contains.ensures ∙ ap (λ (d : Expr). type_of c.args.schema.now c.args.scope.now (expression d)) c.deref-in-Contains.ensures)
    ∙ ap (λ (s : Option Single). least c.unless_scalars.new.kept (marked broken.Mismatch (unless_single (type_of c.args.schema.now c.args.scope.now (expression c.in-Contains.a.value)) s c.place_of-in-Contains.result))) c.scalars_of.ensures
    ∙ ap (λ (p : Span). least c.unless_scalars.new.kept (marked broken.Mismatch (unless_single (type_of c.args.schema.now c.args.scope.now (expression c.in-Contains.a.value)) (scalars_of c.type_of-k-in-Contains.result) p))) (c.place_of-in-Contains.ensures ∙ ap (λ (d : Expr). at_of (expression d)) c.deref-in-Contains-2.ensures))
    ∙ ap (λ (n : ExprNode). least c.args.kept.now (faults_at c.args.schema.now (read_by c.args.schema.now) (option_map spelled c.args.result_type.now) (value c.args.scope.now (node_expression n c.args.e.now.span)))) (sym c.in-Contains.is)

pub returns-in_ok-at_listing-in-Query : goal.returns-in_ok-at_listing-in-Query
returns-in_ok-at_listing-in-Query c =
    c.in_ok-at_listing-in-Query.ensures
    ∙ ap (λ (x : Expression). least c.args.kept.now (faults_at c.args.schema.now (read_by c.args.schema.now) (option_map spelled c.args.result_type.now) (value c.args.scope.now x)))
    (sym (query_is c.args.e.now c.in-Query.ty c.in-Query.text c.in-Query.args c.in-Query.is
    ∙ ap (λ (l : List Expr). plain.Query c.args.e.now.span (spelled c.in-Query.ty) c.in-Query.text (expressions l)) (sym c.deref-in-Query.ensures.value)))

pub returns-in_ok-at_number-in-QueryLong : goal.returns-in_ok-at_number-in-QueryLong
returns-in_ok-at_number-in-QueryLong c =
    c.in_ok-at_number-in-QueryLong.ensures
    ∙ ap (λ (x : Expression). least c.args.kept.now (faults_at c.args.schema.now (read_by c.args.schema.now) (option_map spelled c.args.result_type.now) (value c.args.scope.now x)))
    (sym (query_long_is c.args.e.now c.in-QueryLong.text c.in-QueryLong.args c.in-QueryLong.is
    ∙ ap (λ (l : List Expr). plain.QueryLong c.args.e.now.span c.in-QueryLong.text (expressions l)) (sym c.deref-in-QueryLong.ensures.value)))

pub returns-in_ok-at_truth-in-QueryBoolean : goal.returns-in_ok-at_truth-in-QueryBoolean
returns-in_ok-at_truth-in-QueryBoolean c =
    c.in_ok-at_truth-in-QueryBoolean.ensures
    ∙ ap (λ (x : Expression). least c.args.kept.now (faults_at c.args.schema.now (read_by c.args.schema.now) (option_map spelled c.args.result_type.now) (value c.args.scope.now x)))
    (sym (query_boolean_is c.args.e.now c.in-QueryBoolean.text c.in-QueryBoolean.args c.in-QueryBoolean.is
    ∙ ap (λ (l : List Expr). plain.QueryBoolean c.args.e.now.span c.in-QueryBoolean.text (expressions l)) (sym c.deref-in-QueryBoolean.ensures.value)))
