use Rattle.std.proofs.Common.{◌≡◌, ◌∙◌, ◌+◌, sym, ap, subst, List, drop, None}
use Rattle.java_ast.specs.declared.tree.Expr.{Expr, out-Expr}
use Rattle.java_ast.specs.Reading.{expression, expressions}
use Rattle.java_ast.specs.Tree.{Expression}
use Rattle.java_ast.proofs.Nodes.{query_is, query_long_is, query_boolean_is}
use Rattle.java_calls.specs.Rules.{sites_in, sites_among}
use Rattle.call_rules.proofs.Numbers.{drop_item}
use Rattle.method_texts.specs.Anew.{has_sites}
use Rattle.method_texts.proofs.Sites.{first_has, first_lacks, query_lacks}
use Rattle.method_texts.proofs.calls.+expressions.Goals as goal

pub is_among-returns-then-is_in : goal.is_among-returns-then-is_in
is_among-returns-then-is_in t c =
    first_has (sites_in None (expression c.e-item.result)) (sites_among (expressions (drop (c.loop-e.e-index + 1) c.args.list.now))) c.is_in.result (has_sites (sites_among (expressions c.args.list.now))) c.is_in.ensures c.if-is_in.true
    (subst (λ (l : List Expr). has_sites (sites_among (expressions l)) ≡ has_sites (sites_among (expressions c.args.list.now))) (drop_item c.args.list.now c.loop-e.e-index c.e-item.result c.loop-e-test.true c.e-item.is) c.loop-e.invariant)

pub is_among-loop-e-preserved : goal.is_among-loop-e-preserved
is_among-loop-e-preserved t c =
    first_lacks (sites_in None (expression c.e-item.result)) (sites_among (expressions (drop (c.loop-e.e-index + 1) c.args.list.now))) c.is_in.result (has_sites (sites_among (expressions c.args.list.now))) c.is_in.ensures c.if-is_in.false
    (subst (λ (l : List Expr). has_sites (sites_among (expressions l)) ≡ has_sites (sites_among (expressions c.args.list.now))) (drop_item c.args.list.now c.loop-e.e-index c.e-item.result c.loop-e-test.true c.e-item.is) c.loop-e.invariant)

pub is_in-returns-in-Query : goal.is_in-returns-in-Query
is_in-returns-in-Query t c =
    c.is_among.ensures ∙ ap (λ (l : List Expr). has_sites (sites_among (expressions l))) c.deref-in-Query.ensures.value
    ∙ ap (λ (e : Expression). has_sites (sites_in None e)) (sym (query_is c.args.e.now c.in-Query.field-0 c.in-Query.field-1 c.in-Query.arguments c.in-Query.is))

pub is_in-returns-in-QueryBoolean : goal.is_in-returns-in-QueryBoolean
is_in-returns-in-QueryBoolean t c =
    c.is_among-in-QueryBoolean.ensures ∙ ap (λ (l : List Expr). has_sites (sites_among (expressions l))) c.deref-in-QueryBoolean.ensures.value
    ∙ ap (λ (e : Expression). has_sites (sites_in None e)) (sym (query_boolean_is c.args.e.now c.in-QueryBoolean.field-0 c.in-QueryBoolean.arguments c.in-QueryBoolean.is))

pub is_in-returns-else-is_single_name : goal.is_in-returns-else-is_single_name
is_in-returns-else-is_single_name t c =
    c.is_among-else-is_single_name.ensures ∙ ap (λ (l : List Expr). has_sites (sites_among (expressions l))) c.deref-else-is_single_name.ensures.value
    ∙ query_lacks (out-Expr c.args.e.now).span c.in-QueryLong.text (expressions c.in-QueryLong.arguments.items) c.is_single_name.result c.is_single_name.ensures c.if-is_single_name.false
    ∙ ap (λ (e : Expression). has_sites (sites_in None e)) (sym (query_long_is c.args.e.now c.in-QueryLong.text c.in-QueryLong.arguments c.in-QueryLong.is))
