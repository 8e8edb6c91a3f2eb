use Rattle.std.proofs.Common.{◌≡◌, ◌∙◌, ◌+◌, ◌++◌, sym, ap, subst, refl, List, drop, None}
use Rattle.java_ast.specs.declared.tree.Stmt.{Stmt}
use Rattle.java_ast.specs.Reading.{expression, statement, statements}
use Rattle.java_ast.specs.Tree.{Statement}
use Rattle.java_ast.proofs.Nodes.{if_else_is, for_each_is}
use Rattle.java_calls.specs.Rules.{sites_in, sites_at, sites_of}
use Rattle.call_rules.proofs.Numbers.{drop_item}
use Rattle.method_texts.specs.Anew.{has_sites}
use Rattle.method_texts.proofs.Sites.{first_has, first_lacks}
use Rattle.method_texts.proofs.calls.+statements.Goals as goal

pub has_call-returns-then-is_at : goal.has_call-returns-then-is_at
has_call-returns-then-is_at t c =
    first_has (sites_at (statement c.s-item.result)) (sites_of (statements (drop (c.loop-s.s-index + 1) c.args.block.now))) c.is_at.result (has_sites (sites_of (statements c.args.block.now))) c.is_at.ensures c.if-is_at.true
    (subst (λ (l : List Stmt). has_sites (sites_of (statements l)) ≡ has_sites (sites_of (statements c.args.block.now))) (drop_item c.args.block.now c.loop-s.s-index c.s-item.result c.loop-s-test.true c.s-item.is) c.loop-s.invariant)

pub has_call-loop-s-preserved : goal.has_call-loop-s-preserved
has_call-loop-s-preserved t c =
    first_lacks (sites_at (statement c.s-item.result)) (sites_of (statements (drop (c.loop-s.s-index + 1) c.args.block.now))) c.is_at.result (has_sites (sites_of (statements c.args.block.now))) c.is_at.ensures c.if-is_at.false
    (subst (λ (l : List Stmt). has_sites (sites_of (statements l)) ≡ has_sites (sites_of (statements c.args.block.now))) (drop_item c.args.block.now c.loop-s.s-index c.s-item.result c.loop-s-test.true c.s-item.is) c.loop-s.invariant)

pub is_at-returns-then-has_call : goal.is_at-returns-then-has_call
is_at-returns-then-has_call t c =
    let cond = sites_in None (expression c.in-If.cond) in
    let yes = sites_of (statements c.in-If.yes.items) in
    let other = sites_of (statements c.in-Some.other.items) in
    c.if-has_call.true
    ∙ first_has yes other c.has_call-else-is_in-2.result (has_sites (cond ++ (yes ++ other)))
    (c.has_call-else-is_in-2.ensures ∙ ap (λ (l : List Stmt). has_sites (sites_of (statements l))) c.deref-else-is_in-2.ensures.value)
    c.if-has_call.true
    (first_lacks cond (yes ++ other) c.is_in-in-Some.result (has_sites (cond ++ (yes ++ other))) c.is_in-in-Some.ensures c.if-is_in-2.false refl)
    ∙ ap (λ (s : Statement). has_sites (sites_at s)) (sym (if_else_is c.args.s.now c.in-If.cond c.in-If.yes c.in-Some.other c.in-If.other c.in-If.is c.in-Some.is))

pub is_at-returns-else-has_call : goal.is_at-returns-else-has_call
is_at-returns-else-has_call t c =
    let cond = sites_in None (expression c.in-If.cond) in
    let yes = sites_of (statements c.in-If.yes.items) in
    let other = sites_of (statements c.in-Some.other.items) in
    c.has_call-else-has_call.ensures ∙ ap (λ (l : List Stmt). has_sites (sites_of (statements l))) c.deref-else-has_call.ensures.value
    ∙ first_lacks yes other c.has_call-else-is_in-2.result (has_sites (cond ++ (yes ++ other)))
    (c.has_call-else-is_in-2.ensures ∙ ap (λ (l : List Stmt). has_sites (sites_of (statements l))) c.deref-else-is_in-2.ensures.value)
    c.if-has_call.false
    (first_lacks cond (yes ++ other) c.is_in-in-Some.result (has_sites (cond ++ (yes ++ other))) c.is_in-in-Some.ensures c.if-is_in-2.false refl)
    ∙ ap (λ (s : Statement). has_sites (sites_at s)) (sym (if_else_is c.args.s.now c.in-If.cond c.in-If.yes c.in-Some.other c.in-If.other c.in-If.is c.in-Some.is))

pub is_at-returns-else-is_in-3 : goal.is_at-returns-else-is_in-3
is_at-returns-else-is_in-3 t c =
    let list = sites_in None (expression c.in-ForEach.list) in
    let body = sites_of (statements c.in-ForEach.body.items) in
    c.has_call-else-is_in-3.ensures ∙ ap (λ (l : List Stmt). has_sites (sites_of (statements l))) c.deref-else-is_in-3.ensures.value
    ∙ first_lacks list body c.is_in-in-ForEach.result (has_sites (list ++ body)) c.is_in-in-ForEach.ensures c.if-is_in-3.false refl
    ∙ ap (λ (s : Statement). has_sites (sites_at s)) (sym (for_each_is c.args.s.now c.in-ForEach.ty c.in-ForEach.name c.in-ForEach.list c.in-ForEach.body c.in-ForEach.is))
