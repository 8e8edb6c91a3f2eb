use Rattle.std.proofs.Common.{◌≡◌, ◌∙◌, ◌<◌, ◌++◌, ◌∷◌, List, suc, length, drop, ap, sym, add-one, drop-cons}
use Rattle.std.proofs.lemmas.Result.{IfOk-weaker}
use Rattle.java_ast.specs.declared.tree.Stmt.{Stmt}
use Rattle.java_ast.specs.Reading.{statements}
use Rattle.java_copies.proofs.Copies.{statement_in_list, if_of, if_else_of, for_each_of, while_of}
use Rattle.java_copies.proofs.copy.+copy_statement.Goals as goal

pub copy_statement-returns-in-None : goal.copy_statement-returns-in-None
copy_statement-returns-in-None t c =
    IfOk-weaker c.if_copied.result _ _ (λ r built. if_of c.args.s.now r c.in-If.cond c.in-If.yes c.in_ok-yes-in-If.yes c.in-If.other c.deref.result.now
    c.in-If.is c.in-None.is c.deref.ensures.value built c.in_ok-yes-in-If.ensures) c.if_copied.ensures

pub copy_statement-returns-in_ok-other-in-Some : goal.copy_statement-returns-in_ok-other-in-Some
copy_statement-returns-in_ok-other-in-Some t c =
    IfOk-weaker c.if_else_copied.result _ _ (λ r built. if_else_of c.args.s.now r c.in-If.cond c.in-If.yes c.in_ok-yes-in-If.yes c.in-Some.other c.in_ok-other-in-Some.other c.in-If.other c.deref.result.now c.deref-in-Some.result.now
    c.in-If.is c.in-Some.is c.deref.ensures.value c.deref-in-Some.ensures.value built c.in_ok-yes-in-If.ensures c.in_ok-other-in-Some.ensures) c.if_else_copied.ensures

pub copy_statement-returns-in_ok-body-in-ForEach : goal.copy_statement-returns-in_ok-body-in-ForEach
copy_statement-returns-in_ok-body-in-ForEach t c =
    IfOk-weaker c.for_each_copied.result _ _ (λ r built. for_each_of c.args.s.now r c.in-ForEach.ty c.in-ForEach.name c.in-ForEach.list c.in-ForEach.body c.in_ok-body-in-ForEach.body c.deref-in-ForEach.result.now
    c.in-ForEach.is c.deref-in-ForEach.ensures.value built c.in_ok-body-in-ForEach.ensures) c.for_each_copied.ensures

pub copy_statement-returns-in_ok-body-in-While : goal.copy_statement-returns-in_ok-body-in-While
copy_statement-returns-in_ok-body-in-While t c =
    IfOk-weaker c.while_copied.result _ _ (λ r built. while_of c.args.s.now r c.in-While.cond c.in-While.body c.in_ok-body-in-While.body c.deref-in-While.result.now
    c.in-While.is c.deref-in-While.ensures.value built c.in_ok-body-in-While.ensures) c.while_copied.ensures

pub copy_statements-loop-s-preserved : goal.copy_statements-loop-s-preserved
copy_statements-loop-s-preserved t c =
    let h : c.loop-s.s-index < length c.args.block.now = c.loop-s-test.true in
    let d : drop c.loop-s.s-index c.args.block.now ≡ c.s-item.result ∷ drop (suc c.loop-s.s-index) c.args.block.now = rw (drop-cons c.args.block.now c.loop-s.s-index c.s-item.result) (ap (λ (s : Stmt). s ∷ drop (suc c.loop-s.s-index) c.args.block.now) (sym c.s-item.is)) in
    let i : statements (c.loop-s.all.items ++ drop c.loop-s.s-index c.args.block.now) ≡ statements c.args.block.now = c.loop-s.invariant in
    rw (add-one, c.in_ok-push.ensures.items) (statement_in_list c.loop-s.all.items c.in_ok-copy_statement.field-0 c.s-item.result (drop (suc c.loop-s.s-index) c.args.block.now) c.in_ok-copy_statement.ensures
    ∙ ap (λ (l : List Stmt). statements (c.loop-s.all.items ++ l)) (sym d) ∙ i)
