use Rattle.std.proofs.Common.{sym, ◌∙◌}
use Rattle.std.proofs.lemmas.Result.{IfOk-weaker}
use Rattle.loop_lists.proofs.FirstLoops.{in_if, in_first, in_other, in_for_each, in_while}
use Rattle.loop_lists.proofs.finding.+finding.Goals as goal

pub find_in_statement-returns-in-None : goal.find_in_statement-returns-in-None
find_in_statement-returns-in-None t c =
    IfOk-weaker c.find_in_branch.result _ _ (λ r found. in_if c.args.line c.args.column c.args.s.now c.in-If.cond c.in-If.yes c.in-If.other c.deref.result.now r c.in-If.is c.in-None.is c.deref.ensures.value found) c.find_in_branch.ensures

pub find_in_statement-returns-in-Some-2 : goal.find_in_statement-returns-in-Some-2
find_in_statement-returns-in-Some-2 t c =
    in_first c.args.line c.args.column c.args.s.now c.in-If.cond c.in-If.yes c.in-Some.other c.in-If.other c.deref-in-Some.result.now c.in-Some-2.path c.in-If.is c.in-Some.is c.deref-in-Some.ensures.value (sym c.in-Some-2.is ∙ c.in_ok-path-in-Some.ensures)

pub find_in_statement-returns-in-None-2 : goal.find_in_statement-returns-in-None-2
find_in_statement-returns-in-None-2 t c =
    IfOk-weaker c.find_in_branch-in-None-2.result _ _
    (λ r found. in_other c.args.line c.args.column c.args.s.now c.in-If.cond c.in-If.yes c.in-Some.other c.in-If.other c.deref-in-Some.result.now c.deref-in-None-2.result.now r c.in-If.is c.in-Some.is c.deref-in-Some.ensures.value c.deref-in-None-2.ensures.value (sym c.in-None-2.is ∙ c.in_ok-path-in-Some.ensures) found)
    c.find_in_branch-in-None-2.ensures

pub find_in_statement-returns-in-ForEach : goal.find_in_statement-returns-in-ForEach
find_in_statement-returns-in-ForEach t c =
    IfOk-weaker c.find_in_loop.result _ _ (λ r found. in_for_each c.args.line c.args.column c.args.s.now c.in-ForEach.ty c.in-ForEach.name c.in-ForEach.list c.in-ForEach.body c.deref-in-ForEach.result.now r c.in-ForEach.is c.deref-in-ForEach.ensures.value found) c.find_in_loop.ensures

pub find_in_statement-returns-in-While : goal.find_in_statement-returns-in-While
find_in_statement-returns-in-While t c =
    IfOk-weaker c.find_in_loop-in-While.result _ _ (λ r found. in_while c.args.line c.args.column c.args.s.now c.in-While.cond c.in-While.body c.deref-in-While.result.now r c.in-While.is c.deref-in-While.ensures.value found) c.find_in_loop-in-While.ensures
