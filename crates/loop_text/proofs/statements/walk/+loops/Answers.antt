use Rattle.std.specs.Prelude.{[], ◌∷◌, ◌++◌}
use Rattle.std.proofs.Common.{◌≡◌}
use Rattle.std.proofs.lemmas.Result.{on_ok_weaker}
use Rattle.loop_text.proofs.Trees.Walked.{if_found, if_else_found, for_each_found, while_found}
use Rattle.loop_text.proofs.statements.walk.+loops.Goals as goal

pub push_statement-returns-in-None : goal.push_statement-returns-in-None
push_statement-returns-in-None t c =
    let same : c.as_slice.result.now ≡ c.args.path.now ++ c.args.number ∷ [] = cc (c.as_slice.ensures, c.in_ok-here-in-If.ensures) in
    on_ok_weaker c.push_branch.result (λ pushed. if_found c.args.s.now c.in-If.cond c.in-If.yes c.in-If.other c.as_slice.result.now (c.args.path.now ++ c.args.number ∷ []) c.deref.result.now c.args.found.now c.push_branch.new.found c.in-If.is c.in-None.is c.deref.ensures.value same pushed) c.push_branch.ensures

pub push_statement-returns-in-If : goal.push_statement-returns-in-If
push_statement-returns-in-If t c =
    let same : c.as_slice-in-Some.result.now ≡ c.args.path.now ++ c.args.number ∷ [] = cc (c.as_slice-in-Some.ensures, c.in_ok-here-in-If.ensures) in
    let same' : c.as_slice-in-Some-2.result.now ≡ c.args.path.now ++ c.args.number ∷ [] = cc (c.as_slice-in-Some-2.ensures, c.in_ok-here-in-If.ensures) in
    on_ok_weaker c.push_branch-in-Some-2.result (λ pushed. if_else_found c.args.s.now c.in-If.cond c.in-If.yes c.in-Some.other c.in-If.other c.as_slice-in-Some.result.now c.as_slice-in-Some-2.result.now (c.args.path.now ++ c.args.number ∷ []) c.deref-in-Some.result.now c.deref-in-Some-2.result.now c.args.found.now c.push_branch-in-Some.new.found c.push_branch-in-Some-2.new.found c.in-If.is c.in-Some.is c.deref-in-Some.ensures.value c.deref-in-Some-2.ensures.value same same' c.in_ok-push_branch-in-Some.ensures pushed) c.push_branch-in-Some-2.ensures

pub push_statement-returns-in-ForEach : goal.push_statement-returns-in-ForEach
push_statement-returns-in-ForEach t c =
    on_ok_weaker c.push_loop.result (λ pushed. for_each_found c.args.s.now c.in-ForEach.ty c.in-ForEach.name c.in-ForEach.list c.in-ForEach.body c.in_ok-longer-in-ForEach.field-0 (c.args.path.now ++ c.args.number ∷ []) c.deref-in-ForEach.result.now c.args.found.now c.push_loop.new.found c.in-ForEach.is c.deref-in-ForEach.ensures.value c.in_ok-longer-in-ForEach.ensures pushed) c.push_loop.ensures

pub push_statement-returns-in-While : goal.push_statement-returns-in-While
push_statement-returns-in-While t c =
    on_ok_weaker c.push_loop-in-While.result (λ pushed. while_found c.args.s.now c.in-While.cond c.in-While.body c.in_ok-longer-in-While.field-0 (c.args.path.now ++ c.args.number ∷ []) c.deref-in-While.result.now c.args.found.now c.push_loop-in-While.new.found c.in-While.is c.deref-in-While.ensures.value c.in_ok-longer-in-While.ensures pushed) c.push_loop-in-While.ensures
