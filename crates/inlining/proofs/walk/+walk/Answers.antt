use Rattle.std.proofs.Common.{◌≡◌, ℕ, suc, ◌+◌, ◌-◌, List, Option, drop, map, refl, sym, ap, ap₂, ◌∙◌, subst, arith}
use Rattle.std.specs.Prelude.{Bool}
use Rattle.std.proofs.lemmas.List.{drop_all}
use Rattle.std.proofs.lemmas.Result.{IfOk-weaker}
use Rattle.java_ast.specs.declared.tree.Param.{Param}
use Rattle.java_ast.specs.declared.tree.Stmt.{Stmt, out-Stmt}
use Rattle.java_ast.specs.Reading.{spelled, expression, expressions, statement, statements, param, method, program}
use Rattle.java_ast.specs.Tree as plain
use Rattle.java_calls.specs.Inlining.{without_last, last_value, arguments_given, ended}
use Rattle.java_calls.specs.Renaming.{renamed, marked_but}
use Rattle.call_rules.proofs.Numbers.{drop_item}
use Rattle.renamed_copies.specs.Renamings.{renaming_of}
use Rattle.inlining.specs.Walked.{statement_makes, block_makes, giving, a_call}
use Rattle.inlining.proofs.Arguments.{type_in, name_in}
use Rattle.inlining.proofs.Arms.{at_depth, restored, walked_full, walked_pushed, put_full_is, put_pushed_is, pushed_alone, body_of, none_body}
use Rattle.inlining.proofs.Helpers.{helper_full, helper_inner_full, helper_walked, wrapped_full, wrapped, first_full, second_full, both_wrapped}
use Rattle.inlining.proofs.Nodes.{declare_walked, assign_walked, add_walked, sort_walked, print_walked, return_walked, break_walked, if_walked, if_else_walked, for_each_walked, while_walked}
use Rattle.inlining.proofs.Ones.{one_as}
use Rattle.inlining.proofs.Pushing.{IsSoFar, so_far_none, so_far_next, so_far_past, so_far_all, call_walked, giving_call, giving_one}
use Rattle.inlining.proofs.walk.+walk.Goals as goal

pub walk_alone-returns-in-Full : goal.walk_alone-returns-in-Full
walk_alone-returns-in-Full t c =
    walked_full c.in_ok-walked.walked c.args.room (block_makes (program c.args.class.now) (renaming_of c.args.f.now) c.args.counts.now.taken (statements c.args.block.now)) (at_depth c.args.counts.now (c.args.counts.now.deep - 1)) c.walk_block.new.counts (statements c.new-out.result.items) (statements c.walk_block.new.out.items) c.in-Full.is c.in_ok-walked.ensures

pub walk_alone-returns-in-Pushed : goal.walk_alone-returns-in-Pushed
walk_alone-returns-in-Pushed t c =
    let makes = block_makes (program c.args.class.now) (renaming_of c.args.f.now) c.args.counts.now.taken (statements c.args.block.now) in
    let back = restored c.args.room makes c.args.counts.now c.walk_block.new.counts (c.args.counts.now.deep - 1) c.args.counts.now.deep (statements c.new-out.result.items) (statements c.walk_block.new.out.items)
    (walked_pushed c.in_ok-walked.walked c.args.room makes (at_depth c.args.counts.now (c.args.counts.now.deep - 1)) c.walk_block.new.counts (statements c.new-out.result.items) (statements c.walk_block.new.out.items) c.in-Pushed.is c.in_ok-walked.ensures) in
    pushed_alone c.args.room makes c.args.counts.now (at_depth c.walk_block.new.counts c.args.counts.now.deep) (statements c.new-out.result.items) (statements c.walk_block.new.out.items) (ap statements c.new-out.ensures.items) back

pub walk_block-loop-s-init : goal.walk_block-loop-s-init
walk_block-loop-s-init t c =
    so_far_none c.args.room (program c.args.class.now) (renaming_of c.args.f.now) (statements c.args.block.now) c.args.counts.now (statements c.args.out.now.items)

pub walk_block-returns-in-Full : goal.walk_block-returns-in-Full
walk_block-returns-in-Full t c =
    so_far_past c.args.room (program c.args.class.now) (renaming_of c.args.f.now) (statements c.args.block.now) (statements (drop (c.loop-s.s-index + 1) c.args.block.now)) (statement c.s-item.result) c.args.counts.now c.loop-s.counts (statements c.args.out.now.items) (statements c.loop-s.out.items)
    (subst (λ (l : List Stmt). IsSoFar c.args.room (program c.args.class.now) (renaming_of c.args.f.now) (statements c.args.block.now) (statements l) c.args.counts.now c.loop-s.counts (statements c.args.out.now.items) (statements c.loop-s.out.items)) (drop_item c.args.block.now c.loop-s.s-index c.s-item.result c.loop-s-test.true c.s-item.is) c.loop-s.invariant)
    (walked_full c.in_ok-walk_statement.field-0 c.args.room (statement_makes (program c.args.class.now) (renaming_of c.args.f.now) c.loop-s.counts.taken (statement c.s-item.result)) c.loop-s.counts c.walk_statement.new.counts (statements c.loop-s.out.items) (statements c.walk_statement.new.out.items) c.in-Full.is c.in_ok-walk_statement.ensures)

pub walk_block-loop-s-preserved : goal.walk_block-loop-s-preserved
walk_block-loop-s-preserved t c =
    so_far_next c.args.room (program c.args.class.now) (renaming_of c.args.f.now) (statements c.args.block.now) (statements (drop (c.loop-s.s-index + 1) c.args.block.now)) (statement c.s-item.result) c.args.counts.now c.loop-s.counts c.walk_statement.new.counts (statements c.args.out.now.items) (statements c.loop-s.out.items) (statements c.walk_statement.new.out.items)
    (subst (λ (l : List Stmt). IsSoFar c.args.room (program c.args.class.now) (renaming_of c.args.f.now) (statements c.args.block.now) (statements l) c.args.counts.now c.loop-s.counts (statements c.args.out.now.items) (statements c.loop-s.out.items)) (drop_item c.args.block.now c.loop-s.s-index c.s-item.result c.loop-s-test.true c.s-item.is) c.loop-s.invariant)
    (walked_pushed c.in_ok-walk_statement.field-0 c.args.room (statement_makes (program c.args.class.now) (renaming_of c.args.f.now) c.loop-s.counts.taken (statement c.s-item.result)) c.loop-s.counts c.walk_statement.new.counts (statements c.loop-s.out.items) (statements c.walk_statement.new.out.items) c.in-Pushed.is c.in_ok-walk_statement.ensures)

pub walk_block-returns : goal.walk_block-returns
walk_block-returns t c =
    so_far_all c.args.room (program c.args.class.now) (renaming_of c.args.f.now) (statements c.args.block.now) c.args.counts.now c.loop-s.counts (statements c.args.out.now.items) (statements c.loop-s.out.items)
    (subst (λ (l : List Stmt). IsSoFar c.args.room (program c.args.class.now) (renaming_of c.args.f.now) (statements c.args.block.now) (statements l) c.args.counts.now c.loop-s.counts (statements c.args.out.now.items) (statements c.loop-s.out.items)) (drop_all c.loop-s.s-index c.args.block.now (omega (arith, c.loop-s-test.false))) c.loop-s.invariant)

pub walk_body-returns-in-Full : goal.walk_body-returns-in-Full
walk_body-returns-in-Full t c =
    none_body c.args.room (block_makes (program c.args.class.now) (renaming_of c.args.f.now) c.args.counts.now.taken (statements c.args.block.now)) c.args.counts.now c.args.counts.now c.in-Full.ensures

pub walk_body-returns-in-Pushed : goal.walk_body-returns-in-Pushed
walk_body-returns-in-Pushed t c =
    IfOk-weaker c.walk_alone.result _ _ (λ o h. body_of o c.args.room (λ (k : ℕ). block_makes (program c.args.class.now) (renaming_of c.args.f.now) k (statements c.args.block.now)) c.args.counts.now c.spend.new.counts c.walk_alone.new.counts c.in-Pushed.ensures.0 c.in-Pushed.ensures.1 h) c.walk_alone.ensures

pub walk_call-returns-in-Some : goal.walk_call-returns-in-Some
walk_call-returns-in-Some t c =
    let one : c.args.room ≡ suc (c.args.room - 1) = omega (arith, c.if-room-eq0.false) in
    IfOk-weaker c.walk_helper.result _ _ (λ w h e. call_walked w (program c.args.class.now) (renaming_of c.args.f.now) c.args.room (c.args.room - 1) (giving c.args.span (type_in c.args.ty) c.args.name.now e) (a_call c.args.text.now (expressions c.args.arguments.now)) (method c.in-Some.m.now) c.args.counts.now c.walk_helper.new.counts (statements c.args.out.now.items) (statements c.walk_helper.new.out.items) one (sym c.in-Some.ensures) (h e c.args.text.now)) c.walk_helper.ensures

pub walk_if-returns-in-None : goal.walk_if-returns-in-None
walk_if-returns-in-None t c =
    wrapped_full (plain.If c.args.span (renamed (renaming_of c.args.f.now) (expression c.args.cond.now))) (λ b. refl) c.args.room (block_makes (program c.args.class.now) (renaming_of c.args.f.now) c.args.counts.now.taken (statements c.args.yes.now)) c.in_ok-walk_body.field-0 c.args.counts.now c.walk_body.new.counts c.in_ok-walk_body.ensures c.in-None.is

pub walk_if-returns-in_ok-push-in-Some : goal.walk_if-returns-in_ok-push-in-Some
walk_if-returns-in_ok-push-in-Some t c =
    wrapped (plain.If c.args.span (renamed (renaming_of c.args.f.now) (expression c.args.cond.now))) (λ b. refl) c.args.room (block_makes (program c.args.class.now) (renaming_of c.args.f.now) c.args.counts.now.taken (statements c.args.yes.now)) c.in_ok-walk_body.field-0 c.args.counts.now c.walk_body.new.counts c.in_ok-walk_body.ensures c.in-Some.yes c.args.out.now.items c.push.new.self.items c.in_ok-s-in-Some.s c.in-Some.is c.in_ok-push-in-Some.ensures.items c.in_ok-s-in-Some.ensures

pub walk_while-returns-in-None : goal.walk_while-returns-in-None
walk_while-returns-in-None t c =
    wrapped_full (plain.While c.args.span (renamed (renaming_of c.args.f.now) (expression c.args.cond.now))) (λ b. refl) c.args.room (block_makes (program c.args.class.now) (renaming_of c.args.f.now) c.args.counts.now.taken (statements c.args.body.now)) c.in_ok-walk_body.field-0 c.args.counts.now c.walk_body.new.counts c.in_ok-walk_body.ensures c.in-None.is

pub walk_while-returns-in_ok-push-in-Some : goal.walk_while-returns-in_ok-push-in-Some
walk_while-returns-in_ok-push-in-Some t c =
    wrapped (plain.While c.args.span (renamed (renaming_of c.args.f.now) (expression c.args.cond.now))) (λ b. refl) c.args.room (block_makes (program c.args.class.now) (renaming_of c.args.f.now) c.args.counts.now.taken (statements c.args.body.now)) c.in_ok-walk_body.field-0 c.args.counts.now c.walk_body.new.counts c.in_ok-walk_body.ensures c.in-Some.body c.args.out.now.items c.push.new.self.items c.in_ok-s-in-Some.s c.in-Some.is c.in_ok-push-in-Some.ensures.items c.in_ok-s-in-Some.ensures

pub walk_for_each-returns-in-None : goal.walk_for_each-returns-in-None
walk_for_each-returns-in-None t c =
    wrapped_full (plain.ForEach c.args.span (spelled c.args.ty.now) ((renaming_of c.args.f.now) c.args.name.now) (renamed (renaming_of c.args.f.now) (expression c.args.list.now))) (λ b. refl) c.args.room (block_makes (program c.args.class.now) (renaming_of c.args.f.now) c.args.counts.now.taken (statements c.args.body.now)) c.in_ok-walk_body.field-0 c.args.counts.now c.walk_body.new.counts c.in_ok-walk_body.ensures c.in-None.is

pub walk_for_each-returns-in_ok-push-in-Some : goal.walk_for_each-returns-in_ok-push-in-Some
walk_for_each-returns-in_ok-push-in-Some t c =
    wrapped (plain.ForEach c.args.span (spelled c.args.ty.now) ((renaming_of c.args.f.now) c.args.name.now) (renamed (renaming_of c.args.f.now) (expression c.args.list.now))) (λ b. refl) c.args.room (block_makes (program c.args.class.now) (renaming_of c.args.f.now) c.args.counts.now.taken (statements c.args.body.now)) c.in_ok-walk_body.field-0 c.args.counts.now c.walk_body.new.counts c.in_ok-walk_body.ensures c.in-Some.body c.args.out.now.items c.push.new.self.items c.in_ok-s-in-Some.s c.in-Some.is c.in_ok-push-in-Some.ensures.items c.in_ok-s-in-Some.ensures

pub walk_if_else-returns-in-None : goal.walk_if_else-returns-in-None
walk_if_else-returns-in-None t c =
    first_full (plain.IfElse c.args.span (renamed (renaming_of c.args.f.now) (expression c.args.cond.now))) (λ a b. refl) c.args.room (block_makes (program c.args.class.now) (renaming_of c.args.f.now) c.args.counts.now.taken (statements c.args.yes.now)) (λ (k : ℕ). block_makes (program c.args.class.now) (renaming_of c.args.f.now) k (statements c.args.other.now)) c.in_ok-walk_body.field-0 c.args.counts.now c.walk_body.new.counts c.in_ok-walk_body.ensures c.in-None.is

pub walk_if_else-returns-in-None-2 : goal.walk_if_else-returns-in-None-2
walk_if_else-returns-in-None-2 t c =
    second_full (plain.IfElse c.args.span (renamed (renaming_of c.args.f.now) (expression c.args.cond.now))) (λ a b. refl) c.args.room (block_makes (program c.args.class.now) (renaming_of c.args.f.now) c.args.counts.now.taken (statements c.args.yes.now)) (λ (k : ℕ). block_makes (program c.args.class.now) (renaming_of c.args.f.now) k (statements c.args.other.now)) c.in_ok-walk_body.field-0 c.args.counts.now c.walk_body.new.counts c.in_ok-walk_body.ensures c.in-Some.yes c.in_ok-walk_alone-in-Some.field-0 c.walk_alone.new.counts c.in-Some.is c.in-None-2.is c.in_ok-walk_alone-in-Some.ensures

pub walk_if_else-returns-in_ok-push-in-Some-2 : goal.walk_if_else-returns-in_ok-push-in-Some-2
walk_if_else-returns-in_ok-push-in-Some-2 t c =
    both_wrapped (plain.IfElse c.args.span (renamed (renaming_of c.args.f.now) (expression c.args.cond.now))) (λ a b. refl) c.args.room (block_makes (program c.args.class.now) (renaming_of c.args.f.now) c.args.counts.now.taken (statements c.args.yes.now)) (λ (k : ℕ). block_makes (program c.args.class.now) (renaming_of c.args.f.now) k (statements c.args.other.now)) c.in_ok-walk_body.field-0 c.args.counts.now c.walk_body.new.counts c.in_ok-walk_body.ensures c.in-Some.yes c.in-Some-2.other c.in_ok-walk_alone-in-Some.field-0 c.walk_alone.new.counts c.args.out.now.items c.push.new.self.items c.in_ok-s-in-Some-2.s c.in-Some.is c.in-Some-2.is c.in_ok-walk_alone-in-Some.ensures c.in_ok-push-in-Some-2.ensures.items c.in_ok-s-in-Some-2.ensures

pub walk_giving-returns-in-None : goal.walk_giving-returns-in-None
walk_giving-returns-in-None t c =
    IfOk-weaker c.push_giving.result _ _ (λ w h. giving_one w (program c.args.class.now) (renaming_of c.args.f.now) c.args.room c.args.span (type_in c.args.ty) c.args.name.now (expression c.args.value.now) c.args.counts.now c.push_giving.new.counts (statements c.args.out.now.items) (statements c.push_giving.new.out.items) (sym c.in-None.ensures) h) c.push_giving.ensures

pub walk_giving-returns-in-Some : goal.walk_giving-returns-in-Some
walk_giving-returns-in-Some t c =
    IfOk-weaker c.walk_call.result _ _ (λ w h. giving_call w (program c.args.class.now) (renaming_of c.args.f.now) c.args.room c.args.span (type_in c.args.ty) c.args.name.now (expression c.args.value.now) (a_call c.in-Some.text.now (expressions c.in-Some.arguments.now)) c.args.counts.now c.walk_call.new.counts (statements c.args.out.now.items) (statements c.walk_call.new.out.items) (sym c.in-Some.ensures) (h (expression c.args.value.now))) c.walk_call.ensures

pub walk_helper-returns-in-Full : goal.walk_helper-returns-in-Full
walk_helper-returns-in-Full t c =
    λ e x. helper_full (program c.args.class.now) (renaming_of c.args.f.now) c.args.span (type_in c.args.ty) c.args.name.now e (a_call x (expressions c.args.arguments.now)) (method c.args.m.now) c.args.room c.args.counts.now.taken c.in_ok-counts.field-0 (renaming_of c.in_ok-g.g) c.in_ok-counts.ensures (c.in_ok-g.ensures ∙ ap (λ (o : Option (List ℕ)). marked_but o ((renaming_of c.args.f.now) c.args.name.now) c.in_ok-counts.field-0) c.kept_variable-kept.ensures) c.args.counts.now c.put_arguments.new.counts (statements c.args.out.now.items) (statements c.put_arguments.new.out.items) (arguments_given c.args.span (renaming_of c.in_ok-g.g) (map param c.as_slice.result.now) (renaming_of c.args.f.now) (expressions c.args.arguments.now)) (ap (λ (l : List Param). arguments_given c.args.span (renaming_of c.in_ok-g.g) (map param l) (renaming_of c.args.f.now) (expressions c.args.arguments.now)) c.as_slice.ensures) (put_full_is c.in_ok-put_arguments.field-0 (arguments_given c.args.span (renaming_of c.in_ok-g.g) (map param c.as_slice.result.now) (renaming_of c.args.f.now) (expressions c.args.arguments.now)) (record { taken = c.in_ok-counts.field-0; left = c.args.counts.now.left; deep = c.args.counts.now.deep }) c.put_arguments.new.counts (statements c.args.out.now.items) (statements c.put_arguments.new.out.items) c.in-Full.is c.in_ok-put_arguments.ensures)

pub walk_helper-returns-in-Full-2 : goal.walk_helper-returns-in-Full-2
walk_helper-returns-in-Full-2 t c =
    λ e x. helper_inner_full (program c.args.class.now) (renaming_of c.args.f.now) c.args.span (type_in c.args.ty) c.args.name.now e (a_call x (expressions c.args.arguments.now)) (method c.args.m.now) c.args.room c.args.counts.now.taken c.in_ok-counts.field-0 (renaming_of c.in_ok-g.g) c.in_ok-counts.ensures (c.in_ok-g.ensures ∙ ap (λ (o : Option (List ℕ)). marked_but o ((renaming_of c.args.f.now) c.args.name.now) c.in_ok-counts.field-0) c.kept_variable-kept.ensures) c.args.counts.now (record { taken = c.in_ok-counts.field-0; left = c.args.counts.now.left; deep = c.args.counts.now.deep }) c.put_arguments.new.counts (statements c.args.out.now.items) (statements c.put_arguments.new.out.items) (arguments_given c.args.span (renaming_of c.in_ok-g.g) (map param c.as_slice.result.now) (renaming_of c.args.f.now) (expressions c.args.arguments.now)) (statements c.without_last-body.result.now) refl refl (ap (λ (l : List Param). arguments_given c.args.span (renaming_of c.in_ok-g.g) (map param l) (renaming_of c.args.f.now) (expressions c.args.arguments.now)) c.as_slice.ensures) (c.without_last-body.ensures ∙ ap (λ (l : List Stmt). without_last (statements l)) c.as_slice-in-Pushed.ensures) (put_pushed_is c.in_ok-put_arguments.field-0 (arguments_given c.args.span (renaming_of c.in_ok-g.g) (map param c.as_slice.result.now) (renaming_of c.args.f.now) (expressions c.args.arguments.now)) (record { taken = c.in_ok-counts.field-0; left = c.args.counts.now.left; deep = c.args.counts.now.deep }) c.put_arguments.new.counts (statements c.args.out.now.items) (statements c.put_arguments.new.out.items) c.in-Pushed.is c.in_ok-put_arguments.ensures)
    (walked_full c.in_ok-walk_block-in-Pushed.field-0 c.args.room (block_makes (program c.args.class.now) (renaming_of c.in_ok-g.g) c.put_arguments.new.counts.taken (statements c.without_last-body.result.now)) c.put_arguments.new.counts c.walk_block.new.counts (statements c.put_arguments.new.out.items) (statements c.walk_block.new.out.items) c.in-Full-2.is c.in_ok-walk_block-in-Pushed.ensures)

pub walk_helper-returns : goal.walk_helper-returns
walk_helper-returns t c =
    IfOk-weaker c.put_ended.result _ _ (λ w h e x. helper_walked (program c.args.class.now) (renaming_of c.args.f.now) c.args.span (type_in c.args.ty) c.args.name.now e (a_call x (expressions c.args.arguments.now)) (method c.args.m.now) c.args.room c.args.counts.now.taken c.in_ok-counts.field-0 (renaming_of c.in_ok-g.g) c.in_ok-counts.ensures (c.in_ok-g.ensures ∙ ap (λ (o : Option (List ℕ)). marked_but o ((renaming_of c.args.f.now) c.args.name.now) c.in_ok-counts.field-0) c.kept_variable-kept.ensures) w c.args.counts.now (record { taken = c.in_ok-counts.field-0; left = c.args.counts.now.left; deep = c.args.counts.now.deep }) c.put_arguments.new.counts c.walk_block.new.counts c.put_ended.new.counts (statements c.args.out.now.items) (statements c.put_arguments.new.out.items) (statements c.walk_block.new.out.items) (statements c.put_ended.new.out.items) (arguments_given c.args.span (renaming_of c.in_ok-g.g) (map param c.as_slice.result.now) (renaming_of c.args.f.now) (expressions c.args.arguments.now)) (statements c.without_last-body.result.now) (ended (renaming_of c.args.f.now) (giving c.args.span (type_in c.args.ty) c.args.name.now e) (renaming_of c.in_ok-g.g) (name_in c.kept_variable-kept.result) (last_value (statements c.args.m.now.body))) refl refl (ap (λ (l : List Param). arguments_given c.args.span (renaming_of c.in_ok-g.g) (map param l) (renaming_of c.args.f.now) (expressions c.args.arguments.now)) c.as_slice.ensures) (c.without_last-body.ensures ∙ ap (λ (l : List Stmt). without_last (statements l)) c.as_slice-in-Pushed.ensures) (ap (λ (o : Option (List ℕ)). ended (renaming_of c.args.f.now) (giving c.args.span (type_in c.args.ty) c.args.name.now e) (renaming_of c.in_ok-g.g) o (last_value (statements c.args.m.now.body))) c.kept_variable-kept.ensures)
    (put_pushed_is c.in_ok-put_arguments.field-0 (arguments_given c.args.span (renaming_of c.in_ok-g.g) (map param c.as_slice.result.now) (renaming_of c.args.f.now) (expressions c.args.arguments.now)) (record { taken = c.in_ok-counts.field-0; left = c.args.counts.now.left; deep = c.args.counts.now.deep }) c.put_arguments.new.counts (statements c.args.out.now.items) (statements c.put_arguments.new.out.items) c.in-Pushed.is c.in_ok-put_arguments.ensures)
    (walked_pushed c.in_ok-walk_block-in-Pushed.field-0 c.args.room (block_makes (program c.args.class.now) (renaming_of c.in_ok-g.g) c.put_arguments.new.counts.taken (statements c.without_last-body.result.now)) c.put_arguments.new.counts c.walk_block.new.counts (statements c.put_arguments.new.out.items) (statements c.walk_block.new.out.items) c.in-Pushed-2.is c.in_ok-walk_block-in-Pushed.ensures) (h e)) c.put_ended.ensures

pub walk_statement-returns-in-Declare : goal.walk_statement-returns-in-Declare
walk_statement-returns-in-Declare t c =
    IfOk-weaker c.walk_giving.result _ _ (λ w h. declare_walked (program c.args.class.now) (renaming_of c.args.f.now) c.args.room c.args.s.now c.args.counts.now c.walk_giving.new.counts (statements c.args.out.now.items) (statements c.walk_giving.new.out.items) w c.in-Declare.ty c.in-Declare.name c.in-Declare.value c.in-Declare.is h) c.walk_giving.ensures

pub walk_statement-returns-in-Assign : goal.walk_statement-returns-in-Assign
walk_statement-returns-in-Assign t c =
    IfOk-weaker c.walk_giving-in-Assign.result _ _ (λ w h. assign_walked (program c.args.class.now) (renaming_of c.args.f.now) c.args.room c.args.s.now c.args.counts.now c.walk_giving-in-Assign.new.counts (statements c.args.out.now.items) (statements c.walk_giving-in-Assign.new.out.items) w c.in-Assign.name c.in-Assign.value c.in-Assign.is h) c.walk_giving-in-Assign.ensures

pub walk_statement-returns-in-Add : goal.walk_statement-returns-in-Add
walk_statement-returns-in-Add t c =
    IfOk-weaker c.push_added.result _ _ (λ w h. add_walked (program c.args.class.now) (renaming_of c.args.f.now) c.args.room c.args.s.now c.args.counts.now c.push_added.new.counts (statements c.args.out.now.items) (statements c.push_added.new.out.items) w c.in-Add.name c.in-Add.value c.in-Add.is h) c.push_added.ensures

pub walk_statement-returns-in-Sort : goal.walk_statement-returns-in-Sort
walk_statement-returns-in-Sort t c =
    IfOk-weaker c.push_sorted.result _ _ (λ w h. sort_walked (program c.args.class.now) (renaming_of c.args.f.now) c.args.room c.args.s.now c.args.counts.now c.push_sorted.new.counts (statements c.args.out.now.items) (statements c.push_sorted.new.out.items) w c.in-Sort.name c.in-Sort.keys c.in-Sort.down c.in-Sort.is
    (one_as w _ _ c.args.counts.now c.push_sorted.new.counts (statements c.args.out.now.items) (statements c.push_sorted.new.out.items) (ap₂ (λ (keys : List (List ℕ)) (down : List Bool). plain.Sort (out-Stmt c.args.s.now).span ((renaming_of c.args.f.now) c.in-Sort.name) keys down) c.as_slice.ensures c.as_slice-in-Sort.ensures) h)) c.push_sorted.ensures

pub walk_statement-returns-in-None : goal.walk_statement-returns-in-None
walk_statement-returns-in-None t c =
    IfOk-weaker c.walk_if.result _ _ (λ w h. if_walked (program c.args.class.now) (renaming_of c.args.f.now) c.args.room c.args.s.now c.args.counts.now c.walk_if.new.counts (statements c.args.out.now.items) (statements c.walk_if.new.out.items) w c.in-If.cond c.in-If.yes c.in-If.other c.deref.result.now c.in-If.is c.in-None.is c.deref.ensures.value h) c.walk_if.ensures

pub walk_statement-returns-in-Some : goal.walk_statement-returns-in-Some
walk_statement-returns-in-Some t c =
    IfOk-weaker c.walk_if_else.result _ _ (λ w h. if_else_walked (program c.args.class.now) (renaming_of c.args.f.now) c.args.room c.args.s.now c.args.counts.now c.walk_if_else.new.counts (statements c.args.out.now.items) (statements c.walk_if_else.new.out.items) w c.in-If.cond c.in-If.yes c.in-Some.other c.in-If.other c.deref-in-Some.result.now c.deref-in-Some-2.result.now c.in-If.is c.in-Some.is c.deref-in-Some.ensures.value c.deref-in-Some-2.ensures.value h) c.walk_if_else.ensures

pub walk_statement-returns-in-ForEach : goal.walk_statement-returns-in-ForEach
walk_statement-returns-in-ForEach t c =
    IfOk-weaker c.walk_for_each.result _ _ (λ w h. for_each_walked (program c.args.class.now) (renaming_of c.args.f.now) c.args.room c.args.s.now c.args.counts.now c.walk_for_each.new.counts (statements c.args.out.now.items) (statements c.walk_for_each.new.out.items) w c.in-ForEach.ty c.in-ForEach.name c.in-ForEach.list c.in-ForEach.body c.deref-in-ForEach.result.now c.in-ForEach.is c.deref-in-ForEach.ensures.value h) c.walk_for_each.ensures

pub walk_statement-returns-in-While : goal.walk_statement-returns-in-While
walk_statement-returns-in-While t c =
    IfOk-weaker c.walk_while.result _ _ (λ w h. while_walked (program c.args.class.now) (renaming_of c.args.f.now) c.args.room c.args.s.now c.args.counts.now c.walk_while.new.counts (statements c.args.out.now.items) (statements c.walk_while.new.out.items) w c.in-While.cond c.in-While.body c.deref-in-While.result.now c.in-While.is c.deref-in-While.ensures.value h) c.walk_while.ensures

pub walk_statement-returns-in-Print : goal.walk_statement-returns-in-Print
walk_statement-returns-in-Print t c =
    IfOk-weaker c.push_printed.result _ _ (λ w h. print_walked (program c.args.class.now) (renaming_of c.args.f.now) c.args.room c.args.s.now c.args.counts.now c.push_printed.new.counts (statements c.args.out.now.items) (statements c.push_printed.new.out.items) w c.in-Print.value c.in-Print.is h) c.push_printed.ensures

pub walk_statement-returns-in-Return : goal.walk_statement-returns-in-Return
walk_statement-returns-in-Return t c =
    IfOk-weaker c.push_returned.result _ _ (λ w h. return_walked (program c.args.class.now) (renaming_of c.args.f.now) c.args.room c.args.s.now c.args.counts.now c.push_returned.new.counts (statements c.args.out.now.items) (statements c.push_returned.new.out.items) w c.in-Return.value c.in-Return.is h) c.push_returned.ensures

pub walk_statement-returns-in-Break : goal.walk_statement-returns-in-Break
walk_statement-returns-in-Break t c =
    IfOk-weaker c.push_break.result _ _ (λ w h. break_walked (program c.args.class.now) (renaming_of c.args.f.now) c.args.room c.args.s.now c.args.counts.now c.push_break.new.counts (statements c.args.out.now.items) (statements c.push_break.new.out.items) w c.in-Break.is h) c.push_break.ensures
