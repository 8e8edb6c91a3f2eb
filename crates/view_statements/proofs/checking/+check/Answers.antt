use Rattle.std.specs.Prelude.{codes, true, false}
use Rattle.std.proofs.Common.{◌≡◌, List, Option, ℕ, ap, ◌∙◌, arith, rules}
use Rattle.std.proofs.lemmas.Result.{IfOk-weaker}
use Rattle.view_rules.specs.declared.sight.Sighted.{Sighted}
use Rattle.view_rules.specs.Reading.{expression}
use Rattle.view_statements.specs.Places.{frame_of, inside, beside, in_loop, with_own}
use Rattle.view_statements.specs.Reading.{statement, statements}
use Rattle.view_statements.specs.Statements.{with_sight, body_of, index_head, iterator_head}
use Rattle.view_statements.proofs.Bodied.{if_passed, while_passed, skip_passed, each_passed, index_passed, iterator_passed, if_else_passed, conditional_at, each_at, skip_at, body_at, further_at, other_at}
use Rattle.view_statements.proofs.Nodes.{if_is, if_else_is, for_each_is, for_index_is, for_iterator_is, while_is, skip_is}
use Rattle.view_statements.proofs.checking.+check.Goals as goal

pub check_statement-returns-in_ok-passed-in-If : goal.check_statement-returns-in_ok-passed-in-If
check_statement-returns-in_ok-passed-in-If t c =
    let s = c.args.sight.now.items in
    if_passed (frame_of c.args.f.now) c.args.p s c.check_body.new.sight.items c.leave_then.new.sight.items (statement c.args.st.now) c.in-If.at
    (expression c.in-If.condition.value) c.in-If.close c.in-If.braces (statements c.in-If.body.items) c.in-If.end c.args.i c.len-len.result
    c.conditional-begun.result c.in_ok-passed-in-If.passed c.leave_then.result
    (if_is c.args.st.now c.in-If.at c.in-If.condition c.in-If.close c.in-If.braces c.in-If.body c.in-If.end c.in-If.is)
    (conditional_at (frame_of c.args.f.now) c.as_slice-in-If.result.now s (codes "if") c.in-If.at c.deref-in-If.result.now c.in-If.condition.value
    c.in-If.close c.in-If.braces c.as_slice-in-If-2.result.now c.in-If.body.items c.args.i c.conditional-begun.result
    c.conditional-begun.ensures (search rules) (search rules) (search rules))
    (omega (arith, c.args.sight.now.ok.0))
    (body_at (frame_of c.args.f.now) c.inside.result (inside c.args.p) s c.check_body.new.sight.items c.as_slice-in-If-3.result.now c.in-If.body.items
    c.in_ok-passed-in-If.passed c.conditional-begun.result c.in_ok-passed-in-If.ensures c.inside.ensures (search rules))
    c.leave_then.ensures

pub check_statement-returns-in_ok-passed-in-While : goal.check_statement-returns-in_ok-passed-in-While
check_statement-returns-in_ok-passed-in-While t c =
    let s = c.args.sight.now.items in
    while_passed (frame_of c.args.f.now) c.args.p s c.check_body-in-While.new.sight.items c.leave_body-in-While.new.sight.items (statement c.args.st.now) c.in-While.at
    (expression c.in-While.condition.value) c.in-While.close c.in-While.braces (statements c.in-While.body.items) c.in-While.end c.args.i c.len-len-in-While.result
    c.conditional-begun-in-While.result c.in_ok-passed-in-While.passed c.leave_body-in-While.result
    (while_is c.args.st.now c.in-While.at c.in-While.condition c.in-While.close c.in-While.braces c.in-While.body c.in-While.end c.in-While.is)
    (conditional_at (frame_of c.args.f.now) c.as_slice-in-While.result.now s (codes "while") c.in-While.at c.deref-in-While.result.now c.in-While.condition.value
    c.in-While.close c.in-While.braces c.as_slice-in-While-2.result.now c.in-While.body.items c.args.i c.conditional-begun-in-While.result
    c.conditional-begun-in-While.ensures (search rules) (search rules) (search rules))
    (omega (arith, c.args.sight.now.ok.0))
    (body_at (frame_of c.args.f.now) c.in_loop-in-While.result (in_loop c.args.p false) s c.check_body-in-While.new.sight.items c.as_slice-in-While-3.result.now c.in-While.body.items
    c.in_ok-passed-in-While.passed c.conditional-begun-in-While.result c.in_ok-passed-in-While.ensures c.in_loop-in-While.ensures (search rules))
    c.leave_body-in-While.ensures

pub check_statement-returns-in_ok-passed-in-Skip : goal.check_statement-returns-in_ok-passed-in-Skip
check_statement-returns-in_ok-passed-in-Skip t c =
    let s = c.args.sight.now.items in
    skip_passed (frame_of c.args.f.now) c.args.p s c.check_body-in-Skip.new.sight.items c.leave_rest.new.sight.items (statement c.args.st.now) c.in-Skip.at
    (expression c.in-Skip.condition.value) c.in-Skip.close c.in-Skip.braces (statements c.in-Skip.rest.items) c.in-Skip.end c.args.i c.len-len-in-Skip.result
    c.skip_head-begun.result c.in_ok-passed-in-Skip.passed c.leave_rest.result
    (skip_is c.args.st.now c.in-Skip.at c.in-Skip.condition c.in-Skip.close c.in-Skip.braces c.in-Skip.rest c.in-Skip.end c.in-Skip.is)
    (skip_at (frame_of c.args.f.now) c.args.p c.as_slice-in-Skip.result.now s c.in-Skip.at c.deref-in-Skip.result.now c.in-Skip.condition.value
    c.in-Skip.close c.in-Skip.braces c.args.i c.skip_head-begun.result c.skip_head-begun.ensures (search rules) (search rules))
    (omega (arith, c.args.sight.now.ok.0))
    (body_at (frame_of c.args.f.now) c.beside.result (beside c.args.p) s c.check_body-in-Skip.new.sight.items c.as_slice-in-Skip-2.result.now c.in-Skip.rest.items
    c.in_ok-passed-in-Skip.passed c.skip_head-begun.result c.in_ok-passed-in-Skip.ensures c.beside.ensures (search rules))
    c.leave_rest.ensures

pub check_statement-returns-in_ok-passed-in-ForEach : goal.check_statement-returns-in_ok-passed-in-ForEach
check_statement-returns-in_ok-passed-in-ForEach t c =
    let s = c.args.sight.now.items in
    each_passed (frame_of c.args.f.now) c.args.p s c.check_turn.new.sight.items c.leave_body-in-ForEach.new.sight.items (statement c.args.st.now) c.in-ForEach.at
    c.in-ForEach.inferred c.in-ForEach.name c.in-ForEach.java (expression c.in-ForEach.walked.value) c.in-ForEach.close c.in-ForEach.braces
    (statements c.in-ForEach.body.items) c.in-ForEach.end c.args.i c.len-len-in-ForEach.result c.each_from-begun.result c.in_ok-passed-in-ForEach.passed
    c.leave_body-in-ForEach.result
    (for_each_is c.args.st.now c.in-ForEach.at c.in-ForEach.inferred c.in-ForEach.name c.in-ForEach.java c.in-ForEach.walked c.in-ForEach.close c.in-ForEach.braces
    c.in-ForEach.body c.in-ForEach.end c.in-ForEach.is)
    (each_at (frame_of c.args.f.now) c.as_slice-in-ForEach.result.now s c.in-ForEach.at c.in-ForEach.inferred c.in-ForEach.name c.in-ForEach.java
    c.deref-in-ForEach.result.now c.in-ForEach.walked.value c.in-ForEach.close c.in-ForEach.braces
    c.as_slice-in-ForEach-2.result.now c.in-ForEach.body.items c.args.i c.each_from-begun.result
    c.each_from-begun.ensures (search rules) (search rules) (search rules))
    (omega (arith, c.args.sight.now.ok.0))
    (body_at (frame_of c.args.f.now) c.in_loop.result (in_loop c.args.p c.in-ForEach.braces) (with_own (frame_of c.args.f.now) s c.in-ForEach.name c.in-ForEach.java)
    c.check_turn.new.sight.items c.as_slice-in-ForEach-3.result.now c.in-ForEach.body.items
    c.in_ok-passed-in-ForEach.passed c.each_from-begun.result c.in_ok-passed-in-ForEach.ensures c.in_loop.ensures (search rules))
    c.leave_body-in-ForEach.ensures

pub check_statement-returns-in_ok-passed-in-ForIndex : goal.check_statement-returns-in_ok-passed-in-ForIndex
check_statement-returns-in_ok-passed-in-ForIndex t c =
    let s = c.args.sight.now.items in
    index_passed (frame_of c.args.f.now) c.args.p s c.check_turn-in-ForIndex.new.sight.items c.leave_block.new.sight.items (statement c.args.st.now) c.in-ForIndex.at
    c.in-ForIndex.list c.in-ForIndex.first c.in-ForIndex.name c.in-ForIndex.java (statements c.in-ForIndex.body.items) c.in-ForIndex.close c.in-ForIndex.end
    c.args.i c.len-len-in-ForIndex.result c.index_head-begun.result c.in_ok-passed-in-ForIndex.passed c.leave_block.result
    (for_index_is c.args.st.now c.in-ForIndex.at c.in-ForIndex.list c.in-ForIndex.first c.in-ForIndex.name c.in-ForIndex.java c.in-ForIndex.body
    c.in-ForIndex.close c.in-ForIndex.end c.in-ForIndex.is)
    (c.index_head-begun.ensures ∙ ap (λ (v : List Sighted). index_head (frame_of c.args.f.now) v c.in-ForIndex.at c.in-ForIndex.list c.in-ForIndex.first
    c.in-ForIndex.name c.in-ForIndex.java c.in-ForIndex.close c.args.i) (search rules))
    (omega (arith, c.args.sight.now.ok.0))
    (body_at (frame_of c.args.f.now) c.in_loop-in-ForIndex.result (in_loop c.args.p true) (with_own (frame_of c.args.f.now) s c.in-ForIndex.name c.in-ForIndex.java)
    c.check_turn-in-ForIndex.new.sight.items c.as_slice-in-ForIndex-2.result.now c.in-ForIndex.body.items
    c.in_ok-passed-in-ForIndex.passed c.index_head-begun.result c.in_ok-passed-in-ForIndex.ensures c.in_loop-in-ForIndex.ensures (search rules))
    c.leave_block.ensures

pub check_statement-returns-in_ok-passed-in-ForIterator : goal.check_statement-returns-in_ok-passed-in-ForIterator
check_statement-returns-in_ok-passed-in-ForIterator t c =
    let s = c.args.sight.now.items in
    iterator_passed (frame_of c.args.f.now) c.args.p s c.check_turn-in-ForIterator.new.sight.items c.leave_block-in-ForIterator.new.sight.items
    (statement c.args.st.now) c.in-ForIterator.at c.in-ForIterator.list c.in-ForIterator.name c.in-ForIterator.java (statements c.in-ForIterator.body.items)
    c.in-ForIterator.close c.in-ForIterator.end c.args.i c.len-len-in-ForIterator.result c.iterator_head-begun.result c.in_ok-passed-in-ForIterator.passed
    c.leave_block-in-ForIterator.result
    (for_iterator_is c.args.st.now c.in-ForIterator.at c.in-ForIterator.list c.in-ForIterator.name c.in-ForIterator.java c.in-ForIterator.body
    c.in-ForIterator.close c.in-ForIterator.end c.in-ForIterator.is)
    (c.iterator_head-begun.ensures ∙ ap (λ (v : List Sighted). iterator_head (frame_of c.args.f.now) v c.in-ForIterator.at c.in-ForIterator.list
    c.in-ForIterator.name c.in-ForIterator.java c.in-ForIterator.close c.args.i) (search rules))
    (omega (arith, c.args.sight.now.ok.0))
    (body_at (frame_of c.args.f.now) c.in_loop-in-ForIterator.result (in_loop c.args.p true)
    (with_own (frame_of c.args.f.now) s c.in-ForIterator.name c.in-ForIterator.java)
    c.check_turn-in-ForIterator.new.sight.items c.as_slice-in-ForIterator-2.result.now c.in-ForIterator.body.items
    c.in_ok-passed-in-ForIterator.passed c.iterator_head-begun.result c.in_ok-passed-in-ForIterator.ensures c.in_loop-in-ForIterator.ensures (search rules))
    c.leave_block-in-ForIterator.ensures

pub check_statement-returns-in_ok-second-in-IfElse : goal.check_statement-returns-in_ok-second-in-IfElse
check_statement-returns-in_ok-second-in-IfElse t c =
    let s = c.args.sight.now.items in
    if_else_passed (frame_of c.args.f.now) c.args.p s c.check_body-in-IfElse.new.sight.items c.leave_brace-behind.new.sight.items c.check_other.new.sight.items
    c.leave_body.new.sight.items (statement c.args.st.now) c.in-IfElse.at (expression c.in-IfElse.condition.value) c.in-IfElse.close c.in-IfElse.braces
    (statements c.in-IfElse.body.items) c.in-IfElse.other_at c.in-IfElse.other_braces (statements c.in-IfElse.other.items) c.in-IfElse.end c.args.i
    c.len-len-in-IfElse.result c.conditional-begun-in-IfElse.result c.other_from-further.result c.in_ok-first-in-IfElse.first c.leave_brace-behind.result
    c.in_ok-second-in-IfElse.second c.leave_body.result
    (if_else_is c.args.st.now c.in-IfElse.at c.in-IfElse.condition c.in-IfElse.close c.in-IfElse.braces c.in-IfElse.body c.in-IfElse.other_at
    c.in-IfElse.other_braces c.in-IfElse.other c.in-IfElse.end c.in-IfElse.is)
    (conditional_at (frame_of c.args.f.now) c.as_slice-in-IfElse.result.now s (codes "if") c.in-IfElse.at c.deref-in-IfElse.result.now
    c.in-IfElse.condition.value c.in-IfElse.close c.in-IfElse.braces c.as_slice-in-IfElse-2.result.now c.in-IfElse.body.items
    c.args.i c.conditional-begun-in-IfElse.result c.conditional-begun-in-IfElse.ensures (search rules) (search rules) (search rules))
    (omega (arith, c.args.sight.now.ok.0))
    (body_at (frame_of c.args.f.now) c.inside-in-IfElse.result (inside c.args.p) s c.check_body-in-IfElse.new.sight.items c.as_slice-in-IfElse-3.result.now
    c.in-IfElse.body.items c.in_ok-first-in-IfElse.first c.conditional-begun-in-IfElse.result c.in_ok-first-in-IfElse.ensures c.inside-in-IfElse.ensures
    (search rules))
    c.leave_brace-behind.ensures
    (further_at (frame_of c.args.f.now) c.in-IfElse.other_at c.in-IfElse.other_braces c.as_slice-in-IfElse-4.result.now c.in-IfElse.other.items
    c.leave_brace-behind.result c.other_from-further.result c.other_from-further.ensures (search rules))
    c.in_ok-second-in-IfElse.ensures c.leave_body.ensures

pub check_other-returns-in-IfElse : goal.check_other-returns-in-IfElse
check_other-returns-in-IfElse t c =
    IfOk-weaker c.check_body.result
    (λ (r : Option ℕ). with_sight c.check_body.new.sight.items r
    ≡ body_of (frame_of c.args.f.now) c.inside.result c.args.sight.now.items (statements c.as_slice.result.now) c.args.begun)
    _
    (λ r seen. other_at (frame_of c.args.f.now) c.inside.result c.args.p c.args.sight.now.items c.check_body.new.sight.items (statement c.args.st.now)
    _ _ _ _ _ _ _ c.as_slice.result.now c.in-IfElse.other.items _ r c.args.begun seen c.inside.ensures (search rules)
    (if_else_is c.args.st.now _ _ _ _ _ _ _ c.in-IfElse.other _ c.in-IfElse.is))
    c.check_body.ensures
