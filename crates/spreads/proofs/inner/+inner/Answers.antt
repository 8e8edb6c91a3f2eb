use Rattle.std.proofs.Common.{◌≡◌, Bool, true, ◌||◌, List, refl, sym, ap, ◌∙◌}
use Rattle.std.proofs.lemmas.Result.{IfOk-weaker}
use Rattle.java_ast.specs.declared.tree.Stmt.{Stmt}
use Rattle.java_ast.specs.Reading.{statement, statements}
use Rattle.java_mean.specs.Visible.{names_seen}
use Rattle.java_types.specs.Texts.{read_by}
use Rattle.spreads.specs.Inner.{has_select, have_select}
use Rattle.spreads.specs.Spread.{value_declared}
use Rattle.spreads.proofs.Arms.{either_has, each_has}
use Rattle.spreads.proofs.Rounds.{drop_next, statements_next, is_declared, found_declared, found_in_one, found_behind, found_none}
use Rattle.spreads.proofs.inner.+inner.Goals as goal

pub has_select-returns-then-found : goal.has_select-returns-then-found
has_select-returns-then-found t c =
    let r = read_by c.args.schema.now in
    let a = names_seen c.args.assigned.now in
    ap (λ (b : Bool). b || have_select c.args.schema.now r a (statements c.in-Some.other.items)) (sym c.if-found.true ∙ c.in_ok-found-in-Some.ensures)
    ∙ either_has c.args.schema.now r a c.args.s.now c.in-If.cond c.in-If.yes c.in-Some.other c.in-If.other c.deref-in-Some.result.now c.in-Some.other.items c.in-If.is c.in-Some.is c.deref-in-Some.ensures.value refl

pub has_select-returns-else-found : goal.has_select-returns-else-found
has_select-returns-else-found t c =
    let r = read_by c.args.schema.now in
    let a = names_seen c.args.assigned.now in
    IfOk-weaker c.have_select-in-Some-2.result
    (λ (b : Bool). b ≡ have_select c.args.schema.now r a (statements c.deref-in-Some-2.result.now))
    (λ (b : Bool). b ≡ has_select c.args.schema.now r a (statement c.args.s.now))
    (λ b e.
    e
    ∙ ap (λ (d : Bool). d || have_select c.args.schema.now r a (statements c.deref-in-Some-2.result.now)) (sym c.if-found.false ∙ c.in_ok-found-in-Some.ensures)
    ∙ either_has c.args.schema.now r a c.args.s.now c.in-If.cond c.in-If.yes c.in-Some.other c.in-If.other c.deref-in-Some.result.now c.deref-in-Some-2.result.now c.in-If.is c.in-Some.is c.deref-in-Some.ensures.value c.deref-in-Some-2.ensures.value)
    c.have_select-in-Some-2.ensures

pub has_select-returns-then-walks : goal.has_select-returns-then-walks
has_select-returns-then-walks t c =
    let r = read_by c.args.schema.now in
    let a = names_seen c.args.assigned.now in
    ap (λ (b : Bool). b || have_select c.args.schema.now r a (statements c.in-ForEach.body.items)) (sym c.if-walks.true ∙ c.in_ok-walks-in-ForEach.ensures)
    ∙ each_has c.args.schema.now r a c.args.s.now c.in-ForEach.ty c.in-ForEach.name c.in-ForEach.list c.in-ForEach.body c.in-ForEach.body.items c.in-ForEach.is refl

pub has_select-returns-else-walks : goal.has_select-returns-else-walks
has_select-returns-else-walks t c =
    let r = read_by c.args.schema.now in
    let a = names_seen c.args.assigned.now in
    IfOk-weaker c.have_select-in-ForEach.result
    (λ (b : Bool). b ≡ have_select c.args.schema.now r a (statements c.deref-in-ForEach.result.now))
    (λ (b : Bool). b ≡ has_select c.args.schema.now r a (statement c.args.s.now))
    (λ b e.
    e
    ∙ ap (λ (d : Bool). d || have_select c.args.schema.now r a (statements c.deref-in-ForEach.result.now)) (sym c.if-walks.false ∙ c.in_ok-walks-in-ForEach.ensures)
    ∙ each_has c.args.schema.now r a c.args.s.now c.in-ForEach.ty c.in-ForEach.name c.in-ForEach.list c.in-ForEach.body c.deref-in-ForEach.result.now c.in-ForEach.is c.deref-in-ForEach.ensures.value)
    c.have_select-in-ForEach.ensures

pub have_select-returns-then-is_some : goal.have_select-returns-then-is_some
have_select-returns-then-is_some t c =
    let r = read_by c.args.schema.now in
    let a = names_seen c.args.assigned.now in
    let next = drop_next c.args.block.now c.loop-s.rest.now c.behind_first-rest.result.now c.loop-s.s-index c.s-item.result c.loop-s-test.true c.s-item.is c.loop-s.invariant.rest c.behind_first-rest.ensures in
    found_declared c.args.schema.now r a (statement c.s-item.result) (statements c.behind_first-rest.result.now) _ (have_select c.args.schema.now r a (statements c.args.block.now))
    (statements_next c.args.block.now c.behind_first-rest.result.now c.loop-s.s-index c.s-item.result c.loop-s-test.true c.s-item.is next)
    (is_declared c.in_ok-declared.declared (value_declared c.args.schema.now r a (statement c.s-item.result) (statements c.behind_first-rest.result.now)) c.is_some.result true c.in_ok-declared.ensures c.is_some.ensures c.if-is_some.true)
    c.loop-s.invariant.left

pub have_select-returns-then-found : goal.have_select-returns-then-found
have_select-returns-then-found t c =
    let r = read_by c.args.schema.now in
    let a = names_seen c.args.assigned.now in
    let next = drop_next c.args.block.now c.loop-s.rest.now c.behind_first-rest.result.now c.loop-s.s-index c.s-item.result c.loop-s-test.true c.s-item.is c.loop-s.invariant.rest c.behind_first-rest.ensures in
    found_in_one c.args.schema.now r a (statement c.s-item.result) (statements c.behind_first-rest.result.now) _ (have_select c.args.schema.now r a (statements c.args.block.now))
    (statements_next c.args.block.now c.behind_first-rest.result.now c.loop-s.s-index c.s-item.result c.loop-s-test.true c.s-item.is next)
    (is_declared c.in_ok-declared.declared (value_declared c.args.schema.now r a (statement c.s-item.result) (statements c.behind_first-rest.result.now)) c.is_some.result _ c.in_ok-declared.ensures c.is_some.ensures c.if-is_some.false)
    (sym c.in_ok-found.ensures ∙ c.if-found.true)
    c.loop-s.invariant.left

pub have_select-loop-s-preserved : goal.have_select-loop-s-preserved
have_select-loop-s-preserved t c =
    let r = read_by c.args.schema.now in
    let a = names_seen c.args.assigned.now in
    let next = drop_next c.args.block.now c.loop-s.rest.now c.behind_first-rest.result.now c.loop-s.s-index c.s-item.result c.loop-s-test.true c.s-item.is c.loop-s.invariant.rest c.behind_first-rest.ensures in
    let left =
    found_behind c.args.schema.now r a (statement c.s-item.result) (statements c.behind_first-rest.result.now) _ (have_select c.args.schema.now r a (statements c.args.block.now))
    (statements_next c.args.block.now c.behind_first-rest.result.now c.loop-s.s-index c.s-item.result c.loop-s-test.true c.s-item.is next)
    (is_declared c.in_ok-declared.declared (value_declared c.args.schema.now r a (statement c.s-item.result) (statements c.behind_first-rest.result.now)) c.is_some.result _ c.in_ok-declared.ensures c.is_some.ensures c.if-is_some.false)
    (sym c.in_ok-found.ensures ∙ c.if-found.false)
    c.loop-s.invariant.left
    in
    record { rest = next; left = ap (λ (l : List Stmt). have_select c.args.schema.now r a (statements l)) (sym next) ∙ left }

pub have_select-returns : goal.have_select-returns
have_select-returns t c =
    let r = read_by c.args.schema.now in
    let a = names_seen c.args.assigned.now in
    found_none c.args.schema.now r a c.args.block.now c.loop-s.s-index (have_select c.args.schema.now r a (statements c.args.block.now)) c.loop-s-test.false c.loop-s.invariant.left
