use Rattle.std.proofs.Common.{None, List, sym, ap, ◌∙◌}
use Rattle.std.proofs.lemmas.Result.{on_ok_weaker}
use Rattle.std.specs.Option.{option_map, option_copied}
use Rattle.java_ast.specs.declared.tree.Stmt.{Stmt}
use Rattle.java_ast.specs.Path.{and_then}
use Rattle.java_ast.specs.Reading.{expression, statement, statements}
use Rattle.java_mean.specs.Visible.{names_seen}
use Rattle.java_types.specs.Texts.{read_by}
use Rattle.spreads.specs.Spread.{spread_among}
use Rattle.spreads.proofs.Arms.{if_spread, if_else_spread, each_spread, while_spread}
use Rattle.spreads.proofs.Rounds.{drop_next, statements_next, put_as, spread_round, spread_all}
use Rattle.spreads.proofs.spread.+spread.Goals as goal

pub push_spread-returns-in-None : goal.push_spread-returns-in-None
push_spread-returns-in-None t c =
    on_ok_weaker c.push_if.result
    (put_as (statements c.args.all.now.items) (statements c.push_if.new.all.items) _ _
    (if_spread c.args.schema.now (read_by c.args.schema.now) (names_seen c.args.assigned.now) (option_map expression (option_copied c.args.declared)) c.args.s.now c.in-If.cond c.in-If.yes c.in-If.other c.deref.result.now (statements c.in_ok-yes-in-If.yes.items)
    c.in-If.is c.in-None.is c.deref.ensures.value c.in_ok-yes-in-If.ensures))
    c.push_if.ensures

pub push_spread-returns-in_ok-other-in-Some : goal.push_spread-returns-in_ok-other-in-Some
push_spread-returns-in_ok-other-in-Some t c =
    on_ok_weaker c.push_if_else.result
    (put_as (statements c.args.all.now.items) (statements c.push_if_else.new.all.items) _ _
    (if_else_spread c.args.schema.now (read_by c.args.schema.now) (names_seen c.args.assigned.now) (option_map expression (option_copied c.args.declared)) c.args.s.now c.in-If.cond c.in-If.yes c.in-Some.other c.in-If.other c.deref.result.now c.deref-in-Some.result.now (statements c.in_ok-yes-in-If.yes.items) (statements c.in_ok-other-in-Some.other.items)
    c.in-If.is c.in-Some.is c.deref.ensures.value c.deref-in-Some.ensures.value c.in_ok-yes-in-If.ensures c.in_ok-other-in-Some.ensures))
    c.push_if_else.ensures

pub push_spread-returns-in_ok-body-in-ForEach : goal.push_spread-returns-in_ok-body-in-ForEach
push_spread-returns-in_ok-body-in-ForEach t c =
    on_ok_weaker c.push_walk.result
    (put_as (statements c.args.all.now.items) (statements c.push_walk.new.all.items) _ _
    (each_spread c.args.schema.now (read_by c.args.schema.now) (names_seen c.args.assigned.now) (option_map expression (option_copied c.args.declared)) c.args.s.now c.in-ForEach.ty c.in-ForEach.name c.in-ForEach.list c.in-ForEach.body c.deref-in-ForEach.result.now (statements c.in_ok-body-in-ForEach.body.items)
    c.in-ForEach.is c.deref-in-ForEach.ensures.value c.in_ok-body-in-ForEach.ensures))
    c.push_walk.ensures

pub push_spread-returns-in_ok-body-in-While : goal.push_spread-returns-in_ok-body-in-While
push_spread-returns-in_ok-body-in-While t c =
    on_ok_weaker c.push_while.result
    (put_as (statements c.args.all.now.items) (statements c.push_while.new.all.items) _ _
    (while_spread c.args.schema.now (read_by c.args.schema.now) (names_seen c.args.assigned.now) (option_map expression (option_copied c.args.declared)) c.args.s.now c.in-While.cond c.in-While.body c.deref-in-While.result.now (statements c.in_ok-body-in-While.body.items)
    c.in-While.is c.deref-in-While.ensures.value c.in_ok-body-in-While.ensures))
    c.push_while.ensures

pub spread_among-loop-s-preserved : goal.spread_among-loop-s-preserved
spread_among-loop-s-preserved t c =
    let r = read_by c.args.schema.now in
    let a = names_seen c.args.assigned.now in
    let next = drop_next c.args.block.now c.loop-s.rest.now c.behind_first-rest.result.now c.loop-s.s-index c.s-item.result c.loop-s-test.true c.s-item.is c.loop-s.invariant.rest c.behind_first-rest.ensures in
    let whole = spread_among c.args.schema.now r a None (statements c.args.block.now) in
    let left =
    spread_round c.args.schema.now r a c.in_ok-value.value (option_map expression (option_copied c.loop-s.declared)) (statement c.s-item.result) c.is_some-dropped.result
    (statements c.loop-s.all.items) (statements c.push_unless.new.all.items) (statements c.behind_first-rest.result.now) _ whole
    (statements_next c.args.block.now c.behind_first-rest.result.now c.loop-s.s-index c.s-item.result c.loop-s-test.true c.s-item.is next)
    c.in_ok-value.ensures c.is_some-dropped.ensures c.in_ok-push_unless.ensures c.loop-s.invariant.spread
    in
    record {
      rest = next;
      spread = ap (λ (l : List Stmt). and_then (statements c.push_unless.new.all.items) (spread_among c.args.schema.now r a (option_map expression (option_copied c.in_ok-value.value)) (statements l))) (sym next) ∙ left;
    }

pub spread_among-returns : goal.spread_among-returns
spread_among-returns t c =
    let r = read_by c.args.schema.now in
    let a = names_seen c.args.assigned.now in
    spread_all c.args.schema.now r a (option_map expression (option_copied c.loop-s.declared)) c.args.block.now c.loop-s.s-index (statements c.loop-s.all.items) (spread_among c.args.schema.now r a None (statements c.args.block.now)) c.loop-s-test.false c.loop-s.invariant.spread
