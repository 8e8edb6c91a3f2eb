use Rattle.std.proofs.Common.{◌≡◌, ◌<◌, List, length, ◌∙◌, sym, ap, subst, option_map, Ok, Err, rules}
use Rattle.qbs_base.specs.declared.scalar.Row.{Row}
use Rattle.java_mean.specs.declared.ending.Ending.{Ending}
use Rattle.java_ast.specs.Reading.{expression, statements}
use Rattle.java_mean.specs.Statement.{each, meanings, repeat, test_of, turn}
use Rattle.java_steps.specs.Held.{rows_in, value_in}
use Rattle.java_steps.specs.Running.{state, world}
use Rattle.java_interp.specs.Passing.{passed}
use Rattle.java_interp.proofs.Branches.{if_true, if_false, for_each_over}
use Rattle.java_interp.proofs.Passing.{each_left, each_on, each_out, each_returned, each_stops, turns_fall}
use Rattle.java_interp.proofs.Turns.{repeat_stops}
use Rattle.java_interp.proofs.running.+run.Goals as goal

pub run_statement-returns-then-branch : goal.run_statement-returns-then-branch
run_statement-returns-then-branch t c =
    if_true c.args.s.now c.in-If.cond c.in-If.yes c.in-If.other c.deref.result.now (world c.args.source.now) (state c.args.m.now) c.run_block.result c.run_block.new.m
    c.in-If.is c.deref.ensures.value (c.in_ok-test-in-If.ensures ∙ ap Ok c.if-branch.true) c.run_block.ensures

pub run_statement-returns-in-Some : goal.run_statement-returns-in-Some
run_statement-returns-in-Some t c =
    if_false c.args.s.now c.in-If.cond c.in-If.yes c.in-Some.other c.in-If.other c.deref-in-Some.result.now (world c.args.source.now) (state c.args.m.now) c.run_block-in-Some.result c.run_block-in-Some.new.m
    c.in-If.is c.in-Some.is c.deref-in-Some.ensures.value (c.in_ok-test-in-If.ensures ∙ ap Ok c.if-branch.false) c.run_block-in-Some.ensures

pub run_statement-returns-in_ok-rows-in-ForEach : goal.run_statement-returns-in_ok-rows-in-ForEach
run_statement-returns-in_ok-rows-in-ForEach t c =
    for_each_over c.args.s.now c.in-ForEach.ty c.in-ForEach.name c.in-ForEach.list c.in-ForEach.body c.deref-in-ForEach.result.now (rows_in c.in_ok-rows-in-ForEach.rows) (world c.args.source.now) (state c.args.m.now) c.run_each.result c.run_each.new.m
    c.in-ForEach.is c.deref-in-ForEach.ensures.value c.in_ok-rows-in-ForEach.ensures c.run_each.ensures

pub run_while-returns-in_err-test : goal.run_while-returns-in_err-test
run_while-returns-in_err-test t c =
    let h : (e : Ending) → test_of (expression c.args.cond.now) (world c.args.source.now) c.loop-m.m.store ≡ Err e → repeat c.args.m.now.turns (test_of (expression c.args.cond.now) (world c.args.source.now)) (meanings (statements c.args.body.now) (world c.args.source.now)) (state c.args.m.now) ≡ Err e =
    λ e p. sym c.loop-m.invariant ∙ repeat_stops c.loop-m.m.turns (test_of (expression c.args.cond.now) (world c.args.source.now)) (meanings (statements c.args.body.now) (world c.args.source.now)) (state c.loop-m.m) e p in
    search (rules, h)

pub run_while-loop-m-smaller : goal.run_while-loop-m-smaller
run_while-loop-m-smaller t c =
    turns_fall (test_of (expression c.args.cond.now) (world c.args.source.now)) (statements c.args.body.now) (world c.args.source.now) (state c.loop-m.m) (state c.take_turn.new.m)
    (c.in_ok-test.ensures ∙ ap Ok c.if-branch.true) c.in_ok-take_turn.ensures.leaves (state c.run_block.new.m) (c.in_ok-run_block.ensures ∙ ap (λ way. Ok (passed way c.run_block.new.m)) c.in-On.is)

pub run_each-returns-in_err-take_turn : goal.run_each-returns-in_err-take_turn
run_each-returns-in_err-take_turn t c =
    let h : (e : Ending) → turn (state c.loop-i.m) ≡ Err e → each (rows_in c.args.list.now) c.args.x.name.now (meanings (statements c.args.body.now) (world c.args.source.now)) (state c.args.m.now) ≡ Err e =
    λ e p. sym c.loop-i.invariant ∙ each_out (rows_in c.args.list.now) c.loop-i.i c.args.x.name.now (statements c.args.body.now) (world c.args.source.now) (state c.loop-i.m) (value_in c.in_ok-held.held) (subst (λ (l : List Row). c.loop-i.i < length l) c.rows-i-end.ensures c.loop-i-test.true) c.in_ok-held.ensures e p in
    search (rules, h)

pub run_each-returns-in_err-run_block : goal.run_each-returns-in_err-run_block
run_each-returns-in_err-run_block t c =
    let h : (e : Ending) → meanings (statements c.args.body.now) (world c.args.source.now) (record { store = c.replace.new.self; lines = c.take_turn.new.m.lines; turns = c.take_turn.new.m.turns }) ≡ Err e → each (rows_in c.args.list.now) c.args.x.name.now (meanings (statements c.args.body.now) (world c.args.source.now)) (state c.args.m.now) ≡ Err e =
    λ e p. sym c.loop-i.invariant ∙ each_stops (rows_in c.args.list.now) c.loop-i.i c.args.x.name.now (statements c.args.body.now) (world c.args.source.now) (state c.loop-i.m) (value_in c.in_ok-held.held) (subst (λ (l : List Row). c.loop-i.i < length l) c.rows-i-end.ensures c.loop-i-test.true) c.in_ok-held.ensures (state c.take_turn.new.m) c.replace.new.self c.in_ok-take_turn.ensures.leaves c.in_ok-replace.ensures.stored e p in
    search (rules, h)

pub run_each-returns-in-Leaves : goal.run_each-returns-in-Leaves
run_each-returns-in-Leaves t c =
    sym c.loop-i.invariant
    ∙ each_left (rows_in c.args.list.now) c.loop-i.i c.args.x.name.now (statements c.args.body.now) (world c.args.source.now) (state c.loop-i.m) (value_in c.in_ok-held.held) (subst (λ (l : List Row). c.loop-i.i < length l) c.rows-i-end.ensures c.loop-i-test.true) c.in_ok-held.ensures (state c.take_turn.new.m) c.replace.new.self c.in_ok-take_turn.ensures.leaves c.in_ok-replace.ensures.stored (state c.run_block.new.m) (c.in_ok-run_block.ensures ∙ ap (λ way. Ok (passed way c.run_block.new.m)) c.in-Leaves.is)

pub run_each-returns-in-Returns : goal.run_each-returns-in-Returns
run_each-returns-in-Returns t c =
    sym c.loop-i.invariant
    ∙ each_returned (rows_in c.args.list.now) c.loop-i.i c.args.x.name.now (statements c.args.body.now) (world c.args.source.now) (state c.loop-i.m) (value_in c.in_ok-held.held) (subst (λ (l : List Row). c.loop-i.i < length l) c.rows-i-end.ensures c.loop-i-test.true) c.in_ok-held.ensures (state c.take_turn.new.m) c.replace.new.self c.in_ok-take_turn.ensures.leaves c.in_ok-replace.ensures.stored (state c.run_block.new.m) (option_map value_in c.run_block.new.m.returned) (c.in_ok-run_block.ensures ∙ ap (λ way. Ok (passed way c.run_block.new.m)) c.in-Returns.is)

pub run_each-loop-i-preserved : goal.run_each-loop-i-preserved
run_each-loop-i-preserved t c =
    sym (each_on (rows_in c.args.list.now) c.loop-i.i c.args.x.name.now (statements c.args.body.now) (world c.args.source.now) (state c.loop-i.m) (value_in c.in_ok-held.held) (subst (λ (l : List Row). c.loop-i.i < length l) c.rows-i-end.ensures c.loop-i-test.true) c.in_ok-held.ensures (state c.take_turn.new.m) c.replace.new.self c.in_ok-take_turn.ensures.leaves c.in_ok-replace.ensures.stored (state c.run_block.new.m) (c.in_ok-run_block.ensures ∙ ap (λ way. Ok (passed way c.run_block.new.m)) c.in-On.is))
    ∙ c.loop-i.invariant
