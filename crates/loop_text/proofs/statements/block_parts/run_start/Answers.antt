use Rattle.std.proofs.Common.{◌-◌, ◌∙◌, sym, arith}
use Rattle.loop_text.proofs.Trees.Locations.{front_begins, run_begins, front_whole, run_whole}
use Rattle.loop_text.proofs.statements.block_parts.run_start.Goals as goal

pub returns-then-not-is_simple-clause-front : goal.returns-then-not-is_simple-clause-front
returns-then-not-is_simple-clause-front c =
    front_begins c.args.before.now c.loop-start.start (c.loop-start.start - 1) c.index-before-last.result (omega arith) c.loop-start.invariant.within c.index-before-last.is (sym c.is_simple.ensures ∙ c.if-not-is_simple.true) c.loop-start.invariant.simple

pub returns-then-not-is_simple-clause-run : goal.returns-then-not-is_simple-clause-run
returns-then-not-is_simple-clause-run c =
    run_begins c.args.before.now c.loop-start.start (c.loop-start.start - 1) c.index-before-last.result (omega arith) c.loop-start.invariant.within c.index-before-last.is (sym c.is_simple.ensures ∙ c.if-not-is_simple.true) c.loop-start.invariant.simple

pub returns-clause-front : goal.returns-clause-front
returns-clause-front c = front_whole c.args.before.now c.loop-start.start c.loop-start-test.false c.loop-start.invariant.simple

pub returns-clause-run : goal.returns-clause-run
returns-clause-run c = run_whole c.args.before.now c.loop-start.start c.loop-start-test.false c.loop-start.invariant.simple
