use Rattle.std.proofs.Common.{◌≡◌, drop}
use Rattle.java_ast.specs.Reading.{expression, statements}
use Rattle.java_mean.specs.Statement.{meanings, each, repeat, test_of}
use Rattle.java_steps.specs.Held.{rows_in}
use Rattle.java_steps.specs.Running.{state, world}
use Rattle.java_interp.proofs.running.+run.Given as goal

abbrev pub invariant-run_block-loop-s : goal.invariant-run_block-loop-s
invariant-run_block-loop-s l = meanings (statements (drop l.s-index l.block)) (world l.source) (state l.m) ≡ meanings (statements l.block) (world l.source) (state l.initial.m)

abbrev pub invariant-run_each-loop-i : goal.invariant-run_each-loop-i
invariant-run_each-loop-i l =
    each (drop l.i (rows_in l.list)) l.x.name.now (meanings (statements l.body) (world l.source)) (state l.m)
    ≡ each (rows_in l.list) l.x.name.now (meanings (statements l.body) (world l.source)) (state l.initial.m)

abbrev pub invariant-run_while-loop-m : goal.invariant-run_while-loop-m
invariant-run_while-loop-m l =
    repeat l.m.turns (test_of (expression l.cond) (world l.source)) (meanings (statements l.body) (world l.source)) (state l.m)
    ≡ repeat l.initial.m.turns (test_of (expression l.cond) (world l.source)) (meanings (statements l.body) (world l.source)) (state l.initial.m)

abbrev pub decreases-run_while-loop-m : goal.decreases-run_while-loop-m
decreases-run_while-loop-m l = l.m.turns
