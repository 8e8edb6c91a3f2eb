use Rattle.std.proofs.Common.{◌≡◌, ◌≤◌, drop, length, true}
use Rattle.java_ast.specs.Reading.{statements}
use Rattle.loop_text.specs.Statements.Fragment.{are_simple}
use Rattle.loop_text.proofs.statements.block_parts.run_start.Given as goal

abbrev pub invariant-loop-start : goal.invariant-loop-start
invariant-loop-start l = record {
  within : l.start ≤ length l.before;
  simple : are_simple (statements (drop l.start l.before)) ≡ true;
}

abbrev pub decreases-loop-start : goal.decreases-loop-start
decreases-loop-start l = l.start
