use Rattle.std.proofs.Common.{◌≡◌, ◌≤◌, drop, length, map}
use Rattle.java_ast.specs.Reading.{param}
use Rattle.java_mean.specs.Outcome.{store_of}
use Rattle.java_interp.proofs.run.parameters.Given as goal

abbrev pub invariant-loop-i : goal.invariant-loop-i
invariant-loop-i l = record {
  store : l.store ≡ store_of (map param (drop l.i l.params)) (drop l.i l.args);
  params : l.i ≤ length l.params;
  args : l.i ≤ length l.args;
}

abbrev pub decreases-loop-i : goal.decreases-loop-i
decreases-loop-i l = l.i
