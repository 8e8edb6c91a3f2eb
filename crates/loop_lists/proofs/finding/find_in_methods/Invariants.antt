use Rattle.std.proofs.Common.{◌≡◌, drop, map}
use Rattle.java_ast.specs.Reading.{method}
use Rattle.loop_lists.specs.Finding.{first_of_methods}
use Rattle.loop_lists.proofs.finding.find_in_methods.Given as goal

abbrev pub invariant-loop-i : goal.invariant-loop-i
invariant-loop-i l = first_of_methods l.line l.column l.i (map method (drop l.i l.methods)) ≡ first_of_methods l.line l.column 0 (map method l.methods)
