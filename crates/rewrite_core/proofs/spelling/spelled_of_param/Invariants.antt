use Rattle.std.proofs.Common.{◌≡◌, drop, map}
use Rattle.java_ast.specs.Reading.{param}
use Rattle.java_loops.specs.Lowering.Spelling.{spelled_of_param}
use Rattle.rewrite_core.proofs.spelling.spelled_of_param.Given as goal

abbrev pub invariant-loop-p : goal.invariant-loop-p
invariant-loop-p l = spelled_of_param l.x (map param (drop l.p-index l.params)) ≡ spelled_of_param l.x (map param l.params)
