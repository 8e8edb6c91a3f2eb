use Rattle.std.proofs.Common.{◌≡◌, drop}
use Rattle.java_ast.specs.Reading.{statements}
use Rattle.java_calls.specs.Inlining.{declared_type}
use Rattle.inlining.proofs.helper.declared_type.Given as goal

abbrev pub invariant-loop-s : goal.invariant-loop-s
invariant-loop-s l = declared_type l.x (statements (drop l.s-index l.body)) ≡ declared_type l.x (statements l.body)
