use Rattle.std.proofs.Common.{◌≡◌, map, take}
use Rattle.java_ast.specs.Reading.{expression}
use Rattle.narrowing.specs.Lent.{expressions_lent}
use Rattle.narrowing.proofs.query.copies.Given as goal

abbrev pub invariant-loop-e : goal.invariant-loop-e
invariant-loop-e l = map expression l.all.items ≡ expressions_lent (take l.e-index l.es)
