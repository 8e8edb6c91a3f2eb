use Rattle.std.proofs.Common.{◌≡◌, length}
use Rattle.java_ast.specs.Reading.{statements}
use Rattle.view_spell.specs.Shared.{is_listed_twice}
use Rattle.view_spell.proofs.shared.is_listed_twice.Given as goal

abbrev pub invariant-loop-rest : goal.invariant-loop-rest
invariant-loop-rest l = is_listed_twice l.table (statements l.rest) ≡ is_listed_twice l.table (statements l.block)

abbrev pub decreases-loop-rest : goal.decreases-loop-rest
decreases-loop-rest l = length l.rest
