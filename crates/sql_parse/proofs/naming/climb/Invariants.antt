use Rattle.std.proofs.Common.{◌≡◌, length}
use Rattle.sql_ast.specs.Reading.{condition}
use Rattle.sql_parse.specs.Steps.{climbed}
use Rattle.sql_parse.proofs.naming.climb.Given as goal

abbrev pub invariant-loop-last : goal.invariant-loop-last
invariant-loop-last l = climbed l.steps.items (condition l.a.value) ≡ climbed l.fn.steps.items (condition l.fn.a.value)

abbrev pub decreases-loop-last : goal.decreases-loop-last
decreases-loop-last l = length l.steps.items
