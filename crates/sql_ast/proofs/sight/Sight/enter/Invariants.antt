use Rattle.std.proofs.Common.{◌≡◌, ◌++◌}
use Rattle.sql_ast.specs.InSight.{in_sight}
use Rattle.sql_ast.proofs.sight.Sight.enter.Given as goal

abbrev pub invariant-loop-item : goal.invariant-loop-item
invariant-loop-item l = in_sight l.self ++ l.item-iterator.rest.items ≡ in_sight l.fn.self ++ l.fn.own.items
