use Rattle.std.proofs.Common.{◌≡◌, ◌≤◌, length, take}
use Rattle.sql_ast.specs.InSight.{in_sight}
use Rattle.sql_ast.proofs.sight.Sight.leave.Given as goal

abbrev pub invariant-loop-self : goal.invariant-loop-self
invariant-loop-self l = record {
  room : l.len ≤ length (in_sight l.self);
  first : in_sight l.self ≡ take (length (in_sight l.self)) (in_sight l.fn.self);
}

abbrev pub decreases-loop-self : goal.decreases-loop-self
decreases-loop-self l = length (in_sight l.self)
