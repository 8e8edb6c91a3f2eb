use Rattle.std.proofs.Common.{◌≡◌, ◌++◌, take, drop, map}
use Rattle.view_statements.specs.Places.{made_own}
use Rattle.view_statements.proofs.sights.own_from_here.Given as goal

abbrev pub invariant-loop-v : goal.invariant-loop-v
invariant-loop-v l = l.v-items ≡ map (made_own l.name) (take l.v-index l.fn.sight.items) ++ drop l.v-index l.fn.sight.items
