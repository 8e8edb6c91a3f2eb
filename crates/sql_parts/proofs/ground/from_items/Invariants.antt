use Rattle.std.proofs.Common.{◌≡◌, take}
use Rattle.sql_parts.specs.Reading.{ground_of}
use Rattle.sql_parts.specs.Scopes.{from_items}
use Rattle.sql_parts.proofs.ground.from_items.Given as goal

abbrev pub invariant-loop-j : goal.invariant-loop-j
invariant-loop-j l = l.all ≡ from_items (ground_of l.g) (take l.j-index l.loops)
