use Rattle.std.proofs.Common.{◌≡◌, ◌++◌, drop, false}
use Rattle.dump_tables.specs.Types.{spelling}
use Rattle.dump_tables.proofs.types.spelling.Given as goal

abbrev pub invariant-loop-item : goal.invariant-loop-item
invariant-loop-item l = l.bytes.items ++ spelling l.spaced (drop l.item-index l.items) ≡ spelling false l.items
