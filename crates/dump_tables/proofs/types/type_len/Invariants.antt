use Rattle.std.proofs.Common.{◌≡◌, ◌+◌, ◌≤◌, length}
use Rattle.dump_tables.specs.Types.{type_len}
use Rattle.dump_tables.proofs.types.type_len.Given as goal

abbrev pub invariant-loop-rest : goal.invariant-loop-rest
invariant-loop-rest l = record {
  so_far : l.len + type_len l.depth l.rest ≡ type_len 0 l.fn.items;
  left : l.len + length l.rest ≡ length l.fn.items;
  depth : l.depth + length l.rest ≤ length l.fn.items;
}

abbrev pub decreases-loop-rest : goal.decreases-loop-rest
decreases-loop-rest l = length l.rest
