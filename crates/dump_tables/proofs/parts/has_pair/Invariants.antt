use Rattle.std.proofs.Common.{◌≡◌, ◌+◌, ◌≤◌, length}
use Rattle.dump_tables.specs.Parts.{has_pair}
use Rattle.dump_tables.proofs.parts.has_pair.Given as goal

abbrev pub invariant-loop-rest : goal.invariant-loop-rest
invariant-loop-rest l = record {
  so_far : has_pair l.depth l.first l.second l.rest ≡ has_pair 0 l.first l.second l.fn.items;
  depth : l.depth + length l.rest ≤ length l.fn.items;
}

abbrev pub decreases-loop-rest : goal.decreases-loop-rest
decreases-loop-rest l = length l.rest
