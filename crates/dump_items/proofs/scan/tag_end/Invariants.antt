use Rattle.std.proofs.Common.{◌≡◌, ◌+◌, length}
use Rattle.dump_items.specs.Scan.{tag_end}
use Rattle.dump_items.proofs.scan.tag_end.Given as goal

abbrev pub invariant-loop-rest : goal.invariant-loop-rest
invariant-loop-rest l = record {
  so_far : l.len + tag_end l.tag l.rest ≡ tag_end l.tag l.fn.bytes;
  left : l.len + length l.rest ≡ length l.fn.bytes;
}

abbrev pub decreases-loop-rest : goal.decreases-loop-rest
decreases-loop-rest l = length l.rest
