use Rattle.std.proofs.Common.{◌≡◌, ◌+◌, length}
use Rattle.dump_items.specs.Scan.{scan_len}
use Rattle.dump_items.proofs.scan.scan_len.Given as goal

abbrev pub invariant-loop-rest : goal.invariant-loop-rest
invariant-loop-rest l = record {
  so_far : l.len + scan_len l.until l.state l.rest ≡ scan_len l.until 0 l.fn.bytes;
  left : l.len + length l.rest ≡ length l.fn.bytes;
}

abbrev pub decreases-loop-rest : goal.decreases-loop-rest
decreases-loop-rest l = length l.rest
