use Rattle.std.proofs.Common.{◌≡◌, ◌+◌, length}
use Rattle.view_items.specs.Pieces.{number_len}
use Rattle.view_items.proofs.pieces.number_len.Given as goal

abbrev pub invariant-loop-rest : goal.invariant-loop-rest
invariant-loop-rest l = record {
  so_far : l.len + number_len l.hexadecimal l.before l.rest ≡ number_len l.hexadecimal l.first l.bytes;
  left : l.len + length l.rest ≡ length l.bytes;
}

abbrev pub decreases-loop-rest : goal.decreases-loop-rest
decreases-loop-rest l = length l.rest
