use Rattle.std.proofs.Common.{◌≡◌, ◌+◌, false, length}
use Rattle.view_items.specs.Opened.{plus, closing}
use Rattle.view_items.proofs.opened.closing.Given as goal

abbrev pub invariant-loop-rest : goal.invariant-loop-rest
invariant-loop-rest l = record {
  so_far : plus l.len (closing l.opened l.escaped l.rest) ≡ closing l.opened false l.bytes;
  left : l.len + length l.rest ≡ length l.bytes;
}

abbrev pub decreases-loop-rest : goal.decreases-loop-rest
decreases-loop-rest l = length l.rest
