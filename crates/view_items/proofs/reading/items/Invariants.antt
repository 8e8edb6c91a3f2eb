use Rattle.std.proofs.Common.{◌≡◌, ◌+◌, ◌++◌, drop, length}
use Rattle.view_items.specs.Items.{items_from, items_of}
use Rattle.view_items.specs.Known.{IsKnown}
use Rattle.view_items.proofs.Read.{UpTo}
use Rattle.view_items.proofs.reading.items.Given as goal

abbrev pub invariant-loop-rest : goal.invariant-loop-rest
invariant-loop-rest l = record {
  so_far : l.list ++ items_from l.at 0 l.rest ≡ items_of l.source;
  known : IsKnown l.known l.at l.rest;
  left : l.at + length l.rest ≡ length l.source;
  rest : l.rest ≡ drop l.at l.source;
  places : UpTo l.source 0 l.list l.at;
}

abbrev pub decreases-loop-rest : goal.decreases-loop-rest
decreases-loop-rest l = length l.rest
