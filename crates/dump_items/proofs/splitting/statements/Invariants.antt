use Rattle.std.proofs.Common.{◌≡◌, ◌+◌, ◌≤◌, length}
use Rattle.dump_items.specs.Pieces.{items_from}
use Rattle.dump_items.specs.Statements.{heeded, outside, statements_from}
use Rattle.dump_items.specs.Splitting.{total}
use Rattle.dump_items.proofs.splitting.statements.Given as goal

abbrev pub invariant-loop-rest : goal.invariant-loop-rest
invariant-loop-rest l = record {
  so_far : total l.splitter.done l.splitter.current l.splitter.nest (items_from l.escapes 0 l.rest) ≡ heeded (statements_from outside (items_from l.escapes 0 l.fn.text));
  depth : l.splitter.nest.depth + length l.rest ≤ length l.fn.text;
  blocks : l.splitter.nest.blocks + length l.rest ≤ length l.fn.text;
}

abbrev pub decreases-loop-rest : goal.decreases-loop-rest
decreases-loop-rest l = length l.rest
