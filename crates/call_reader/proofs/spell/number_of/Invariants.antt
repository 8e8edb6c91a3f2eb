use Rattle.std.proofs.Common.{◌≡◌, ◌+◌, length}
use Rattle.call_reader.specs.Seen.{seen}
use Rattle.call_reader.specs.SpelledOut.{number_from, number_of}
use Rattle.call_reader.proofs.spell.number_of.Given as goal

abbrev pub invariant-loop-rest : goal.invariant-loop-rest
invariant-loop-rest l = record {
  so_far : l.number + number_from (seen l.spot) l.rest l.left ≡ number_of l.fn.tokens l.fn.spelled;
  read : l.number + length l.rest ≡ length l.fn.tokens;
}

abbrev pub decreases-loop-rest : goal.decreases-loop-rest
decreases-loop-rest l = length l.rest
