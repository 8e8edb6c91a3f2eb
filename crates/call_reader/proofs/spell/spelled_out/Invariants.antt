use Rattle.std.proofs.Common.{◌≡◌, ◌++◌, length}
use Rattle.call_reader.specs.Seen.{seen}
use Rattle.call_reader.specs.SpelledOut.{spelled_from, spelled_out}
use Rattle.call_reader.proofs.spell.spelled_out.Given as goal

abbrev pub invariant-loop-rest : goal.invariant-loop-rest
invariant-loop-rest l = l.out ++ spelled_from (seen l.spot) l.rest ≡ spelled_out l.fn.tokens

abbrev pub decreases-loop-rest : goal.decreases-loop-rest
decreases-loop-rest l = length l.rest
