use Rattle.std.proofs.Common.{◌≡◌, ◌++◌, length}
use Rattle.view_spell.specs.Fetched.{fetched_among}
use Rattle.view_spell.proofs.fetched.push_among.Given as goal

abbrev pub invariant-loop-rest : goal.invariant-loop-rest
invariant-loop-rest l = l.fetched.items ++ fetched_among l.map l.rest ≡ l.fn.fetched.items ++ fetched_among l.map l.items

abbrev pub decreases-loop-rest : goal.decreases-loop-rest
decreases-loop-rest l = length l.rest
