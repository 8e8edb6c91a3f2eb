use Rattle.std.proofs.Common.{◌≡◌, ◌-◌, length}
use Rattle.readers.specs.Reading.{up_to}
use Rattle.deriv_check.specs.Bundles.{entries_of}
use Rattle.deriv_check.specs.Reading.{is_end, entry_at, entries_at}
use Rattle.readers.proofs.Loops.{with_front}
use Rattle.deriv_check.proofs.entries.entries.Given as goal

-- what was read and what is read of the rest is what is read of all
abbrev pub invariant-loop : goal.invariant-loop
invariant-loop l = with_front (entries_of l.entries.items) (up_to is_end entry_at (length l.bytes - l.counter) l.rest) ≡ entries_at l.bytes
