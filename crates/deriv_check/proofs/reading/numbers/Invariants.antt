use Rattle.std.proofs.Common.{◌≡◌, ◌-◌, length}
use Rattle.readers.specs.Reading.{up_to}
use Rattle.deriv_check.specs.Reading.{ends_path, further_at, numbers_behind}
use Rattle.readers.proofs.Loops.{with_front}
use Rattle.deriv_check.proofs.reading.numbers.Given as goal

-- what was read and what is read of the rest is what is read of all
abbrev pub invariant-loop : goal.invariant-loop
invariant-loop l = with_front l.path.items (up_to ends_path further_at (length l.bytes - l.counter) l.rest) ≡ numbers_behind l.fn.path.items l.bytes
