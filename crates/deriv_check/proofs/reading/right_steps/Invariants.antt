use Rattle.std.proofs.Common.{◌≡◌, ◌-◌, length}
use Rattle.readers.specs.Reading.{up_to}
use Rattle.deriv_check.specs.Reading.{is_line_end, right_at, rights_at}
use Rattle.readers.proofs.Loops.{with_front}
use Rattle.deriv_check.proofs.reading.right_steps.Given as goal

-- what was read and what is read of the rest is what is read of all
abbrev pub invariant-loop : goal.invariant-loop
invariant-loop l = with_front l.steps.items (up_to is_line_end right_at (length l.bytes - l.counter) l.rest) ≡ rights_at l.bytes
