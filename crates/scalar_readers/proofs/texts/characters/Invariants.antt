use Rattle.std.proofs.Common.{◌≡◌, ◌-◌, length}
use Rattle.std.specs.String.{string_bytes}
use Rattle.readers.specs.Reading.{up_to}
use Rattle.scalar_readers.specs.Chars.{char_at, is_quote, chars_at}
use Rattle.scalar_readers.proofs.CharLoops.{with_text}
use Rattle.scalar_readers.proofs.texts.characters.Given as goal

-- what was read and what is read of the rest is what is read of all
abbrev pub invariant-loop : goal.invariant-loop
invariant-loop l = with_text (string_bytes l.text) (up_to is_quote char_at (length l.bytes - l.counter) l.rest) ≡ chars_at l.bytes
