-- How deep and how long the parts of a program may be.
use Rattle.std.specs.Prelude.{ℕ, nat_le, if◌then◌else◌}

-- so many things may be open at a token
abbrev pub deepest : ℕ
deepest = 64

-- So many operators, or parts behind dots, a chain may have where so many more things may be open. Within the limits of a
-- program that is 64. Where more may be open than these limits let, it is 8192: canonical texts leave parentheses out, so that
-- a chain may be 62 chains of a program in one.
unfoldable pub longest : ℕ → ℕ
longest room = if nat_le room 64 then 64 else 8192
