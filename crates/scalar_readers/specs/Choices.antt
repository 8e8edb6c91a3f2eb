-- Readers of which the first decides what is read next, and readers that refuse some bytes at once.
use Rattle.std.specs.Prelude.{ℕ, Bool, ◌&&◌, nat_le, length, Option, Some, None, Ok, Err, if◌then◌else◌}
use Rattle.readers.specs.declared.fault.Fault.TheVariants.{Unexpected}
use Rattle.readers.specs.Reading.{◌>>=◌, either}
use Rattle.text_readers.specs.Bytes.{Reader}

-- one, and then the other, which may depend on what was read
abbrev pub and_then : {A B : Type 0} → Reader A → (A → Reader B) → Reader (A × B)
and_then r s ts = r ts >>= λ x. s x.0 x.1 >>= λ y. Ok ((x.0, y.0), y.1)

-- nothing is read here
abbrev pub refused : {A : Type 0} → Reader A
refused ts = Err (Unexpected (length ts))

-- nothing is read where the first byte passes
abbrev pub unless : {A : Type 0} → (ℕ → Bool) → Reader A → Reader A
unless test r ts = either test refused r ts

-- a byte from the first to the last of a range
abbrev pub between : ℕ → ℕ → ℕ → Option ℕ
between low high b = if nat_le low b && nat_le b high then Some b else None
