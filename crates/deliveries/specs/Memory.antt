-- What is answered where memory runs out before any word is read.
use Rattle.std.specs.Prelude.{◌≡◌, ◌⊎◌, ℕ, List, codes}
use Rattle.std.specs.declared.option.Option.{Option}
use Rattle.std.specs.Io.KnownBytes.{Appends}
use Rattle.files_sinks.specs.Outside.{AppendsPrefix}
use Rattle.qbs_base.specs.declared.status.Status.{Status}

-- the line of want of memory
abbrev pub line : List ℕ
line = codes "qbs: memory\n"

-- the report grew by the line; or a write failed, and it grew by a prefix of the line
abbrev pub RefusesForMemory : Option (List ℕ) → Option (List ℕ) → Type 0 → Status → Type 0
RefusesForMemory old new rose result =
    ((result ≡ Status.NoMemory) × Appends old new line)
    ⊎ ((result ≡ Status.WriteFault) × rose × AppendsPrefix old new line)
