-- What the outside may do: files that are read whole, and sinks that are appended to.
use Rattle.std.specs.Prelude.{◌≡◌, ℕ, ◌+◌, ◌-◌, ◌^◌, ◌≤◌, ◌<◌, min, List, length, take, IfSome, ⊤}
use Rattle.std.specs.declared.option.Option.{Option}
use Rattle.std.specs.Io.KnownBytes.{Appends}
use Rattle.files_sinks.specs.declared.files.ReadAnswer.{ReadAnswer}
use Rattle.files_sinks.specs.declared.files.ReadAnswer.TheVariants as Read
use Rattle.files_sinks.specs.declared.sinks.WriteAnswer.{WriteAnswer}
use Rattle.files_sinks.specs.declared.sinks.WriteAnswer.TheVariants as Write

-- a count of faults rose, or stands at its end
abbrev pub Rose : ℕ → ℕ → Type 0
Rose before now = min (before + 1) (2 ^ 64 - 1) ≤ now

-- what is read of a file of which this is told: the told bytes, or that they pass the limit
abbrev pub Reads : Option (List ℕ) → ℕ → ReadAnswer → Type 0
Reads told limit (Read.Ok bytes) = (length bytes ≤ limit) × IfSome told (λ all. bytes ≡ all)
Reads told limit Read.TooLong = IfSome told (λ all. limit < length all)
Reads told limit Read.Failed = ⊤
Reads told limit Read.NoMemory = ⊤

-- a read fails only where the count rose, which never falls
abbrev pub ReadCause : ℕ → ℕ → ReadAnswer → Type 0
ReadCause before now answer = (before ≤ now) × (answer ≡ Read.Failed → Rose before now)

-- told bytes grow by a prefix of the piece
abbrev pub AppendsPrefix : Option (List ℕ) → Option (List ℕ) → List ℕ → Type 0
AppendsPrefix old new piece = (n : ℕ) × Appends old new (take n piece)

-- told bytes grow by the piece, or where the write fails by a prefix of it
abbrev pub Writes : Option (List ℕ) → Option (List ℕ) → List ℕ → WriteAnswer → Type 0
Writes old new piece Write.Ok = Appends old new piece
Writes old new piece Write.Failed = AppendsPrefix old new piece

-- a write fails only where the count rose, which never falls
abbrev pub WriteCause : ℕ → ℕ → WriteAnswer → Type 0
WriteCause before now answer = (before ≤ now) × (answer ≡ Write.Failed → Rose before now)
