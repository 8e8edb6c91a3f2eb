-- What public readers of whole texts answer, of which each fault has its place in the bytes.
use Rattle.std.specs.Prelude.{◌≡◌, ◌-◌, ℕ, List, Result, Ok, Err}
use Rattle.readers.specs.declared.fault.Fault.{Fault}
use Rattle.readers.specs.declared.fault.Fault.TheVariants.{Unexpected, TooDeep}
use Rattle.qbs_base.specs.declared.memory.Fail.{Fail}
use Rattle.qbs_base.specs.declared.memory.Fail.TheVariants as fails
use Rattle.text_readers.specs.Offsets.{IsOffset}

-- a member of the grammar is answered, unless memory ran out
abbrev pub IsOnly : {X A E : Type 0} → (X → A) → Result X (Fail E) → A → Type 0
IsOnly view (Ok x) a = view x ≡ a
IsOnly view (Err (fails.Fault fault)) a = ⊥
IsOnly view (Err fails.NoMemory) a = Unit {0}

-- the place of a fault is that of the first one
abbrev pub IsRightFault : {A E : Type 0} → (E → ℕ) → (List ℕ → A → Type 0) → List ℕ → Fail E → Type 0
IsRightFault place Has bytes (fails.Fault fault) = IsOffset Has bytes (place fault)
IsRightFault place Has bytes fails.NoMemory = Unit {0}

-- ---- the same of a reading function

abbrev pub left_of : Fault → ℕ
left_of (Unexpected n) = n
left_of (TooDeep n) = n

abbrev pub AnswersAt : {X A E : Type 0} → (E → ℕ) → (X → A) → ℕ → Result X (Fail E) → Result A Fault → Type 0
AnswersAt place view count (Ok x) read = read ≡ Ok (view x)
AnswersAt place view count (Err (fails.Fault fault)) read = (f : Fault) × (read ≡ Err f) × (place fault ≡ count - left_of f)
AnswersAt place view count (Err fails.NoMemory) read = Unit {0}
