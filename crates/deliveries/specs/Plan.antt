-- What is to be answered and written, and what is told of a call.
use Rattle.std.specs.Prelude.{ℕ, List, [], ◌++◌, codes}
use Rattle.std.specs.declared.option.Option.{Option}
use Rattle.qbs_base.specs.declared.status.Status.{Status}
use Rattle.files_sinks.specs.Outside.{Rose}
use Rattle.verdicts.specs.Lines.{line}
use Rattle.deliveries.specs.declared.plan.Plan.{Plan}

-- nothing for the output, and one line for the report
abbrev pub refusal : Status → List ℕ → Plan
refusal status text = record { status = status; out = []; rep = line text }

abbrev pub no_memory : Plan
no_memory = refusal Status.NoMemory (codes "qbs: memory")

abbrev pub not_yet : Plan
not_yet = refusal Status.NotYet (codes "qbs: not yet")

abbrev pub bad_words : Plan
bad_words = refusal Status.Words (codes "qbs: words")

abbrev pub read_fault : List ℕ → Plan
read_fault name = refusal Status.ReadFault (codes "qbs: read " ++ name)

abbrev pub too_long : List ℕ → Plan
too_long label = refusal Status.Limit (codes "qbs: limit: " ++ label)

-- a read of a name failed in a call: the files' faults rose, and before the call a read of it could fail
abbrev pub Failed : {D : Type 0} → (D → ℕ) → (D → List ℕ → Type 0) → D → D → List ℕ → Type 0
Failed faults may_fail old new name = Rose (faults old) (faults new) × may_fail old name

-- the files of a call: what is told of them, and of which names a read may have failed in the call
pub record Given : Type 1 where
  pub told : List ℕ → Option (List ℕ)
  pub failed : List ℕ → Type 0

abbrev pub given : {D : Type 0} → (D → List ℕ → Option (List ℕ)) → (D → ℕ) → (D → List ℕ → Type 0) → D → D → Given
given told faults may_fail old new = record { told = told old; failed = Failed faults may_fail old new }
