-- How a plan is written.
use Rattle.std.specs.Prelude.{◌≡◌, ◌⊎◌, ℕ, List, [], ◌∷◌}
use Rattle.std.specs.declared.option.Option.{Option}
use Rattle.std.specs.Io.KnownBytes.{Appends}
use Rattle.files_sinks.specs.Outside.{AppendsPrefix, Rose}
use Rattle.qbs_base.specs.declared.status.Status.{Status}
use Rattle.deliveries.specs.declared.plan.Plan.{Plan}

-- a sink in a call: what it told before and tells after, that its faults rose, that it is as it was, and that one write of a piece left it so
pub record Change : Type 1 where
  pub old : Option (List ℕ)
  pub new : Option (List ℕ)
  pub rose : Type 0
  pub same : Type 0
  pub once : List ℕ → Type 0

abbrev pub change : {D : Type 0} → (D → Option (List ℕ)) → (D → ℕ) → (D → List ℕ → D → Type 0) → D → D → Change
change told faults by_write old new =
    record { old = told old; new = told new; rose = Rose (faults old) (faults new); same = new ≡ old; once = λ piece. by_write old piece new }

-- a piece is sent by one write, and an empty one by none
abbrev pub IsSent : Change → List ℕ → Type 0
IsSent sink [] = sink.same
IsSent sink (b ∷ bs) = sink.once (b ∷ bs)

-- the write of a piece that isn't empty failed
abbrev pub FailsToSend : Change → List ℕ → Type 0
FailsToSend sink [] = ⊥
FailsToSend sink (b ∷ bs) = sink.rose × sink.once (b ∷ bs)

-- the output is cut short and the report is not begun, or all of the output is written and the report is cut short
abbrev pub IsCut : Plan → Change → Change → Type 0
IsCut plan out rep =
    (FailsToSend out plan.out × AppendsPrefix out.old out.new plan.out × rep.same × Appends rep.old rep.new [])
    ⊎ (IsSent out plan.out × Appends out.old out.new plan.out × FailsToSend rep plan.rep × AppendsPrefix rep.old rep.new plan.rep)

-- both texts are written, or a write failed
abbrev pub Delivers : Plan → Change → Change → Status → Type 0
Delivers plan out rep result =
    ((result ≡ plan.status) × Appends out.old out.new plan.out × Appends rep.old rep.new plan.rep × IsSent out plan.out × IsSent rep plan.rep)
    ⊎ ((result ≡ Status.WriteFault) × IsCut plan out rep)
