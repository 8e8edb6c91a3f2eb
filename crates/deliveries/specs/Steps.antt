-- A command as a predicate on the plans that it may end with, made of steps.
use Rattle.std.specs.Prelude.{◌≡◌, ℕ, ◌<◌, ◌≤◌, ◌⊎◌, List, length, IfSome}
use Rattle.deliveries.specs.declared.plan.Plan.{Plan}
use Rattle.deliveries.specs.Plan.{Given, read_fault, too_long}

abbrev pub Ends : Type 1
Ends = Plan → Type 0

-- the command ends with this plan
abbrev pub ends : Plan → Ends
ends due plan = plan ≡ due

-- it is stopped with a plan, or something is so, and it goes on
abbrev pub step : {B : Type 0} → (B → Type 0) → Ends → (B → Ends) → Ends
step Is Stops next plan = Stops plan ⊎ ((b : _) × Is b × next b plan)

-- something is so, or it is lacking, and this refusal is due
abbrev pub refused : {F : Type 0} → (F → Type 0) → (F → Plan) → Ends
refused Lacks refusal plan = (f : _) × Lacks f × (plan ≡ refusal f)

abbrev pub finds : {B F : Type 0} → (B → Type 0) → (F → Type 0) → (F → Plan) → (B → Ends) → Ends
finds Is Lacks refusal next = step Is (refused Lacks refusal) next

-- ---- A file

-- a file has these bytes, as far as it is told, and no more than a limit
abbrev pub IsRead : Given → List ℕ → ℕ → List ℕ → Type 0
IsRead files name limit bytes = (length bytes ≤ limit) × IfSome (files.told name) (λ all. bytes ≡ all)

-- a read of it failed, or it has more than the limit, which has a name
abbrev pub IsNotRead : Given → List ℕ → ℕ → List ℕ → Ends
IsNotRead files name limit label plan =
    (files.failed name × (plan ≡ read_fault name)) ⊎ (IfSome (files.told name) (λ all. limit < length all) × (plan ≡ too_long label))

abbrev pub reads : Given → List ℕ → ℕ → List ℕ → (List ℕ → Ends) → Ends
reads files name limit label next = step (IsRead files name limit) (IsNotRead files name limit label) next
