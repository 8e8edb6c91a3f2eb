-- Want of memory among the ways to fail, and answers that it may stand in for.
use Rattle.std.specs.Prelude.{◌≡◌, Result, Ok, Err}
use Rattle.qbs_base.specs.declared.memory.Fail.{Fail}
use Rattle.qbs_base.specs.declared.memory.Fail.TheVariants as fails

abbrev pub IsNoMemory : {F : Type 0} → Fail F → Type 0
IsNoMemory (fails.Fault f) = ⊥
IsNoMemory fails.NoMemory = Unit {0}

-- it failed for this reason, or memory ran out
abbrev pub FailsBy : {A F : Type 0} → Fail F → Result A F → Type 0
FailsBy (fails.Fault f) due = due ≡ Err f
FailsBy fails.NoMemory due = Unit {0}

-- what was answered is what is due, or memory ran out
abbrev pub Answers : {A F : Type 0} → Result A (Fail F) → Result A F → Type 0
Answers (Ok x) due = due ≡ Ok x
Answers (Err e) due = FailsBy e due

-- the same of an answer that is seen by `view`, and of a fault that is seen by `of`
abbrev pub AnswersBy : {X Y F G : Type 0} → (X → Y) → (F → G) → Result X (Fail F) → Result Y G → Type 0
AnswersBy view of (Ok x) due = due ≡ Ok (view x)
AnswersBy view of (Err (fails.Fault f)) due = due ≡ Err (of f)
AnswersBy view of (Err fails.NoMemory) due = Unit {0}
