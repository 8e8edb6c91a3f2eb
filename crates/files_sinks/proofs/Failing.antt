-- A read of a name that may fail later could fail before.
use Rattle.std.proofs.Common.{◌≡◌, ◌≤◌, ◌<◌, ℕ, List, None, length, get_or, true, subst, inl, inr, arith}
use Rattle.std.proofs.lemmas.Bool.{eqb-true}
use lib.Dec.{eqb}
use Rattle.qbs_base.specs.Named.{at_name}
use Rattle.files_sinks.specs.Held.{Entry, MemFilesView, MayFail}

pub may_later : (s t : MemFilesView) (name : List ℕ) → t.files ≡ s.files → t.failing ≡ s.failing → s.calls ≤ t.calls → MayFail t name → MayFail s name
may_later s t name files failing le (inl e) = inl (subst (λ (es : List Entry). at_name es name ≡ None) files e)
may_later s t name files failing le (inr h) =
    inr (subst (λ (ns : List ℕ). (n : ℕ) × (n < length ns) × (s.calls ≤ get_or ns n 0)) failing (h.0, h.1, omega (arith, le, h.2)))

-- the call that is made is one that is to fail
pub may_now : (s : MemFilesView) (name : List ℕ) (failing : List ℕ) (call : ℕ) → failing ≡ s.failing → s.calls ≤ call → (n : ℕ) × (n < length failing) × ((other : ℕ) → eqb (get_or failing n other) call ≡ true) → MayFail s name
may_now s name failing call same le h =
    let is : get_or failing h.0 0 ≡ call = eqb-true (get_or failing h.0 0) call (h.2 0) in
    inr (subst (λ (ns : List ℕ). (n : ℕ) × (n < length ns) × (s.calls ≤ get_or ns n 0)) same (h.0, h.1, omega (arith, le, is)))
