-- What verdicts say, apart from how they are come to.
use Rattle.std.specs.Prelude.{◌≡◌, ℕ, ◌<◌, ◌≤◌, List, length, slice_get}
use Rattle.std.specs.declared.option.Option.TheVariants.{Some, None}
use Rattle.kernel_lang.specs.Plain.{Fragment}
use Rattle.templates.specs.Numbered.{candidates_of}
use Rattle.query_search.specs.Verdicts.{Verdict, Found, NoneOf, Budget, proofs_of}

-- the candidate of this number, where there is one, isn't accepted
abbrev pub IsPassed : Fragment → ℕ → ℕ → Type 0
IsPassed f size j = (c : List ℕ) → slice_get (candidates_of f size) j ≡ Some c → proofs_of f c ≡ None

-- The first accepted candidate below the budget, or none of all, or none of the first ones, as many as the budget, which is smaller.
abbrev pub IsVerdict : Fragment → ℕ → ℕ → Verdict → Type 0
IsVerdict f size budget (Found h) =
    (h.k < budget) × (slice_get (candidates_of f size) h.k ≡ Some h.candidate) × (proofs_of f h.candidate ≡ Some h.proofs) × ((j : ℕ) → j < h.k → IsPassed f size j)
IsVerdict f size budget (NoneOf n) = (n ≡ length (candidates_of f size)) × (n ≤ budget) × ((j : ℕ) → IsPassed f size j)
IsVerdict f size budget (Budget b n) = (b ≡ budget) × (n ≡ length (candidates_of f size)) × (budget < n) × ((j : ℕ) → j < budget → IsPassed f size j)
