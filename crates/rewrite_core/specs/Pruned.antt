-- How many candidates were dropped in the searches of loops that were tried.
use Rattle.std.specs.Prelude.{◌≡◌, ℕ, ◌+◌, List, [], ◌∷◌}
use Rattle.kernel_lang.specs.Plain.{Fragment}
use Rattle.query_search.specs.Asking.{OfCandidate}
use Rattle.query_search.specs.Counted.{AreCounted}
use Rattle.query_search.specs.Verdicts.{before}
use Rattle.rewrite_core.specs.Trying.{Answer, Outside, Searched, Tried}

-- so many of the candidates before an answer were dropped: each of them may be, and each other one may be kept
abbrev pub IsPrunedBy : (drops keeps : Fragment → List ℕ → Type 0) → ℕ → Answer → ℕ → Type 0
IsPrunedBy drops keeps size (Searched f v) n = AreCounted (OfCandidate f size (drops f)) (OfCandidate f size (keeps f)) 0 (before v) n
IsPrunedBy drops keeps size (Outside b) n = n ≡ 0

-- the sum of such numbers, one for each loop that was tried
abbrev pub ArePruned : (drops keeps : Fragment → List ℕ → Type 0) → ℕ → List Tried → ℕ → Type 0
ArePruned drops keeps size [] n = n ≡ 0
ArePruned drops keeps size (t ∷ ts) n = (m : ℕ) × (rest : ℕ) × IsPrunedBy drops keeps size t.answer m × ArePruned drops keeps size ts rest × (n ≡ m + rest)
