-- The candidates over a pool, as one plain list: the increasing lists of numbers of its formulas.
use Rattle.std.specs.Prelude.{ℕ, zero, suc, List, [], ◌∷◌, ◌++◌, length, map}
use Rattle.kernel_lang.specs.Plain.{Fragment}
use Rattle.kernel_lang.specs.Pools.{RisesWithin, combined_pool}

-- the increasing lists of n of the `left` numbers that begin with `first`, in lexicographic order
unfoldable pub increasing : ℕ → ℕ → ℕ → List (List ℕ)
increasing first left zero = [] ∷ []
increasing first zero (suc n) = []
increasing first (suc left) (suc n) = map (λ c. first ∷ c) (increasing (suc first) left n) ++ increasing (suc first) left (suc n)

-- those of at most `size` numbers below `pool`, by length and then lexicographically
unfoldable pub candidates : ℕ → ℕ → List (List ℕ)
candidates pool zero = increasing 0 pool 0
candidates pool (suc size) = candidates pool size ++ increasing 0 pool (suc size)

-- those of a fragment, over its combined pool
abbrev pub candidates_of : Fragment → ℕ → List (List ℕ)
candidates_of f size = candidates (length (combined_pool f)) size

-- a candidate over a pool of this size: strictly increasing numbers below it
abbrev pub IsCandidate : ℕ → List ℕ → Type 0
IsCandidate pool c = RisesWithin 0 pool c
