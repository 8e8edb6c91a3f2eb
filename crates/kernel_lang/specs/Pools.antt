-- Pools of formulas, candidates over them, and what a candidate chooses for each accumulator.
use Rattle.std.specs.Prelude.{if◌then◌else◌, ℕ, suc, ◌+◌, ◌<◌, ◌≤◌, Bool, not, ◌&&◌, ◌||◌, List, [], ◌∷◌, ◌++◌, length, nat_eq}
use Rattle.std.specs.List.{filter, flat_map, list_any}
use Rattle.tor_terms.specs.declared.term.Atom.{Atom}
use Rattle.tor_terms.specs.Plain.{Form, Is, Both, Either}
use Rattle.tor_terms.specs.Same.{entered}
use Rattle.tor_terms.specs.Truth.{form_within}
use Rattle.kernel_lang.specs.Plain.{Accumulator, Fragment}
use Rattle.kernel_lang.specs.Validity.{reads_no_flag}

abbrev pub conjuncts : Form → List Form
conjuncts (Is k s) = Is k s ∷ []
conjuncts (Both f g) = conjuncts f ++ conjuncts g
conjuncts (Either f g) = Either f g ∷ []

-- the opposite, without a negation
abbrev pub negated : Form → Form
negated (Is k s) = Is k (not s)
negated (Both f g) = Either (negated f) (negated g)
negated (Either f g) = Both (negated f) (negated g)

-- each one and its opposite, where they aren't there yet
abbrev pub all_entered : List Form → List Form → List Form
all_entered pool [] = pool
all_entered pool (f ∷ fs) = all_entered (entered (entered pool f) (negated f)) fs

-- a conjunct may enter the pool of an accumulator with this chain and base
abbrev pub may_enter : List Atom → List ℕ → ℕ → Form → Bool
may_enter atoms chain base f = form_within atoms chain f && (nat_eq base 0 || reads_no_flag atoms f)

-- the pool of an accumulator of a fragment whose `if`s have these conditions, in the order of the text
abbrev pub pool_of : List Atom → List Form → List ℕ → ℕ → List Form
pool_of atoms conditions chain base = all_entered [] (filter (may_enter atoms chain base) (flat_map conjuncts conditions))

-- the pools of the accumulators, one after the other
abbrev pub pooled : List Accumulator → List Form
pooled [] = []
pooled (a ∷ rest) = a.pool ++ pooled rest

abbrev pub combined_pool : Fragment → List Form
combined_pool f = pooled f.accs

-- strictly increasing numbers from `first` on, below `end`
abbrev pub RisesWithin : ℕ → ℕ → List ℕ → Type 0
RisesWithin first end [] = Unit {0}
RisesWithin first end (n ∷ ns) = (first ≤ n) × (n < end) × RisesWithin (suc n) end ns

-- a candidate of a fragment: strictly increasing numbers of formulas of its combined pool
abbrev pub IsCandidateOf : Fragment → List ℕ → Type 0
IsCandidateOf f c = RisesWithin 0 (length (combined_pool f)) c

-- those of a pool whose numbers stand in the candidate; the first one has the number n
abbrev pub chosen : List ℕ → ℕ → List Form → List Form
chosen c n [] = []
chosen c n (f ∷ fs) = if list_any (nat_eq n) c then f ∷ chosen c (suc n) fs else chosen c (suc n) fs

-- an accumulator with its choice
abbrev pub Member : Type 0
Member = Accumulator × List Form

abbrev pub members_from : List ℕ → ℕ → List Accumulator → List Member
members_from c n [] = []
members_from c n (a ∷ rest) = (a, chosen c n a.pool) ∷ members_from c (n + length a.pool) rest

abbrev pub members : Fragment → List ℕ → List Member
members f c = members_from c 0 f.accs
