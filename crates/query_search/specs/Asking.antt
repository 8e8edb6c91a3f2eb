-- What calls about a candidate may answer.
use Rattle.std.specs.Prelude.{◌≡◌, ℕ, List, slice_get, ◌⊎◌}
use Rattle.std.specs.Borrow.{Bor}
use Rattle.std.specs.List.{AllByRecursion}
use Rattle.std.specs.declared.option.Option.TheVariants.{Some}
use Rattle.kernel_lang.specs.declared.fragment.KFragment.{KFragment}
use Rattle.kernel_lang.specs.declared.prune.PruneAnswer.{PruneAnswer}
use Rattle.kernel_lang.specs.declared.prune.PruneAnswer.TheVariants.{Keep, Drop}
use Rattle.kernel_lang.specs.Plain.{Fragment}
use Rattle.templates.specs.Numbered.{candidates_of}
use Rattle.query_search.specs.Counted.{OneIs}

-- what a closure promises of a call at references to a fragment and a candidate
abbrev pub Promise : Type 1
Promise = Bor KFragment → Bor (List ℕ) → PruneAnswer → Type 0

-- By its promise the call may answer so about a candidate of a fragment, of which this is read.
abbrev pub MayAnswer : {A : Type 0} → (KFragment → A) → Promise → A → PruneAnswer → List ℕ → Type 0
MayAnswer read post f answer c = (at : Bor KFragment) × (of : Bor (List ℕ)) × post at of answer × (read at.now ≡ f) × (of.now ≡ c)

-- a fragment as code has it
abbrev pub as_it_is : KFragment → KFragment
as_it_is f = f

-- some pruner may drop the candidate
abbrev pub OneMayDrop : {A P : Type 0} → (KFragment → A) → (P → Promise) → List P → A → List ℕ → Type 0
OneMayDrop read post pruners f c = OneIs (λ p. MayAnswer read (post p) f Drop c) pruners

-- each pruner may keep it
abbrev pub AllMayKeep : {A P : Type 0} → (KFragment → A) → (P → Promise) → List P → A → List ℕ → Type 0
AllMayKeep read post pruners f c = AllByRecursion (λ p. MayAnswer read (post p) f Keep c) pruners

-- some pruner may drop the candidate, one further counted among them
abbrev pub SomeMayDrop : {A P : Type 0} → (KFragment → A) → (P → Promise) → List P → Promise → A → List ℕ → Type 0
SomeMayDrop read post pruners further f c = OneMayDrop read post pruners f c ⊎ MayAnswer read further f Drop c

-- each pruner may keep it, and so may the one further
abbrev pub EachMayKeep : {A P : Type 0} → (KFragment → A) → (P → Promise) → List P → Promise → A → List ℕ → Type 0
EachMayKeep read post pruners further f c = AllMayKeep read post pruners f c × MayAnswer read further f Keep c

-- something is so of the candidate of this number
abbrev pub OfCandidate : Fragment → ℕ → (List ℕ → Type 0) → ℕ → Type 0
OfCandidate f size Is k = (c : List ℕ) × (slice_get (candidates_of f size) k ≡ Some c) × Is c
