-- What a search says of a fragment: the first candidate in the stated order all of whose conditions derive, or that there is none,
-- or that so many were judged as may be.
use Rattle.std.specs.Prelude.{if◌then◌else◌, ℕ, suc, List, [], ◌∷◌, length, take, nat_le}
use Rattle.std.specs.declared.option.Option.{Option}
use Rattle.std.specs.declared.option.Option.TheVariants.{Some, None}
use Rattle.tor_axioms.specs.Accepts.{Proof, Claim}
use Rattle.tor_prover.specs.Derive.{derivation_of}
use Rattle.kernel_lang.specs.Plain.{Fragment}
use Rattle.kernel_lang.specs.Pools.{IsCandidateOf}
use Rattle.templates.specs.Numbered.{candidates_of}
use Rattle.vc_gen.specs.Conditions.{conditions}
use Rattle.vc_gen.specs.Soundness.{AllAccepted, EndsAnywhere}

abbrev pub with_derivation : Option Proof → Option (List Proof) → Option (List Proof)
with_derivation (Some d) (Some ds) = Some (d ∷ ds)
with_derivation (Some d) None = None
with_derivation None ds = None

-- the derivations of conditions, one for each, where each has one
unfoldable pub all_derived : List Claim → Option (List Proof)
all_derived [] = Some []
all_derived (c ∷ cs) = with_derivation (derivation_of c) (all_derived cs)

-- the derivations of a candidate's conditions: it is accepted where there are some
abbrev pub proofs_of : Fragment → List ℕ → Option (List Proof)
proofs_of f c = all_derived (conditions f c)

-- an accepted candidate, by its number, with its derivations
pub record Hit : Type 0 where
  pub k : ℕ
  pub candidate : List ℕ
  pub proofs : List Proof

abbrev pub or_later : ℕ → List ℕ → Option (List Proof) → Option Hit → Option Hit
or_later k c (Some ds) later = Some (record { k = k; candidate = c; proofs = ds })
or_later k c None later = later

-- the first accepted one of candidates, of which the first has the number k
unfoldable pub first_hit : Fragment → ℕ → List (List ℕ) → Option Hit
first_hit f k [] = None
first_hit f k (c ∷ cs) = or_later k c (proofs_of f c) (first_hit f (suc k) cs)

pub data Verdict : Type 0 where
  Found : Hit → Verdict
  NoneOf : ℕ → Verdict
  Budget : ℕ → ℕ → Verdict

-- none of those that may be judged was accepted, of n in all
abbrev pub without : ℕ → ℕ → Verdict
without budget n = if nat_le n budget then NoneOf n else Budget budget n

abbrev pub verdict_by : ℕ → ℕ → Option Hit → Verdict
verdict_by budget n (Some h) = Found h
verdict_by budget n None = without budget n

-- The verdict on a fragment: of its candidates of at most so many formulas the first ones are judged, as many as the budget.
unfoldable pub verdict : Fragment → ℕ → ℕ → Verdict
verdict f size budget = verdict_by budget (length (candidates_of f size)) (first_hit f 0 (take budget (candidates_of f size)))

-- how many candidates come before the answer
abbrev pub before : Verdict → ℕ
before (Found h) = h.k
before (NoneOf n) = n
before (Budget b n) = b

-- what acceptance gives: a candidate of the fragment with accepted derivations of its conditions, so that the fragment ends as it claims
pub record IsAcceptedFor (f : Fragment) (c : List ℕ) (ds : List Proof) : Type 0 where
  pub candidate : IsCandidateOf f c
  pub accepted : AllAccepted (conditions f c) ds
  pub ends : EndsAnywhere f c
