-- What answers of the code say.
use Rattle.std.specs.Prelude.{ℕ, List, map}
use Rattle.tor_axioms.specs.declared.derivation.Derivation.{Derivation}
use Rattle.tor_axioms.specs.Accepts.{Proof, proof_of}
use Rattle.kernel_lang.specs.Plain.{Fragment}
use Rattle.query_search.specs.declared.found.Found.{Found}
use Rattle.query_search.specs.declared.found.Found.TheVariants as found
use Rattle.query_search.specs.declared.walk.Accepted.{Accepted}
use Rattle.query_search.specs.Verdicts as verdicts
use Rattle.query_search.specs.Verdicts.{Hit, Verdict, IsAcceptedFor}

abbrev pub proofs_in : List Derivation → List Proof
proofs_in ds = map proof_of ds

abbrev pub hit_in : Accepted → Hit
hit_in a = record { k = a.k; candidate = a.cand; proofs = proofs_in a.proofs }

abbrev pub verdict_in : Found → Verdict
verdict_in (found.Found k cand proofs dropped) = verdicts.Found (record { k = k; candidate = cand; proofs = proofs_in proofs })
verdict_in (found.NoneOf n dropped) = verdicts.NoneOf n
verdict_in (found.Budget b n dropped) = verdicts.Budget b n

abbrev pub dropped_in : Found → ℕ
dropped_in (found.Found k cand proofs dropped) = dropped
dropped_in (found.NoneOf n dropped) = dropped
dropped_in (found.Budget b n dropped) = dropped

-- what is found is accepted
abbrev pub IsFoundOf : Fragment → Found → Type 0
IsFoundOf f (found.Found k cand proofs dropped) = IsAcceptedFor f cand (proofs_in proofs)
IsFoundOf f (found.NoneOf n dropped) = Unit {0}
IsFoundOf f (found.Budget b n dropped) = Unit {0}
