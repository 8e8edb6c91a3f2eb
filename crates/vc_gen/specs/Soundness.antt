-- What valid conditions promise of a fragment.
use Rattle.std.specs.Prelude.{◌≡◌, ℕ, true, List, [], ◌∷◌}
use Rattle.std.specs.List.{AllByRecursion}
use Rattle.std.specs.declared.option.Option.TheVariants.{Some}
use Rattle.qbs_base.specs.declared.scalar.Value.{Value}
use Rattle.qbs_base.specs.Values.{Database}
use Rattle.tor_axioms.specs.Accepts.{Proof, Claim, accepts, IsSound}
use Rattle.tor_axioms.specs.Validity.{IsValid, IsValidAnywhere}
use Rattle.kernel_lang.specs.declared.parts.Entry.{Entry}
use Rattle.kernel_lang.specs.Fitting.{PartsFit}
use Rattle.kernel_lang.specs.Plain.{Fragment}
use Rattle.kernel_lang.specs.Postcondition.{postconditions}
use Rattle.kernel_lang.specs.Running.{fragment_end}

-- in the environments that the terms of each fit
abbrev pub AllValid : List Claim → Type 0
AllValid cs = AllByRecursion IsValid cs

-- each accumulator that stands outside all loops ends with what its postcondition says, if no count or
-- sum leaves 64 bits
abbrev pub EndsOn : Fragment → List ℕ → Database → Entry → Type 0
EndsOn f c db entry = (ends : List Value) → fragment_end f db entry ≡ Some ends → ends ≡ postconditions f c db entry

-- on every database, entry values and known lists that the fragment's parts fit
abbrev pub EndsAsClaimed : Fragment → List ℕ → Type 0
EndsAsClaimed f c = (db : Database) (entry : Entry) → PartsFit f db entry → EndsOn f c db entry

-- ---- where nothing needs to fit

abbrev pub AllValidAnywhere : List Claim → Type 0
AllValidAnywhere cs = AllByRecursion IsValidAnywhere cs

abbrev pub EndsAnywhere : Fragment → List ℕ → Type 0
EndsAnywhere f c = (db : Database) (entry : Entry) → EndsOn f c db entry

-- ---- how conditions are known to be valid

-- as the checker of derivations says of each
abbrev pub AllSound : List Claim → Type 0
AllSound cs = AllByRecursion IsSound cs

-- each has an accepted derivation, in the same order
abbrev pub AllAccepted : List Claim → List Proof → Type 0
AllAccepted [] [] = Unit {0}
AllAccepted (c ∷ cs) (d ∷ ds) = (accepts c d ≡ true) × AllAccepted cs ds
AllAccepted _ _ = ⊥
