-- What is answered of a candidate by small databases.
use Rattle.std.specs.Prelude.{◌≡◌, ◌⊎◌, ℕ, true, List, [], ◌∷◌, ⊤}
use Rattle.qbs_base.specs.Values.{Schema}
use Rattle.kernel_lang.specs.declared.prune.PruneAnswer.{PruneAnswer}
use Rattle.kernel_lang.specs.declared.prune.PruneAnswer.TheVariants as answers
use Rattle.kernel_lang.specs.Plain.{Fragment}
use Rattle.kernel_lang.specs.Refuted.{Refutes}
use Rattle.kernel_lang.specs.Typed.{is_typed}
use Rattle.small_dbs.specs.declared.small.SmallDb.{SmallDb}
use Rattle.small_dbs.specs.Small.{smalls}

-- one of these refutes the candidate
abbrev pub OneRefutes : Fragment → List ℕ → List SmallDb → Type 0
OneRefutes f c [] = ⊥
OneRefutes f c (small ∷ rest) = Refutes f c small.db small.entry ⊎ OneRefutes f c rest

-- the fragment fits, and one of its eight small databases refutes the candidate
pub record IsDropped (schema : Schema) (f : Fragment) (c : List ℕ) : Type 0 where
  pub typed : is_typed schema f ≡ true
  pub refuted : OneRefutes f c (smalls schema f)

-- Drop exactly where it is dropped, and else Keep
abbrev pub IsPruned : Schema → Fragment → List ℕ → PruneAnswer → Type 0
IsPruned schema f c answers.Drop = IsDropped schema f c
IsPruned schema f c answers.Keep = IsDropped schema f c → ⊥
IsPruned schema f c answers.NoMemory = ⊤
