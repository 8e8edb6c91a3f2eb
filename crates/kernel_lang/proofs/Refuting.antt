-- A worked candidate that a database refutes.
use Rattle.std.proofs.Common.{◌≡◌, ℕ, zero, suc, ◌<◌, [], ◌∷◌, Some, IsTrue, slice_get, lit<, refl, subst, arith}
use Rattle.std.specs.Prelude.{slice_index_or}
use Rattle.std.specs.List.{Contains}
use Rattle.qbs_base.specs.declared.scalar.Row.{Row}
use Rattle.qbs_base.specs.declared.scalar.Ty.TheVariants as tys
use Rattle.qbs_base.specs.declared.scalar.Value.TheVariants as values
use Rattle.kernel_lang.specs.Fitting.{PartsFit, of_one_variant}
use Rattle.kernel_lang.specs.Refuted.{Refutes, IsRefuted}
use Rattle.kernel_lang.specs.Worked.{long, bob, bob_alone, nothing, class_A}

only_one : (r s : Row) → Contains (r ∷ []) s → r ≡ s
only_one r s h = go h.0 h.1 h.2
  where
    go : (k : ℕ) → k < 1 → slice_index_or (r ∷ []) k s ≡ s → r ≡ s
    go zero l e = e
    go (suc k) l e = absurd (omega arith)

role_is_number : (r : Row) → bob ≡ r → IsTrue (of_one_variant (slice_get r.cells 2) (Some (long 2)))
role_is_number r e = subst (λ s. IsTrue (of_one_variant (slice_get s.cells 2) (Some (long 2)))) e refl

parts_fit : PartsFit class_A bob_alone nothing
parts_fit =
    record {
      tables = (lit< tt, tt);
      columns = ((tys.Long, (refl, tt)), tt);
      tests = ((λ rows h. role_is_number (rows 0) (only_one bob (rows 0) h.0)), tt);
      numbers = (tt, tt);
      known = refl;
      values = tt;
    }

pub bob_refutes : Refutes class_A [] bob_alone nothing
bob_refutes = record { ends = values.Many [] ∷ []; fit = parts_fit; ended = refl; differs = λ e. (let same : values.Many [] ∷ [] ≡ values.Many (bob ∷ []) ∷ [] = e in absurd cc) }

pub nothing_refuted : IsRefuted class_A []
nothing_refuted = record { db = bob_alone; entry = nothing; refutes = bob_refutes }
