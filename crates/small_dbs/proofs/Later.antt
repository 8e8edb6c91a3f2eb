-- Candidates that small databases refute.
use Rattle.std.proofs.Common.{ℕ, List, [], ◌∷◌, inl, inr}
use Rattle.kernel_lang.specs.Plain.{Fragment}
use Rattle.kernel_lang.specs.Refuted.{IsRefuted}
use Rattle.small_dbs.specs.declared.small.SmallDb.{SmallDb}
use Rattle.small_dbs.specs.Pruned.{OneRefutes}

-- a candidate that one of them refutes
pub is_refuted : (f : Fragment) (c : List ℕ) (smalls : List SmallDb) → OneRefutes f c smalls → IsRefuted f c
is_refuted f c [] h = absurd h
is_refuted f c (small ∷ rest) (inl h) = record { db = small.db; entry = small.entry; refutes = h }
is_refuted f c (small ∷ rest) (inr h) = is_refuted f c rest h
