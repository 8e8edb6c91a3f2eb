-- Bundles as plain lists: for each loop its place, the number of its candidate, and derivations.
use Rattle.std.specs.Prelude.{ℕ, List, map}
use Rattle.tor_axioms.specs.Accepts.{Proof, proof_of}
use Rattle.deriv_check.specs.declared.bundle.BundleEntry.{BundleEntry}

pub record Entry : Type 0 where
  pub line : ℕ
  pub column : ℕ
  pub k : ℕ
  pub proofs : List Proof

abbrev pub entry_of : BundleEntry → Entry
entry_of e = record { line = e.line; column = e.column; k = e.k; proofs = map proof_of e.proofs }

abbrev pub entries_of : List BundleEntry → List Entry
entries_of es = map entry_of es
