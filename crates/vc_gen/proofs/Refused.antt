-- Candidates that some database refutes have a condition without an accepted derivation.
use Rattle.std.proofs.Common.{◌≡◌, ℕ, List, [], None}
use Rattle.tor_axioms.specs.Accepts.{Proof}
use Rattle.kernel_lang.specs.Plain.{Fragment}
use Rattle.kernel_lang.specs.Refuted.{IsRefuted}
use Rattle.kernel_lang.specs.Validity.{broken}
use Rattle.kernel_lang.specs.Worked.{class_A}
use Rattle.kernel_lang.proofs.Refused.{worked}
use Rattle.kernel_lang.proofs.Refuting.{nothing_refuted}
use Rattle.vc_gen.specs.Conditions.{conditions}
use Rattle.vc_gen.specs.Soundness.{AllAccepted}
use Rattle.vc_gen.proofs.Accepted.{all-accepted-valid}
use Rattle.vc_gen.proofs.Ended.{fragment-ends}

pub refuted-not_derived : (f : Fragment) (c : List ℕ) (ds : List Proof) → broken f ≡ None → IsRefuted f c → AllAccepted (conditions f c) ds → ⊥
refuted-not_derived f c ds none r h = let b = r.refutes in b.differs (fragment-ends f c none (all-accepted-valid (conditions f c) ds h) r.db r.entry b.fit b.ends b.ended)

pub nothing-not_derived : (ds : List Proof) → AllAccepted (conditions class_A []) ds → ⊥
nothing-not_derived ds = refuted-not_derived class_A [] ds worked.selected nothing_refuted
