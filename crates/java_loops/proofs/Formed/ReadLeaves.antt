-- The formula of a leaf, from the number of its atom.
use Rattle.std.proofs.Common.{◌≡◌, ℕ, Bool, false, Some, None, sym, ap, ◌∙◌, cond}
use Rattle.java_ast.specs.Tree.{Expression}
use Rattle.tor_terms.specs.Plain.{Is}
use Rattle.tor_terms.specs.Same.{same_flag}
use Rattle.loop_text.specs.Kernel.KernelConditions.{is_excepted}
use Rattle.java_loops.specs.Lowering.Numbering.{Numbers, Reading, number_where, reading_of, same_atom, said, leaf_form}
use Rattle.java_loops.specs.Kernel.Setting.{Setting}

pub leaf_read : (w : Setting) (t : Numbers) (n : ℕ) (holds : Bool) (e : Expression) (b : Bool) (r : Reading) (number : ℕ) (truth : Bool) → b ≡ is_excepted w.sites n e → b ≡ false → r ≡ reading_of w t.entries t.known n e → number ≡ number_where (same_atom r.atom) t.atoms → truth ≡ same_flag holds r.holds → Some (Is number truth) ≡ leaf_form w t n holds e
leaf_read w t n holds e b r number truth excepted fails read numbered said_so =
    ap (λ (k : ℕ). Some (Is k truth)) numbered
    ∙ ap (λ (c : Bool). Some (Is (number_where (same_atom r.atom) t.atoms) c)) said_so
    ∙ ap (λ (q : Reading). Some (said t.atoms holds q)) read
    ∙ sym (ap (λ (c : Bool). cond c None (Some (said t.atoms holds (reading_of w t.entries t.known n e)))) (sym excepted ∙ fails))
