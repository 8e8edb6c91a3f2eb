-- Texts that are read back as the program of a canonical text.
use Rattle.std.proofs.Common.{◌≡◌, ℕ, List, Bool, true, false, Option, Some, None, Result, Ok, Err, IsTrue, is_some, sym, ap, subst, ◌∙◌, inr}
use Rattle.std.specs.Prelude.{◌↔◌, IfOk, IfSome, IsSomeAnd}
use Rattle.java_ast.specs.Reading.{program}
use Rattle.java_ast.specs.declared.tree.Program.{Program}
use Rattle.java_ast.specs.Tree.{PlainProgram}
use Rattle.java_ast.specs.Unplaced.{unplaced_program}
use Rattle.java_text.specs.Canonical.{canonical}
use Rattle.java_grammar.specs.InGrammar.{IsInGrammar}
use Rattle.java_grammar.specs.ReadBack.{IsReadBack}
use Rattle.java_grammar.specs.Written.{IsWritten}
use Rattle.java_grammar.proofs.Fitted.{printed_program_is_read_back}
use Rattle.java_grammar.proofs.Methods.{text_is_read_back}
use Rattle.kept_texts.specs.Kept.{IsTextFor}
use Rattle.kept_texts.specs.Programs.{HasProgram, HasOne}
use Rattle.kept_texts.proofs.Places.{same_text}

-- the program of a text, the same as this one but for places
pub record Found (text : List ℕ) (p : PlainProgram) : Type 0 where
  pub program : PlainProgram
  pub has : HasProgram text program
  pub same : unplaced_program program ≡ unplaced_program p

pub found : (text : List ℕ) (p : PlainProgram) → IsReadBack text p → Found text p
found text p h = record { program = h.read.program; has = record { tokens = h.tokens; lexed = h.lexed; has = h.read.has }; same = h.read.same }

-- a canonical text has its program, but for places
pub canonical_found : (text : List ℕ) (p : PlainProgram) → IsInGrammar p → IsWritten p → canonical p ≡ text → Found text p
canonical_found text p g w e = subst (λ (t : List ℕ). Found t p) e (found (canonical p) p (text_is_read_back p g w))

-- and so where the program was read
printed_found : (text printed : List ℕ) (q : PlainProgram) → HasProgram text q → canonical q ≡ printed → Found printed q
printed_found text printed q h e = subst (λ (t : List ℕ). Found t q) e (found (canonical q) q (printed_program_is_read_back text h.tokens q h.lexed h.has))

-- two programs whose canonical text has one program at most are the same but for places
pub is_read_back : (text printed : List ℕ) (p q : PlainProgram) → IsInGrammar p → IsWritten p → canonical p ≡ printed → HasProgram text q → canonical q ≡ printed → HasOne printed → IsReadBack text p
is_read_back text printed p q g w e h f one =
    let a : Found printed p = canonical_found printed p g w e in
    let b : Found printed q = printed_found text printed q h f in
    let same : unplaced_program q ≡ unplaced_program p = sym b.same ∙ (ap unplaced_program (one b.program a.program b.has a.has) ∙ a.same) in
    record { tokens = h.tokens; lexed = h.lexed; read = record { program = q; has = h.has; same = same } }

-- where the only program of a text has another canonical text, the text isn't read back
pub is_not_read_back : (text printed : List ℕ) (p q : PlainProgram) → canonical p ≡ printed → ((x : PlainProgram) → HasProgram text x → q ≡ x) → (canonical q ≡ printed → ⊥) → IsReadBack text p → ⊥
is_not_read_back text printed p q e only differs h =
    let a : Found text p = found text p h in
    differs (same_text q p (ap unplaced_program (only a.program a.has) ∙ a.same) ∙ e)

-- ---- What was read

module _ (text : List ℕ) (r : Option Program) (only : (x : PlainProgram) → HasProgram text x → IsSomeAnd r (λ p. program p ≡ x)) where
  pub no_program : r ≡ None → (x : PlainProgram) → HasProgram text x → ⊥
  no_program e x h = subst (λ (o : Option Program). IsSomeAnd o (λ p. program p ≡ x)) e (only x h)

  pub only_program : (q : Program) → r ≡ Some q → (x : PlainProgram) → HasProgram text x → program q ≡ x
  only_program q e x h = subst (λ (o : Option Program). IsSomeAnd o (λ p. program p ≡ x)) e (only x h)

pub one_program : (text : List ℕ) (r : Option Program) → ((x : PlainProgram) → HasProgram text x → IsSomeAnd r (λ p. program p ≡ x)) → HasOne text
one_program text None only p q h k = absurd (only p h)
one_program text (Some x) only p q h k = sym (only p h) ∙ only q k

pub some_program : (text : List ℕ) (r : Option Program) (b : Bool) → ((x : PlainProgram) → HasProgram text x → IsSomeAnd r (λ p. program p ≡ x)) → b ≡ is_some r → (x : PlainProgram) → HasProgram text x → IsTrue b
some_program text None b only e x h = absurd (only x h)
some_program text (Some q) b only e x h = e

pub read_program : (text : List ℕ) (r : Option Program) (q : Program) → IfSome r (λ p. HasProgram text (program p)) → r ≡ Some q → HasProgram text (program q)
read_program text r q h e = subst (λ (o : Option Program). IfSome o (λ p. HasProgram text (program p))) e h

-- ---- What is answered

no_truth : IsTrue false → ⊥
no_truth h = let e : false ≡ true = h in cc

-- whether a text is read back as each program of which another one is the canonical text
abbrev pub Tells : List ℕ → List ℕ → Bool → Type 0
Tells text printed b = (p : PlainProgram) → IsInGrammar p → IsWritten p → canonical p ≡ printed → IsTrue b ↔ IsReadBack text p

pub tells_none : (text printed : List ℕ) (r : Option Program) → ((x : PlainProgram) → HasProgram text x → IsSomeAnd r (λ p. program p ≡ x)) → r ≡ None → Tells text printed false
tells_none text printed r only e p g w f = (λ h. absurd (no_truth h), λ h. absurd (let a : Found text p = found text p h in no_program text r only e a.program a.has))

pub tells_other : (text printed : List ℕ) (r : Option Program) (q : Program) (b : Bool) → ((x : PlainProgram) → HasProgram text x → IsSomeAnd r (λ p. program p ≡ x)) → r ≡ Some q → IsTrue b ↔ (canonical (program q) ≡ printed) → b ≡ false
    → Tells text printed false
tells_other text printed r q b only e same f p g w is =
    let differs : canonical (program q) ≡ printed → ⊥ = λ k. no_truth (subst (λ (v : Bool). IsTrue v) f (same.1 k)) in
    (λ h. absurd (no_truth h), λ h. absurd (is_not_read_back text printed p (program q) is (only_program text r only q e) differs h))

pub tells_same : {E : Type 0} (text printed : List ℕ) (r : Option Program) (q : Program) (b : Bool) (result : Result Bool E) → IfSome r (λ p. HasProgram text (program p)) → r ≡ Some q → IsTrue b ↔ (canonical (program q) ≡ printed) → b ≡ true
    → ((x : PlainProgram) → HasProgram printed x → IfOk result (λ v. IsTrue v)) → IfOk result (λ v. HasOne printed) → IfOk result (Tells text printed)
tells_same text printed r q b (Err e) h is same t some one = tt
tells_same text printed r q b (Ok v) h is same t some one =
    λ p g w f. (
      λ k. is_read_back text printed p (program q) g w f (read_program text r q h is) (same.0 t) one,
      λ k. let a : Found printed p = canonical_found printed p g w f in some a.program a.has,
    )

-- ---- What is written

pub canonical_for : (text given printed lent out : List ℕ) (p : PlainProgram) (b : Bool) → IsInGrammar p → IsWritten p → Tells lent given b → lent ≡ text → given ≡ printed → printed ≡ canonical p → b ≡ false → out ≡ printed → IsTextFor text p out
canonical_for text given printed lent out p b g w tells e f is untold made =
    record {
      back = subst (λ (t : List ℕ). IsReadBack t p) (sym (made ∙ is)) (text_is_read_back p g w);
      is = inr (
        λ h. no_truth (subst (λ (v : Bool). IsTrue v) untold ((tells p g w (sym (f ∙ is))).1 (subst (λ (t : List ℕ). IsReadBack t p) (sym e) h))),
        made ∙ is,
      );
    }
