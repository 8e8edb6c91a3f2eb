-- Statements at the numbers of the kept ones are the kept statements.
use Rattle.std.proofs.Common.{◌≡◌, ℕ, zero, suc, ◌-◌, ◌≤◌, ◌||◌, List, [], ◌∷◌, Option, Some, refl, sym, ap, ◌∙◌, subst, cond, arith}
use Rattle.std.proofs.lemmas.Bool.{eq-eqb}
use Rattle.qbs_base.specs.Values.{Schema}
use Rattle.sql_ast.specs.Tree.{PlainQuery}
use Rattle.java_ast.specs.Path.{and_then, numbered}
use Rattle.java_ast.specs.Tree.{Statement, Statements, Then, PlainProgram}
use Rattle.java_loops.specs.Kernel.Kernel.{setting_at, types_at}
use Rattle.java_loops.specs.Kernel.Setting.{Setting}
use Rattle.java_loops.specs.Lowering.Lowered.{Lowering}
use Rattle.java_ast.specs.Names.{names_read, Names}
use Rattle.java_loops.specs.Meant.Lowers.{IsLowered}
use Rattle.java_loops.proofs.Kept.KeptPath.{setting_fragment}
use Rattle.java_loops.proofs.Kept.KeptRuns.{AreFrom, numbers_from, none_there, earlier_number}
use Rattle.loop_text.specs.Sites.Sites.{has_number}
use Rattle.loop_text.specs.Statements.Fragment.{Fragment, fragment_at}
use Rattle.loop_text.specs.Statements.KeptStatements.{AreKept, none, keeps, drops, with_numbers}
use Rattle.loop_places.specs.AtNumbers.{alone, at_numbers}
use Rattle.loop_places.specs.RunsThere.{run_or_nothing}

-- ---- At the numbers of the kept statements

one_less : (n m : ℕ) → suc n ≤ m → m - n ≡ suc (m - suc n)
one_less n m h = omega arith

zero_less : (n : ℕ) → n - n ≡ zero
zero_less n = omega arith

-- numbers behind that of the first statement pass over it
passes : (n : ℕ) (s : Statement) (ss : Statements) (numbers : List ℕ) → AreFrom (suc n) numbers → at_numbers n (Then s ss) numbers ≡ at_numbers (suc n) ss numbers
passes n s ss [] h = refl
passes n s ss (m ∷ ms) h =
    ap (λ (j : ℕ). and_then (alone (numbered j (Then s ss))) (at_numbers n (Then s ss) ms)) (one_less n m h.0)
    ∙ ap (and_then (alone (numbered (m - suc n) ss))) (passes n s ss ms h.1)

kept_found : (f : Fragment) (further : Names) (n : ℕ) (p : Statements) (numbers : List ℕ) → AreKept f further n p numbers → at_numbers n p numbers ≡ with_numbers numbers n p
kept_found f further _ _ _ (none n) = refl
kept_found f further _ _ _ (keeps n s ss numbers k h) =
    ap (λ (j : ℕ). and_then (alone (numbered j (Then s ss))) (at_numbers n (Then s ss) numbers)) (zero_less n)
    ∙ ap (Then s) (passes n s ss numbers (numbers_from f further (suc n) ss numbers h) ∙ kept_found f further (suc n) ss numbers h ∙ sym (earlier_number numbers n (suc n) ss (omega arith)))
    ∙ sym (ap (λ b. cond (b || has_number numbers n) (Then s (with_numbers (n ∷ numbers) (suc n) ss)) (with_numbers (n ∷ numbers) (suc n) ss)) (eq-eqb n n refl))
kept_found f further _ _ _ (drops n s ss numbers k h) =
    passes n s ss numbers (numbers_from f further (suc n) ss numbers h)
    ∙ kept_found f further (suc n) ss numbers h
    ∙ sym (ap (λ b. cond b (Then s (with_numbers numbers (suc n) ss)) (with_numbers numbers (suc n) ss)) (none_there n numbers (numbers_from f further (suc n) ss numbers h)))

-- ---- In a program

same_setting : (o : Option Setting) (v w : Setting) → o ≡ Some v → o ≡ Some w → v ≡ w
same_setting o v w e h = cc

module _ (schema : Schema) (read : List ℕ → Option PlainQuery) (p : PlainProgram) (path : List ℕ) (l : Lowering) (first : ℕ) (kept : List ℕ) (k : IsLowered schema read p path l first kept) (w : Setting) (is : setting_at schema read path p ≡ Some w) where
  fragment_is : fragment_at path p ≡ Some w.fragment
  fragment_is = setting_fragment schema read p path w (types_at schema path p) (fragment_at path p) refl is

  kept_is : AreKept w.fragment (names_read l.entries) first w.fragment.run kept
  kept_is = subst (λ (v : Setting). AreKept v.fragment (names_read l.entries) first v.fragment.run kept) (same_setting (setting_at schema read path p) k.setting w k.there is) k.keeps

  -- those that are found in the run are kept
  pub run_kept : (ss : Statements) → ss ≡ at_numbers first (run_or_nothing (fragment_at path p)) kept → ss ≡ with_numbers kept first w.fragment.run
  run_kept ss found =
      found ∙ ap (λ (o : Option Fragment). at_numbers first (run_or_nothing o) kept) fragment_is ∙ kept_found w.fragment (names_read l.entries) first w.fragment.run kept kept_is
