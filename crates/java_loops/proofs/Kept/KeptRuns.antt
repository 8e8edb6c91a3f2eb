-- The kept statements of a run, by their numbers, are those that set a needed variable which isn't dropped.
use Rattle.std.proofs.Common.{◌≡◌, ℕ, suc, ◌≤◌, Bool, true, false, not, ◌||◌, List, [], ◌∷◌, refl, sym, ap, ◌∙◌, cond, nat_eq, arith}
use Rattle.std.specs.List.{AllByRecursion}
use Rattle.std.proofs.lemmas.Bool.{and_parts, and_from, not_from_false, false_from_ne_true, eq-eqb, eqb-true}
use Rattle.java_ast.specs.Tree.{Statement, Statements, Nothing, Then}
use Rattle.java_loops.specs.Walks.Needed.{needed}
use Rattle.java_loops.specs.Walks.Reads.{Set}
use Rattle.java_loops.specs.Meant.KeptNumbers.{kept_set, numbers_setting, kept_numbers}
use Rattle.java_loops.specs.Walks.Runs as runs
use Rattle.java_loops.proofs.Walks.EnoughWalks.{all_needed, needed_found}
use Rattle.loop_text.specs.Statements.Fragment.{Fragment, live_or, set_by, IsWanted, IsKept}
use Rattle.loop_text.specs.Statements.Fragment as fragment
use Rattle.loop_text.specs.Statements.KeptStatements.{AreKept, none, keeps, drops, with_numbers}
use Rattle.java_ast.specs.Names.{Names}
use Rattle.loop_text.specs.Sites.Sites.{has_number}
use Rattle.java_loops.proofs.Nested.NestRules.{false_from_not}

-- ---- The needed variables of a fragment

-- the set has the wanted variables whose statements aren't dropped, and no others
pub record IsKeptSet (f : Fragment) (further : Names) (r : Set) : Type 0 where
  pub not_dropped : (x : List ℕ) → r x ≡ true → fragment.drops f x ≡ false
  pub wanted : (x : List ℕ) → r x ≡ true → IsWanted f further x
  pub holds : (x : List ℕ) → fragment.drops f x ≡ false → IsWanted f further x → r x ≡ true

pub is_kept_set : (f : Fragment) (further : Names) → IsKeptSet f further (kept_set f further)
is_kept_set f further =
    let base : Set = live_or f further in
    let dropped : Set = fragment.drops f in
    record {
      not_dropped = λ x h. false_from_not (dropped x) (and_parts (needed base dropped f.run x) (not (dropped x)) h).1;
      wanted = λ x h. all_needed base dropped f.run x (and_parts (needed base dropped f.run x) (not (dropped x)) h).0;
      holds = λ x d w. and_from (needed base dropped f.run x) (not (dropped x)) (needed_found base dropped f.run x w) (not_from_false (dropped x) d);
    }

-- ---- The numbers of kept statements

abbrev pub AreFrom : ℕ → List ℕ → Type 0
AreFrom n numbers = AllByRecursion (λ (m : ℕ). n ≤ m) numbers

from_next : (n : ℕ) (numbers : List ℕ) → AreFrom (suc n) numbers → AreFrom n numbers
from_next n [] h = tt
from_next n (m ∷ ms) h = let i : suc n ≤ m = h.0 in (omega arith, from_next n ms h.1)

-- the numbers of kept statements are at least that of the first one
pub numbers_from : (f : Fragment) (further : Names) (n : ℕ) (p : Statements) (numbers : List ℕ) → AreKept f further n p numbers → AreFrom n numbers
numbers_from f further _ _ _ (none n) = tt
numbers_from f further _ _ _ (keeps n s ss numbers k h) = (omega arith, from_next n numbers (numbers_from f further (suc n) ss numbers h))
numbers_from f further _ _ _ (drops n s ss numbers k h) = from_next n numbers (numbers_from f further (suc n) ss numbers h)

other_number : (n m : ℕ) → (n ≡ m → ⊥) → nat_eq n m ≡ false
other_number n m h = false_from_ne_true (nat_eq n m) (λ e. h (eqb-true n m e))

below : (n m : ℕ) → suc n ≤ m → n ≡ m → ⊥
below n m h e = absurd (omega arith)

pub none_there : (n : ℕ) (numbers : List ℕ) → AreFrom (suc n) numbers → has_number numbers n ≡ false
none_there n [] h = refl
none_there n (m ∷ ms) h = ap (λ b. b || has_number ms n) (other_number n m (below n m h.0)) ∙ none_there n ms h.1

-- a number before those of the statements changes nothing
pub earlier_number : (numbers : List ℕ) (n m : ℕ) (p : Statements) → suc n ≤ m → with_numbers (n ∷ numbers) m p ≡ with_numbers numbers m p
earlier_number numbers n m Nothing h = refl
earlier_number numbers n m (Then s p) h =
    let other : nat_eq m n ≡ false = other_number m n (λ e. below n m h (sym e)) in
    let next : suc n ≤ suc m = omega arith in
    ap (λ b. cond (b || has_number numbers m) (Then s (with_numbers (n ∷ numbers) (suc m) p)) (with_numbers (n ∷ numbers) (suc m) p)) other
    ∙ ap (λ q. cond (has_number numbers m) (Then s q) q) (earlier_number numbers n (suc m) p next)

module _ (f : Fragment) (further : Names) (r : Set) (set : IsKeptSet f further r) where
  kept_there : (s : Statement) → IsKept f further s → r (set_by s) ≡ true
  kept_there s k = set.holds (set_by s) k.not_dropped k.wanted

  dropped_there : (s : Statement) → (IsKept f further s → ⊥) → r (set_by s) ≡ false
  dropped_there s h =
      false_from_ne_true (r (set_by s)) (λ e. h (record { not_dropped = set.not_dropped (set_by s) e; wanted = set.wanted (set_by s) e }))

  -- The statements with the kept numbers are those that set a variable of the set.
  pub numbers_keep : (n : ℕ) (p : Statements) (numbers : List ℕ) → AreKept f further n p numbers → with_numbers numbers n p ≡ runs.kept r p
  numbers_keep _ _ _ (none n) = refl
  numbers_keep _ _ _ (keeps n s ss numbers k h) =
      ap (λ b. cond (b || has_number numbers n) (Then s (with_numbers (n ∷ numbers) (suc n) ss)) (with_numbers (n ∷ numbers) (suc n) ss)) (eq-eqb n n refl)
      ∙ ap (Then s) (earlier_number numbers n (suc n) ss (omega arith) ∙ numbers_keep (suc n) ss numbers h)
      ∙ sym (ap (λ b. cond b (Then s (runs.kept r ss)) (runs.kept r ss)) (kept_there s k))
  numbers_keep _ _ _ (drops n s ss numbers k h) =
      ap (λ b. cond b (Then s (with_numbers numbers (suc n) ss)) (with_numbers numbers (suc n) ss)) (none_there n numbers (numbers_from f further (suc n) ss numbers h))
      ∙ numbers_keep (suc n) ss numbers h
      ∙ sym (ap (λ b. cond b (Then s (runs.kept r ss)) (runs.kept r ss)) (dropped_there s k))

  -- the kept numbers are those of the statements that set a variable of the set
  pub numbers_are : (n : ℕ) (p : Statements) (numbers : List ℕ) → AreKept f further n p numbers → numbers ≡ numbers_setting r n p
  numbers_are _ _ _ (none n) = refl
  numbers_are _ _ _ (keeps n s ss numbers k h) =
      ap (λ (ms : List ℕ). n ∷ ms) (numbers_are (suc n) ss numbers h)
      ∙ sym (ap (λ b. cond b (n ∷ numbers_setting r (suc n) ss) (numbers_setting r (suc n) ss)) (set.holds (set_by s) k.not_dropped k.wanted))
  numbers_are _ _ _ (drops n s ss numbers k h) =
      numbers_are (suc n) ss numbers h
      ∙ sym (ap (λ b. cond b (n ∷ numbers_setting r (suc n) ss) (numbers_setting r (suc n) ss)) (false_from_ne_true (r (set_by s)) (λ e. k (record { not_dropped = set.not_dropped (set_by s) e; wanted = set.wanted (set_by s) e }))))

  -- a statement that sets a variable of the set, or none, behind which the numbers are those of kept statements
  kept_or_not : (n : ℕ) (s : Statement) (ss : Statements) (numbers : List ℕ) (b : Bool) → r (set_by s) ≡ b → AreKept f further (suc n) ss numbers → AreKept f further n (Then s ss) (cond b (n ∷ numbers) numbers)
  kept_or_not n s ss numbers true e h = keeps n s ss numbers (record { not_dropped = set.not_dropped (set_by s) e; wanted = set.wanted (set_by s) e }) h
  kept_or_not n s ss numbers false e h = drops n s ss numbers (λ k. let there = set.holds (set_by s) k.not_dropped k.wanted in absurd cc) h

  pub set_numbers_are_kept : (n : ℕ) (p : Statements) → AreKept f further n p (numbers_setting r n p)
  set_numbers_are_kept n Nothing = none n
  set_numbers_are_kept n (Then s ss) = kept_or_not n s ss (numbers_setting r (suc n) ss) (r (set_by s)) refl (set_numbers_are_kept (suc n) ss)

pub kept_numbers_only : (f : Fragment) (further : Names) (n : ℕ) (run : Statements) (numbers : List ℕ) → AreKept f further n run numbers → numbers ≡ kept_numbers f further n run
kept_numbers_only f further n run numbers h = numbers_are f further (kept_set f further) (is_kept_set f further) n run numbers h

pub kept_numbers_kept : (f : Fragment) (further : Names) (n : ℕ) (run : Statements) → AreKept f further n run (kept_numbers f further n run)
kept_numbers_kept f further n run = set_numbers_are_kept f further (kept_set f further) (is_kept_set f further) n run
