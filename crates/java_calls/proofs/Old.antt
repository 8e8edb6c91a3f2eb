-- Names that are old: they end in the mark of no number that may still be taken.
use Rattle.std.proofs.Common.{◌≡◌, ℕ, ◌<◌, ◌≤◌, Bool, true, false, cond, ◌||◌, List, [], ◌∷◌, ◌++◌, Option, Some, None, refl, sym, ap, ◌∙◌, subst, arith}
use Rattle.std.specs.Prelude.{bytes_eq}
use Rattle.std.proofs.lemmas.List.{append_cancel_right}
use Rattle.qbs_base.specs.Named.{at_name}
use Rattle.java_ast.specs.Names.{Names, is_among}
use Rattle.java_mean.specs.Store.{Store, Variable}
use Rattle.java_mean.proofs.Puts.{names_equal, name_same}
use Rattle.call_parts.specs.Marks.{mark_of, ends_in, is_marked}
use Rattle.call_parts.proofs.Marks.{ends_behind, marked_by_one}
use Rattle.java_calls.specs.Renaming.{Renaming, as_they_are, marked_but}

-- a number that may be taken behind this one
abbrev pub MayBeTaken : Names → ℕ → ℕ → Type 0
MayBeTaken names taken k = (taken < k) × (is_marked names k ≡ false)

-- the name ends in the mark of no such number
abbrev pub IsOld : Names → ℕ → List ℕ → Type 0
IsOld names taken y = (k : ℕ) → MayBeTaken names taken k → ends_in (mark_of k) y ≡ false

abbrev pub AreKeptApart : Names → Renaming → Type 0
AreKeptApart names f = (x y : List ℕ) → is_among names x ≡ true → is_among names y ≡ true → f x ≡ f y → x ≡ y

-- the names of the program have names of their own, which are old
pub record Suits (names : Names) (taken : ℕ) (f : Renaming) : Type 0 where
  pub apart : AreKeptApart names f
  pub old : (x : List ℕ) → is_among names x ≡ true → IsOld names taken (f x)

-- the second store has each variable of the first, renamed; it may have others
pub record Includes (names : Names) (f : Renaming) (t s : Store) : Type 0 where
  pub named : (x : List ℕ) (v : Variable) → at_name t x ≡ Some v → is_among names x ≡ true
  pub by : (x : List ℕ) (v : Variable) → at_name t x ≡ Some v → at_name s (f x) ≡ Some v

-- what is neither renamed so nor new stays
pub record Stands (names : Names) (taken : ℕ) (f : Renaming) (s s' : Store) : Type 0 where
  pub by : (y : List ℕ) → ((x : List ℕ) → is_among names x ≡ true → f x ≡ y → ⊥) → IsOld names taken y → at_name s y ≡ at_name s' y

pub clash : (b : Bool) → b ≡ true → b ≡ false → ⊥
clash b e h = absurd cc

-- ---- Names of the program are old

or_first : (p q : Bool) → p || q ≡ false → p ≡ false
or_first true q h = absurd cc
or_first false q h = refl

or_second : (p q : Bool) → p || q ≡ false → q ≡ false
or_second true q h = absurd cc
or_second false q h = h

none_by : (mark x y : List ℕ) (ys : Names) (b : Bool) → bytes_eq x y ≡ b → b || is_among ys x ≡ true → ends_in mark y ≡ false → (is_among ys x ≡ true → ends_in mark x ≡ false) → ends_in mark x ≡ false
none_by mark x y ys true e h n ih = subst (λ z. ends_in mark z ≡ false) (sym (names_equal x y e)) n
none_by mark x y ys false e h n ih = ih h

none_ends : (k : ℕ) (x : List ℕ) (ys : Names) → is_among ys x ≡ true → is_marked ys k ≡ false → ends_in (mark_of k) x ≡ false
none_ends k x [] h n = absurd cc
none_ends k x (y ∷ ys) h n =
    none_by (mark_of k) x y ys (bytes_eq x y) refl h (or_first (ends_in (mark_of k) y) (is_marked ys k) n) (λ i. none_ends k x ys i (or_second (ends_in (mark_of k) y) (is_marked ys k) n))

-- the names as they are
pub suits_itself : (names : Names) (taken : ℕ) → Suits names taken as_they_are
suits_itself names taken = record { apart = λ x y hx hy e. e; old = λ x h k free. none_ends k x names h free.1 }

-- ---- Names with a mark

-- what has the mark of a number has no other
pub marked_is_old : (names : Names) (c : ℕ) (x : List ℕ) → IsOld names c (x ++ mark_of c)
marked_is_old names c x k free = let lt : c < k = free.0 in marked_by_one c k (x ++ mark_of c) (λ q. absurd (omega arith)) (ends_behind x (mark_of c))

-- an old name has no mark that is free
pub old_is_unmarked : (names : Names) (taken c : ℕ) (y x : List ℕ) → IsOld names taken y → MayBeTaken names taken c → x ++ mark_of c ≡ y → ⊥
old_is_unmarked names taken c y x old free e = clash (ends_in (mark_of c) y) (subst (λ z. ends_in (mark_of c) z ≡ true) e (ends_behind x (mark_of c))) (old c free)

pub older : (names : Names) (taken c : ℕ) (y : List ℕ) → taken < c → IsOld names taken y → IsOld names c y
older names taken c y lt old k free = let le : c < k = free.0 in old k (omega arith, free.1)

module _ (names : Names) (taken c : ℕ) (to : List ℕ) (old : IsOld names taken to) (free : MayBeTaken names taken c) where
  apart_by : (v x y : List ℕ) (p q : Bool) → bytes_eq v x ≡ p → bytes_eq v y ≡ q → cond p to (x ++ mark_of c) ≡ cond q to (y ++ mark_of c) → x ≡ y
  apart_by v x y true true p q e = sym (names_equal v x p) ∙ names_equal v y q
  apart_by v x y true false p q e = absurd (old_is_unmarked names taken c to y old free (sym e))
  apart_by v x y false true p q e = absurd (old_is_unmarked names taken c to x old free e)
  apart_by v x y false false p q e = append_cancel_right x y (mark_of c) e

  old_by : (x : List ℕ) (p : Bool) → IsOld names c (cond p to (x ++ mark_of c))
  old_by x true = older names taken c to free.0 old
  old_by x false = marked_is_old names c x

  pub suits_marked : (o : Option (List ℕ)) → Suits names c (marked_but o to c)
  suits_marked None = record { apart = λ x y hx hy e. append_cancel_right x y (mark_of c) e; old = λ x h. marked_is_old names c x }
  suits_marked (Some v) = record { apart = λ x y hx hy e. apart_by v x y (bytes_eq v x) (bytes_eq v y) refl refl e; old = λ x h. old_by x (bytes_eq v x) }

  marked_by : (v x : List ℕ) (b : Bool) → bytes_eq v x ≡ b → b ≡ false → cond b to (x ++ mark_of c) ≡ x ++ mark_of c
  marked_by v x true e n = absurd cc
  marked_by v x false e n = refl

  -- all names but one have the mark
  pub has_mark : (o : Option (List ℕ)) (x : List ℕ) → ((v : List ℕ) → o ≡ Some v → bytes_eq v x ≡ false) → marked_but o to c x ≡ x ++ mark_of c
  has_mark None x h = refl
  has_mark (Some v) x h = marked_by v x (bytes_eq v x) refl (h v refl)

  other_by : (y v x : List ℕ) (b : Bool) → IsOld names taken y → (to ≡ y → ⊥) → cond b to (x ++ mark_of c) ≡ y → ⊥
  other_by y v x true yold n e = n e
  other_by y v x false yold n e = old_is_unmarked names taken c y x yold free e

  -- an old name but the caller's is no helper's
  pub is_no_helpers : (o : Option (List ℕ)) (y x : List ℕ) → IsOld names taken y → ((v : List ℕ) → o ≡ Some v → to ≡ y → ⊥) → marked_but o to c x ≡ y → ⊥
  is_no_helpers None y x yold n e = old_is_unmarked names taken c y x yold free e
  is_no_helpers (Some v) y x yold n e = other_by y v x (bytes_eq v x) yold (n v refl) e

  pub kept_name : (v : List ℕ) → marked_but (Some v) to c v ≡ to
  kept_name v = ap (λ b. cond b to (v ++ mark_of c)) (name_same v)
