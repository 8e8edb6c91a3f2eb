-- A name ends in the mark of one number at most, and the next number is the first that is free.
use Rattle.std.proofs.Common.{◌≡◌, ℕ, zero, suc, ◌+◌, ◌<◌, ◌≤◌, Bool, true, false, cond, not, ◌||◌, ◌⊎◌, inl, inr, ⊎_elim, List, [], ◌∷◌, ◌++◌, length, map, refl, sym, ap, ap₂, ◌∙◌, subst, arith}
use Rattle.std.proofs.lemmas.Bool.{cases_lt}
use Rattle.std.specs.Int.Digits.{digits_of}
use Rattle.std.specs.List.{AllByRecursion, list_any}
use Rattle.std.specs.Str.{bytes_eq}
use Rattle.std.proofs.lemmas.Int.Digits.{all_below_base_digits_of, same_from_digits_of}
use Rattle.std.proofs.lemmas.Slice.Eq.{bytes_eq-Decides}
use Rattle.java_ast.specs.Names.{Names, is_among}
use Rattle.call_parts.specs.Marks.{mark_of, ends_in, is_marked, unmarked_from, next_number, IsNextNumber}

pub equal_from : (x y : List ℕ) → bytes_eq x y ≡ true → x ≡ y
equal_from x y e = (bytes_eq-Decides x y).0 e

pub equal_itself : (x : List ℕ) → bytes_eq x x ≡ true
equal_itself x = (bytes_eq-Decides x x).1 refl

-- ---- One mark at most

abbrev glyphs : List ℕ → List ℕ
glyphs ds = map (λ d. 48 + d) ds

first_is : (a b : ℕ) (xs ys : List ℕ) → a ∷ xs ≡ b ∷ ys → a ≡ b
first_is a b xs ys e = cc

rest_is : (a b : ℕ) (xs ys : List ℕ) → a ∷ xs ≡ b ∷ ys → xs ≡ ys
rest_is a b xs ys e = cc

no_mark_by : (d : ℕ) (ds es : List ℕ) → d < 10 → ends_in (95 ∷ es) ds ≡ false → (b : Bool) → bytes_eq ((48 + d) ∷ ds) (95 ∷ es) ≡ b → b || ends_in (95 ∷ es) ds ≡ false
no_mark_by d ds es low ih true e = let same : 48 + d ≡ 95 = first_is (48 + d) 95 ds es (equal_from ((48 + d) ∷ ds) (95 ∷ es) e) in absurd (omega arith)
no_mark_by d ds es low ih false e = ih

-- digits have no underscore
no_mark : (ds es : List ℕ) → AllByRecursion (λ d. d < 10) ds → ends_in (95 ∷ es) (glyphs ds) ≡ false
no_mark [] es h = refl
no_mark (d ∷ ds) es h = no_mark_by d (glyphs ds) es h.0 (no_mark ds es h.1) (bytes_eq (glyphs (d ∷ ds)) (95 ∷ es)) refl

clash : (b : Bool) → b ≡ true → b ≡ false → ⊥
clash b e h = absurd cc

module _ (ds es : List ℕ) (below : AllByRecursion (λ d. d < 10) ds) (under : AllByRecursion (λ d. d < 10) es) where
  one_mark_by : (b : ℕ) (x : List ℕ) → (ends_in (95 ∷ glyphs ds) x ≡ true → ends_in (95 ∷ glyphs es) x ≡ true → glyphs ds ≡ glyphs es)
      → (p q : Bool) → bytes_eq (b ∷ x) (95 ∷ glyphs ds) ≡ p → bytes_eq (b ∷ x) (95 ∷ glyphs es) ≡ q
      → p || ends_in (95 ∷ glyphs ds) x ≡ true → q || ends_in (95 ∷ glyphs es) x ≡ true → glyphs ds ≡ glyphs es
  one_mark_by b x ih true true p q h k = sym (rest_is b 95 x (glyphs ds) (equal_from _ _ p)) ∙ rest_is b 95 x (glyphs es) (equal_from _ _ q)
  one_mark_by b x ih true false p q h k =
      let is : x ≡ glyphs ds = rest_is b 95 x (glyphs ds) (equal_from _ _ p) in
      absurd (clash (ends_in (95 ∷ glyphs es) (glyphs ds)) (subst (λ z. ends_in (95 ∷ glyphs es) z ≡ true) is k) (no_mark ds (glyphs es) below))
  one_mark_by b x ih false true p q h k =
      let is : x ≡ glyphs es = rest_is b 95 x (glyphs es) (equal_from _ _ q) in
      absurd (clash (ends_in (95 ∷ glyphs ds) (glyphs es)) (subst (λ z. ends_in (95 ∷ glyphs ds) z ≡ true) is h) (no_mark es (glyphs ds) under))
  one_mark_by b x ih false false p q h k = ih h k

  one_mark : (x : List ℕ) → ends_in (95 ∷ glyphs ds) x ≡ true → ends_in (95 ∷ glyphs es) x ≡ true → glyphs ds ≡ glyphs es
  one_mark [] h k = absurd cc
  one_mark (b ∷ x) h k = one_mark_by b x (one_mark x) (bytes_eq (b ∷ x) (95 ∷ glyphs ds)) (bytes_eq (b ∷ x) (95 ∷ glyphs es)) refl refl h k

digit_is : (d e : ℕ) → 48 + d ≡ 48 + e → d ≡ e
digit_is d e h = omega arith

same_digits : (ds es : List ℕ) → glyphs ds ≡ glyphs es → ds ≡ es
same_digits [] [] h = refl
same_digits [] (e ∷ es) h = absurd cc
same_digits (d ∷ ds) [] h = absurd cc
same_digits (d ∷ ds) (e ∷ es) h = ap₂ (λ a xs. a ∷ xs) (digit_is d e (first_is _ _ (glyphs ds) (glyphs es) h)) (same_digits ds es (rest_is (48 + d) (48 + e) _ _ h))

pub one_number : (c k : ℕ) (x : List ℕ) → ends_in (mark_of c) x ≡ true → ends_in (mark_of k) x ≡ true → c ≡ k
one_number c k x h i =
    same_from_digits_of 10 c k (omega arith) (same_digits (digits_of 10 c) (digits_of 10 k)
    (one_mark (digits_of 10 c) (digits_of 10 k) (all_below_base_digits_of 10 c (omega arith)) (all_below_base_digits_of 10 k (omega arith)) x h i))

-- ---- A name with a mark

itself_by : (m x : List ℕ) (b : ℕ) → ends_in m x ≡ true → (p : Bool) → p || ends_in m x ≡ true
itself_by m x b e true = refl
itself_by m x b e false = e

ends_by : (m : List ℕ) (p q : Bool) → p ≡ true → p || q ≡ true
ends_by m true q e = refl
ends_by m false q e = absurd cc

ends_itself : (m : List ℕ) → ends_in m m ≡ true
ends_itself [] = refl
ends_itself (b ∷ m) = ends_by m (bytes_eq (b ∷ m) (b ∷ m)) (ends_in (b ∷ m) m) (equal_itself (b ∷ m))

pub ends_behind : (x m : List ℕ) → ends_in m (x ++ m) ≡ true
ends_behind [] m = ends_itself m
ends_behind (b ∷ x) m = itself_by m (x ++ m) b (ends_behind x m) (bytes_eq ((b ∷ x) ++ m) m)

not_by : (c k : ℕ) (x : List ℕ) → (c ≡ k → ⊥) → ends_in (mark_of c) x ≡ true → (b : Bool) → ends_in (mark_of k) x ≡ b → b ≡ false
not_by c k x n h true e = absurd (n (one_number c k x h e))
not_by c k x n h false e = refl

-- what ends in the mark of a number ends in that of no other
pub marked_by_one : (c k : ℕ) (x : List ℕ) → (c ≡ k → ⊥) → ends_in (mark_of c) x ≡ true → ends_in (mark_of k) x ≡ false
marked_by_one c k x n h = not_by c k x n h (ends_in (mark_of k) x) refl

-- ---- The next number

-- names that end in no mark of the number
abbrev unmarked_by : ℕ → Names → Names
unmarked_by c [] = []
unmarked_by c (x ∷ xs) = cond (ends_in (mark_of c) x) (unmarked_by c xs) (x ∷ unmarked_by c xs)

any_by : (c k : ℕ) (x : List ℕ) (xs ys : Names) → (c ≡ k → ⊥) → is_marked xs k ≡ is_marked ys k → (b : Bool) → ends_in (mark_of c) x ≡ b → is_marked (x ∷ xs) k ≡ is_marked (cond b ys (x ∷ ys)) k
any_by c k x xs ys n ih true e = ap (λ b. b || is_marked xs k) (marked_by_one c k x n e) ∙ ih
any_by c k x xs ys n ih false e = ap (λ b. ends_in (mark_of k) x || b) ih

still_marked : (c k : ℕ) (xs : Names) → (c ≡ k → ⊥) → is_marked xs k ≡ is_marked (unmarked_by c xs) k
still_marked c k [] n = refl
still_marked c k (x ∷ xs) n = any_by c k x xs (unmarked_by c xs) n (still_marked c k xs n) (ends_in (mark_of c) x) refl

no_more_by : (c : ℕ) (x : List ℕ) (xs ys : Names) (b : Bool) → length ys ≤ length xs → length (cond b ys (x ∷ ys)) ≤ length (x ∷ xs)
no_more_by c x xs ys true h = omega arith
no_more_by c x xs ys false h = omega arith

no_more : (c : ℕ) (xs : Names) → length (unmarked_by c xs) ≤ length xs
no_more c [] = omega arith
no_more c (x ∷ xs) = no_more_by c x xs (unmarked_by c xs) (ends_in (mark_of c) x) (no_more c xs)

fewer_by : (c : ℕ) (x : List ℕ) (xs : Names) (b : Bool) → ends_in (mark_of c) x ≡ b → (is_marked xs c ≡ true → length (unmarked_by c xs) < length xs) → b || is_marked xs c ≡ true → length (cond b (unmarked_by c xs) (x ∷ unmarked_by c xs)) < length (x ∷ xs)
fewer_by c x xs true e ih h = let le : length (unmarked_by c xs) ≤ length xs = no_more c xs in omega arith
fewer_by c x xs false e ih h = let lt : length (unmarked_by c xs) < length xs = ih h in omega arith

fewer : (c : ℕ) (xs : Names) → is_marked xs c ≡ true → length (unmarked_by c xs) < length xs
fewer c [] h = absurd cc
fewer c (x ∷ xs) h = fewer_by c x xs (ends_in (mark_of c) x) refl (fewer c xs) h

same_from_by : (n c : ℕ) (a b : Bool) (p q : ℕ) → a ≡ b → p ≡ q → cond a p c ≡ cond b q c
same_from_by n c a b p q e h = ap₂ (λ a p. cond a p c) e h

same_from : (n c : ℕ) (xs ys : Names) → ((k : ℕ) → c ≤ k → is_marked xs k ≡ is_marked ys k) → unmarked_from n xs c ≡ unmarked_from n ys c
same_from zero c xs ys h = refl
same_from (suc n) c xs ys h = same_from_by n c _ _ _ _ (h c (omega arith)) (same_from n (suc c) xs ys (λ k le. h k (omega arith)))

from_above : (n c : ℕ) (xs : Names) → c ≤ unmarked_from n xs c
from_above zero c xs = omega arith
from_above (suc n) c xs = by (is_marked xs c) (from_above n (suc c) xs)
  where
    by : (b : Bool) → suc c ≤ unmarked_from n xs (suc c) → c ≤ cond b (unmarked_from n xs (suc c)) c
    by true h = omega arith
    by false h = omega arith

none_marked : (xs : Names) (k : ℕ) → length xs ≤ 0 → is_marked xs k ≡ false
none_marked [] k h = refl
none_marked (x ∷ xs) k h = absurd (omega arith)

free_by : (n c : ℕ) (xs : Names) → (is_marked xs c ≡ true → is_marked xs (unmarked_from n xs (suc c)) ≡ false) → (b : Bool) → is_marked xs c ≡ b → is_marked xs (cond b (unmarked_from n xs (suc c)) c) ≡ false
free_by n c xs h true e = h e
free_by n c xs h false e = e

pub free_from : (n c : ℕ) (xs : Names) → length xs ≤ n → is_marked xs (unmarked_from n xs c) ≡ false
free_from zero c xs h = none_marked xs c h
free_from (suc n) c xs h = free_by n c xs (λ e.
    let ys : Names = unmarked_by c xs in
    let lt : length ys < length xs = fewer c xs e in
    let same : unmarked_from n xs (suc c) ≡ unmarked_from n ys (suc c) = same_from n (suc c) xs ys (λ k le. still_marked c k xs (λ q. absurd (omega arith))) in
    let le : suc c ≤ unmarked_from n xs (suc c) = from_above n (suc c) xs in
    still_marked c (unmarked_from n xs (suc c)) xs (λ q. absurd (omega arith)) ∙ ap (is_marked ys) same ∙ free_from n (suc c) ys (omega arith)) (is_marked xs c) refl

nat_cases : (c k : ℕ) → c ≤ k → (c ≡ k) ⊎ (suc c ≤ k)
nat_cases c k le = ⊎_elim (λ l. inr (omega arith)) (λ l. inl (omega arith)) (cases_lt c k)

first_by : (n c k : ℕ) (xs : Names) → c ≤ k → (suc c ≤ k → k < unmarked_from n xs (suc c) → is_marked xs k ≡ true) → (b : Bool) → is_marked xs c ≡ b → k < cond b (unmarked_from n xs (suc c)) c → is_marked xs k ≡ true
first_by n c k xs le ih true e lt = at (nat_cases c k le)
  where
    at : (c ≡ k) ⊎ (suc c ≤ k) → is_marked xs k ≡ true
    at (inl q) = subst (λ z. is_marked xs z ≡ true) q e
    at (inr m) = ih m lt
first_by n c k xs le ih false e lt = absurd (omega arith)

first_from : (n c k : ℕ) (xs : Names) → c ≤ k → k < unmarked_from n xs c → is_marked xs k ≡ true
first_from zero c k xs le lt = absurd (omega arith)
first_from (suc n) c k xs le lt = first_by n c k xs le (λ m l. first_from n (suc c) k xs m l) (is_marked xs c) refl lt

pub next_number_is : (names : Names) (taken : ℕ) → IsNextNumber names taken (next_number names taken)
next_number_is names taken =
    let le : suc taken ≤ next_number names taken = from_above (length names) (suc taken) names in
    record { above = omega arith; free = free_from (length names) (suc taken) names (omega arith); first = λ k lt l. first_from (length names) (suc taken) k names (omega arith) l }
