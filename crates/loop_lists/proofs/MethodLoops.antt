-- The loops of a program, method by method.
use Rattle.std.proofs.Common.{◌≡◌, ℕ, zero, suc, ◌+◌, ◌-◌, ◌<◌, ◌≤◌, List, [], ◌∷◌, ◌++◌, length, take, drop, slice_get, refl, sym, ap, ◌∙◌, subst, arith, append_assoc, append-nil, length-append}
use Rattle.std.proofs.lemmas.Option.{slice_get_past}
use Rattle.java_ast.specs.Tree.{PlainMethod}
use Rattle.loop_text.specs.Statements.Loops.{loops_among, loops_of_methods}
use Rattle.loop_lists.specs.declared.listing.Listed.{Listed}
use Rattle.loop_lists.specs.Lists.{loops_there, loops_numbered, Lists}
use Rattle.loop_lists.proofs.Windows.{item_within, in_own, nothing}

-- ---- Lists

past_front : {A : Type 0} (xs ys : List A) (m n : ℕ) → length xs + m ≡ n → slice_get (xs ++ ys) n ≡ slice_get ys m
past_front [] ys m n e = let same : n ≡ m = omega (arith, e) in ap (slice_get ys) same
past_front (x ∷ xs) ys m zero e = absurd (omega (arith, e))
past_front (x ∷ xs) ys m (suc n) e = past_front xs ys m n (omega (arith, e))

in_front : {A : Type 0} (xs ys : List A) (n : ℕ) → n < length xs → slice_get (xs ++ ys) n ≡ slice_get xs n
in_front [] ys n h = absurd (omega (arith, h))
in_front (x ∷ xs) ys zero h = refl
in_front (x ∷ xs) ys (suc n) h = in_front xs ys n (omega (arith, h))

all_taken : {A : Type 0} (n : ℕ) (xs : List A) → length xs ≤ n → take n xs ≡ xs
all_taken zero [] h = refl
all_taken (suc n) [] h = refl
all_taken zero (x ∷ xs) h = absurd (omega (arith, h))
all_taken (suc n) (x ∷ xs) h = ap (λ ys. x ∷ ys) (all_taken n xs (omega (arith, h)))

-- ---- Methods

-- the loops before a method, its own, and those behind it
parts : (k n j : ℕ) (ms : List PlainMethod) → k + n ≡ j → loops_of_methods k ms ≡ loops_of_methods k (take n ms) ++ (loops_there j (slice_get ms n) ++ loops_of_methods (suc j) (drop (suc n) ms))
parts k zero j [] e = refl
parts k zero j (m ∷ ms) e = let same : k ≡ j = omega (arith, e) in ap (λ (i : ℕ). loops_among (i ∷ []) 0 m.body ++ loops_of_methods (suc i) ms) same
parts k (suc n) j [] e = refl
parts k (suc n) j (m ∷ ms) e =
    ap (λ (ps : List (List ℕ)). loops_among (k ∷ []) 0 m.body ++ ps) (parts (suc k) n j ms (omega (arith, e)))
    ∙ sym (append_assoc (loops_among (k ∷ []) 0 m.body) (loops_of_methods (suc k) (take n ms)) (loops_there j (slice_get ms n) ++ loops_of_methods (suc j) (drop (suc n) ms)))

-- the loops of one method more
one_more : (k n j : ℕ) (ms : List PlainMethod) → k + n ≡ j → loops_of_methods k (take (suc n) ms) ≡ loops_of_methods k (take n ms) ++ loops_there j (slice_get ms n)
one_more k zero j [] e = refl
one_more k zero j (m ∷ ms) e = let same : k ≡ j = omega (arith, e) in append-nil (loops_among (k ∷ []) 0 m.body) ∙ ap (λ (i : ℕ). loops_among (i ∷ []) 0 m.body) same
one_more k (suc n) j [] e = refl
one_more k (suc n) j (m ∷ ms) e =
    ap (λ (ps : List (List ℕ)). loops_among (k ∷ []) 0 m.body ++ ps) (one_more (suc k) n j ms (omega (arith, e)))
    ∙ sym (append_assoc (loops_among (k ∷ []) 0 m.body) (loops_of_methods (suc k) (take n ms)) (loops_there j (slice_get ms n)))

module _ (ms : List PlainMethod) (standing number before : ℕ) (behind : before ≤ standing) (is : before ≡ length (loops_of_methods 0 (take number ms))) where
  -- the next loop is among those of a method where a stretch of them reaches past those that stand
  pub lists_within : (from upto : ℕ) (paths : List (List ℕ)) → paths ≡ drop from (take upto (loops_numbered number ms)) → before + from ≤ standing → (standing - before) - from < length paths → (l : Listed) → l ≡ record { number = number; before = before; from = from; upto = upto; paths = paths } → Lists ms standing l
  lists_within from upto paths listed reached within l same =
      let first : List (List ℕ) = loops_of_methods 0 (take number ms) in
      let own : List (List ℕ) = loops_numbered number ms in
      let rest : List (List ℕ) = loops_of_methods (suc number) (drop (suc number) ms) in
      let sum : from + ((standing - before) - from) ≡ standing - before = omega (arith, reached, behind) in
      let here : slice_get paths ((standing - before) - from) ≡ slice_get own (standing - before) =
      ap (λ (ps : List (List ℕ)). slice_get ps ((standing - before) - from)) listed
      ∙ item_within from upto ((standing - before) - from) (standing - before) own sum (subst (λ (ps : List (List ℕ)). (standing - before) - from < length ps) listed within) in
      let short : standing - before < length own = in_own from upto ((standing - before) - from) (standing - before) own sum (subst (λ (ps : List (List ℕ)). (standing - before) - from < length ps) listed within) in
      let there : slice_get paths ((standing - before) - from) ≡ slice_get (loops_of_methods 0 ms) standing =
      here ∙ sym (ap (λ (ps : List (List ℕ)). slice_get ps standing) (parts 0 number number ms (omega arith))
      ∙ past_front first (own ++ rest) (standing - before) standing (omega (arith, is, behind))
      ∙ in_front own rest (standing - before) short) in
      subst (Lists ms standing) (sym same) (record { behind = behind; before = is; reached = reached; paths = listed; next = there })

  -- the end of the methods
  pub lists_end : length ms ≤ number → (paths : List (List ℕ)) → paths ≡ [] → (l : Listed) → l ≡ record { number = number; before = before; from = 0; upto = 0; paths = paths } → Lists ms standing l
  lists_end past paths none l same =
      let all : length (loops_of_methods 0 ms) ≡ before = sym (is ∙ ap (λ (ns : List PlainMethod). length (loops_of_methods 0 ns)) (all_taken number ms past)) in
      subst (Lists ms standing) (sym same)
      (record {
        behind = behind;
        before = is;
        reached = omega (arith, behind);
        paths = none ∙ sym (nothing (loops_numbered number ms));
        next = ap (λ ps. slice_get ps ((standing - before) - 0)) none ∙ sym (slice_get_past (loops_of_methods 0 ms) standing (omega (arith, all, behind)));
      })

  -- the next method
  pub one_method_more : (more : ℕ) → more ≡ length (loops_numbered number ms) → before + more ≡ length (loops_of_methods 0 (take (suc number) ms))
  one_method_more more many =
      let all : length (loops_of_methods 0 (take (suc number) ms)) ≡ length (loops_of_methods 0 (take number ms) ++ loops_numbered number ms) = ap length (one_more 0 number number ms (omega arith)) in
      omega (arith, is, many, all, length-append (loops_of_methods 0 (take number ms)) (loops_numbered number ms))
