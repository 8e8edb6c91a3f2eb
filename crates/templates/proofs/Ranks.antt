-- Candidates by their places.
use Rattle.std.proofs.Common.{◌≡◌, ℕ, zero, suc, ◌+◌, ◌*◌, ◌-◌, ◌≤◌, ◌<◌, List, [], ◌∷◌, ◌++◌, length, map, Option, Some, None, refl, sym, ap, ◌∙◌, subst, arith, append_assoc, add-one, ◌⊎◌, inl, inr, ⊎_elim}
use Rattle.std.proofs.lemmas.Bool.{cases_lt}
use Rattle.std.specs.Prelude.{slice_get}
use Rattle.std.specs.List.{AllByRecursion}
use Rattle.std.specs.Option.{option_map}
use Rattle.std.proofs.lemmas.List.{length-map, length-append, append-nil}
use Rattle.std.proofs.lemmas.Option.{slice_get-map, slice_get_within}
use Rattle.templates.specs.Binomial.{binomial}
use Rattle.kernel_lang.specs.Pools.{RisesWithin}
use Rattle.templates.specs.Numbered.{increasing, candidates, IsCandidate}
use Rattle.templates.proofs.Lists.{slice_get-append_left, slice_get-append_right}
use Rattle.templates.proofs.Pascal.{binomial-none, binomial-empty, binomial-pascal, binomial_small}

pub length-increasing : (first left n : ℕ) → length (increasing first left n) ≡ binomial left n
unfolding increasing
length-increasing first zero zero = sym (binomial-none zero)
length-increasing first (suc left) zero = sym (binomial-none (suc left))
length-increasing first zero (suc n) = sym (binomial-empty n)
length-increasing first (suc left) (suc n) =
    rw (length-append, length-map, length-increasing (suc first) left n, length-increasing (suc first) left (suc n)) (sym (binomial-pascal left n))

-- how many have fewer than n members
pub shorter : ℕ → ℕ → ℕ
shorter pool zero = 0
shorter pool (suc n) = shorter pool n + binomial pool n

pub shorter-none : (pool : ℕ) → shorter pool zero ≡ 0
unfolding shorter
shorter-none pool = refl

pub shorter-more : (pool n : ℕ) → shorter pool (suc n) ≡ shorter pool n + binomial pool n
unfolding shorter
shorter-more pool n = refl

pub length-candidates : (pool size : ℕ) → length (candidates pool size) ≡ shorter pool (suc size)
unfolding candidates
length-candidates pool zero = rw (shorter-more pool 0, shorter-none pool, length-increasing 0 pool 0) (omega arith)
length-candidates pool (suc size) = rw (shorter-more pool (suc size), length-append, length-candidates pool size, length-increasing 0 pool (suc size)) refl

pub shorter_small : (pool n : ℕ) → pool ≤ 128 → n ≤ 9 → shorter pool n ≤ n * 72057594037927936
shorter_small pool zero h l = rw (shorter-none pool) (omega arith)
shorter_small pool (suc n) h l = rw (shorter-more pool n) (omega (arith, shorter_small pool n h (omega arith), binomial_small pool n h (omega arith)))

shorter_grows : (pool n m : ℕ) → shorter pool n ≤ shorter pool (n + m)
shorter_grows pool n zero = let e : n + 0 ≡ n = omega arith in rw e (omega arith)
shorter_grows pool n (suc m) =
    let e : n + suc m ≡ suc (n + m) = omega arith in
    rw (e, shorter-more pool (n + m)) (omega (arith, shorter_grows pool n m))

le_or_next : (n size : ℕ) → n ≤ suc size → (n ≤ size) ⊎ (n ≡ suc size)
le_or_next n size l = ⊎_elim (λ (b : n < suc size). inl (omega arith)) (λ (b : suc size ≤ n). inr (omega arith)) (cases_lt n (suc size))

le_or_after : (first n : ℕ) → first ≤ n → (n ≡ first) ⊎ (suc first ≤ n)
le_or_after first n l = ⊎_elim (λ (b : first < n). inr (omega arith)) (λ (b : n ≤ first). inl (omega arith)) (cases_lt first n)

-- the candidates of one length, by their places among all
pub at_length : (pool size n rank : ℕ) → n ≤ size → rank < binomial pool n → slice_get (candidates pool size) (shorter pool n + rank) ≡ slice_get (increasing 0 pool n) rank
unfolding candidates
at_length pool zero zero rank l h = let e : shorter pool 0 + rank ≡ rank = rw (shorter-none pool) (omega arith) in ap (slice_get (increasing 0 pool 0)) e
at_length pool zero (suc n) rank l h = absurd (omega arith)
at_length pool (suc size) n rank l h = go (le_or_next n size l) (λ k. at_length pool size n rank k h)
  where
    last : n ≡ suc size → slice_get (candidates pool size ++ increasing 0 pool (suc size)) (shorter pool n + rank) ≡ slice_get (increasing 0 pool n) rank
    last e =
        let f : shorter pool n ≡ length (candidates pool size) = ap (shorter pool) e ∙ sym (length-candidates pool size) in
        rw (f, e) (slice_get-append_right (candidates pool size) (increasing 0 pool (suc size)) rank)

    before : n ≤ size → slice_get (candidates pool size) (shorter pool n + rank) ≡ slice_get (increasing 0 pool n) rank → slice_get (candidates pool size ++ increasing 0 pool (suc size)) (shorter pool n + rank) ≡ slice_get (increasing 0 pool n) rank
    before k inner =
        let e : suc n + (size - n) ≡ suc size = omega arith in
        let f : shorter pool (suc n) ≤ shorter pool (suc size) = subst (λ (m : ℕ). shorter pool (suc n) ≤ shorter pool m) e (shorter_grows pool (suc n) (size - n)) in
        let g : shorter pool n + rank < length (candidates pool size) = rw (length-candidates pool size) (omega (arith, shorter-more pool n)) in
        slice_get-append_left (candidates pool size) (increasing 0 pool (suc size)) (shorter pool n + rank) g ∙ inner

    go : (n ≤ size) ⊎ (n ≡ suc size) → (n ≤ size → slice_get (candidates pool size) (shorter pool n + rank) ≡ slice_get (increasing 0 pool n) rank) → slice_get (candidates pool size ++ increasing 0 pool (suc size)) (shorter pool n + rank) ≡ slice_get (increasing 0 pool n) rank
    go (inl k) inner = before k (inner k)
    go (inr e) inner = last e

increasing-none : (first left : ℕ) → increasing first left 0 ≡ [] ∷ []
unfolding increasing
increasing-none first zero = refl
increasing-none first (suc left) = refl

-- those that go on with the first number stand before those that leave it out
part_with : (first left n rank : ℕ) → rank < binomial left n → slice_get (increasing first (suc left) (suc n)) rank ≡ option_map (λ c. first ∷ c) (slice_get (increasing (suc first) left n) rank)
unfolding increasing
part_with first left n rank h =
    slice_get-append_left (map (λ c. first ∷ c) (increasing (suc first) left n)) (increasing (suc first) left (suc n)) rank (rw (length-map, length-increasing (suc first) left n) h)
    ∙ slice_get-map (λ c. first ∷ c) (increasing (suc first) left n) rank

part_without : (first left n rank : ℕ) → slice_get (increasing first (suc left) (suc n)) (binomial left n + rank) ≡ slice_get (increasing (suc first) left (suc n)) rank
unfolding increasing
part_without first left n rank =
    let e : binomial left n ≡ length (map (λ c. first ∷ c) (increasing (suc first) left n)) = sym (rw (length-map, length-increasing (suc first) left n) refl) in
    rw e (slice_get-append_right (map (λ c. first ∷ c) (increasing (suc first) left n)) (increasing (suc first) left (suc n)) rank)

-- what is left to find of candidate k, after these numbers and before this one
pub record IsLeft (pool : ℕ) (all : List (List ℕ)) (k : ℕ) (numbers : List ℕ) (number needed rank : ℕ) : Type 0 where
  pub reached : number ≤ pool
  pub within : rank < binomial (pool - number) needed
  pub found : slice_get all k ≡ option_map (λ c. numbers ++ c) (slice_get (increasing number (pool - number) needed) rank)

option_map-none : (o : Option (List ℕ)) → option_map (λ c. [] ++ c) o ≡ o
option_map-none None = refl
option_map-none (Some c) = refl

option_map-push : (numbers : List ℕ) (number : ℕ) (o : Option (List ℕ)) → option_map (λ c. numbers ++ c) (option_map (λ c. number ∷ c) o) ≡ option_map (λ c. (numbers ++ number ∷ []) ++ c) o
option_map-push numbers number None = refl
option_map-push numbers number (Some c) = ap Some (sym (append_assoc numbers (number ∷ []) c))

pub left_at_first : (pool : ℕ) (all : List (List ℕ)) (k n rank : ℕ) → rank < length (increasing 0 pool n) → slice_get all k ≡ slice_get (increasing 0 pool n) rank → IsLeft pool all k [] 0 n rank
left_at_first pool all k n rank h e =
    let f : pool - 0 ≡ pool = omega arith in
    record {
      reached = omega arith;
      within = rw (f, ← length-increasing 0 pool n) h;
      found = rw f (e ∙ sym (option_map-none (slice_get (increasing 0 pool n) rank)));
    }

pub left_at_last : (pool : ℕ) (all : List (List ℕ)) (k : ℕ) (numbers : List ℕ) (number rank : ℕ) → IsLeft pool all k numbers number 0 rank → slice_get all k ≡ Some numbers
left_at_last pool all k numbers number rank h =
    let b : binomial (pool - number) 0 ≡ 1 = binomial-none (pool - number) in
    let r : rank ≡ 0 = omega (arith, h.within) in
    let e : slice_get (increasing number (pool - number) 0) rank ≡ Some [] = rw (increasing-none number (pool - number), r) refl in
    h.found ∙ ap (option_map (λ c. numbers ++ c)) e ∙ ap Some (append-nil numbers)

pub number_below : (pool : ℕ) (all : List (List ℕ)) (k : ℕ) (numbers : List ℕ) (number n rank : ℕ) → IsLeft pool all k numbers number (suc n) rank → number < pool
number_below pool all k numbers number n rank h = go (pool - number) refl
  where
    go : (d : ℕ) → pool - number ≡ d → number < pool
    go zero e = let w : rank < binomial 0 (suc n) = rw e at h.within in absurd (omega (arith, w, binomial-empty n))
    go (suc d) e = omega arith

module _ (pool : ℕ) (all : List (List ℕ)) (k : ℕ) (numbers : List ℕ) (number n : ℕ) where
  with_it : (rank d : ℕ) → number < pool → pool - number ≡ suc d → pool - number - 1 ≡ d → pool - suc number ≡ d
      → IsLeft pool all k numbers number (suc n) rank → rank < binomial (pool - number - 1) n → IsLeft pool all k (numbers ++ number ∷ []) (suc number) n rank
  with_it rank d b e f g h l =
      let m : rank < binomial d n = rw f at l in
      let o : slice_get all k ≡ option_map (λ c. numbers ++ c) (slice_get (increasing number (suc d) (suc n)) rank) = rw e at h.found in
      record {
        reached = omega arith;
        within = rw g m;
        found = rw g (o ∙ ap (option_map (λ c. numbers ++ c)) (part_with number d n rank m) ∙ option_map-push numbers number (slice_get (increasing (suc number) d n) rank));
      }

  without_it : (rank d : ℕ) → number < pool → pool - number ≡ suc d → pool - number - 1 ≡ d → pool - suc number ≡ d
      → IsLeft pool all k numbers number (suc n) rank → binomial (pool - number - 1) n ≤ rank → IsLeft pool all k numbers (suc number) (suc n) (rank - binomial (pool - number - 1) n)
  without_it rank d b e f g h l =
      let m : binomial d n ≤ rank = rw f at l in
      let w : rank < binomial (suc d) (suc n) = rw e at h.within in
      let r : binomial d n + (rank - binomial d n) ≡ rank = omega arith in
      let o : slice_get all k ≡ option_map (λ c. numbers ++ c) (slice_get (increasing number (suc d) (suc n)) rank) = rw e at h.found in
      record {
        reached = omega arith;
        within = rw (g, f) (omega (arith, binomial-pascal d n));
        found = rw (g, f) (o ∙ ap (λ x. option_map (λ c. numbers ++ c) (slice_get (increasing number (suc d) (suc n)) x)) (sym r) ∙ ap (option_map (λ c. numbers ++ c)) (part_without number d n (rank - binomial d n)));
      }

  pub left_with : (rank : ℕ) → IsLeft pool all k numbers number (suc n) rank → rank < binomial (pool - number - 1) n → IsLeft pool all k (numbers ++ number ∷ []) (number + 1) n rank
  left_with rank h l =
      let b : number < pool = number_below pool all k numbers number n rank h in
      rw (add-one number) (with_it rank (pool - suc number) b (omega arith) (omega arith) refl h l)

  pub left_without : (rank : ℕ) → IsLeft pool all k numbers number (suc n) rank → binomial (pool - number - 1) n ≤ rank → IsLeft pool all k numbers (number + 1) (suc n) (rank - binomial (pool - number - 1) n)
  left_without rank h l =
      let b : number < pool = number_below pool all k numbers number n rank h in
      rw (add-one number) (without_it rank (pool - suc number) b (omega arith) (omega arith) refl h l)

module _ (pool : ℕ) (all : List (List ℕ)) (k : ℕ) (numbers : List ℕ) (number : ℕ) where
  pub number_before : (needed rank : ℕ) → 0 < needed → IsLeft pool all k numbers number needed rank → number < pool
  number_before needed rank p h =
      let e : needed ≡ suc (needed - 1) = omega arith in
      number_below pool all k numbers number (needed - 1) rank (subst (λ (m : ℕ). IsLeft pool all k numbers number m rank) e h)

  pub step_with : (needed rank : ℕ) → 0 < needed → IsLeft pool all k numbers number needed rank → rank < binomial (pool - number - 1) (needed - 1)
      → IsLeft pool all k (numbers ++ number ∷ []) (number + 1) (needed - 1) rank
  step_with needed rank p h l =
      let e : needed ≡ suc (needed - 1) = omega arith in
      left_with pool all k numbers number (needed - 1) rank (subst (λ (m : ℕ). IsLeft pool all k numbers number m rank) e h) l

  pub step_without : (needed rank : ℕ) → 0 < needed → IsLeft pool all k numbers number needed rank → binomial (pool - number - 1) (needed - 1) ≤ rank
      → IsLeft pool all k numbers (number + 1) needed (rank - binomial (pool - number - 1) (needed - 1))
  step_without needed rank p h l =
      let e : needed ≡ suc (needed - 1) = omega arith in
      subst (λ (m : ℕ). IsLeft pool all k numbers (number + 1) m (rank - binomial (pool - number - 1) (needed - 1))) (sym e)
      (left_without pool all k numbers number (needed - 1) rank (subst (λ (m : ℕ). IsLeft pool all k numbers number m rank) e h) l)

-- members rise
all_append : {X : Type 0} (P : X → Type 0) (xs ys : List X) → AllByRecursion P xs → AllByRecursion P ys → AllByRecursion P (xs ++ ys)
all_append P [] ys a b = b
all_append P (x ∷ xs) ys a b = (a.0, all_append P xs ys a.1 b)

all_map : {X Y : Type 0} (P : X → Type 0) (Q : Y → Type 0) (f : X → Y) → ((x : X) → P x → Q (f x)) → (xs : List X) → AllByRecursion P xs → AllByRecursion Q (map f xs)
all_map P Q f h [] a = tt
all_map P Q f h (x ∷ xs) a = (h x a.0, all_map P Q f h xs a.1)

all_more : {X : Type 0} (P Q : X → Type 0) → ((x : X) → P x → Q x) → (xs : List X) → AllByRecursion P xs → AllByRecursion Q xs
all_more P Q h [] a = tt
all_more P Q h (x ∷ xs) a = (h x a.0, all_more P Q h xs a.1)

one_of : {X : Type 0} (P : X → Type 0) (xs : List X) (k : ℕ) (x : X) → AllByRecursion P xs → slice_get xs k ≡ Some x → P x
one_of P [] k x a e = absurd cc
one_of P (y ∷ ys) zero x a e = let f : y ≡ x = cc in subst P f a.0
one_of P (y ∷ ys) (suc k) x a e = one_of P ys k x a.1 e

rises_from : (first end : ℕ) (c : List ℕ) → RisesWithin (suc first) end c → RisesWithin first end c
rises_from first end [] r = tt
rises_from first end (n ∷ ns) r = (omega (arith, r.0), r.1, r.2)

rises_after : (first left : ℕ) (c : List ℕ) → RisesWithin (suc first) (suc first + left) c → RisesWithin first (first + suc left) (first ∷ c)
rises_after first left c r =
    let e : suc first + left ≡ first + suc left = omega arith in
    (omega arith, omega arith, subst (λ (m : ℕ). RisesWithin (suc first) m c) e r)

rises_past : (first left : ℕ) (c : List ℕ) → RisesWithin (suc first) (suc first + left) c → RisesWithin first (first + suc left) c
rises_past first left c r =
    let e : suc first + left ≡ first + suc left = omega arith in
    rises_from first (first + suc left) c (subst (λ (m : ℕ). RisesWithin (suc first) m c) e r)

increasing_rises : (first left n : ℕ) → AllByRecursion (RisesWithin first (first + left)) (increasing first left n)
unfolding increasing
increasing_rises first zero zero = (tt, tt)
increasing_rises first (suc left) zero = (tt, tt)
increasing_rises first zero (suc n) = tt
increasing_rises first (suc left) (suc n) =
    all_append (RisesWithin first (first + suc left)) (map (λ c. first ∷ c) (increasing (suc first) left n)) (increasing (suc first) left (suc n))
    (all_map (RisesWithin (suc first) (suc first + left)) (RisesWithin first (first + suc left)) (λ c. first ∷ c) (rises_after first left) (increasing (suc first) left n) (increasing_rises (suc first) left n))
    (all_more (RisesWithin (suc first) (suc first + left)) (RisesWithin first (first + suc left)) (rises_past first left) (increasing (suc first) left (suc n)) (increasing_rises (suc first) left (suc n)))

increasing_are : (pool n : ℕ) → AllByRecursion (IsCandidate pool) (increasing 0 pool n)
increasing_are pool n = let e : 0 + pool ≡ pool = omega arith in subst (λ (m : ℕ). AllByRecursion (RisesWithin 0 m) (increasing 0 pool n)) e (increasing_rises 0 pool n)

candidates_are : (pool size : ℕ) → AllByRecursion (IsCandidate pool) (candidates pool size)
unfolding candidates
candidates_are pool zero = increasing_are pool 0
candidates_are pool (suc size) = all_append (IsCandidate pool) (candidates pool size) (increasing 0 pool (suc size)) (candidates_are pool size) (increasing_are pool (suc size))

-- each candidate of the list is one
pub candidate_at : (pool size k : ℕ) (c : List ℕ) → slice_get (candidates pool size) k ≡ Some c → IsCandidate pool c
candidate_at pool size k c e = one_of (IsCandidate pool) (candidates pool size) k c (candidates_are pool size) e

-- each increasing list from the first number on stands somewhere
pub increasing_has : (first left : ℕ) (c : List ℕ) → RisesWithin first (first + left) c → (k : ℕ) × (slice_get (increasing first left (length c)) k ≡ Some c)
increasing_has first left [] r = (0, rw (increasing-none first left) refl)
increasing_has first zero (n ∷ ns) r = absurd (omega (arith, r.0, r.1))
increasing_has first (suc left) (n ∷ ns) r = go (le_or_after first n r.0) (λ h. increasing_has (suc first) left ns h) (λ h. increasing_has (suc first) left (n ∷ ns) h)
  where
    e : first + suc left ≡ suc first + left
    e = omega arith

    with_first : (k : ℕ) × (slice_get (increasing (suc first) left (length ns)) k ≡ Some ns) → n ≡ first → (k : ℕ) × (slice_get (increasing first (suc left) (suc (length ns))) k ≡ Some (n ∷ ns))
    with_first h f =
        let w : h.0 < binomial left (length ns) = rw (← length-increasing (suc first) left (length ns)) (slice_get_within (increasing (suc first) left (length ns)) h.0 ns h.1) in
        (h.0, part_with first left (length ns) h.0 w ∙ ap (option_map (λ c. first ∷ c)) h.1 ∙ ap (λ x. Some (x ∷ ns)) (sym f))

    without_first : (k : ℕ) × (slice_get (increasing (suc first) left (suc (length ns))) k ≡ Some (n ∷ ns)) → (k : ℕ) × (slice_get (increasing first (suc left) (suc (length ns))) k ≡ Some (n ∷ ns))
    without_first h = (binomial left (length ns) + h.0, part_without first left (length ns) h.0 ∙ h.1)

    go : (n ≡ first) ⊎ (suc first ≤ n)
        → (RisesWithin (suc first) (suc first + left) ns → (k : ℕ) × (slice_get (increasing (suc first) left (length ns)) k ≡ Some ns))
        → (RisesWithin (suc first) (suc first + left) (n ∷ ns) → (k : ℕ) × (slice_get (increasing (suc first) left (suc (length ns))) k ≡ Some (n ∷ ns)))
        → (k : ℕ) × (slice_get (increasing first (suc left) (suc (length ns))) k ≡ Some (n ∷ ns))
    go (inl f) shorter_ same = with_first (shorter_ (subst (λ (m : ℕ). RisesWithin (suc m) (suc first + left) ns) f (subst (λ (m : ℕ). RisesWithin (suc n) m ns) e r.2))) f
    go (inr f) shorter_ same = without_first (same (f, subst (λ (m : ℕ). n < m) e r.1, subst (λ (m : ℕ). RisesWithin (suc n) m ns) e r.2))

-- each candidate stands somewhere in the list
pub candidates_have : (pool size : ℕ) (c : List ℕ) → IsCandidate pool c → length c ≤ size → (k : ℕ) × (slice_get (candidates pool size) k ≡ Some c)
candidates_have pool size c h l =
    let e : pool ≡ 0 + pool = omega arith in
    let f = increasing_has 0 pool c (subst (λ (m : ℕ). RisesWithin 0 m c) e h) in
    let w : f.0 < binomial pool (length c) = rw (← length-increasing 0 pool (length c)) (slice_get_within (increasing 0 pool (length c)) f.0 c f.1) in
    (shorter pool (length c) + f.0, at_length pool size (length c) f.0 l w ∙ f.1)
