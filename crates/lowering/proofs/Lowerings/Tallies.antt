-- Sites that pass a test, counted before each one.
use Rattle.std.proofs.Common.{◌≡◌, ℕ, zero, suc, ◌+◌, ◌≤◌, Bool, true, false, List, [], ◌∷◌, length, take, refl, ap, ◌∙◌, cond, arith, slice_get}
use Rattle.std.specs.List.{filter}
use Rattle.lowering.specs.declared.numbering.tally.Tally.{Tally}
use Rattle.loop_text.specs.Statements.Fragment.{Fragment, accumulators, needed_of, is_live}
use Rattle.loop_text.specs.Kernel.KernelLists.{count_loops}
use Rattle.java_loops.specs.Lowering.Numbering.{count_flags}
use Rattle.loop_text.specs.Sites.Sites.{Site}
use Rattle.lowering.specs.InCode.Tallied.{is_loop_site, is_flag_site, passed_before, IsTally, found_or, tally_at}

found_step : (test : Site → Bool) (s : Site) (ss : List Site) (k n : ℕ) (b : Bool) → ((j : ℕ) → found_or (j + length (filter test ss)) (slice_get (passed_before test j ss) n) ≡ j + length (filter test (take n ss))) → found_or (k + length (cond b (s ∷ filter test ss) (filter test ss))) (slice_get (passed_before test (cond b (suc k) k) ss) n) ≡ k + length (cond b (s ∷ filter test (take n ss)) (filter test (take n ss)))
found_step test s ss k n true more =
    let one : k + suc (length (filter test ss)) ≡ suc k + length (filter test ss) = omega arith in
    let two : suc k + length (filter test (take n ss)) ≡ k + suc (length (filter test (take n ss))) = omega arith in
    ap (λ (m : ℕ). found_or m (slice_get (passed_before test (suc k) ss) n)) one ∙ more (suc k) ∙ two
found_step test s ss k n false more = more k

found_at : (test : Site → Bool) (ss : List Site) (k n : ℕ) → found_or (k + length (filter test ss)) (slice_get (passed_before test k ss) n) ≡ k + length (filter test (take n ss))
found_at test [] k zero = refl
found_at test [] k (suc n) = refl
found_at test (s ∷ ss) k zero = omega arith
found_at test (s ∷ ss) k (suc n) = found_step test s ss k n (test s) (λ j. found_at test ss j n)

-- what is counted before a site
pub tally_is : (test : Site → Bool) (sites : List Site) (t : Tally) (n : ℕ) → IsTally test sites t → tally_at t n ≡ length (filter test (take n sites))
tally_is test sites t n h =
    let one : length (filter test sites) ≡ 0 + length (filter test sites) = omega arith in
    let two : 0 + length (filter test (take n sites)) ≡ length (filter test (take n sites)) = omega arith in
    ap (λ (m : ℕ). found_or m (slice_get t.before n)) (h.all ∙ one)
    ∙ ap (λ (l : List ℕ). found_or (0 + length (filter test sites)) (slice_get l n)) h.before
    ∙ found_at test sites 0 n
    ∙ two

fewer_step : {A : Type 0} (x y : A) (xs ys : List A) (b : Bool) → length xs ≤ length ys → length (cond b (x ∷ xs) xs) ≤ length (cond b (y ∷ ys) ys)
fewer_step x y xs ys true h = omega arith
fewer_step x y xs ys false h = h

-- the first ones have no more that pass than all
first_fewer : {A : Type 0} (test : A → Bool) (n : ℕ) (xs : List A) → length (filter test (take n xs)) ≤ length (filter test xs)
first_fewer test zero xs = omega arith
first_fewer test (suc n) [] = omega arith
first_fewer test (suc n) (x ∷ xs) = fewer_step x x (filter test (take n xs)) (filter test xs) (test x) (first_fewer test n xs)

pub loops_fewer : (n : ℕ) (sites : List Site) → count_loops (take n sites) ≤ count_loops sites
loops_fewer n sites = first_fewer is_loop_site n sites

pub flags_fewer : (n : ℕ) (sites : List Site) → count_flags (take n sites) ≤ count_flags sites
flags_fewer n sites = first_fewer is_flag_site n sites

filter_step : {A : Type 0} (x : A) (xs ys : List A) (b : Bool) → length xs ≤ length ys → length (cond b (x ∷ xs) xs) ≤ suc (length ys)
filter_step x xs ys true h = omega arith
filter_step x xs ys false h = omega arith

filter_fewer : {A : Type 0} (test : A → Bool) (xs : List A) → length (filter test xs) ≤ length xs
filter_fewer test [] = omega arith
filter_fewer test (x ∷ xs) = filter_step x (filter test xs) xs (test x) (filter_fewer test xs)

pub needed_fewer : (f : Fragment) → length (needed_of f) ≤ length (accumulators f)
needed_fewer f = filter_fewer (is_live f) (accumulators f)
