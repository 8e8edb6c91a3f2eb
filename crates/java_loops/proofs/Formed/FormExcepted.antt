-- Which leaves are the conjuncts of best values: those of the `if` whose conjunct compares the variable that an update
-- inside of it takes, and no others.
use Rattle.std.proofs.Common.{◌≡◌, ℕ, zero, suc, ◌+◌, Bool, true, false, not, ◌&&◌, ◌||◌, List, [], ◌∷◌, ◌++◌, length, Option, Some, None, refl, sym, ap, ap₂, ◌∙◌, subst, cond, slice_get, arith, nat_eq, eqb-true, ⊎_elim}
use Rattle.std.specs.List.{filter, list_any}
use Rattle.std.proofs.lemmas.Bool.{and_parts, or_cases, or_left, or_right, false_from_ne_true}
use Rattle.loop_text.specs.Kernel.KernelConditions.{name_where, is_taking, best_under, all_best_under}
use Rattle.loop_text.specs.Kernel.KernelForms.{takes, form_of, Found, best_claims, way_found, only_way, best_way, has_other_update, is_way, takes_best, fits_local}
use Rattle.java_loops.specs.Kernel.KernelForms.{fits, fits_outer, fits_target, broken_form, broken_forms}
use Rattle.java_loops.specs.Kernel.Setting.{Setting}
use Rattle.loop_text.specs.declared.sites.bindings.Binding.{Binding}
use Rattle.loop_text.specs.declared.sites.bindings.Binding.TheVariants.{Row, Local, Outer}
use Rattle.loop_text.specs.Sites.Sites.{Test, Site, binding_at, RowColumn, place_of, any_site, is_under, inner_tests, target_of, is_update, is_some}
use Rattle.java_loops.proofs.Nested.NestRules.{true_from_not, false_from_not, and_second}
use Rattle.java_loops.proofs.Standing.StandingRules.{none_where, unbroken_at, fails_at}

-- ---- Tests that a member passes

any_step : {A : Type 0} (test : A → Bool) (x y : A) (xs : List A) → y ≡ x → test x ≡ true → (test y || list_any test xs) ≡ true
any_step test x y xs e h = or_left (test y) (list_any test xs) (ap test e ∙ h)

pub any_at : {A : Type 0} (test : A → Bool) (xs : List A) (k : ℕ) (x : A) → slice_get xs k ≡ Some x → test x ≡ true → list_any test xs ≡ true
any_at test [] k x e h = absurd cc
any_at test (y ∷ ys) zero x e h = any_step test x y ys (cc) h
any_at test (y ∷ ys) (suc k) x e h = or_right (test y) (list_any test ys) (any_at test ys k x e h)

filter_step : {A : Type 0} (p test : A → Bool) (x : A) (xs : List A) (b : Bool) → list_any test (cond b (x ∷ filter p xs) (filter p xs)) ≡ true → (list_any test (filter p xs) ≡ true → list_any test xs ≡ true) → (test x || list_any test xs) ≡ true
filter_step p test x xs true h more = ⊎_elim (λ l. or_left (test x) (list_any test xs) l) (λ r. or_right (test x) (list_any test xs) (more r)) (or_cases (test x) (list_any test (filter p xs)) h)
filter_step p test x xs false h more = or_right (test x) (list_any test xs) (more h)

-- what a member of the filtered list passes, a member of the list passes
any_filtered : {A : Type 0} (p test : A → Bool) (xs : List A) → list_any test (filter p xs) ≡ true → list_any test xs ≡ true
any_filtered p test [] h = h
any_filtered p test (x ∷ xs) h = filter_step p test x xs (p x) h (λ i. any_filtered p test xs i)

-- ---- The update that takes a best value

-- an update takes this column for the variable, and stands where it may
pub record TakesBest (w : Setting) (i : ℕ) (s : Site) (m : List ℕ) (d : RowColumn) : Type 0 where
  pub there : slice_get w.sites i ≡ Some s
  pub target : target_of s.statement ≡ Some m
  pub form : form_of w.sites i s.statement ≡ takes d
  pub way : is_way (best_way w.sites m d s.round) ≡ true
  pub alone : has_other_update w.sites i (best_claims m s.round) ≡ false

takes_fits : (w : Setting) (i : ℕ) (s : Site) (m : List ℕ) (d : RowColumn) (b : Binding) → form_of w.sites i s.statement ≡ takes d → fits w i s m b ≡ true → takes_best w.sites i s m d ≡ true
takes_fits w i s m d (Row j) e h = absurd cc
takes_fits w i s m d (Local l) e h = let k : fits_local w.sites s l (takes d) ≡ true = ap (λ z. fits_local w.sites s l z) (sym e) ∙ h in absurd cc
takes_fits w i s m d Outer e h = ap (λ z. fits_outer w i s m z) (sym e) ∙ h

-- an update of this form stands where it may
pub takes_best_at : (w : Setting) → broken_forms w ≡ None → (i : ℕ) (s : Site) (m : List ℕ) (d : RowColumn) → slice_get w.sites i ≡ Some s → target_of s.statement ≡ Some m → form_of w.sites i s.statement ≡ takes d → TakesBest w i s m d
takes_best_at w rule i s m d there target form =
    let fit : fits_target w i s (target_of s.statement) ≡ true = true_from_not (fits_target w i s (target_of s.statement)) (none_where (not (fits_target w i s (target_of s.statement))) (place_of s.statement) (unbroken_at (broken_form w) w.sites rule i s there)) in
    let here : fits w i s m (binding_at w.sites i m) ≡ true = ap (fits_target w i s) (sym target) ∙ fit in
    let two = and_parts (is_way (best_way w.sites m d s.round)) (not (has_other_update w.sites i (best_claims m s.round))) (takes_fits w i s m d (binding_at w.sites i m) form here) in
    record { there = there; target = target; form = form; way = two.0; alone = false_from_not (has_other_update w.sites i (best_claims m s.round)) two.1 }

-- the one conjunct that mentions the variable
pub record OnlyFound (sites : List Site) (m : List ℕ) (d : RowColumn) (fs : List Found) : Type 0 where
  pub found : Found
  pub is : fs ≡ found ∷ []
  pub way : is_way (way_found sites m d found) ≡ true

only_found : (sites : List Site) (m : List ℕ) (d : RowColumn) (fs : List Found) → is_way (only_way sites m d fs) ≡ true → OnlyFound sites m d fs
only_found sites m d [] h = absurd cc
only_found sites m d (f ∷ []) h = record { found = f; is = refl; way = h }
only_found sites m d (f ∷ g ∷ fs) h = absurd cc

pub found_of : (w : Setting) (i : ℕ) (s : Site) (m : List ℕ) (d : RowColumn) → TakesBest w i s m d → OnlyFound w.sites m d (best_claims m s.round)
found_of w i s m d b = only_found w.sites m d (best_claims m s.round) b.way

-- under the `if` of that conjunct no other update stands
pub other_under : (w : Setting) (i : ℕ) (s : Site) (m : List ℕ) (d : RowColumn) (n : ℕ) (b : TakesBest w i s m d) → (found_of w i s m d b).found.number ≡ n → (j : ℕ) (t : Site) → slice_get w.sites j ≡ Some t → is_update t.statement ≡ true → is_under n t ≡ true → nat_eq j i ≡ true
other_under w i s m d n b number j t there updates under =
    let o : OnlyFound w.sites m d (best_claims m s.round) = found_of w i s m d b in
    let h : any_site (λ q x. is_update x.statement && (not (nat_eq q i) && is_under o.found.number x)) 0 w.sites ≡ false = ap (has_other_update w.sites i) (sym o.is) ∙ b.alone in
    let here = and_second (is_update t.statement) (not (nat_eq j i) && is_under o.found.number t) (fails_at (λ q x. is_update x.statement && (not (nat_eq q i) && is_under o.found.number x)) w.sites h j t there) updates in
    not_fails (nat_eq j i) (is_under o.found.number t) here (ap (λ q. is_under q t) number ∙ under)
  where
    not_fails : (p q : Bool) → (not p && q) ≡ false → q ≡ true → p ≡ true
    not_fails true q e h = refl
    not_fails false q e h = absurd cc

-- ---- Best values under an `if`

none_by : (o : Option (List ℕ)) (n c : Bool) → (is_some o ≡ true → n ≡ false) → name_where (n && c) o ≡ []
none_by None true true h = refl
none_by None true false h = refl
none_by None false c h = refl
none_by (Some x) false c h = refl
none_by (Some x) true c h = let k : true ≡ false = h refl in absurd cc

-- no best value is taken at another site
other_best : (w : Setting) (i : ℕ) (s : Site) (m : List ℕ) (d : RowColumn) (n : ℕ) (b : TakesBest w i s m d) → (found_of w i s m d b).found.number ≡ n → (j : ℕ) (t : Site) → slice_get w.sites j ≡ Some t → nat_eq j i ≡ false → best_under w.sites n j t ≡ []
other_best w i s m d n b number j t there unlike =
    none_by (target_of t.statement) (list_any (λ (q : Test). nat_eq n q.number) (inner_tests t.round)) (is_taking (form_of w.sites j t.statement)) (λ updates. false_from_ne_true (list_any (λ (q : Test). nat_eq n q.number) (inner_tests t.round)) (λ inner.
    let under : is_under n t ≡ true = any_filtered (λ (q : Test). nat_eq q.level (length t.round.loops)) (λ (q : Test). nat_eq n q.number) t.round.tests inner in
    let same : nat_eq j i ≡ true = other_under w i s m d n b number j t there updates under in
    absurd cc))

none_from : (sites : List Site) (n k : ℕ) (ss : List Site) → ((o j : ℕ) (t : Site) → k + o ≡ j → slice_get ss o ≡ Some t → best_under sites n j t ≡ []) → all_best_under sites n k ss ≡ []
none_from sites n k [] h = refl
none_from sites n k (s ∷ ss) h = ap₂ (λ xs ys. xs ++ ys) (h 0 k s (omega arith) refl) (none_from sites n (suc k) ss (λ o j t e q. h (suc o) j t (omega arith) q))

one_from : (sites : List Site) (n k p i : ℕ) (ss : List Site) (s : Site) (m : List ℕ) → k + p ≡ i → slice_get ss p ≡ Some s → best_under sites n i s ≡ m ∷ [] → ((o j : ℕ) (t : Site) → k + o ≡ j → slice_get ss o ≡ Some t → nat_eq j i ≡ false → best_under sites n j t ≡ []) → all_best_under sites n k ss ≡ m ∷ []
one_from sites n k p i [] s m e q h others = absurd cc
one_from sites n k zero i (x ∷ xs) s m e q h others =
    let same : x ≡ s = cc in
    let number : k ≡ i = omega arith in
    ap₂ (λ us vs. us ++ vs) (ap₂ (best_under sites n) number same ∙ h) (none_from sites n (suc k) xs (λ o j t f g. others (suc o) j t (omega arith) g (apart k o j i f number)))
  where
    apart : (k o j i : ℕ) → suc k + o ≡ j → k ≡ i → nat_eq j i ≡ false
    apart k o j i f e = false_from_ne_true (nat_eq j i) (λ h. let same : j ≡ i = eqb-true j i h in absurd (omega arith))
one_from sites n k (suc p) i (x ∷ xs) s m e q h others =
    ap₂ (λ us vs. us ++ vs) (others 0 k x (omega arith) refl (before k p i e)) (one_from sites n (suc k) p i xs s m (omega arith) q h (λ o j t f g. others (suc o) j t (omega arith) g))
  where
    before : (k p i : ℕ) → k + suc p ≡ i → nat_eq k i ≡ false
    before k p i f = false_from_ne_true (nat_eq k i) (λ h. let same : k ≡ i = eqb-true k i h in absurd (omega arith))

here_best : (sites : List Site) (n i : ℕ) (s : Site) (m : List ℕ) (d : RowColumn) → form_of sites i s.statement ≡ takes d → target_of s.statement ≡ Some m → list_any (λ (q : Test). nat_eq n q.number) (inner_tests s.round) ≡ true → best_under sites n i s ≡ m ∷ []
here_best sites n i s m d form target inner =
    ap (λ b. name_where b (target_of s.statement)) (ap₂ (λ f q. q && is_taking f) form inner) ∙ ap (name_where true) target

-- The best value under the `if` of its conjunct is the only one there.
pub best_under_is : (w : Setting) (i : ℕ) (s : Site) (m : List ℕ) (d : RowColumn) (n : ℕ) (b : TakesBest w i s m d) → (found_of w i s m d b).found.number ≡ n → list_any (λ (q : Test). nat_eq n q.number) (inner_tests s.round) ≡ true → all_best_under w.sites n 0 w.sites ≡ m ∷ []
best_under_is w i s m d n b number inner =
    one_from w.sites n 0 i i w.sites s m (omega arith) b.there (here_best w.sites n i s m d b.form b.target inner)
    (λ o j t e q unlike. other_best w i s m d n b number j t (subst (λ k. slice_get w.sites k ≡ Some t) (from_zero o j e) q) unlike)
  where
    from_zero : (o j : ℕ) → 0 + o ≡ j → o ≡ j
    from_zero o j e = omega arith
