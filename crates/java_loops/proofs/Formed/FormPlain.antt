-- Conditions round an update, other than that of its best value, have no conjunct of a best value.
use Rattle.std.proofs.Common.{◌≡◌, ℕ, zero, suc, ◌+◌, Bool, true, false, ◌&&◌, List, [], ◌∷◌, ◌++◌, length, Option, Some, None, refl, sym, ap, ◌∙◌, subst, slice_get, arith, nat_eq, eqb-true, eq-eqb, ⊎_elim}
use Rattle.std.specs.List.{filter, flat_map, list_any}
use Rattle.std.proofs.lemmas.Bool.{and_parts, or_cases, false_from_ne_true}
use Rattle.std.proofs.lemmas.List.Folds.{list_any-append}
use Rattle.sql_ast.proofs.Tools.{all_at}
use Rattle.java_ast.specs.Tree.{Expression}
use Rattle.java_mean.proofs.Members.{all_filtered}
use Rattle.loop_text.specs.Kernel.KernelConditions.{leaves, name_where, is_taking, best_under, all_best_under, compares, is_excepted, condition_of}
use Rattle.loop_text.specs.Kernel.KernelForms.{form_of, Claim, claims, mentions, Found, found_at, mentioning, best_claims}
use Rattle.java_loops.specs.Kernel.KernelForms.{broken_forms}
use Rattle.java_ast.specs.Names.{is_among, names_in}
use Rattle.java_loops.specs.Kernel.Setting.{Setting}
use Rattle.loop_text.specs.Sites.Sites.{Test, Site, RowColumn, is_under, inner_tests, target_of, is_update}
use Rattle.java_loops.proofs.Formed.FormExcepted.{any_at, TakesBest, takes_best_at, OnlyFound, found_of, other_under, best_under_is}
use Rattle.java_loops.proofs.Formed.FormMentions.{unmentioned, leaves_fail}
use Rattle.java_loops.proofs.Nested.NestBest.{Taking, taking}
use Rattle.java_loops.proofs.Numbers.NumberLists.{Numbered, numbered}
use Rattle.java_loops.proofs.Standing.StandingKnown.{Tested, Known}
use Rattle.java_loops.proofs.Standing.StandingRules.{get_same}

-- ---- Which test the conjunct is of

none_mentions : (m : List ℕ) (ts : List Test) (k : ℕ) (t : Test) → slice_get ts k ≡ Some t → flat_map (mentioning m) ts ≡ [] → filter (mentions m) (claims t.holds t.condition) ≡ []
none_mentions m [] k t e h = absurd cc
none_mentions m (q ∷ ts) zero t e h =
    let same : q ≡ t = cc in
    subst (λ (z : Test). filter (mentions m) (claims z.holds z.condition) ≡ []) same (no_claims q.number (filter (mentions m) (claims q.holds q.condition)) (first_empty (mentioning m q) (flat_map (mentioning m) ts) h))
  where
    first_empty : (us vs : List Found) → us ++ vs ≡ [] → us ≡ []
    first_empty [] vs f = refl
    first_empty (u ∷ us) vs f = absurd cc

    no_claims : (n : ℕ) (cs : List Claim) → found_at n cs ≡ [] → cs ≡ []
    no_claims n [] f = refl
    no_claims n (c ∷ cs) f = absurd cc
none_mentions m (q ∷ ts) (suc k) t e h = none_mentions m ts k t e (second_empty (mentioning m q) (flat_map (mentioning m) ts) h)
  where
    second_empty : (us vs : List Found) → us ++ vs ≡ [] → vs ≡ []
    second_empty [] vs f = f
    second_empty (u ∷ us) vs f = absurd cc

first_number : (n : ℕ) (cs : List Claim) (vs : List Found) (f : Found) → found_at n cs ++ vs ≡ f ∷ [] → (cs ≡ [] → ⊥) → f.number ≡ n
first_number n [] vs f h differs = absurd (differs refl)
first_number n (c ∷ cs) vs f h differs = let same : record { number = n; claim = c } ≡ f = cc in ap (λ (z : Found). z.number) (sym same)

later_number : (m : List ℕ) (ts : List Test) (k : ℕ) (t : Test) (us : List Found) (f : Found) → us ++ flat_map (mentioning m) ts ≡ f ∷ [] → slice_get ts k ≡ Some t → (filter (mentions m) (claims t.holds t.condition) ≡ [] → ⊥) → (flat_map (mentioning m) ts ≡ f ∷ [] → f.number ≡ t.number) → f.number ≡ t.number
later_number m ts k t [] f h e differs more = more h
later_number m ts k t (u ∷ us) f h e differs more = absurd (differs (none_mentions m ts k t e (rest_empty us (flat_map (mentioning m) ts) (tail_empty u us (flat_map (mentioning m) ts) f h))))
  where
    tail_empty : (u : Found) (us vs : List Found) (f : Found) → (u ∷ us) ++ vs ≡ f ∷ [] → us ++ vs ≡ []
    tail_empty u us vs f h = cc

    rest_empty : (us vs : List Found) → us ++ vs ≡ [] → vs ≡ []
    rest_empty [] vs h = h
    rest_empty (u ∷ us) vs h = absurd cc

-- the conjunct is of each test that mentions the variable
found_number : (m : List ℕ) (ts : List Test) (k : ℕ) (t : Test) (f : Found) → slice_get ts k ≡ Some t → flat_map (mentioning m) ts ≡ f ∷ [] → (filter (mentions m) (claims t.holds t.condition) ≡ [] → ⊥) → f.number ≡ t.number
found_number m [] k t f e h differs = absurd cc
found_number m (q ∷ ts) zero t f e h differs =
    let same : q ≡ t = cc in
    first_number q.number (filter (mentions m) (claims q.holds q.condition)) (flat_map (mentioning m) ts) f h (subst (λ (z : Test). filter (mentions m) (claims z.holds z.condition) ≡ [] → ⊥) (sym same) differs) ∙ ap (λ (z : Test). z.number) same
found_number m (q ∷ ts) (suc k) t f e h differs = later_number m ts k t (mentioning m q) f h e differs (λ rest. found_number m ts k t f e rest differs)

-- ---- Where a best value is taken

record NamedWhere (b : Bool) (o : Option (List ℕ)) (test : List ℕ → Bool) : Type 0 where
  name : List ℕ
  holds : b ≡ true
  is : o ≡ Some name
  passes : test name ≡ true

named_where : (b : Bool) (o : Option (List ℕ)) (test : List ℕ → Bool) → list_any test (name_where b o) ≡ true → NamedWhere b o test
named_where true (Some m) test h = record { name = m; holds = refl; is = refl; passes = ⊎_elim (λ l. l) (λ r. absurd cc) (or_cases (test m) false h) }
named_where true None test h = absurd cc
named_where false o test h = absurd cc

-- an update inside of this `if` takes a best value whose variable passes the test
record BestAt (sites : List Site) (n : ℕ) (test : List ℕ → Bool) : Type 0 where
  number : ℕ
  site : Site
  there : slice_get sites number ≡ Some site
  passes : list_any test (best_under sites n number site) ≡ true

record BestFrom (sites : List Site) (n k : ℕ) (test : List ℕ → Bool) (ss : List Site) : Type 0 where
  offset : ℕ
  number : ℕ
  site : Site
  sum : k + offset ≡ number
  there : slice_get ss offset ≡ Some site
  passes : list_any test (best_under sites n number site) ≡ true

best_later : (sites : List Site) (n k : ℕ) (test : List ℕ → Bool) (s : Site) (ss : List Site) → BestFrom sites n (suc k) test ss → BestFrom sites n k test (s ∷ ss)
best_later sites n k test s ss b = let sum : suc k + b.offset ≡ b.number = b.sum in record { offset = suc b.offset; number = b.number; site = b.site; sum = omega (arith, sum); there = b.there; passes = b.passes }

best_from : (sites : List Site) (n k : ℕ) (test : List ℕ → Bool) (ss : List Site) → list_any test (all_best_under sites n k ss) ≡ true → BestFrom sites n k test ss
best_from sites n k test [] h = absurd cc
best_from sites n k test (s ∷ ss) h =
    ⊎_elim
    (λ l. record { offset = 0; number = k; site = s; sum = omega arith; there = refl; passes = l })
    (λ r. best_later sites n k test s ss (best_from sites n (suc k) test ss r))
    (or_cases (list_any test (best_under sites n k s)) (list_any test (all_best_under sites n (suc k) ss)) (sym (list_any-append test (best_under sites n k s) (all_best_under sites n (suc k) ss)) ∙ h))

best_at : (sites : List Site) (n : ℕ) (test : List ℕ → Bool) → list_any test (all_best_under sites n 0 sites) ≡ true → BestAt sites n test
best_at sites n test h =
    let b : BestFrom sites n 0 test sites = best_from sites n 0 test sites h in
    let sum : 0 + b.offset ≡ b.number = b.sum in
    let same : b.offset ≡ b.number = omega (arith, sum) in
    record { number = b.number; site = b.site; there = subst (λ i. slice_get sites i ≡ Some b.site) same b.there; passes = b.passes }

-- ---- An excepted leaf

-- the update takes a best value inside of this `if`, and the leaf mentions it
pub record Own (w : Setting) (n i : ℕ) (s : Site) (e : Expression) : Type 0 where
  pub name : List ℕ
  pub column : RowColumn
  pub best : TakesBest w i s name column
  pub inner : list_any (λ (t : Test). nat_eq n t.number) (inner_tests s.round) ≡ true
  pub number : (found_of w i s name column best).found.number ≡ n
  pub mentioned : is_among (names_in e) name ≡ true

-- where each test is of its `if`
pub record AllKnown (w : Setting) : Type 0 where
  pub by : (k : ℕ) (s : Site) → slice_get w.sites k ≡ Some s → Known w.sites k s

test_condition : (w : Setting) → AllKnown w → (n : ℕ) (here : Site) (c : Expression) → slice_get w.sites n ≡ Some here → condition_of here.statement ≡ Some c → (j : ℕ) (t : Site) → slice_get w.sites j ≡ Some t → (k : ℕ) (q : Test) → slice_get (inner_tests t.round) k ≡ Some q → n ≡ q.number → q.condition ≡ c
test_condition w known n here c get is j t there k q member number =
    let u : Tested w.sites q = all_at (Tested w.sites) (inner_tests t.round) k q (all_filtered (Tested w.sites) (λ (z : Test). nat_eq z.level (length t.round.loops)) t.round.tests (known.by j t there).tested.by) member in
    let same : u.site ≡ here = get_same w.sites q.number u.site here u.there (subst (λ i. slice_get w.sites i ≡ Some here) number get) in
    let two : Some q.condition ≡ Some c = sym u.is ∙ ap (λ (z : Site). condition_of z.statement) same ∙ is in
    cc

-- A leaf that is excepted round an update is the conjunct of its best value.
pub excepted_own : (w : Setting) → broken_forms w ≡ None → AllKnown w → (n : ℕ) (here : Site) (c : Expression) → slice_get w.sites n ≡ Some here → condition_of here.statement ≡ Some c → (k : ℕ) (e : Expression) → slice_get (leaves c) k ≡ Some e → is_excepted w.sites n e ≡ true → (i : ℕ) (s : Site) → slice_get w.sites i ≡ Some s → is_update s.statement ≡ true → is_under n s ≡ true → Own w n i s e
excepted_own w rule known n here c get is k e leaf excepted i s there updates under =
    let two = and_parts (compares e) (list_any (λ m. is_among (names_in e) m) (all_best_under w.sites n 0 w.sites)) excepted in
    let b : BestAt w.sites n (λ m. is_among (names_in e) m) = best_at w.sites n (λ m. is_among (names_in e) m) two.1 in
    let x : NamedWhere (list_any (λ (t : Test). nat_eq n t.number) (inner_tests b.site.round) && is_taking (form_of w.sites b.number b.site.statement)) (target_of b.site.statement) (λ m. is_among (names_in e) m) = named_where (list_any (λ (t : Test). nat_eq n t.number) (inner_tests b.site.round) && is_taking (form_of w.sites b.number b.site.statement)) (target_of b.site.statement) (λ m. is_among (names_in e) m) b.passes in
    let parts = and_parts (list_any (λ (t : Test). nat_eq n t.number) (inner_tests b.site.round)) (is_taking (form_of w.sites b.number b.site.statement)) x.holds in
    let form : Taking (form_of w.sites b.number b.site.statement) = taking (form_of w.sites b.number b.site.statement) parts.1 in
    let best : TakesBest w b.number b.site x.name form.column = takes_best_at w rule b.number b.site x.name form.column b.there x.is form.is in
    let o : OnlyFound w.sites x.name form.column (best_claims x.name b.site.round) = found_of w b.number b.site x.name form.column best in
    let t : Numbered (λ (q : Test). nat_eq n q.number) (inner_tests b.site.round) = numbered (λ (q : Test). nat_eq n q.number) (inner_tests b.site.round) parts.0 in
    let number : n ≡ t.item.number = eqb-true n t.item.number t.passes in
    let condition : t.item.condition ≡ c = test_condition w known n here c get is b.number b.site b.there _ t.item t.there number in
    let found : o.found.number ≡ t.item.number = found_number x.name (inner_tests b.site.round) _ t.item o.found t.there o.is (λ none. mentioned_leaf x.name t.item.holds t.item.condition (subst (λ z. slice_get (leaves z) k ≡ Some e) (sym condition) leaf) x.passes none) in
    let here_number : o.found.number ≡ n = subst (λ z. o.found.number ≡ z) (sym number) found in
    let same : i ≡ b.number = eqb-true i b.number (other_under w b.number b.site x.name form.column n best here_number i s there updates under) in
    moved b.number b.site x.name form.column best parts.0 here_number x.passes same
  where
    mentioned_leaf : (m : List ℕ) (holds : Bool) (d : Expression) → slice_get (leaves d) k ≡ Some e → is_among (names_in e) m ≡ true → filter (mentions m) (claims holds d) ≡ [] → ⊥
    mentioned_leaf m holds d q h none =
        let yes : list_any (λ l. is_among (names_in l) m) (leaves d) ≡ true = any_at (λ l. is_among (names_in l) m) (leaves d) k e q h in
        let fails : list_any (λ l. is_among (names_in l) m) (leaves d) ≡ false = leaves_fail (λ l. is_among (names_in l) m) m d (λ l f. f) (unmentioned m holds d none) in
        cc

    moved : (j : ℕ) (t : Site) (m : List ℕ) (d : RowColumn) (best : TakesBest w j t m d) → list_any (λ (q : Test). nat_eq n q.number) (inner_tests t.round) ≡ true → (found_of w j t m d best).found.number ≡ n → is_among (names_in e) m ≡ true → i ≡ j → Own w n i s e
    moved j t m d best inner number mentioned same =
        let site : t ≡ s = get_same w.sites j t s best.there (subst (λ q. slice_get w.sites q ≡ Some s) same there) in
        subst (λ q. Own w n q s e) (sym same) (subst (λ z. Own w n j z e) site (record { name = m; column = d; best = best; inner = inner; number = number; mentioned = mentioned }))

all_false : (w : Setting) (n : ℕ) (es : List Expression) → ((k : ℕ) (e : Expression) → slice_get es k ≡ Some e → is_excepted w.sites n e ≡ true → ⊥) → list_any (is_excepted w.sites n) es ≡ false
all_false w n es h = false_from_ne_true (list_any (is_excepted w.sites n) es) (λ some. let x : Numbered (is_excepted w.sites n) es = numbered (is_excepted w.sites n) es some in h _ x.item x.there x.passes)

-- Round an update that isn't that of the best value of this `if` no leaf of its condition is excepted.
pub none_excepted_round : (w : Setting) → broken_forms w ≡ None → AllKnown w → (n : ℕ) (here : Site) (c : Expression) → slice_get w.sites n ≡ Some here → condition_of here.statement ≡ Some c → (i : ℕ) (s : Site) → slice_get w.sites i ≡ Some s → is_update s.statement ≡ true → is_under n s ≡ true → ((e : Expression) → Own w n i s e → ⊥) → list_any (is_excepted w.sites n) (leaves c) ≡ false
none_excepted_round w rule known n here c get is i s there updates under differs = all_false w n (leaves c) (λ k e leaf excepted. differs e (excepted_own w rule known n here c get is k e leaf excepted i s there updates under))

-- ---- The conjunct itself

-- a test of which one conjunct mentions the variable is that of the only best value under its `if`
pub best_under_test : (w : Setting) (i : ℕ) (s : Site) (m : List ℕ) (d : RowColumn) → TakesBest w i s m d → (k : ℕ) (t : Test) (f : Found) → slice_get (inner_tests s.round) k ≡ Some t → mentioning m t ≡ f ∷ [] → all_best_under w.sites t.number 0 w.sites ≡ m ∷ []
best_under_test w i s m d b k t f there one =
    let o : OnlyFound w.sites m d (best_claims m s.round) = found_of w i s m d b in
    best_under_is w i s m d t.number b (found_number m (inner_tests s.round) k t o.found there o.is (λ none. some_found t.number (filter (mentions m) (claims t.holds t.condition)) f none one)) (any_at (λ (q : Test). nat_eq t.number q.number) (inner_tests s.round) k t there (eq-eqb t.number t.number refl))
  where
    some_found : (n : ℕ) (cs : List Claim) (f : Found) → cs ≡ [] → found_at n cs ≡ f ∷ [] → ⊥
    some_found n [] f none h = absurd cc
    some_found n (c ∷ cs) f none h = absurd cc
