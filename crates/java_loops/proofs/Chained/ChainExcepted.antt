-- On the way to an update only one condition may have the conjunct of a best value, and then the update is that of the best value.
use Rattle.std.proofs.Common.{◌≡◌, ℕ, suc, ◌+◌, Bool, true, false, not, ◌&&◌, ◌||◌, List, [], ◌∷◌, ◌++◌, length, Option, Some, None, refl, sym, ap, ◌∙◌, subst, cond, slice_get, nat_eq, arith, ⊎_elim}
use Rattle.std.specs.List.{filter, flat_map, list_any, AllByRecursion}
use Rattle.std.proofs.lemmas.Bool.{and_parts, or_parts, or_cases, eqb-true, false_from_ne_true}
use Rattle.std.proofs.lemmas.List.Folds.{list_any-append}
use Rattle.java_ast.specs.declared.tree.Op.{Op}
use Rattle.java_ast.specs.Tree as tree
use Rattle.java_ast.specs.Tree.{Expression, Statement}
use Rattle.tor_terms.specs.declared.term.Way.{Way}
use Rattle.loop_text.specs.Kernel.Counting.{is_and}
use Rattle.loop_text.specs.Kernel.KernelConditions.{condition_of, leaves, is_excepted, compares, best_under, all_best_under, name_where, is_taking}
use Rattle.loop_text.specs.Kernel.KernelForms.{Form, adds, counts, sums, takes, marks, other, Claim, claim, claims, is_or, is_joined, mentions, Found, found_at, mentioning, best_claims, best_way, only_way, way_found, is_way, has_other_update, takes_best, fits_local, form_of}
use Rattle.java_loops.specs.Kernel.KernelForms.{fits, fits_target, fits_outer}
use Rattle.java_ast.specs.Names.{is_among, names_in}
use Rattle.java_loops.specs.Kernel.Setting.{Setting}
use Rattle.loop_text.specs.declared.sites.bindings.Binding.{Binding}
use Rattle.loop_text.specs.declared.sites.bindings.Binding.TheVariants.{Row, Local, Outer}
use Rattle.loop_text.specs.Sites.Sites.{Test, Round, Site, RowColumn, binding_at, in_branch, inner_tests, is_under, is_update, is_some, target_of}
use Rattle.java_loops.proofs.Chained.ChainAims.{Aim, Aimed}
use Rattle.java_loops.proofs.Chained.ChainQuiet.{under_way}
use Rattle.java_loops.proofs.Chained.ChainSight.{or_left, or_right}
use Rattle.java_loops.proofs.Chained.ChainSteady.{PlainBut}
use Rattle.java_loops.proofs.Chained.ChainSteps.{Step, round_down}
use Rattle.java_ast.proofs.Among.{among_both}
use Rattle.java_loops.proofs.Nested.NestRules.{Unbroken, formed_at, false_from_not}
use Rattle.java_loops.proofs.Standing.Standing.{site_of}
use Rattle.java_loops.proofs.Standing.StandingKnown.{Tested, Known}
use Rattle.java_loops.proofs.Standing.StandingRules.{fails_at, get_same}

alone : (b : Bool) → (b || false) ≡ true → b ≡ true
alone true e = refl
alone false e = absurd cc

-- ---- What conditions mention

abbrev some_mentions : List ℕ → List Expression → Bool
some_mentions m ls = list_any (λ (l : Expression). is_among (names_in l) m) ls

either_mentions : (m : List ℕ) (xs ys : List Expression) (P : Type 0) → (some_mentions m xs ≡ true → P) → (some_mentions m ys ≡ true → P) → some_mentions m (xs ++ ys) ≡ true → P
either_mentions m xs ys P f g h = ⊎_elim f g (or_cases (some_mentions m xs) (some_mentions m ys) (sym (list_any-append (λ (l : Expression). is_among (names_in l) m) xs ys) ∙ h))

in_first : (m : List ℕ) (a b : Expression) → is_among (names_in a) m ≡ true → is_among (names_in a ++ names_in b) m ≡ true
in_first m a b h = among_both (names_in a) (names_in b) m ∙ or_left (is_among (names_in a) m) (is_among (names_in b) m) h

in_second : (m : List ℕ) (a b : Expression) → is_among (names_in b) m ≡ true → is_among (names_in a ++ names_in b) m ≡ true
in_second m a b h = among_both (names_in a) (names_in b) m ∙ or_right (is_among (names_in a) m) (is_among (names_in b) m) h

binary_mentions : (m : List ℕ) (whole a b : Expression) (q : Bool) → names_in whole ≡ names_in a ++ names_in b → (some_mentions m (leaves a) ≡ true → is_among (names_in a) m ≡ true) → (some_mentions m (leaves b) ≡ true → is_among (names_in b) m ≡ true) → some_mentions m (cond q (leaves a ++ leaves b) (whole ∷ [])) ≡ true → is_among (names_in whole) m ≡ true
binary_mentions m whole a b true e f g h = ap (λ xs. is_among xs m) e ∙ either_mentions m (leaves a) (leaves b) (is_among (names_in a ++ names_in b) m ≡ true) (λ k. in_first m a b (f k)) (λ k. in_second m a b (g k)) h
binary_mentions m whole a b false e f g h = alone (is_among (names_in whole) m) h

-- what a leaf mentions the whole condition mentions
leaf_mentions : (m : List ℕ) (e : Expression) → some_mentions m (leaves e) ≡ true → is_among (names_in e) m ≡ true
leaf_mentions m (tree.Binary at op a b) h = binary_mentions m (tree.Binary at op a b) a b (is_and op || is_or op) refl (leaf_mentions m a) (leaf_mentions m b) h
leaf_mentions m (tree.Not at e) h = leaf_mentions m e h
leaf_mentions m (tree.Lit at x) h = alone (is_among (names_in (tree.Lit at x)) m) h
leaf_mentions m (tree.Var at x) h = alone (is_among (names_in (tree.Var at x)) m) h
leaf_mentions m (tree.Field at e f) h = alone (is_among (names_in (tree.Field at e f)) m) h
leaf_mentions m (tree.Equals at a b) h = alone (is_among (names_in (tree.Equals at a b)) m) h
leaf_mentions m (tree.Size at x) h = alone (is_among (names_in (tree.Size at x)) m) h
leaf_mentions m (tree.Get at x e) h = alone (is_among (names_in (tree.Get at x e)) m) h
leaf_mentions m (tree.Contains at x e) h = alone (is_among (names_in (tree.Contains at x e)) m) h
leaf_mentions m (tree.Fetch at x) h = alone (is_among (names_in (tree.Fetch at x)) m) h
leaf_mentions m (tree.Query at ty text es) h = alone (is_among (names_in (tree.Query at ty text es)) m) h
leaf_mentions m (tree.QueryLong at text es) h = alone (is_among (names_in (tree.QueryLong at text es)) m) h
leaf_mentions m (tree.QueryBoolean at text es) h = alone (is_among (names_in (tree.QueryBoolean at text es)) m) h
leaf_mentions m (tree.NewList at) h = alone (is_among (names_in (tree.NewList at)) m) h
leaf_mentions m (tree.NewSet at) h = alone (is_among (names_in (tree.NewSet at)) m) h
leaf_mentions m (tree.NewSetOf at e) h = alone (is_among (names_in (tree.NewSetOf at e)) m) h

one_claim : (m : List ℕ) (e : Expression) (holds : Bool) → is_among (names_in e) m ≡ true → list_any (mentions m) (claim e holds ∷ []) ≡ true
one_claim m e holds h = or_left (is_among (names_in e) m) false h

both_claims : (m : List ℕ) (xs ys : List Claim) (a b : List Expression) → (some_mentions m a ≡ true → list_any (mentions m) xs ≡ true) → (some_mentions m b ≡ true → list_any (mentions m) ys ≡ true) → some_mentions m (a ++ b) ≡ true → list_any (mentions m) (xs ++ ys) ≡ true
both_claims m xs ys a b f g h =
    list_any-append (mentions m) xs ys
    ∙ either_mentions m a b ((list_any (mentions m) xs || list_any (mentions m) ys) ≡ true) (λ k. or_left (list_any (mentions m) xs) (list_any (mentions m) ys) (f k)) (λ k. or_right (list_any (mentions m) xs) (list_any (mentions m) ys) (g k)) h

joined_connects : (op : Op) (holds : Bool) → is_joined op holds ≡ true → (is_and op || is_or op) ≡ true
joined_connects op true h = or_left (is_and op) (is_or op) h
joined_connects op false h = or_right (is_and op) (is_or op) h

binary_claims : (m : List ℕ) (op : Op) (whole a b : Expression) (holds : Bool) (p q : Bool) → (q ≡ true → p ≡ true) → (some_mentions m (cond p (leaves a ++ leaves b) (whole ∷ [])) ≡ true → is_among (names_in whole) m ≡ true) → (some_mentions m (leaves a) ≡ true → list_any (mentions m) (claims holds a) ≡ true) → (some_mentions m (leaves b) ≡ true → list_any (mentions m) (claims holds b) ≡ true) → some_mentions m (cond p (leaves a ++ leaves b) (whole ∷ [])) ≡ true → list_any (mentions m) (cond q (claims holds a ++ claims holds b) (claim whole holds ∷ [])) ≡ true
binary_claims m op whole a b holds p false up names f g h = one_claim m whole holds (names h)
binary_claims m op whole a b holds true true up names f g h = both_claims m (claims holds a) (claims holds b) (leaves a) (leaves b) f g h
binary_claims m op whole a b holds false true up names f g h = let e = up refl in absurd cc

-- what a leaf mentions some conjunct mentions
claim_mentions : (m : List ℕ) (holds : Bool) (e : Expression) → some_mentions m (leaves e) ≡ true → list_any (mentions m) (claims holds e) ≡ true
claim_mentions m holds (tree.Binary at op a b) h =
    binary_claims m op (tree.Binary at op a b) a b holds (is_and op || is_or op) (is_joined op holds) (joined_connects op holds) (leaf_mentions m (tree.Binary at op a b)) (claim_mentions m holds a) (claim_mentions m holds b) h
claim_mentions m holds (tree.Not at e) h = claim_mentions m (not holds) e h
claim_mentions m holds (tree.Lit at x) h = h
claim_mentions m holds (tree.Var at x) h = h
claim_mentions m holds (tree.Field at e f) h = h
claim_mentions m holds (tree.Equals at a b) h = h
claim_mentions m holds (tree.Size at x) h = h
claim_mentions m holds (tree.Get at x e) h = h
claim_mentions m holds (tree.Contains at x e) h = h
claim_mentions m holds (tree.Fetch at x) h = h
claim_mentions m holds (tree.Query at ty text es) h = h
claim_mentions m holds (tree.QueryLong at text es) h = h
claim_mentions m holds (tree.QueryBoolean at text es) h = h
claim_mentions m holds (tree.NewList at) h = h
claim_mentions m holds (tree.NewSet at) h = h
claim_mentions m holds (tree.NewSetOf at e) h = h

-- ---- The site of a best value

-- a site that takes a column, inside the branch of an `if` of its innermost loop with a leaf that mentions the variable
record Blamed (sites : List Site) (n : ℕ) (ls : List Expression) : Type 0 where
  name : List ℕ
  number : ℕ
  site : Site
  there : slice_get sites number ≡ Some site
  taking : is_taking (form_of sites number site.statement) ≡ true
  under : list_any (λ (t : Test). nat_eq n t.number) (inner_tests site.round) ≡ true
  target : target_of site.statement ≡ Some name
  mentioned : some_mentions name ls ≡ true

record BestUnder (sites : List Site) (n k : ℕ) (ss : List Site) (p : List ℕ → Bool) : Type 0 where
  name : List ℕ
  index : ℕ
  number : ℕ
  is : k + index ≡ number
  site : Site
  there : slice_get ss index ≡ Some site
  taking : is_taking (form_of sites number site.statement) ≡ true
  under : list_any (λ (t : Test). nat_eq n t.number) (inner_tests site.round) ≡ true
  target : target_of site.statement ≡ Some name
  passes : p name ≡ true

best_here : (sites : List Site) (n k : ℕ) (s : Site) (ss : List Site) (p : List ℕ → Bool) (q : Bool) (o : Option (List ℕ)) → (list_any (λ (t : Test). nat_eq n t.number) (inner_tests s.round) && is_taking (form_of sites k s.statement)) ≡ q → target_of s.statement ≡ o → list_any p (name_where q o) ≡ true → BestUnder sites n k (s ∷ ss) p
best_here sites n k s ss p true (Some x) e f h =
    let two = and_parts (list_any (λ (t : Test). nat_eq n t.number) (inner_tests s.round)) (is_taking (form_of sites k s.statement)) e in
    record { name = x; index = 0; number = k; is = omega arith; site = s; there = refl; taking = two.1; under = two.0; target = f; passes = alone (p x) h }
best_here sites n k s ss p true None e f h = absurd cc
best_here sites n k s ss p false o e f h = absurd cc

under_of : (sites : List Site) (n k : ℕ) (ss : List Site) (p : List ℕ → Bool) → list_any p (all_best_under sites n k ss) ≡ true → BestUnder sites n k ss p
under_of sites n k [] p h = absurd cc
under_of sites n k (s ∷ ss) p h =
    ⊎_elim
    (λ e. best_here sites n k s ss p (list_any (λ (t : Test). nat_eq n t.number) (inner_tests s.round) && is_taking (form_of sites k s.statement)) (target_of s.statement) refl refl e)
    (λ e. let b = under_of sites n (suc k) ss p e in
    record { name = b.name; index = suc b.index; number = b.number; is = let g = b.is in omega (arith, g); site = b.site; there = b.there; taking = b.taking; under = b.under; target = b.target; passes = b.passes })
    (or_cases (list_any p (best_under sites n k s)) (list_any p (all_best_under sites n (suc k) ss)) (sym (list_any-append p (best_under sites n k s) (all_best_under sites n (suc k) ss)) ∙ h))

blamed_first : (sites : List Site) (n : ℕ) (l : Expression) (ls : List Expression) → is_excepted sites n l ≡ true → Blamed sites n (l ∷ ls)
blamed_first sites n l ls h =
    let two = and_parts (compares l) (list_any (λ m. is_among (names_in l) m) (all_best_under sites n 0 sites)) h in
    let b : BestUnder sites n 0 sites (λ m. is_among (names_in l) m) = under_of sites n 0 sites (λ m. is_among (names_in l) m) two.1 in
    let same : b.index ≡ b.number = let g = b.is in omega (arith, g) in
    record { name = b.name; number = b.number; site = b.site; there = ap (slice_get sites) (sym same) ∙ b.there; taking = b.taking; under = b.under; target = b.target; mentioned = or_left (is_among (names_in l) b.name) (some_mentions b.name ls) b.passes }

blamed : (sites : List Site) (n : ℕ) (ls : List Expression) → list_any (is_excepted sites n) ls ≡ true → Blamed sites n ls
blamed sites n [] h = absurd cc
blamed sites n (l ∷ ls) h =
    ⊎_elim
    (λ e. blamed_first sites n l ls e)
    (λ e. let b = blamed sites n ls e in
    record { name = b.name; number = b.number; site = b.site; there = b.there; taking = b.taking; under = b.under; target = b.target; mentioned = or_right (is_among (names_in l) b.name) (some_mentions b.name ls) b.mentioned })
    (or_cases (is_excepted sites n l) (list_any (is_excepted sites n) ls) h)

-- ---- The number of its conjunct

-- the tests with this number mention the variable
abbrev Mentioning : List ℕ → ℕ → List Test → Type 0
Mentioning m n ts = AllByRecursion (λ (t : Test). t.number ≡ n → list_any (mentions m) (claims t.holds t.condition) ≡ true) ts

kept_filter : (q : Test → Bool) (P : Test → Type 0) (ts : List Test) → AllByRecursion P ts → AllByRecursion P (filter q ts)
kept_filter q P [] h = tt
kept_filter q P (t ∷ ts) h = kept_step (q t) (kept_filter q P ts h.1)
  where
    kept_step : (b : Bool) → AllByRecursion P (filter q ts) → AllByRecursion P (cond b (t ∷ filter q ts) (filter q ts))
    kept_step true k = (h.0, k)
    kept_step false k = k

record Starting (k : ℕ) (xs : List Found) : Type 0 where
  first : Found
  rest : List Found
  is : xs ≡ first ∷ rest
  number : first.number ≡ k

found_step : (m : List ℕ) (k : ℕ) (c : Claim) (cs : List Claim) (b : Bool) → mentions m c ≡ b → (b || list_any (mentions m) cs) ≡ true → (list_any (mentions m) cs ≡ true → Starting k (found_at k (filter (mentions m) cs))) → Starting k (found_at k (filter (mentions m) (c ∷ cs)))
found_step m k c cs true e h more = record { first = record { number = k; claim = c }; rest = found_at k (filter (mentions m) cs); is = ap (λ b. found_at k (cond b (c ∷ filter (mentions m) cs) (filter (mentions m) cs))) e; number = refl }
found_step m k c cs false e h more =
    let s = more h in
    record { first = s.first; rest = s.rest; is = ap (λ b. found_at k (cond b (c ∷ filter (mentions m) cs) (filter (mentions m) cs))) e ∙ s.is; number = s.number }

found_starts : (m : List ℕ) (k : ℕ) (cs : List Claim) → list_any (mentions m) cs ≡ true → Starting k (found_at k (filter (mentions m) cs))
found_starts m k [] h = absurd cc
found_starts m k (c ∷ cs) h = found_step m k c cs (mentions m c) refl h (found_starts m k cs)

none_found : (m : List ℕ) (n : ℕ) (ts : List Test) → Mentioning m n ts → list_any (λ (t : Test). nat_eq n t.number) ts ≡ true → flat_map (mentioning m) ts ≡ [] → ⊥
none_found m n [] all h e = absurd cc
none_found m n (t ∷ ts) all h e =
    ⊎_elim
    (λ k. let s : Starting t.number (mentioning m t) = found_starts m t.number (claims t.holds t.condition) (all.0 (sym (eqb-true n t.number k))) in
    let f : s.first ∷ (s.rest ++ flat_map (mentioning m) ts) ≡ [] = ap (λ xs. xs ++ flat_map (mentioning m) ts) (sym s.is) ∙ e in absurd cc)
    (λ k. none_found m n ts all.1 k (last_nil (mentioning m t) (flat_map (mentioning m) ts) e))
    (or_cases (nat_eq n t.number) (list_any (λ (x : Test). nat_eq n x.number) ts) h)
  where
    last_nil : (xs ys : List Found) → xs ++ ys ≡ [] → ys ≡ []
    last_nil [] ys e = e
    last_nil (x ∷ xs) ys e = absurd cc

first_or_rest : (xs ys : List Found) (f : Found) (P : Type 0) → xs ++ ys ≡ f ∷ [] → (ys ≡ [] → P) → (ys ≡ f ∷ [] → P) → P
first_or_rest [] ys f P e a b = b e
first_or_rest (x ∷ xs) ys f P e a b = let rest : xs ++ ys ≡ [] = cc in a (second_nil xs ys rest)
  where
    second_nil : (us vs : List Found) → us ++ vs ≡ [] → vs ≡ []
    second_nil [] vs e = e
    second_nil (u ∷ us) vs e = absurd cc

-- the one conjunct that mentions the variable is of the `if` with this number
one_number : (m : List ℕ) (n : ℕ) (ts : List Test) (f : Found) → Mentioning m n ts → list_any (λ (t : Test). nat_eq n t.number) ts ≡ true → flat_map (mentioning m) ts ≡ f ∷ [] → f.number ≡ n
one_number m n [] f all h e = absurd cc
one_number m n (t ∷ ts) f all h e =
    ⊎_elim
    (λ k. let same : n ≡ t.number = eqb-true n t.number k in
    let s : Starting t.number (mentioning m t) = found_starts m t.number (claims t.holds t.condition) (all.0 (sym same)) in
    let g : s.first ∷ (s.rest ++ flat_map (mentioning m) ts) ≡ f ∷ [] = ap (λ xs. xs ++ flat_map (mentioning m) ts) (sym s.is) ∙ e in
    let first : s.first ≡ f = cc in
    ap (λ (x : Found). x.number) (sym first) ∙ s.number ∙ sym same)
    (λ k. first_or_rest (mentioning m t) (flat_map (mentioning m) ts) f (f.number ≡ n) e (λ z. absurd (none_found m n ts all.1 k z)) (λ z. one_number m n ts f all.1 k z))
    (or_cases (nat_eq n t.number) (list_any (λ (x : Test). nat_eq n x.number) ts) h)

-- ---- What the rules say of a best value

-- the one conjunct of an update that takes a column
pub record OneConjunct (w : Setting) (j : ℕ) (s : Site) (m : List ℕ) (column : RowColumn) : Type 0 where
  pub found : Found
  pub one : best_claims m s.round ≡ found ∷ []
  pub way : Way
  pub is : way_found w.sites m column found ≡ Some way
  pub alone : has_other_update w.sites j (found ∷ []) ≡ false

one_of : (w : Setting) (j : ℕ) (s : Site) (m : List ℕ) (column : RowColumn) (fs : List Found) → best_claims m s.round ≡ fs → (o : Option Way) → only_way w.sites m column fs ≡ o → is_way o ≡ true → not (has_other_update w.sites j fs) ≡ true → OneConjunct w j s m column
one_of w j s m column [] e o f h k = let g : None ≡ o = f in absurd cc
one_of w j s m column (x ∷ []) e (Some way) f h k = record { found = x; one = e; way = way; is = f; alone = false_from_not (has_other_update w.sites j (x ∷ [])) k }
one_of w j s m column (x ∷ []) e None f h k = absurd cc
one_of w j s m column (x ∷ y ∷ zs) e o f h k = let g : None ≡ o = f in absurd cc

taken_fits : (w : Setting) (j : ℕ) (s : Site) (m : List ℕ) (column : RowColumn) (b : Binding) (form : Form) → form_of w.sites j s.statement ≡ form → form ≡ takes column → fits w j s m b ≡ true → takes_best w.sites j s m column ≡ true
taken_fits w j s m column (Row i) form e f h = absurd cc
taken_fits w j s m column (Local d) form e f h =
    let k : fits_local w.sites s d (takes column) ≡ true = ap (fits_local w.sites s d) (sym (e ∙ f)) ∙ h in absurd cc
taken_fits w j s m column Outer form e f h = ap (fits_outer w j s m) (sym (e ∙ f)) ∙ h

pub one_conjunct : (w : Setting) → Unbroken w → (j : ℕ) (s : Site) (m : List ℕ) (column : RowColumn) → slice_get w.sites j ≡ Some s → target_of s.statement ≡ Some m → form_of w.sites j s.statement ≡ takes column → OneConjunct w j s m column
one_conjunct w u j s m column there target form =
    let h : fits w j s m (binding_at w.sites j m) ≡ true = ap (λ o. fits_target w j s o) (sym target) ∙ formed_at w u j s there in
    let best : takes_best w.sites j s m column ≡ true = taken_fits w j s m column (binding_at w.sites j m) (form_of w.sites j s.statement) refl form h in
    let two = and_parts (is_way (best_way w.sites m column s.round)) (not (has_other_update w.sites j (best_claims m s.round))) best in
    one_of w j s m column (best_claims m s.round) refl (best_way w.sites m column s.round) refl two.0 two.1

record IsTaking (form : Form) : Type 0 where
  column : RowColumn
  is : form ≡ takes column

taking_is : (form : Form) → is_taking form ≡ true → IsTaking form
taking_is (takes c) h = record { column = c; is = refl }
taking_is (adds t) h = absurd cc
taking_is counts h = absurd cc
taking_is (sums c) h = absurd cc
taking_is (marks b) h = absurd cc
taking_is other h = absurd cc

-- ---- Conditions on the way

tests_mention : (sites : List Site) (n : ℕ) (site : Site) (e : Expression) (m : List ℕ) (ts : List Test) → slice_get sites n ≡ Some site → condition_of site.statement ≡ Some e → some_mentions m (leaves e) ≡ true → AllByRecursion (Tested sites) ts → Mentioning m n ts
tests_mention sites n site e m [] there is h all = tt
tests_mention sites n site e m (t ∷ ts) there is h all = (
  (λ number.
      let x : Tested sites t = all.0 in
      let same : x.site ≡ site = get_same sites n x.site site (ap (slice_get sites) (sym number) ∙ x.there) there in
      let condition : Some t.condition ≡ Some e = sym x.is ∙ ap (λ (z : Site). condition_of z.statement) same ∙ is in
      let equal : t.condition ≡ e = cc in
      subst (λ z. list_any (mentions m) (claims t.holds z) ≡ true) (sym equal) (claim_mentions m t.holds e h)),
  tests_mention sites n site e m ts there is h all.1,
)

-- a list of which none is excepted
none_excepted : (sites : List Site) (n : ℕ) (ls : List Expression) → list_any (is_excepted sites n) ls ≡ false → AllByRecursion (λ (l : Expression). is_excepted sites n l ≡ false) ls
none_excepted sites n [] h = tt
none_excepted sites n (l ∷ ls) h =
    let two = or_parts (is_excepted sites n l) (list_any (is_excepted sites n) ls) h in
    (two.0, none_excepted sites n ls two.1)

-- the site of the best value is that of the update
blame : (a : Aim) → (d : Aimed a) → (known : (i : ℕ) (s : Site) → slice_get a.setting.sites i ≡ Some s → Known a.setting.sites i s) → (r : Round) (previous : Option Statement) (n : ℕ) (s : Statement) (e : Expression) (holds : Bool) (ss : List Step) (P : Type 0) → slice_get a.setting.sites n ≡ Some (site_of r previous s) → condition_of s ≡ Some e → a.round ≡ round_down (in_branch r n e holds) ss → Blamed a.setting.sites n (leaves e) → ((c : RowColumn) (f : Found) → form_of a.setting.sites a.number d.update.site.statement ≡ takes c → best_claims a.name a.round ≡ f ∷ [] → f.number ≡ n → P) → P
blame a d known r previous n s e holds ss P get is at b then_it =
    let sites : List Site = a.setting.sites in
    let t : IsTaking (form_of sites b.number b.site.statement) = taking_is (form_of sites b.number b.site.statement) b.taking in
    let one : OneConjunct a.setting b.number b.site b.name t.column = one_conjunct a.setting d.unbroken b.number b.site b.name t.column b.there b.target t.is in
    let all : Mentioning b.name n (inner_tests b.site.round) = kept_filter (λ (x : Test). nat_eq x.level (length b.site.round.loops)) (λ (x : Test). x.number ≡ n → list_any (mentions b.name) (claims x.holds x.condition) ≡ true) b.site.round.tests (tests_mention sites n (site_of r previous s) e b.name b.site.round.tests get is b.mentioned (known b.number b.site b.there).tested.by) in
    let number : one.found.number ≡ n = one_number b.name n (inner_tests b.site.round) one.found all b.under one.one in
    let test : ℕ → Site → Bool = λ i x. is_update x.statement && (not (nat_eq i b.number) && is_under one.found.number x) in
    let fails : test a.number d.update.site ≡ false = fails_at test sites one.alone a.number d.update.site d.update.there in
    let updates : is_update d.update.site.statement ≡ true = ap is_some d.update.target in
    let under : is_under one.found.number d.update.site ≡ true = ap (λ k. is_under k d.update.site) number ∙ ap (λ (q : Round). list_any (λ (x : Test). nat_eq n x.number) q.tests) d.round ∙ under_way r a.round n e holds ss at in
    let same : a.number ≡ b.number = eqb-true a.number b.number (must_be (nat_eq a.number b.number) (is_update d.update.site.statement) (is_under one.found.number d.update.site) updates under fails) in
    let same_site : d.update.site ≡ b.site = get_same sites b.number d.update.site b.site (ap (slice_get sites) (sym same) ∙ d.update.there) b.there in
    let names : Some a.name ≡ Some b.name = sym d.update.target ∙ ap (λ (x : Site). target_of x.statement) same_site ∙ b.target in
    let same_name : a.name ≡ b.name = cc in
    let form : form_of sites a.number d.update.site.statement ≡ takes t.column = ap (λ i. form_of sites i d.update.site.statement) same ∙ ap (λ (x : Site). form_of sites b.number x.statement) same_site ∙ t.is in
    let claims_is : best_claims a.name a.round ≡ one.found ∷ [] = ap (λ m. best_claims m a.round) same_name ∙ ap (best_claims b.name) (sym d.round) ∙ ap (λ (x : Site). best_claims b.name x.round) same_site ∙ one.one in
    then_it t.column one.found form claims_is number
  where
    must_be : (p q v : Bool) → q ≡ true → v ≡ true → (q && (not p && v)) ≡ false → p ≡ true
    must_be true q v e f h = refl
    must_be false true true e f h = absurd cc
    must_be false true false e f h = absurd cc
    must_be false false v e f h = absurd cc

-- The conditions on the way to an update are plain, but for that of its own conjunct.
pub plain_way : (a : Aim) → (d : Aimed a) → (known : (i : ℕ) (s : Site) → slice_get a.setting.sites i ≡ Some s → Known a.setting.sites i s) → (but : ℕ → Type 0) → ((c : RowColumn) (f : Found) → form_of a.setting.sites a.number d.update.site.statement ≡ takes c → best_claims a.name a.round ≡ f ∷ [] → but f.number) → PlainBut a but
plain_way a d known but own =
    record {
      by = λ r previous n s e holds ss get is at other_one.
          none_excepted a.setting.sites n (leaves e)
          (false_from_ne_true (list_any (is_excepted a.setting.sites n) (leaves e))
          (λ h. blame a d known r previous n s e holds ss ⊥ get is at (blamed a.setting.sites n (leaves e) h) (λ c f form one number. other_one (subst but number (own c f form one)))));
    }
