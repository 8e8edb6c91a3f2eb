-- The conjunct that a best value is compared by reads that value and the row's column, and nothing else is updated
-- under its `if`.
use Rattle.std.proofs.Common.{◌≡◌, ℕ, suc, ◌+◌, Bool, true, false, not, ◌&&◌, ◌||◌, List, [], ◌∷◌, ◌++◌, Option, Some, None, refl, sym, ap, ◌∙◌, subst, cond, bytes_eq, slice_get, arith, ◌⊎◌, inl, inr, ⊎_elim, nat_eq, eqb-true, eq-eqb}
use Rattle.std.specs.List.{filter, list_any}
use Rattle.std.proofs.lemmas.Bool.{and_parts, or_left}
use Rattle.std.proofs.lemmas.List.Folds.{list_any-append}
use Rattle.qbs_base.specs.declared.span.Span.{Span}
use Rattle.java_ast.specs.declared.tree.Op.{Op}
use Rattle.java_ast.specs.declared.tree.Op.TheVariants as ops
use Rattle.java_ast.specs.Tree as tree
use Rattle.java_ast.specs.Tree.{Expression, Statement}
use Rattle.java_mean.specs.declared.types.JavaType.{JavaType}
use Rattle.java_mean.specs.Types.{Types}
use Rattle.java_mean.specs.Typing.{Frame, HasType}
use Rattle.java_mean.proofs.Puts.{names_equal, name_same}
use Rattle.java_loops.specs.Walks.Nests.{with_name}
use Rattle.java_loops.specs.Walks.Reads.{Set, Reads}
use Rattle.java_loops.proofs.Walks.Names.{reads_with}
use Rattle.tor_terms.specs.declared.term.Way.{Way}
use Rattle.loop_text.specs.Kernel.Counting.{is_and}
use Rattle.loop_text.specs.Kernel.KernelConditions.{leaves, name_where, is_taking, best_under, all_best_under, compares, is_excepted, condition_of}
use Rattle.loop_text.specs.Kernel.KernelForms.{Form, adds, counts, sums, takes, marks, other, form_of, is_or, Claim, claims, mentions, Found, found_at, mentioning, best_claims, way_of, turned_where, way_between, way_in, way_found, only_way, best_way, has_other_update, is_way, takes_best, fits_local}
use Rattle.java_loops.specs.Kernel.KernelForms.{fits, fits_outer, fits_target}
use Rattle.java_ast.specs.Names.{is_among, names_in}
use Rattle.java_loops.specs.Kernel.Setting.{Setting}
use Rattle.loop_text.specs.Statements.Setting.{is_variable, is_found}
use Rattle.loop_text.specs.declared.sites.bindings.Binding.{Binding}
use Rattle.loop_text.specs.declared.sites.bindings.Binding.TheVariants.{Row, Local, Outer}
use Rattle.loop_text.specs.Sites.Sites.{Test, Round, Site, binding_at, RowColumn, row_column_at, same_row_column, any_site, is_under, inner_tests, in_branch, target_of, is_update, is_some}
use Rattle.java_loops.proofs.Nested.NestConditions.{typed_binary, column_reads}
use Rattle.java_loops.proofs.Nested.NestLeaves.{Member, member_filter, member_filtered, member_flat, member_either, member_holds, Passing, passing, Claimed, leaf_claimed, leaf_mentions}
use Rattle.java_loops.proofs.Nested.NestMarks.{Sound}
use Rattle.java_loops.proofs.Nested.NestRules.{Unbroken, formed_at, target_at, and_second, false_from_not}
use Rattle.java_loops.proofs.Nested.NestSight.{Sight}
use Rattle.java_loops.proofs.Standing.StandingKnown.{Tested}
use Rattle.java_loops.proofs.Standing.StandingRules.{get_same, fails_at}
use Rattle.java_loops.proofs.Standing.StandingWithin.{Under, SetAt, test_of}

-- ---- What the conjunct reads

pub variable_reads : (f : Set) (m : List ℕ) (e : Expression) → is_variable m e ≡ true → Reads (with_name m f) e
variable_reads f m (tree.Lit at x) h = absurd cc
variable_reads f m (tree.Var at x) h = or_left (bytes_eq m x) (f x) (subst (λ z. bytes_eq z x ≡ true) (names_equal x m h) (name_same x))
variable_reads f m (tree.Field at e name) h = absurd cc
variable_reads f m (tree.Binary at op a b) h = absurd cc
variable_reads f m (tree.Not at e) h = absurd cc
variable_reads f m (tree.Equals at a b) h = absurd cc
variable_reads f m (tree.Size at x) h = absurd cc
variable_reads f m (tree.Get at x e) h = absurd cc
variable_reads f m (tree.Contains at x e) h = absurd cc
variable_reads f m (tree.Fetch at t) h = absurd cc
variable_reads f m (tree.Query at ty text es) h = absurd cc
variable_reads f m (tree.QueryLong at text es) h = absurd cc
variable_reads f m (tree.QueryBoolean at text es) h = absurd cc
variable_reads f m (tree.NewList at) h = absurd cc
variable_reads f m (tree.NewSet at) h = absurd cc
variable_reads f m (tree.NewSetOf at e) h = absurd cc

column_there : (o : Option RowColumn) (c : RowColumn) → same_row_column o (Some c) ≡ true → is_found o ≡ true
column_there (Some d) c h = refl
column_there None c h = absurd cc

-- a comparison of the variable with a column, either way
record Compared (sites : List Site) (n : ℕ) (m : List ℕ) (c : RowColumn) (op : Op) (a b : Expression) : Type 0 where
  orders : is_way (way_of op) ≡ true
  sides : ((is_variable m a ≡ true) × (is_found (row_column_at sites n b) ≡ true)) ⊎ ((is_variable m b ≡ true) × (is_found (row_column_at sites n a) ≡ true))

turned_way : (o : Option Way) → is_way (turned_where true o) ≡ true → is_way o ≡ true
turned_way (Some w) h = refl
turned_way None h = absurd cc

way_either : (b : Bool) (o : Option Way) → is_way (turned_where b o) ≡ true → is_way o ≡ true
way_either true o h = turned_way o h
way_either false o h = h

compared_right : (sites : List Site) (n : ℕ) (m : List ℕ) (c : RowColumn) (op : Op) (a b : Expression) (q : Bool) → (is_variable m b && same_row_column (row_column_at sites n a) (Some c)) ≡ q → is_way (cond q (turned_where true (way_of op)) None) ≡ true → Compared sites n m c op a b
compared_right sites n m c op a b true e h =
    let two = and_parts (is_variable m b) (same_row_column (row_column_at sites n a) (Some c)) e in
    record { orders = turned_way (way_of op) h; sides = inr (two.0, column_there (row_column_at sites n a) c two.1) }
compared_right sites n m c op a b false e h = absurd cc

compared_either : (sites : List Site) (n : ℕ) (m : List ℕ) (c : RowColumn) (op : Op) (a b : Expression) (q : Bool) → (is_variable m a && same_row_column (row_column_at sites n b) (Some c)) ≡ q → is_way (cond q (way_of op) (cond (is_variable m b && same_row_column (row_column_at sites n a) (Some c)) (turned_where true (way_of op)) None)) ≡ true → Compared sites n m c op a b
compared_either sites n m c op a b true e h =
    let two = and_parts (is_variable m a) (same_row_column (row_column_at sites n b) (Some c)) e in
    record { orders = h; sides = inl (two.0, column_there (row_column_at sites n b) c two.1) }
compared_either sites n m c op a b false e h = compared_right sites n m c op a b (is_variable m b && same_row_column (row_column_at sites n a) (Some c)) refl h

compared_in : (sites : List Site) (n : ℕ) (m : List ℕ) (c : RowColumn) (op : Op) (a b : Expression) → is_way (way_between sites n m c op a b) ≡ true → Compared sites n m c op a b
compared_in sites n m c op a b h = compared_either sites n m c op a b (is_variable m a && same_row_column (row_column_at sites n b) (Some c)) refl h

no_junction : (op : Op) → is_way (way_of op) ≡ true → (is_and op || is_or op) ≡ false
no_junction ops.Or h = absurd cc
no_junction ops.And h = absurd cc
no_junction ops.Eq h = refl
no_junction ops.Ne h = refl
no_junction ops.Lt h = refl
no_junction ops.Le h = refl
no_junction ops.Gt h = refl
no_junction ops.Ge h = refl
no_junction ops.Add h = refl
no_junction ops.Sub h = refl
no_junction ops.Mul h = refl

only_leaf : (at : Span) (op : Op) (a b l : Expression) (q : Bool) → (is_and op || is_or op) ≡ q → q ≡ false → Member l (cond q (leaves a ++ leaves b) (tree.Binary at op a b ∷ [])) → l ≡ tree.Binary at op a b
only_leaf at op a b l true e h m = absurd cc
only_leaf at op a b l false e h m = ⊎_elim (λ k. k) (λ k. absurd k) m

-- the comparison is its only leaf
way_leaf : (sites : List Site) (n : ℕ) (m : List ℕ) (c : RowColumn) (e l : Expression) → is_way (way_in sites n m c e) ≡ true → Member l (leaves e) → l ≡ e
way_leaf sites n m c (tree.Lit at x) l h k = absurd cc
way_leaf sites n m c (tree.Var at x) l h k = absurd cc
way_leaf sites n m c (tree.Field at e f) l h k = absurd cc
way_leaf sites n m c (tree.Binary at op a b) l h k = only_leaf at op a b l (is_and op || is_or op) refl (no_junction op (compared_in sites n m c op a b h).orders) k
way_leaf sites n m c (tree.Not at e) l h k = absurd cc
way_leaf sites n m c (tree.Equals at a b) l h k = absurd cc
way_leaf sites n m c (tree.Size at x) l h k = absurd cc
way_leaf sites n m c (tree.Get at x e) l h k = absurd cc
way_leaf sites n m c (tree.Contains at x e) l h k = absurd cc
way_leaf sites n m c (tree.Fetch at t) l h k = absurd cc
way_leaf sites n m c (tree.Query at ty text es) l h k = absurd cc
way_leaf sites n m c (tree.QueryLong at text es) l h k = absurd cc
way_leaf sites n m c (tree.QueryBoolean at text es) l h k = absurd cc
way_leaf sites n m c (tree.NewList at) l h k = absurd cc
way_leaf sites n m c (tree.NewSet at) l h k = absurd cc
way_leaf sites n m c (tree.NewSetOf at e) l h k = absurd cc

-- the comparison reads the variable and the column
way_reads : (w : Setting) (u : Unbroken w) (fr : Frame) (n level : ℕ) (g : Types) (a f : Set) → Sight w n level g a f → (m : List ℕ) (c : RowColumn) (e : Expression) (k : JavaType) → HasType fr g e k → is_way (way_in w.sites n m c e) ≡ true → Reads (with_name m f) e
way_reads w u fr n level g d f s m c (tree.Lit at x) k t h = absurd cc
way_reads w u fr n level g d f s m c (tree.Var at x) k t h = absurd cc
way_reads w u fr n level g d f s m c (tree.Field at e name) k t h = absurd cc
way_reads w u fr n level g d f s m c (tree.Binary at op a b) k t h =
    let two = typed_binary fr g at op a b k t in
    ⊎_elim
    (λ i. (variable_reads f m a i.0, reads_with b f m (column_reads w u fr n level g d f s b two.type two.right i.1)))
    (λ i. (reads_with a f m (column_reads w u fr n level g d f s a two.type two.left i.1), variable_reads f m b i.0))
    (compared_in w.sites n m c op a b h).sides
way_reads w u fr n level g d f s m c (tree.Not at e) k t h = absurd cc
way_reads w u fr n level g d f s m c (tree.Equals at a b) k t h = absurd cc
way_reads w u fr n level g d f s m c (tree.Size at x) k t h = absurd cc
way_reads w u fr n level g d f s m c (tree.Get at x e) k t h = absurd cc
way_reads w u fr n level g d f s m c (tree.Contains at x e) k t h = absurd cc
way_reads w u fr n level g d f s m c (tree.Fetch at table) k t h = absurd cc
way_reads w u fr n level g d f s m c (tree.Query at ty text es) k t h = absurd cc
way_reads w u fr n level g d f s m c (tree.QueryLong at text es) k t h = absurd cc
way_reads w u fr n level g d f s m c (tree.QueryBoolean at text es) k t h = absurd cc
way_reads w u fr n level g d f s m c (tree.NewList at) k t h = absurd cc
way_reads w u fr n level g d f s m c (tree.NewSet at) k t h = absurd cc
way_reads w u fr n level g d f s m c (tree.NewSetOf at e) k t h = absurd cc

-- ---- The update that takes a best value

-- an update `m = x.f` inside of this `if`
record Best (w : Setting) (n : ℕ) (m : List ℕ) : Type 0 where
  number : ℕ
  site : Site
  there : slice_get w.sites number ≡ Some site
  target : target_of site.statement ≡ Some m
  column : RowColumn
  form : form_of w.sites number site.statement ≡ takes column
  test : Test
  tests_it : Member test (inner_tests site.round)
  is_test : n ≡ test.number

record BestFrom (sites : List Site) (i k : ℕ) (m : List ℕ) (ss : List Site) : Type 0 where
  offset : ℕ
  number : ℕ
  site : Site
  sum : k + offset ≡ number
  there : slice_get ss offset ≡ Some site
  here : Member m (best_under sites i number site)

best_from : (sites : List Site) (i k : ℕ) (m : List ℕ) (ss : List Site) → Member m (all_best_under sites i k ss) → BestFrom sites i k m ss
best_from sites i k m [] h = absurd h
best_from sites i k m (s ∷ ss) h =
    ⊎_elim
    (λ l. record { offset = 0; number = k; site = s; sum = omega arith; there = refl; here = l })
    (λ r. best_later (best_from sites i (suc k) m ss r))
    (member_either m (best_under sites i k s) (all_best_under sites i (suc k) ss) h)
  where
    best_later : BestFrom sites i (suc k) m ss → BestFrom sites i k m (s ∷ ss)
    best_later b = let sum : suc k + b.offset ≡ b.number = b.sum in record { offset = suc b.offset; number = b.number; site = b.site; sum = omega (arith, sum); there = b.there; here = b.here }

named : (b : Bool) (o : Option (List ℕ)) (m : List ℕ) → Member m (name_where b o) → (b ≡ true) × (o ≡ Some m)
named true (Some x) m h = (refl, ⊎_elim (λ e. ap Some (sym e)) (λ k. absurd k) h)
named true None m h = absurd h
named false o m h = absurd h

pub record Taking (form : Form) : Type 0 where
  pub column : RowColumn
  pub is : form ≡ takes column

pub taking : (form : Form) → is_taking form ≡ true → Taking form
taking (adds t) h = absurd cc
taking counts h = absurd cc
taking (sums c) h = absurd cc
taking (takes c) h = record { column = c; is = refl }
taking (marks b) h = absurd cc
taking other h = absurd cc

best_at : (w : Setting) (n number : ℕ) (m : List ℕ) (s : Site) → slice_get w.sites number ≡ Some s → Member m (best_under w.sites n number s) → Best w n m
best_at w n number m s there h =
    let two = named (list_any (λ (t : Test). nat_eq n t.number) (inner_tests s.round) && is_taking (form_of w.sites number s.statement)) (target_of s.statement) m h in
    let parts = and_parts (list_any (λ (t : Test). nat_eq n t.number) (inner_tests s.round)) (is_taking (form_of w.sites number s.statement)) two.0 in
    let takes_it : Taking (form_of w.sites number s.statement) = taking (form_of w.sites number s.statement) parts.1 in
    let p : Passing (λ (t : Test). nat_eq n t.number) (inner_tests s.round) = passing (λ (t : Test). nat_eq n t.number) (inner_tests s.round) parts.0 in
    record { number = number; site = s; there = there; target = two.1; column = takes_it.column; form = takes_it.is; test = p.item; tests_it = p.member; is_test = eqb-true n p.item.number p.passes }

best_found : (w : Setting) (n : ℕ) (m : List ℕ) → Member m (all_best_under w.sites n 0 w.sites) → Best w n m
best_found w n m h =
    let b : BestFrom w.sites n 0 m w.sites = best_from w.sites n 0 m w.sites h in
    let sum : 0 + b.offset ≡ b.number = b.sum in
    let same : b.offset ≡ b.number = omega (arith, sum) in
    best_at w n b.number m b.site (subst (λ i. slice_get w.sites i ≡ Some b.site) same b.there) b.here

-- a leaf that is excepted mentions such a variable
record Excepted (w : Setting) (n : ℕ) (e : Expression) : Type 0 where
  name : List ℕ
  mentioned : is_among (names_in e) name ≡ true
  best : Best w n name

excepted : (w : Setting) (n : ℕ) (e : Expression) → is_excepted w.sites n e ≡ true → Excepted w n e
excepted w n e h =
    let two = and_parts (compares e) (list_any (λ m. is_among (names_in e) m) (all_best_under w.sites n 0 w.sites)) h in
    let p : Passing (λ m. is_among (names_in e) m) (all_best_under w.sites n 0 w.sites) = passing (λ m. is_among (names_in e) m) (all_best_under w.sites n 0 w.sites) two.1 in
    record { name = p.item; mentioned = p.passes; best = best_found w n p.item p.member }

-- ---- What the rule says of it

takes_fits : (w : Setting) (n : ℕ) (s : Site) (x : List ℕ) (b : Binding) (form : Form) (c : RowColumn) → form_of w.sites n s.statement ≡ form → form ≡ takes c → fits w n s x b ≡ true → takes_best w.sites n s x c ≡ true
takes_fits w n s x (Row j) form c e is h = absurd cc
takes_fits w n s x (Local d) form c e is h = let k : fits_local w.sites s d (takes c) ≡ true = ap (λ z. fits_local w.sites s d z) (sym (e ∙ is)) ∙ h in absurd cc
takes_fits w n s x Outer form c e is h = ap (λ z. fits_outer w n s x z) (sym (e ∙ is)) ∙ h

best_fits : (w : Setting) (u : Unbroken w) (n : ℕ) (m : List ℕ) (b : Best w n m) → takes_best w.sites b.number b.site m b.column ≡ true
best_fits w u n m b =
    takes_fits w b.number b.site m (binding_at w.sites b.number m) (form_of w.sites b.number b.site.statement) b.column refl b.form (ap (λ o. fits_target w b.number b.site o) (sym b.target) ∙ formed_at w u b.number b.site b.there)

-- the conjuncts that mention the variable are one
record OnlyOne (sites : List Site) (m : List ℕ) (c : RowColumn) (fs : List Found) : Type 0 where
  only : Found
  is : fs ≡ only ∷ []
  way : is_way (way_found sites m c only) ≡ true

only_one : (sites : List Site) (m : List ℕ) (c : RowColumn) (fs : List Found) → is_way (only_way sites m c fs) ≡ true → OnlyOne sites m c fs
only_one sites m c [] h = absurd cc
only_one sites m c (f ∷ []) h = record { only = f; is = refl; way = h }
only_one sites m c (f ∷ g ∷ fs) h = absurd cc

abbrev found_with : ℕ → Claim → Found
found_with n c = record { number = n; claim = c }

found_member : (n : ℕ) (c : Claim) (cs : List Claim) → Member c cs → Member (found_with n c) (found_at n cs)
found_member n c [] m = absurd m
found_member n c (d ∷ cs) m = ⊎_elim (λ e. inl (ap (found_with n) e)) (λ k. inr (found_member n c cs k)) m

-- a claim of a test inside the innermost loop that mentions the variable is the one
claim_only : (sites : List Site) (m : List ℕ) (c : RowColumn) (r : Round) (t : Test) (q : Claim) (k : OnlyOne sites m c (best_claims m r)) → Member t (inner_tests r) → Member q (claims t.holds t.condition) → mentions m q ≡ true → found_with t.number q ≡ k.only
claim_only sites m c r t q k there member h =
    let here : Member (found_with t.number q) (mentioning m t) = found_member t.number q (filter (mentions m) (claims t.holds t.condition)) (member_filter (mentions m) q (claims t.holds t.condition) member h) in
    let all : Member (found_with t.number q) (best_claims m r) = member_flat (mentioning m) t (found_with t.number q) (inner_tests r) there here in
    ⊎_elim (λ e. e) (λ i. absurd i) (subst (λ fs. Member (found_with t.number q) fs) k.is all)

-- the condition of the test is that of its `if`
tested_condition : (w : Setting) → Sound w → (n : ℕ) (here : Site) (c : Expression) (number : ℕ) (s : Site) (t : Test) → slice_get w.sites n ≡ Some here → condition_of here.statement ≡ Some c → slice_get w.sites number ≡ Some s → Member t (inner_tests s.round) → n ≡ t.number → t.condition ≡ c
tested_condition w u n here c number s t get cond_is there member same =
    let all = (u.known number s there).tested.by in
    let k : Tested w.sites t = member_holds (Tested w.sites) t s.round.tests all (member_filtered _ t s.round.tests member) in
    let site : k.site ≡ here = get_same w.sites n k.site here (subst (λ i. slice_get w.sites i ≡ Some k.site) (sym same) k.there) get in
    let two : Some t.condition ≡ Some c = sym k.is ∙ ap (λ (x : Site). condition_of x.statement) site ∙ cond_is in
    cc

-- ---- An update under the `if`

update_is : (s : Statement) (y : List ℕ) → target_of s ≡ Some y → is_update s ≡ true
update_is s y h = ap is_some h

under_test : (r q : Round) (n : ℕ) (c : Expression) (holds : Bool) → Under (in_branch r n c holds) q → list_any (λ (t : Test). nat_eq n t.number) q.tests ≡ true
under_test r q n c holds u =
    ap (list_any (λ (t : Test). nat_eq n t.number)) u.is_tests
    ∙ list_any-append (λ (t : Test). nat_eq n t.number) (r.tests ++ test_of r n c holds ∷ []) u.tests
    ∙ or_left (list_any (λ (t : Test). nat_eq n t.number) (r.tests ++ test_of r n c holds ∷ [])) (list_any (λ (t : Test). nat_eq n t.number) u.tests) (list_any-append (λ (t : Test). nat_eq n t.number) r.tests (test_of r n c holds ∷ []) ∙ or_last (list_any (λ (t : Test). nat_eq n t.number) r.tests) (nat_eq n n) (eq-eqb n n refl))
  where
    or_last : (a b : Bool) → b ≡ true → (a || (b || false)) ≡ true
    or_last true b e = refl
    or_last false true e = refl
    or_last false false e = e

-- no other variable is updated under the `if`
same_update : (w : Setting) (u : Unbroken w) (n : ℕ) (m y : List ℕ) (b : Best w n m) (f : Found) → best_claims m b.site.round ≡ f ∷ [] → f.number ≡ n → has_other_update w.sites b.number (best_claims m b.site.round) ≡ false → (r : Round) (c : Expression) (holds : Bool) (k : ℕ) → SetAt w.sites (in_branch r n c holds) k y → y ≡ m
same_update w u n m y b f is number none r c holds k s =
    let h : any_site (λ i x. is_update x.statement && (not (nat_eq i b.number) && is_under f.number x)) 0 w.sites ≡ false = ap (has_other_update w.sites b.number) (sym is) ∙ none in
    let target : target_of s.site.statement ≡ Some y = target_at w u (in_branch r n c holds) k y s in
    let here = and_second (is_update s.site.statement) (not (nat_eq s.number b.number) && is_under f.number s.site) (fails_at (λ i x. is_update x.statement && (not (nat_eq i b.number) && is_under f.number x)) w.sites h s.number s.site s.there) (update_is s.site.statement y target) in
    let under : is_under f.number s.site ≡ true = ap (λ i. list_any (λ (t : Test). nat_eq i t.number) s.site.round.tests) number ∙ under_test r s.site.round n c holds s.under in
    let same : s.number ≡ b.number = eqb-true s.number b.number (other_fails (nat_eq s.number b.number) (is_under f.number s.site) here under) in
    let site : s.site ≡ b.site = get_same w.sites b.number s.site b.site (subst (λ i. slice_get w.sites i ≡ Some s.site) same s.there) b.there in
    let two : Some y ≡ Some m = sym target ∙ ap (λ (x : Site). target_of x.statement) site ∙ b.target in
    cc
  where
    other_fails : (p q : Bool) → (not p && q) ≡ false → q ≡ true → p ≡ true
    other_fails true q e h = refl
    other_fails false q e h = absurd cc

-- ---- An excepted leaf

-- Where a variable is set in a branch of the `if`, an excepted leaf reads it and what is left as it is.
pub excepted_reads : (w : Setting) (u : Sound w) (fr : Frame) (n level : ℕ) (g : Types) (a f : Set) → Sight w n level g a f → (here : Site) (c : Expression) → slice_get w.sites n ≡ Some here → condition_of here.statement ≡ Some c → (e : Expression) (k : JavaType) → HasType fr g e k → Member e (leaves c) → is_excepted w.sites n e ≡ true → (y : List ℕ) (r : Round) (d : Expression) (holds : Bool) (i : ℕ) → SetAt w.sites (in_branch r n d holds) i y → Reads (with_name y f) e
excepted_reads w u fr n level g a f s here c get cond_is e k t member h y r d holds i set =
    let x : Excepted w n e = excepted w n e h in
    let b : Best w n x.name = x.best in
    let fit = and_parts (is_way (best_way w.sites x.name b.column b.site.round)) (not (has_other_update w.sites b.number (best_claims x.name b.site.round))) (best_fits w u.unbroken n x.name b) in
    let one : OnlyOne w.sites x.name b.column (best_claims x.name b.site.round) = only_one w.sites x.name b.column (best_claims x.name b.site.round) fit.0 in
    let same : b.test.condition ≡ c = tested_condition w u n here c b.number b.site b.test get cond_is b.there b.tests_it b.is_test in
    let q : Claimed b.test.holds b.test.condition e = leaf_claimed b.test.holds b.test.condition e (subst (λ z. Member e (leaves z)) (sym same) member) in
    let only : found_with b.test.number q.claim ≡ one.only = claim_only w.sites x.name b.column b.site.round b.test q.claim one b.tests_it q.member (leaf_mentions q.claim.condition e x.name q.leaf x.mentioned) in
    let number : one.only.number ≡ n = ap (λ (z : Found). z.number) (sym only) ∙ sym b.is_test in
    let claimed : one.only.claim.condition ≡ q.claim.condition = ap (λ (z : Found). z.claim.condition) (sym only) in
    let way : is_way (way_in w.sites one.only.number x.name b.column one.only.claim.condition) ≡ true = way_either (not one.only.claim.holds) (way_in w.sites one.only.number x.name b.column one.only.claim.condition) one.way in
    let way_n : is_way (way_in w.sites n x.name b.column one.only.claim.condition) ≡ true = subst (λ z. is_way (way_in w.sites z x.name b.column one.only.claim.condition) ≡ true) number way in
    let way_c : is_way (way_in w.sites n x.name b.column q.claim.condition) ≡ true = subst (λ z. is_way (way_in w.sites n x.name b.column z) ≡ true) claimed way_n in
    let leaf : e ≡ q.claim.condition = way_leaf w.sites n x.name b.column q.claim.condition e way_c q.leaf in
    let way_e : is_way (way_in w.sites n x.name b.column e) ≡ true = subst (λ z. is_way (way_in w.sites n x.name b.column z) ≡ true) (sym leaf) way_c in
    let name : y ≡ x.name = same_update w u.unbroken n x.name y b one.only one.is number (false_from_not (has_other_update w.sites b.number (best_claims x.name b.site.round)) fit.1) r d holds i set in
    subst (λ z. Reads (with_name z f) e) (sym name) (way_reads w u.unbroken fr n level g a f s x.name b.column e k t way_e)
