-- Each site of a typed loop with its types, with what is visible there, and with the loops and `if`s round it.
use Rattle.std.proofs.Common.{◌≡◌, ℕ, suc, ◌+◌, ◌<◌, ◌≤◌, Bool, true, List, [], ◌∷◌, ◌++◌, length, Option, Some, None, refl, sym, ap, ◌∙◌, subst, bytes_eq, take, slice_get, arith, ◌⊎◌, inl, inr, ⊎_elim, nat_lt, length-append}
use Rattle.std.specs.List.{AllByRecursion}
use Rattle.std.proofs.lemmas.Bool.{and_parts, lt-ltb}
use Rattle.std.proofs.lemmas.List.{take-append-le}
use Rattle.qbs_base.specs.declared.span.Span.{Span}
use Rattle.java_ast.specs.Tree as tree
use Rattle.java_ast.specs.Tree.{Spelled, Expression, Statement, Statements, Nothing, Then}
use Rattle.java_mean.specs.declared.types.JavaType.{JavaType}
use Rattle.java_mean.specs.declared.types.JavaType.TheVariants.{Of}
use Rattle.java_mean.specs.declared.types.Single.{Single}
use Rattle.java_mean.specs.Types.{Types, with_type}
use Rattle.java_mean.specs.Typing.{Frame, Has, HasType, IsNew, TypedStatement, declare, assign, add, sort, when as when_typed, choose as choose_typed, for_each, for_each_new, while_true, print, return_none, return_value, leave}
use Rattle.java_mean.proofs.Members.{all_added}
use Rattle.kernel_lang.specs.Validity.{rises, rises_after}
use Rattle.loop_text.specs.Kernel.KernelConditions.{condition_of}
use Rattle.loop_text.specs.Statements.Loops.{is_loop}
use Rattle.loop_text.specs.declared.sites.bindings.Binding.TheVariants.{Local}
use Rattle.loop_text.specs.Sites.Sites.{Test, Round, Site, binding_at, depth, in_loop, in_branch}
use Rattle.java_loops.proofs.Typing.BoundSteps.{bound_next, bound_past}
use Rattle.java_loops.proofs.Standing.Standing.{is_single, site_of, Stands, single, when, choose, walks, repeats}
use Rattle.java_loops.proofs.Standing.StandingWithin.{test_of}
use Rattle.java_loops.proofs.Valid.ValidScope.{Under, under_self, further_loop, further_branch, Scope, inside_self, scope_kept, scope_new}

-- ---- Rounds

-- a loop round a place before which so many sites stand
pub record LoopStands (sites : List Site) (n j : ℕ) : Type 0 where
  pub site : Site
  pub there : slice_get sites j ≡ Some site
  pub loops : is_loop site.statement ≡ true
  pub before : j < n

-- an `if` round a place, in the outermost of the loops round the place
pub record TestStands (sites : List Site) (loops : List ℕ) (t : Test) : Type 0 where
  pub site : Site
  pub there : slice_get sites t.number ≡ Some site
  pub is : condition_of site.statement ≡ Some t.condition
  pub level : t.level ≤ length loops
  pub loops_of : site.round.loops ≡ take t.level loops

-- the `if` stands in the place's round, further out
pub record TestUnder (sites : List Site) (r : Round) (t : Test) : Type 0 where
  pub site : Site
  pub there : slice_get sites t.number ≡ Some site
  pub under : Under site.round r

pub record RoundStands (sites : List Site) (n : ℕ) (r : Round) : Type 0 where
  pub loops : AllByRecursion (LoopStands sites n) r.loops
  pub rising : rises r.loops ≡ true
  pub short : length r.loops ≤ 3
  pub tests : AllByRecursion (TestStands sites r.loops) r.tests
  pub outer : AllByRecursion (TestUnder sites r) r.tests

pub all_weaker : {A : Type 0} (P Q : A → Type 0) (xs : List A) → ((x : A) → P x → Q x) → AllByRecursion P xs → AllByRecursion Q xs
all_weaker P Q [] f a = tt
all_weaker P Q (x ∷ xs) f a = (f x a.0, all_weaker P Q xs f a.1)

rises_further : (sites : List Site) (n i : ℕ) (js : List ℕ) → i < n → AllByRecursion (LoopStands sites n) js → rises_after i js ≡ true → rises_after i (js ++ n ∷ []) ≡ true
rises_further sites n i [] low a h = rw (lt-ltb i n low) refl
rises_further sites n i (j ∷ js) low a h =
    let p = and_parts (nat_lt i j) (rises_after j js) h in
    rw (p.0, rises_further sites n j js a.0.before a.1 p.1) refl

rises_more : (sites : List Site) (n : ℕ) (js : List ℕ) → AllByRecursion (LoopStands sites n) js → rises js ≡ true → rises (js ++ n ∷ []) ≡ true
rises_more sites n [] a h = refl
rises_more sites n (j ∷ js) a h = rises_further sites n j js a.0.before a.1 h

pub round_later : (sites : List Site) (n m : ℕ) (r : Round) → n ≤ m → RoundStands sites n r → RoundStands sites m r
round_later sites n m r low s =
    record { loops = all_weaker (LoopStands sites n) (LoopStands sites m) r.loops (λ j l. let b : j < n = l.before in record { site = l.site; there = l.there; loops = l.loops; before = omega arith }) s.loops; rising = s.rising; short = s.short; tests = s.tests; outer = s.outer }

test_further : (sites : List Site) (js : List ℕ) (n : ℕ) (t : Test) → TestStands sites js t → TestStands sites (js ++ n ∷ []) t
test_further sites js n t s =
    let l : t.level ≤ length js = s.level in
    let e : length (js ++ n ∷ []) ≡ length js + 1 = length-append js (n ∷ []) in
    record { site = s.site; there = s.there; is = s.is; level = omega (arith, e); loops_of = s.loops_of ∙ sym (take-append-le t.level js (n ∷ []) s.level) }

pub round_in_loop : (sites : List Site) (n : ℕ) (s : Site) (r : Round) → slice_get sites n ≡ Some s → is_loop s.statement ≡ true → length r.loops ≤ 2 → RoundStands sites n r → RoundStands sites (suc n) (in_loop r n)
round_in_loop sites n s r get loops short a =
    let e : length (r.loops ++ n ∷ []) ≡ length r.loops + 1 = length-append r.loops (n ∷ []) in
    let b : RoundStands sites (suc n) r = round_later sites n (suc n) r (omega arith) a in
    record {
      loops = all_added (LoopStands sites (suc n)) r.loops n b.loops (record { site = s; there = get; loops = loops; before = omega arith });
      rising = rises_more sites n r.loops a.loops a.rising;
      short = omega (arith, e);
      tests = all_weaker (TestStands sites r.loops) (TestStands sites (r.loops ++ n ∷ [])) r.tests (λ t. test_further sites r.loops n t) a.tests;
      outer = all_weaker (TestUnder sites r) (TestUnder sites (in_loop r n)) r.tests (λ t u. record { site = u.site; there = u.there; under = further_loop u.site.round r n u.under }) a.outer;
    }

take_whole : (js : List ℕ) → take (length js) js ≡ js
take_whole [] = refl
take_whole (j ∷ js) = ap (λ l. j ∷ l) (take_whole js)

pub round_in_branch : (sites : List Site) (n m : ℕ) (s : Site) (r : Round) (c : Expression) (holds : Bool) → slice_get sites n ≡ Some s → s.round ≡ r → condition_of s.statement ≡ Some c → n ≤ m → RoundStands sites n r → RoundStands sites m (in_branch r n c holds)
round_in_branch sites n m s r c holds get same is low a =
    let b : RoundStands sites m r = round_later sites n m r low a in
    record {
      loops = b.loops;
      rising = b.rising;
      short = b.short;
      tests = all_added (TestStands sites r.loops) r.tests (test_of r n c holds) b.tests (record { site = s; there = get; is = is; level = omega arith; loops_of = ap (λ (q : Round). q.loops) same ∙ sym (take_whole r.loops) });
      outer = all_added (TestUnder sites (in_branch r n c holds)) r.tests (test_of r n c holds) (all_weaker (TestUnder sites r) (TestUnder sites (in_branch r n c holds)) r.tests (λ t u. record { site = u.site; there = u.there; under = further_branch u.site.round r n c holds u.under }) b.outer) (record { site = s; there = get; under = subst (λ q. Under q (in_branch r n c holds)) (sym same) (further_branch r r n c holds (under_self r)) });
    }

-- ---- Premises

-- what a for-each takes from its list
pub data TakesRow (c : Frame) (now : Types) (e : Expression) : JavaType → Type 0 where
  member : (k : JavaType) (a : Single) → HasType c now e k → Has k a → TakesRow c now e (Of a)
  of_new : (k : JavaType) → IsNew e → TakesRow c now e k

-- no loop stands in three others, and the rows of loops are so, where what is visible outside is visible
pub record Nested (P : ℕ → JavaType → Type 0) (c : Frame) (g : Types) (sites : List Site) : Type 0 where
  pub shallow : (n : ℕ) (s : Site) → slice_get sites n ≡ Some s → is_loop s.statement ≡ true → depth s ≤ 2
  pub rows : (n : ℕ) (s : Site) (now : Types) (at : Span) (ty : Spelled) (x : List ℕ) (e : Expression) (p : Statements) (k : JavaType) → slice_get sites n ≡ Some s → s.statement ≡ tree.ForEach at ty x e p → ((y : List ℕ) (j : JavaType) → g y ≡ Some j → now y ≡ Some j) → TakesRow c now e k → P n k

pub record Visited (P : ℕ → JavaType → Type 0) (c : Frame) (g : Types) (sites : List Site) (n : ℕ) : Type 0 where
  pub site : Site
  pub there : slice_get sites n ≡ Some site
  pub at_body : Option Types
  pub now : Types
  pub after : Types
  pub typed : TypedStatement c at_body now site.statement after
  pub scope : Scope P g sites site.round n now
  pub round : RoundStands sites n site.round

-- ---- Behind a statement

pub record NewName (c : Frame) (g h : Types) (s : Statement) : Type 0 where
  pub at : Span
  pub ty : Spelled
  pub name : List ℕ
  pub value : Expression
  pub type : JavaType
  pub is : s ≡ tree.Declare at ty name value
  pub new : g name ≡ None
  pub after : h ≡ with_type name (Some type) g

pub new_or_same : (c : Frame) (l : Option Types) (g h : Types) (s : Statement) → TypedStatement c l g s h → (h ≡ g) ⊎ NewName c g h s
new_or_same c _ _ _ _ (declare l g at ty y e j new q t) = inr (record { at = at; ty = ty; name = y; value = e; type = j; is = refl; new = new; after = refl })
new_or_same c _ _ _ _ (assign l g at y e j i t) = inl refl
new_or_same c _ _ _ _ (add l g at y e j a i has t) = inl refl
new_or_same c _ _ _ _ (sort l g at y keys down a i) = inl refl
new_or_same c _ _ _ _ (when_typed l g h at e p t u) = inl refl
new_or_same c _ _ _ _ (choose_typed l g h h' at e p q t u v) = inl refl
new_or_same c _ _ _ _ (for_each l g h at ty y e p j a new t has u) = inl refl
new_or_same c _ _ _ _ (for_each_new l g h at ty y e p j new q isnew u) = inl refl
new_or_same c _ _ _ _ (while_true l g h at e p t u) = inl refl
new_or_same c _ _ _ _ (print l g at e ty t) = inl refl
new_or_same c _ _ _ _ (return_none l g at i) = inl refl
new_or_same c _ _ _ _ (return_value l g at e j i t) = inl refl
new_or_same c _ _ _ _ (leave j g at ex) = inl refl

record Ended (sites : List Site) (r : Round) (previous : Option Statement) (s : Statement) (n m : ℕ) : Type 0 where
  one_more : suc n ≡ m
  there : slice_get sites n ≡ Some (site_of r previous s)

ended : (sites : List Site) (r : Round) (previous : Option Statement) (s : Statement) (n m : ℕ) → Stands sites r previous s n m → is_single s ≡ true → Ended sites r previous s n m
ended sites _ _ _ _ _ (single r previous s n one get) e = record { one_more = refl; there = get }
ended sites _ _ _ _ _ (when r previous at q p n m get all) e = absurd cc
ended sites _ _ _ _ _ (choose r previous at q p o n m z get all other) e = absurd cc
ended sites _ _ _ _ _ (walks r previous at ty x q p n m get all) e = absurd cc
ended sites _ _ _ _ _ (repeats r previous at q p n m get all) e = absurd cc

declared_scope : (P : ℕ → JavaType → Type 0) (g now : Types) (sites : List Site) (r : Round) (previous : Option Statement) (n m : ℕ) (at : Span) (ty : Spelled) (x : List ℕ) (e : Expression) (k : JavaType) → now x ≡ None → Ended sites r previous (tree.Declare at ty x e) n m → Scope P g sites r n now → Scope P g sites r m (with_type x (Some k) now)
declared_scope P g now sites r previous n m at ty x e k new d s =
    let s' : Site = site_of r previous (tree.Declare at ty x e) in
    scope_new P g now sites r r n m x k (Local n) (inside_self r) new
    (λ y. sym (ap (λ i. binding_at sites i y) d.one_more) ∙ bound_next sites n s' y d.there)
    (λ y h. record { site = s'; there = d.there; declares = ap Some (same_names x y h); under = under_self r })
    s
  where
    same_names : (x y : List ℕ) → bytes_eq x y ≡ true → x ≡ y
    same_names x y h = Rattle.java_mean.proofs.Puts.names_equal x y h

pub scope_after : (P : ℕ → JavaType → Type 0) (c : Frame) (g : Types) (sites : List Site) (r : Round) (previous : Option Statement) (s : Statement) (n m : ℕ) (l : Option Types) (now h : Types) → Stands sites r previous s n m → TypedStatement c l now s h → Scope P g sites r n now → Scope P g sites r m h
scope_after P c g sites r previous s n m l now h stands typed scope =
    ⊎_elim
    (λ e. subst (λ z. Scope P g sites r m z) (sym e) (scope_kept P g now sites r r n m (inside_self r) (λ x k i. bound_past c sites r previous s n m stands l now h typed x k i) scope))
    (λ d. let stands' : Stands sites r previous (tree.Declare d.at d.ty d.name d.value) n m = subst (λ z. Stands sites r previous z n m) d.is stands in subst (λ z. Scope P g sites r m z) (sym d.after) (declared_scope P g now sites r previous n m d.at d.ty d.name d.value d.type d.new (ended sites r previous (tree.Declare d.at d.ty d.name d.value) n m stands' refl) scope))
    (new_or_same c l now h s typed)
