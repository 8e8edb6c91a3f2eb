-- What the rules of the kernel form say of the sites of a loop.
use Rattle.std.proofs.Common.{◌≡◌, ℕ, zero, suc, ◌<◌, ◌≤◌, Bool, true, false, not, ◌&&◌, ◌||◌, List, [], ◌∷◌, ◌++◌, length, Option, Some, None, refl, sym, ap, ◌∙◌, subst, cond, slice_get, arith, ⊎_elim, nat_le, nat_lt, nat_eq, le-leb, ltb-true, eqb-true}
use Rattle.std.specs.List.{filter, list_any, AllByRecursion}
use Rattle.std.proofs.lemmas.Bool.{or_parts, and_parts, or_cases}
use Rattle.java_ast.specs.Tree as tree
use Rattle.java_ast.specs.Tree.{Spelled, Expression, Statement, Statements, Nothing, Then}
use Rattle.java_mean.specs.declared.types.JavaType.{JavaType}
use Rattle.java_mean.specs.Types.{Types}
use Rattle.java_mean.specs.Typing.{Frame, TypedStatement}
pub use Rattle.java_mean.proofs.Faultless.{not_false as true_from_not}
use Rattle.java_mean.proofs.Puts.{names_equal}
use Rattle.java_loops.specs.Walks.Effects.{sets, all_set}
pub use Rattle.java_loops.proofs.Walks.Truth.{not_true as false_from_not}
use Rattle.loop_text.specs.Kernel.KernelConditions.{condition_of}
use Rattle.java_loops.specs.Kernel.KernelConditions.{broken_condition, broken_condition_at, broken_conditions}
use Rattle.loop_text.specs.Kernel.KernelForms.{Form, adds, counts, sums, takes, marks, other, form_of, fits_local, is_in_own_loop, tests_within}
use Rattle.java_loops.specs.Kernel.KernelForms.{broken_form, broken_forms, fits, fits_target}
use Rattle.loop_text.specs.Kernel.KernelLists.{source_in}
use Rattle.java_loops.specs.Kernel.KernelLists.{broken_list, broken_lists, allows_limit}
use Rattle.java_loops.specs.Kernel.KernelLoop.{broken_loop}
use Rattle.loop_text.specs.Kernel.KernelLoop.{has_inner_while, is_kernel_loop, is_while, counting_in, limit_of}
use Rattle.java_loops.specs.Kernel.KernelStarts.{broken_starts}
use Rattle.loop_text.specs.Kernel.KernelStatements.{is_allowed, broken_statement, broken_update, is_repeated, is_beside_some_break, is_beside_break, is_idle_flag, is_none}
use Rattle.java_loops.specs.Kernel.KernelStatements.{broken_statements, broken_updates}
use Rattle.loop_text.specs.Statements.Fragment.{needed_of}
use Rattle.loop_text.specs.Statements.Loops.{is_loop}
use Rattle.java_loops.specs.Kernel.Setting.{Setting}
use Rattle.loop_text.specs.Statements.Setting.{is_found}
use Rattle.loop_text.specs.declared.sites.bindings.Binding.{Binding}
use Rattle.loop_text.specs.declared.sites.bindings.Binding.TheVariants.{Row, Local}
use Rattle.loop_text.specs.Sites.Sites.{Test, Round, Site, bound_by, binding_at, place_of, place_where, first_broken, any_site, depth, in_branch, target_of, is_update}
use Rattle.java_loops.proofs.Standing.Standing.{is_single, site_of, Stands, single, when, choose, walks, repeats}
use Rattle.java_loops.proofs.Standing.StandingRules.{none_where, first_none, unbroken_at, fails_at}
use Rattle.java_loops.proofs.Standing.StandingWithin.{Under, test_of, Leveled, under_self, SetAt, all_set_in}
use Rattle.java_loops.proofs.Typing.BoundSteps.{bound_next, bound_other}
use Rattle.java_loops.proofs.Typing.BoundTyping.{typed_if, typed_choice}

-- none of the rules is broken that say what stands in a loop
pub record Unbroken (w : Setting) : Type 0 where
  pub loop : broken_loop w ≡ None
  pub lists : broken_lists w ≡ None
  pub statements : broken_statements w ≡ None
  pub updates : broken_updates w ≡ None
  pub forms : broken_forms w ≡ None
  pub conditions : broken_conditions w ≡ None
  pub starts : broken_starts w ≡ None

-- ---- Tests

-- the second part of a conjunction that fails, where the first holds
pub and_second : (a b : Bool) → (a && b) ≡ false → a ≡ true → b ≡ false
and_second true b e h = e
and_second false b e h = absurd cc

-- ---- Sites one by one

pub allowed_at : (w : Setting) → Unbroken w → (n : ℕ) (s : Site) → slice_get w.sites n ≡ Some s → is_allowed w.sites s s.statement ≡ true
allowed_at w u n s get = true_from_not (is_allowed w.sites s s.statement) (none_where (not (is_allowed w.sites s s.statement)) (place_of s.statement) (unbroken_at (broken_statement w.sites) w.sites u.statements n s get))

pub formed_at : (w : Setting) → Unbroken w → (n : ℕ) (s : Site) → slice_get w.sites n ≡ Some s → fits_target w n s (target_of s.statement) ≡ true
formed_at w u n s get = true_from_not (fits_target w n s (target_of s.statement)) (none_where (not (fits_target w n s (target_of s.statement))) (place_of s.statement) (unbroken_at (broken_form w) w.sites u.forms n s get))

pub condition_at : (w : Setting) → Unbroken w → (n : ℕ) (s : Site) → slice_get w.sites n ≡ Some s → broken_condition w n (condition_of s.statement) ≡ None
condition_at w u n s get = unbroken_at (broken_condition_at w) w.sites u.conditions n s get

pub listed_at : (w : Setting) → Unbroken w → (n : ℕ) (s : Site) → slice_get w.sites n ≡ Some s → is_loop s.statement ≡ true → is_found (source_in w.fragment.run s.statement) ≡ true
listed_at w u n s get loops =
    let found : Bool = is_found (source_in w.fragment.run s.statement) in
    let allows : Bool = allows_limit w s.statement (limit_of (counting_in s.statement)) in
    let h = none_where (is_loop s.statement && not (found && allows)) (place_of s.statement) (unbroken_at (broken_list w) w.sites u.lists n s get) in
    (and_parts found allows (true_from_not (found && allows) (and_second (is_loop s.statement) (not (found && allows)) h loops))).0

-- an update in a loop that a `break` ends stands directly before that
pub beside_at : (w : Setting) → Unbroken w → (n m : ℕ) (s t : Site) → slice_get w.sites n ≡ Some s → slice_get w.sites m ≡ Some t → is_update s.statement ≡ true → is_beside_break n s m t ≡ false
beside_at w u n m s t get there updates =
    let all = (first_none (place_where (is_none (needed_of w.fragment) || any_site (is_idle_flag w.sites) 0 w.sites) (place_of w.fragment.loop)) (first_broken (broken_update w.sites) 0 w.sites) u.updates).1 in
    let here = none_where (is_update s.statement && (is_repeated w.sites n s || is_beside_some_break w.sites n s)) (place_of s.statement) (unbroken_at (broken_update w.sites) w.sites all n s get) in
    let none = (or_parts (is_repeated w.sites n s) (is_beside_some_break w.sites n s) (and_second (is_update s.statement) (is_repeated w.sites n s || is_beside_some_break w.sites n s) here updates)).1 in
    fails_at (λ k x. is_beside_break n s k x) w.sites none m t there

pub loop_parts : (w : Setting) → Unbroken w → (has_inner_while w.sites ≡ false) × (is_kernel_loop w.fragment w.fragment.loop ≡ true)
loop_parts w u =
    let h = or_parts (has_inner_while w.sites) (not (is_kernel_loop w.fragment w.fragment.loop)) (none_where (has_inner_while w.sites || not (is_kernel_loop w.fragment w.fragment.loop)) (place_of w.fragment.loop) u.loop) in
    (h.0, true_from_not (is_kernel_loop w.fragment w.fragment.loop) h.1)

none_while : (sites : List Site) (n : ℕ) (s : Site) → list_any (λ (t : Site). is_while t.statement) sites ≡ false → slice_get sites n ≡ Some s → is_while s.statement ≡ false
none_while [] n s h get = absurd cc
none_while (t ∷ ts) zero s h get = let same : t ≡ s = cc in ap (λ (x : Site). is_while x.statement) (sym same) ∙ (or_parts (is_while t.statement) (list_any (λ (x : Site). is_while x.statement) ts) h).0
none_while (t ∷ ts) (suc n) s h get = none_while ts n s (or_parts (is_while t.statement) (list_any (λ (x : Site). is_while x.statement) ts) h).1 get

pub behind_first : (sites : List Site) (n : ℕ) (s : Site) → has_inner_while sites ≡ false → slice_get sites (suc n) ≡ Some s → is_while s.statement ≡ false
behind_first [] n s h get = absurd cc
behind_first (t ∷ ts) n s h get = none_while ts n s h get

deep_step : (w : Setting) → Unbroken w → (n : ℕ) (s t : Site) → slice_get w.sites 0 ≡ Some t → depth t ≡ 0 → slice_get w.sites n ≡ Some s → 0 < depth s → is_while s.statement ≡ false
deep_step w u zero s t first flat get deep =
    let same : t ≡ s = cc in
    let level : depth t ≡ depth s = ap depth same in
    absurd (omega arith)
deep_step w u (suc n) s t first flat get deep = behind_first w.sites n s (loop_parts w u).0 get

-- a loop in a loop doesn't count
pub inner_at : (w : Setting) → Unbroken w → (t : Site) → slice_get w.sites 0 ≡ Some t → depth t ≡ 0 → (n : ℕ) (s : Site) → slice_get w.sites n ≡ Some s → 0 < depth s → is_while s.statement ≡ false
inner_at w u t first flat n s get deep = deep_step w u n s t first flat get deep

-- ---- Updates

set_target : (sites : List Site) (x : Site) (s : Statement) (y : List ℕ) → is_single s ≡ true → sets s y ≡ true → is_allowed sites x s ≡ true → target_of s ≡ Some y
set_target sites x (tree.Declare at ty z e) y one h a = absurd cc
set_target sites x (tree.Assign at z e) y one h a = ap Some (names_equal z y h)
set_target sites x (tree.Add at z e) y one h a = ap Some (names_equal z y h)
set_target sites x (tree.Sort at z keys downs) y one h a = absurd cc
set_target sites x (tree.If at c p) y one h a = absurd cc
set_target sites x (tree.IfElse at c p q) y one h a = absurd cc
set_target sites x (tree.ForEach at ty z e b) y one h a = absurd cc
set_target sites x (tree.While at c b) y one h a = absurd cc
set_target sites x (tree.Print at e) y one h a = absurd cc
set_target sites x (tree.Return at e) y one h a = absurd cc
set_target sites x (tree.Break at) y one h a = absurd cc

-- a statement that sets a variable updates it
pub target_at : (w : Setting) → Unbroken w → (r : Round) (n : ℕ) (y : List ℕ) (s : SetAt w.sites r n y) → target_of s.site.statement ≡ Some y
target_at w u r n y s = set_target w.sites s.site s.site.statement y s.one s.sets_it (allowed_at w u s.number s.site s.there)

-- the update fits what the variable is bound to
pub fits_at : (w : Setting) → Unbroken w → (r : Round) (n : ℕ) (y : List ℕ) (s : SetAt w.sites r n y) → fits w s.number s.site y (binding_at w.sites n y) ≡ true
fits_at w u r n y s =
    let h : fits_target w s.number s.site (Some y) ≡ true = ap (λ o. fits_target w s.number s.site o) (sym (target_at w u r n y s)) ∙ formed_at w u s.number s.site s.there in
    ap (λ b. fits w s.number s.site y b) (sym s.bound) ∙ h

-- the row of a loop is set by nothing
pub row_unset : (w : Setting) → Unbroken w → (r : Round) (n j : ℕ) (y : List ℕ) → SetAt w.sites r n y → binding_at w.sites n y ≡ Row j → ⊥
row_unset w u r n j y s b = let h : fits w s.number s.site y (Row j) ≡ true = ap (λ z. fits w s.number s.site y z) (sym b) ∙ fits_at w u r n y s in absurd cc

local_form : (sites : List Site) (s : Site) (d : ℕ) (form : Form) → fits_local sites s d form ≡ true → is_in_own_loop s (slice_get sites d) ≡ true
local_form sites s d (adds t) h = absurd cc
local_form sites s d counts h = absurd cc
local_form sites s d (sums c) h = absurd cc
local_form sites s d (takes c) h = absurd cc
local_form sites s d (marks b) h = h
local_form sites s d other h = absurd cc

-- the update of a flag stands in a loop that stands directly in the flag's block
pub own_loop : (w : Setting) → Unbroken w → (r : Round) (n d : ℕ) (y : List ℕ) (t : Site) (s : SetAt w.sites r n y) → binding_at w.sites n y ≡ Local d → slice_get w.sites d ≡ Some t → is_in_own_loop s.site (Some t) ≡ true
own_loop w u r n d y t s b get =
    let h : fits w s.number s.site y (Local d) ≡ true = ap (λ z. fits w s.number s.site y z) (sym b) ∙ fits_at w u r n y s in
    ap (λ o. is_in_own_loop s.site o) (sym get) ∙ local_form w.sites s.site d (form_of w.sites s.number s.site.statement) h

-- ---- The flags of a block

passes_first : (q : Test → Bool) (t : Test) (ts : List Test) → q t ≡ true → length (filter q (t ∷ ts)) ≡ suc (length (filter q ts))
passes_first q t ts e = ap (λ b. length (cond b (t ∷ filter q ts) (filter q ts))) e

within_more : (level : ℕ) (ts more : List Test) (t : Test) → AllByRecursion (λ (x : Test). x.level ≤ level) ts → t.level ≤ level → length ts < length (filter (λ (x : Test). nat_le x.level level) ((ts ++ t ∷ []) ++ more))
within_more level [] more t all h =
    let e = passes_first (λ (x : Test). nat_le x.level level) t more (le-leb t.level level h) in
    omega (arith, e)
within_more level (x ∷ ts) more t all h =
    let e = passes_first (λ (z : Test). nat_le z.level level) x ((ts ++ t ∷ []) ++ more) (le-leb x.level level all.0) in
    let f = within_more level ts more t all.1 h in
    omega (arith, e, f)

-- in a branch of an `if` of the flag's block there is no update of the flag
branch_own : (r : Round) (n : ℕ) (c : Expression) (holds : Bool) (s t : Site) → Leveled r → Under (in_branch r n c holds) s.round → t.round ≡ r → is_in_own_loop s (Some t) ≡ true → ⊥
branch_own r n c holds s t leveled under same h =
    let two = and_parts (nat_lt (depth t) (depth s)) (nat_eq (tests_within (depth t) s.round) (length t.round.tests)) h in
    let e : tests_within (depth t) s.round ≡ length t.round.tests = eqb-true (tests_within (depth t) s.round) (length t.round.tests) two.1 in
    let f : length r.tests < length (filter (λ (x : Test). nat_le x.level (length r.loops)) ((r.tests ++ test_of r n c holds ∷ []) ++ under.tests)) = within_more (length r.loops) r.tests under.tests (test_of r n c holds) leveled.by (omega arith) in
    let k : length r.tests < length (filter (λ (x : Test). nat_le x.level (length r.loops)) s.round.tests) = subst (λ ts. length r.tests < length (filter (λ (x : Test). nat_le x.level (length r.loops)) ts)) (sym under.is_tests) f in
    let i : tests_within (length r.loops) s.round ≡ length r.tests = subst (λ (q : Round). tests_within (length q.loops) s.round ≡ length q.tests) same e in
    absurd (omega (arith, i, k))

self_own : (r : Round) (s t : Site) → s.round ≡ r → t.round ≡ r → is_in_own_loop s (Some t) ≡ true → ⊥
self_own r s t here same h =
    let two = and_parts (nat_lt (depth t) (depth s)) (nat_eq (tests_within (depth t) s.round) (length t.round.tests)) h in
    let l : depth t < depth s = ltb-true (depth t) (depth s) two.0 in
    let e : depth s ≡ length r.loops = ap (λ (q : Round). length q.loops) here in
    let f : depth t ≡ length r.loops = ap (λ (q : Round). length q.loops) same in
    absurd (omega (arith, l, e, f))

branch_bound : (w : Setting) (r : Round) (previous : Option Statement) (s : Statement) (n : ℕ) (y : List ℕ) (d : ℕ) → slice_get w.sites n ≡ Some (site_of r previous s) → ((b : Binding) → bound_by y n s b ≡ b) → binding_at w.sites n y ≡ Local d → binding_at w.sites (suc n) y ≡ Local d
branch_bound w r previous s n y d get same b = bound_next w.sites n (site_of r previous s) y get ∙ same (binding_at w.sites n y) ∙ b

-- a statement of a block that sets a flag of the block is a loop
pub loop_sets : (w : Setting) → Unbroken w → (c : Frame) (r : Round) (previous : Option Statement) (s : Statement) (n m : ℕ) → Stands w.sites r previous s n m → Leveled r → (l : Option Types) (g h : Types) → TypedStatement c l g s h → (y : List ℕ) (k : JavaType) (d : ℕ) (t : Site) → g y ≡ Some k → binding_at w.sites n y ≡ Local d → slice_get w.sites d ≡ Some t → t.round ≡ r → sets s y ≡ true → is_loop s ≡ true
loop_sets w u c _ _ _ _ _ (single r previous s n one get) leveled l g h typed y k d t i b there same e =
    let x : SetAt w.sites r n y = record { number = n; site = site_of r previous s; there = get; under = under_self r; one = one; sets_it = e; bound = refl } in
    absurd (self_own r (site_of r previous s) t refl same (own_loop w u r n d y t x b there))
loop_sets w u c _ _ _ _ _ (when r previous at q p n m get all) leveled l g h typed y k d t i b there same e =
    let v = typed_if c l g h at q p typed in
    let x = all_set_in c w.sites (in_branch r n q true) None p (suc n) m all l g v.branch.last v.branch.body y k i e in
    absurd (branch_own r n q true x.site t leveled x.under same (own_loop w u (in_branch r n q true) (suc n) d y t x (branch_bound w r previous (tree.If at q p) n y d get (λ z. refl) b) there))
loop_sets w u c _ _ _ _ _ (choose r previous at q p o n m z get all more) leveled l g h typed y k d t i b there same e =
    let v = typed_choice c l g h at q p o typed in
    ⊎_elim
    (λ f. let x = all_set_in c w.sites (in_branch r n q true) None p (suc n) m all l g v.branch.last v.branch.body y k i f in absurd (branch_own r n q true x.site t leveled x.under same (own_loop w u (in_branch r n q true) (suc n) d y t x (branch_bound w r previous (tree.IfElse at q p o) n y d get (λ f. refl) b) there)))
    (λ f. let x = all_set_in c w.sites (in_branch r n q false) None o m z more l g v.other.last v.other.body y k i f in absurd (branch_own r n q false x.site t leveled x.under same (own_loop w u (in_branch r n q false) m d y t x (bound_other c w.sites r previous at q p o n m get all l g v.branch.last v.branch.body y k i ∙ b) there)))
    (or_cases (all_set p y) (all_set o y) e)
loop_sets w u c _ _ _ _ _ (walks r previous at ty x q p n m get all) leveled l g h typed y k d t i b there same e = refl
loop_sets w u c _ _ _ _ _ (repeats r previous at q p n m get all) leveled l g h typed y k d t i b there same e = refl
