-- The leaves of all conditions: each has a type where it stands, and breaks no rule.
use Rattle.std.proofs.Common.{◌≡◌, ℕ, suc, ◌+◌, Bool, true, false, ◌||◌, List, [], ◌∷◌, ◌++◌, Option, Some, None, refl, sym, ap, ◌∙◌, subst, cond, slice_get, arith}
use Rattle.std.specs.List.{AllByRecursion}
use Rattle.std.proofs.lemmas.Option.{slice_get_within}
use Rattle.sql_ast.proofs.Combinations.{all_append}
use Rattle.qbs_base.specs.declared.scalar.Ty.{Ty}
use Rattle.java_ast.specs.declared.tree.Op.{Op}
use Rattle.java_ast.specs.Tree as tree
use Rattle.java_ast.specs.Tree.{Expression, Statement}
use Rattle.java_mean.specs.declared.types.JavaType.{JavaType}
use Rattle.java_mean.specs.declared.types.JavaType.TheVariants.{Of}
use Rattle.java_mean.specs.declared.types.Single.TheVariants.{ScalarOf}
use Rattle.java_mean.specs.Types.{Types}
use Rattle.java_mean.specs.Typing as typing
use Rattle.java_mean.specs.Typing.{Frame, HasType, bool, TypedStatement, when, choose}
use Rattle.loop_text.specs.Kernel.Counting.{is_and}
use Rattle.loop_text.specs.Kernel.KernelConditions.{leaves, is_excepted, condition_of}
use Rattle.java_loops.specs.Kernel.KernelConditions.{broken_leaf, broken_leaves, broken_unless_excepted, broken_condition}
use Rattle.loop_text.specs.Kernel.KernelForms.{is_or}
use Rattle.java_loops.specs.Lowering.Numbering.{Leaf, leaves_kept, leaves_of, leaves_from, all_leaves}
use Rattle.java_loops.specs.Kernel.Setting.{Setting}
use Rattle.loop_text.specs.Sites.Sites.{Site}
use Rattle.java_loops.proofs.Nested.NestRules.{condition_at}
use Rattle.java_loops.proofs.Standing.StandingRules.{first_none, get_same}
use Rattle.java_loops.proofs.Valid.ValidLoop.{Checked, rules, FirstRow, site_visited}
use Rattle.java_loops.proofs.Valid.ValidVisits.{Nested, Visited}

-- ---- Types of leaves

typed_one : (c : Frame) (g : Types) (e : Expression) (k : JavaType) → HasType c g e k → k ≡ bool → AllByRecursion (λ q. HasType c g q bool) (e ∷ [])
typed_one c g e k t same = (subst (λ j. HasType c g e j) same t, tt)

joined_leaves : (c : Frame) (g : Types) (b : Bool) (e : Expression) (k : JavaType) (xs ys : List Expression) → HasType c g e k → k ≡ bool → (b ≡ true → AllByRecursion (λ q. HasType c g q bool) xs) → (b ≡ true → AllByRecursion (λ q. HasType c g q bool) ys) → AllByRecursion (λ q. HasType c g q bool) (cond b (xs ++ ys) (e ∷ []))
joined_leaves c g true e k xs ys t same a b = all_append (λ q. HasType c g q bool) xs ys (a refl) (b refl)
joined_leaves c g false e k xs ys t same a b = typed_one c g e k t same

-- what `&&` and `||` join are truth values
joins_bools : (op : Op) (from to : Ty) → typing.Takes op from to → (is_and op || is_or op) ≡ true → Of (ScalarOf from) ≡ bool
joins_bools _ _ _ typing.or_takes h = refl
joins_bools _ _ _ typing.and_takes h = refl
joins_bools _ _ _ typing.eq_longs h = absurd cc
joins_bools _ _ _ typing.eq_bools h = absurd cc
joins_bools _ _ _ typing.ne_bools h = absurd cc
joins_bools _ _ _ typing.ne_longs h = absurd cc
joins_bools _ _ _ typing.lt_takes h = absurd cc
joins_bools _ _ _ typing.le_takes h = absurd cc
joins_bools _ _ _ typing.gt_takes h = absurd cc
joins_bools _ _ _ typing.ge_takes h = absurd cc
joins_bools _ _ _ typing.add_takes h = absurd cc
joins_bools _ _ _ typing.sub_takes h = absurd cc
joins_bools _ _ _ typing.mul_takes h = absurd cc

pub leaves_typed : (c : Frame) (g : Types) (e : Expression) (k : JavaType) → HasType c g e k → k ≡ bool → AllByRecursion (λ q. HasType c g q bool) (leaves e)
leaves_typed c g _ _ (typing.lit at x ty h) same = typed_one c g (tree.Lit at x) _ (typing.lit at x ty h) same
leaves_typed c g _ _ (typing.var at x k h) same = typed_one c g (tree.Var at x) k (typing.var at x k h) same
leaves_typed c g _ _ (typing.field at e f n i column t h q) same = typed_one c g (tree.Field at e f) _ (typing.field at e f n i column t h q) same
leaves_typed c g _ _ (typing.binary at op a b from to takes t u) same = joined_leaves c g (is_and op || is_or op) (tree.Binary at op a b) (Of (ScalarOf to)) (leaves a) (leaves b) (typing.binary at op a b from to takes t u) same (λ h. leaves_typed c g a (Of (ScalarOf from)) t (joins_bools op from to takes h)) (λ h. leaves_typed c g b (Of (ScalarOf from)) u (joins_bools op from to takes h))
leaves_typed c g _ _ (typing.negated at e t) same = leaves_typed c g e bool t refl
leaves_typed c g _ _ (typing.equals at a b t u) same = typed_one c g (tree.Equals at a b) _ (typing.equals at a b t u) same
leaves_typed c g _ _ (typing.size at x k a h has) same = typed_one c g (tree.Size at x) _ (typing.size at x k a h has) same
leaves_typed c g _ _ (typing.get at x e a h t) same = typed_one c g (tree.Get at x e) _ (typing.get at x e a h t) same
leaves_typed c g _ _ (typing.contains at x e k ty h has t) same = typed_one c g (tree.Contains at x e) _ (typing.contains at x e k ty h has t) same
leaves_typed c g _ _ (typing.fetch at t n h) same = typed_one c g (tree.Fetch at t) _ (typing.fetch at t n h) same
leaves_typed c g _ _ (typing.query at ty text es q h t) same = typed_one c g (tree.Query at ty text es) _ (typing.query at ty text es q h t) same
leaves_typed c g _ _ (typing.query_long at text es q h t) same = typed_one c g (tree.QueryLong at text es) _ (typing.query_long at text es q h t) same
leaves_typed c g _ _ (typing.query_boolean at text es q h t) same = typed_one c g (tree.QueryBoolean at text es) _ (typing.query_boolean at text es q h t) same
leaves_typed c g _ _ (typing.new_list at a) same = typed_one c g (tree.NewList at) _ (typing.new_list at a) same
leaves_typed c g _ _ (typing.new_set at a) same = typed_one c g (tree.NewSet at) _ (typing.new_set at a) same
leaves_typed c g _ _ (typing.new_set_of at e a t) same = typed_one c g (tree.NewSetOf at e) _ (typing.new_set_of at e a t) same

condition_step : (c : Frame) (l : Option Types) (g h : Types) (s : Statement) (e : Expression) → TypedStatement c l g s h → condition_of s ≡ Some e → HasType c g e bool
condition_step c _ _ _ _ e (when l g h at q p t u) is = let same : q ≡ e = cc in subst (λ z. HasType c g z bool) same t
condition_step c _ _ _ _ e (choose l g h h' at q p o t u v) is = let same : q ≡ e = cc in subst (λ z. HasType c g z bool) same t
condition_step c _ _ _ _ e _ is = absurd cc

-- ---- A leaf

-- a leaf of the `if` with this number that isn't the conjunct of a best value
pub record LeafStands (P : ℕ → JavaType → Type 0) (w : Setting) (c : Frame) (n : ℕ) (e : Expression) : Type 0 where
  pub visited : Visited P c w.types w.sites n
  pub typed : HasType c visited.now e bool
  pub unbroken : broken_leaf w n e ≡ None
  pub kept : is_excepted w.sites n e ≡ false

leaf_stands : (P : ℕ → JavaType → Type 0) (w : Setting) (c : Frame) (n : ℕ) (v : Visited P c w.types w.sites n) (e : Expression) (b : Bool) → is_excepted w.sites n e ≡ b → b ≡ false → cond b None (broken_leaf w n e) ≡ None → HasType c v.now e bool → LeafStands P w c n e
leaf_stands P w c n v e true is off h t = absurd cc
leaf_stands P w c n v e false is off h t = record { visited = v; typed = t; unbroken = h; kept = is }

leaves_stand : (P : ℕ → JavaType → Type 0) (w : Setting) (c : Frame) (n : ℕ) (v : Visited P c w.types w.sites n) (es : List Expression) → broken_leaves w n es ≡ None → AllByRecursion (λ q. HasType c v.now q bool) es → AllByRecursion (λ e. is_excepted w.sites n e ≡ false → LeafStands P w c n e) es
leaves_stand P w c n v [] h t = tt
leaves_stand P w c n v (e ∷ es) h t =
    let p = first_none (broken_unless_excepted w n e) (broken_leaves w n es) h in
    (λ off. leaf_stands P w c n v e (is_excepted w.sites n e) refl off p.0 t.0, leaves_stand P w c n v es p.1 t.1)

same_site : (P : ℕ → JavaType → Type 0) (w : Setting) (c : Frame) (n : ℕ) (s : Site) (v : Visited P c w.types w.sites n) → slice_get w.sites n ≡ Some s → v.site ≡ s
same_site P w c n s v get = get_same w.sites n v.site s v.there get

-- each leaf of the condition of an `if`
pub condition_stands : (P : ℕ → JavaType → Type 0) (w : Setting) (c : Frame) → Checked w c → FirstRow P c w.fragment.loop → Nested P c w.types w.sites → (n : ℕ) (s : Site) (e : Expression) → slice_get w.sites n ≡ Some s → condition_of s.statement ≡ Some e → AllByRecursion (λ q. is_excepted w.sites n q ≡ false → LeafStands P w c n q) (leaves e)
condition_stands P w c is row nested n s e get test =
    let v : Visited P c w.types w.sites n = site_visited P w c is row nested n (slice_get_within w.sites n s get) in
    let test' : condition_of v.site.statement ≡ Some e = ap (λ (z : Site). condition_of z.statement) (same_site P w c n s v get) ∙ test in
    let none : broken_condition w n (Some e) ≡ None = ap (λ o. broken_condition w n o) (sym test) ∙ condition_at w (rules w is.none).unbroken n s get in
    leaves_stand P w c n v (leaves e) none (leaves_typed c v.now e bool (condition_step c v.at_body v.now v.after v.site.statement e v.typed test') refl)

-- ---- All leaves

abbrev pub LeafIs : (ℕ → Expression → Type 0) → Leaf → Type 0
LeafIs Q l = Q l.number l.expression

keep_step : (Q : ℕ → Expression → Type 0) (n : ℕ) (e : Expression) (ls : List Leaf) (b : Bool) → (b ≡ false → Q n e) → AllByRecursion (LeafIs Q) ls → AllByRecursion (LeafIs Q) (cond b ls (record { number = n; expression = e } ∷ ls))
keep_step Q n e ls true h a = a
keep_step Q n e ls false h a = (h refl, a)

kept_are : (Q : ℕ → Expression → Type 0) (sites : List Site) (n : ℕ) (es : List Expression) → AllByRecursion (λ e. is_excepted sites n e ≡ false → Q n e) es → AllByRecursion (LeafIs Q) (leaves_kept sites n es)
kept_are Q sites n [] a = tt
kept_are Q sites n (e ∷ es) a = keep_step Q n e (leaves_kept sites n es) (is_excepted sites n e) a.0 (kept_are Q sites n es a.1)

leaves_are : (Q : ℕ → Expression → Type 0) (sites : List Site) (n : ℕ) (o : Option Expression) → ((e : Expression) → o ≡ Some e → AllByRecursion (λ q. is_excepted sites n q ≡ false → Q n q) (leaves e)) → AllByRecursion (LeafIs Q) (leaves_of sites n o)
leaves_are Q sites n None h = tt
leaves_are Q sites n (Some e) h = kept_are Q sites n (leaves e) (h e refl)

-- the sites from a number on
abbrev pub From : List Site → ℕ → List Site → Type 0
From sites n ss = (i : ℕ) (s : Site) → slice_get ss i ≡ Some s → slice_get sites (n + i) ≡ Some s

from_next : (sites : List Site) (n : ℕ) (s : Site) (ss : List Site) → From sites n (s ∷ ss) → From sites (suc n) ss
from_next sites n s ss h i t get = let e : n + suc i ≡ suc n + i = omega arith in subst (λ k. slice_get sites k ≡ Some t) e (h (suc i) t get)

from_here : (sites : List Site) (n : ℕ) (s : Site) (ss : List Site) → From sites n (s ∷ ss) → slice_get sites n ≡ Some s
from_here sites n s ss h = let e : n + 0 ≡ n = omega arith in subst (λ k. slice_get sites k ≡ Some s) e (h 0 s refl)

abbrev pub AllConditions : (ℕ → Expression → Type 0) → List Site → Type 0
AllConditions Q sites = (n : ℕ) (s : Site) (e : Expression) → slice_get sites n ≡ Some s → condition_of s.statement ≡ Some e → AllByRecursion (λ q. is_excepted sites n q ≡ false → Q n q) (leaves e)

from_are : (Q : ℕ → Expression → Type 0) (sites : List Site) (n : ℕ) (ss : List Site) → AllConditions Q sites → From sites n ss → AllByRecursion (LeafIs Q) (leaves_from sites n ss)
from_are Q sites n [] h f = tt
from_are Q sites n (s ∷ ss) h f =
    all_append (LeafIs Q) (leaves_of sites n (condition_of s.statement)) (leaves_from sites (suc n) ss)
    (leaves_are Q sites n (condition_of s.statement) (λ e is. h n s e (from_here sites n s ss f) is))
    (from_are Q sites (suc n) ss h (from_next sites n s ss f))

-- what holds of the leaves of each condition holds of all leaves
pub all_leaves_are : (Q : ℕ → Expression → Type 0) (sites : List Site) → AllConditions Q sites → AllByRecursion (λ (l : Leaf). Q l.number l.expression) (all_leaves sites)
all_leaves_are Q sites h = from_are Q sites 0 sites h (λ i s get. let e : i ≡ 0 + i = omega arith in subst (λ k. slice_get sites k ≡ Some s) e get)

pub all_leaves_stand : (P : ℕ → JavaType → Type 0) (w : Setting) (c : Frame) → Checked w c → FirstRow P c w.fragment.loop → Nested P c w.types w.sites → AllByRecursion (λ (l : Leaf). LeafStands P w c l.number l.expression) (all_leaves w.sites)
all_leaves_stand P w c is row nested = all_leaves_are (λ n e. LeafStands P w c n e) w.sites (λ n s e get test. condition_stands P w c is row nested n s e get test)
