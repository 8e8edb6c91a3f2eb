-- Limits of a lowered fragment are numbers of 64 bits, and stand alone.
use Rattle.std.proofs.Common.{◌≡◌, ℕ, suc, ◌+◌, ◌^◌, pos, negsuc, Bool, true, false, not, ◌&&◌, List, [], ◌∷◌, length, Option, Some, None, refl, subst, cond, slice_get, bytes_eq, nat_eq, nat_lt, arith}
use Rattle.std.specs.List.{list_all}
use Rattle.std.proofs.lemmas.Bool.{and_parts}
use Rattle.std.proofs.lemmas.Option.{slice_get_within}
use Rattle.qbs_base.specs.declared.scalar.Scalar.{Scalar}
use Rattle.qbs_base.specs.declared.scalar.Scalar.TheVariants as scalars
use Rattle.qbs_base.specs.declared.scalar.Ty.{Ty}
use Rattle.qbs_base.specs.declared.scalar.Ty.TheVariants as tys
use Rattle.qbs_base.specs.Values.{HasTy}
use Rattle.java_ast.specs.Tree as tree
use Rattle.java_ast.specs.Tree.{Expression, Statement}
use Rattle.java_mean.specs.declared.types.JavaType.{JavaType}
use Rattle.java_mean.specs.Types.{Types}
use Rattle.java_mean.specs.Typing as typing
use Rattle.java_mean.specs.Typing.{Frame, HasType, TypedStatement}
use Rattle.kernel_lang.specs.declared.parts.ListDef.{ListDef}
use Rattle.kernel_lang.specs.Validity.{limit_is_valid, limits_are_valid}
use Rattle.loop_text.specs.Kernel.Counting.{is_and, is_less, Counting, Cap, counting_of, counted_below, counted, cap_of_number, cap_of, capped_below, capped, both_bound, either_counting, counting}
use Rattle.java_loops.specs.Kernel.Kernel.{lowering}
use Rattle.loop_text.specs.Kernel.KernelLists.{count_loops, source_in, is_sorted_source}
use Rattle.java_loops.specs.Kernel.KernelLists.{is_barred_site, allows_limit, broken_list}
use Rattle.loop_text.specs.Kernel.KernelLoop.{counting_in, limit_of}
use Rattle.loop_text.specs.Statements.Loops.{is_loop}
use Rattle.java_loops.specs.Lowering.Lowered.{list_of, lists_of}
use Rattle.java_loops.specs.Kernel.Setting.{Setting}
use Rattle.loop_text.specs.Statements.Setting.{is_found}
use Rattle.loop_text.specs.Sites.Sites.{Site, any_site, place_of}
use Rattle.java_loops.proofs.Nested.NestRules.{and_second, true_from_not}
use Rattle.java_loops.proofs.Standing.StandingRules.{none_where, unbroken_at, get_same}
use Rattle.java_loops.proofs.Valid.ValidChains.{lists_count}
use Rattle.java_loops.proofs.Valid.ValidLoop.{Checked, rules, site_visited}
use Rattle.java_loops.proofs.Valid.ValidOperands.{AnyRow, any_nested, any_first}
use Rattle.java_loops.proofs.Valid.ValidVisits.{Visited}

-- ---- Numbers of 64 bits

abbrev cap_fits : Option Cap → Bool
cap_fits (Some c) = nat_lt c.most (2 ^ 63)
cap_fits None = true

abbrev limit_fits : Option ℕ → Bool
limit_fits (Some n) = nat_lt n (2 ^ 63)
limit_fits None = true

number_fits : (i : List ℕ) (x : Scalar) (ty : Ty) → HasTy ty x → cap_fits (cap_of_number i x) ≡ true
number_fits i (scalars.Long (pos n)) tys.Long h = h
number_fits i (scalars.Long (pos n)) tys.Bool h = absurd h
number_fits i (scalars.Long (pos n)) tys.Text h = absurd h
number_fits i (scalars.Long (negsuc n)) ty h = refl
number_fits i (scalars.Bool b) ty h = refl
number_fits i (scalars.Text t) ty h = refl

literal_fits : (c : Frame) (g : Types) (i : List ℕ) (e : Expression) (k : JavaType) → HasType c g e k → cap_fits (cap_of i e) ≡ true
literal_fits c g i _ _ (typing.lit at x ty h) = number_fits i x ty h
literal_fits c g i _ _ (typing.var at x k h) = refl
literal_fits c g i _ _ (typing.field at e f n j column t h q) = refl
literal_fits c g i _ _ (typing.binary at op a b from to takes t u) = refl
literal_fits c g i _ _ (typing.negated at e t) = refl
literal_fits c g i _ _ (typing.equals at a b t u) = refl
literal_fits c g i _ _ (typing.size at x k a h has) = refl
literal_fits c g i _ _ (typing.get at x e a h t) = refl
literal_fits c g i _ _ (typing.contains at x e k ty h has t) = refl
literal_fits c g i _ _ (typing.fetch at t n h) = refl
literal_fits c g i _ _ (typing.query at ty text es q h t) = refl
literal_fits c g i _ _ (typing.query_long at text es q h t) = refl
literal_fits c g i _ _ (typing.query_boolean at text es q h t) = refl
literal_fits c g i _ _ (typing.new_list at a) = refl
literal_fits c g i _ _ (typing.new_set at a) = refl
literal_fits c g i _ _ (typing.new_set_of at e a t) = refl

below_fits : (c : Frame) (g : Types) (a b : Expression) (j k : JavaType) → HasType c g a j → HasType c g b k → cap_fits (capped_below a b) ≡ true
below_fits c g _ b _ k (typing.var at x j h) u = literal_fits c g x b k u
below_fits c g _ b _ k (typing.lit at x ty h) u = refl
below_fits c g _ b _ k (typing.field at e f n j column t h q) u = refl
below_fits c g _ b _ k (typing.binary at op x y from to takes t v) u = refl
below_fits c g _ b _ k (typing.negated at e t) u = refl
below_fits c g _ b _ k (typing.equals at x y t v) u = refl
below_fits c g _ b _ k (typing.size at x l a h has) u = refl
below_fits c g _ b _ k (typing.get at x e a h t) u = refl
below_fits c g _ b _ k (typing.contains at x e l ty h has t) u = refl
below_fits c g _ b _ k (typing.fetch at t n h) u = refl
below_fits c g _ b _ k (typing.query at ty text es q h t) u = refl
below_fits c g _ b _ k (typing.query_long at text es q h t) u = refl
below_fits c g _ b _ k (typing.query_boolean at text es q h t) u = refl
below_fits c g _ b _ k (typing.new_list at a) u = refl
below_fits c g _ b _ k (typing.new_set at a) u = refl
below_fits c g _ b _ k (typing.new_set_of at e a t) u = refl

less_fits : (q : Bool) (o : Option Cap) → cap_fits o ≡ true → cap_fits (cond q o None) ≡ true
less_fits true o h = h
less_fits false o h = refl

capped_fits : (c : Frame) (g : Types) (e : Expression) (k : JavaType) → HasType c g e k → cap_fits (capped e) ≡ true
capped_fits c g _ _ (typing.binary at op a b from to takes t u) = less_fits (is_less op) (capped_below a b) (below_fits c g a b _ _ t u)
capped_fits c g _ _ (typing.lit at x ty h) = refl
capped_fits c g _ _ (typing.var at x k h) = refl
capped_fits c g _ _ (typing.field at e f n j column t h q) = refl
capped_fits c g _ _ (typing.negated at e t) = refl
capped_fits c g _ _ (typing.equals at a b t u) = refl
capped_fits c g _ _ (typing.size at x k a h has) = refl
capped_fits c g _ _ (typing.get at x e a h t) = refl
capped_fits c g _ _ (typing.contains at x e k ty h has t) = refl
capped_fits c g _ _ (typing.fetch at t n h) = refl
capped_fits c g _ _ (typing.query at ty text es q h t) = refl
capped_fits c g _ _ (typing.query_long at text es q h t) = refl
capped_fits c g _ _ (typing.query_boolean at text es q h t) = refl
capped_fits c g _ _ (typing.new_list at a) = refl
capped_fits c g _ _ (typing.new_set at a) = refl
capped_fits c g _ _ (typing.new_set_of at e a t) = refl

same_counter : (k : Counting) (p : Cap) (q : Bool) → nat_lt p.most (2 ^ 63) ≡ true → limit_fits (limit_of (cond q (Some (record k { limit = Some p.most })) None)) ≡ true
same_counter k p true h = h
same_counter k p false h = refl

both_fits : (o : Option Counting) (p : Option Cap) → cap_fits p ≡ true → limit_fits (limit_of (both_bound o p)) ≡ true
both_fits None p h = refl
both_fits (Some k) None h = refl
both_fits (Some k) (Some p) h = same_counter k p (bytes_eq k.counter p.counter) h

either_fits : (o p : Option Counting) → limit_fits (limit_of o) ≡ true → limit_fits (limit_of p) ≡ true → limit_fits (limit_of (either_counting o p)) ≡ true
either_fits None p h i = i
either_fits (Some k) p h i = h

counting_plain : (i : List ℕ) (b : Expression) → limit_fits (limit_of (counting_of i b)) ≡ true
counting_plain i (tree.Size at x) = refl
counting_plain i (tree.Lit at x) = refl
counting_plain i (tree.Var at x) = refl
counting_plain i (tree.Field at e f) = refl
counting_plain i (tree.Binary at op a b) = refl
counting_plain i (tree.Not at e) = refl
counting_plain i (tree.Equals at a b) = refl
counting_plain i (tree.Get at x e) = refl
counting_plain i (tree.Contains at x e) = refl
counting_plain i (tree.Fetch at t) = refl
counting_plain i (tree.Query at ty text es) = refl
counting_plain i (tree.QueryLong at text es) = refl
counting_plain i (tree.QueryBoolean at text es) = refl
counting_plain i (tree.NewList at) = refl
counting_plain i (tree.NewSet at) = refl
counting_plain i (tree.NewSetOf at e) = refl

below_plain : (a b : Expression) → limit_fits (limit_of (counted_below a b)) ≡ true
below_plain (tree.Var at x) b = counting_plain x b
below_plain (tree.Size at x) b = refl
below_plain (tree.Lit at x) b = refl
below_plain (tree.Field at e f) b = refl
below_plain (tree.Binary at op a c) b = refl
below_plain (tree.Not at e) b = refl
below_plain (tree.Equals at a c) b = refl
below_plain (tree.Get at x e) b = refl
below_plain (tree.Contains at x e) b = refl
below_plain (tree.Fetch at t) b = refl
below_plain (tree.Query at ty text es) b = refl
below_plain (tree.QueryLong at text es) b = refl
below_plain (tree.QueryBoolean at text es) b = refl
below_plain (tree.NewList at) b = refl
below_plain (tree.NewSet at) b = refl
below_plain (tree.NewSetOf at e) b = refl

counting_step : (p q : Bool) (o r : Option Counting) → limit_fits (limit_of o) ≡ true → limit_fits (limit_of r) ≡ true → limit_fits (limit_of (cond p o (cond q r None))) ≡ true
counting_step true q o r h i = h
counting_step false true o r h i = i
counting_step false false o r h i = refl

counting_fits : (c : Frame) (g : Types) (e : Expression) (k : JavaType) → HasType c g e k → limit_fits (limit_of (counting e)) ≡ true
counting_fits c g _ _ (typing.binary at op a b from to takes t u) =
    counting_step (is_and op) (is_less op) (either_counting (both_bound (counted a) (capped b)) (both_bound (counted b) (capped a))) (counted_below a b)
    (either_fits (both_bound (counted a) (capped b)) (both_bound (counted b) (capped a)) (both_fits (counted a) (capped b) (capped_fits c g b _ u)) (both_fits (counted b) (capped a) (capped_fits c g a _ t)))
    (below_plain a b)
counting_fits c g _ _ (typing.lit at x ty h) = refl
counting_fits c g _ _ (typing.var at x k h) = refl
counting_fits c g _ _ (typing.field at e f n j column t h q) = refl
counting_fits c g _ _ (typing.negated at e t) = refl
counting_fits c g _ _ (typing.equals at a b t u) = refl
counting_fits c g _ _ (typing.size at x k a h has) = refl
counting_fits c g _ _ (typing.get at x e a h t) = refl
counting_fits c g _ _ (typing.contains at x e k ty h has t) = refl
counting_fits c g _ _ (typing.fetch at t n h) = refl
counting_fits c g _ _ (typing.query at ty text es q h t) = refl
counting_fits c g _ _ (typing.query_long at text es q h t) = refl
counting_fits c g _ _ (typing.query_boolean at text es q h t) = refl
counting_fits c g _ _ (typing.new_list at a) = refl
counting_fits c g _ _ (typing.new_set at a) = refl
counting_fits c g _ _ (typing.new_set_of at e a t) = refl

statement_fits : (c : Frame) (l : Option Types) (g h : Types) (s : Statement) → TypedStatement c l g s h → limit_fits (limit_of (counting_in s)) ≡ true
statement_fits c _ _ _ _ (typing.while_true l g h at e p t u) = counting_fits c g e _ t
statement_fits c _ _ _ _ (typing.declare l g at ty x e k new q t) = refl
statement_fits c _ _ _ _ (typing.assign l g at x e k i t) = refl
statement_fits c _ _ _ _ (typing.add l g at x e k a i has t) = refl
statement_fits c _ _ _ _ (typing.sort l g at x keys down a i) = refl
statement_fits c _ _ _ _ (typing.when l g h at e p t u) = refl
statement_fits c _ _ _ _ (typing.choose l g h h' at e p q t u v) = refl
statement_fits c _ _ _ _ (typing.for_each l g h at ty x e p k a new t has u) = refl
statement_fits c _ _ _ _ (typing.for_each_new l g h at ty x e p k new q isnew u) = refl
statement_fits c _ _ _ _ (typing.print l g at e ty t) = refl
statement_fits c _ _ _ _ (typing.return_none l g at i) = refl
statement_fits c _ _ _ _ (typing.return_value l g at e k i t) = refl
statement_fits c _ _ _ _ (typing.leave b g at ex) = refl

-- ---- Limits

pub limit_allowed : (w : Setting) (c : Frame) → Checked w c → (n : ℕ) (s : Site) → slice_get w.sites n ≡ Some s → is_loop s.statement ≡ true → allows_limit w s.statement (limit_of (counting_in s.statement)) ≡ true
limit_allowed w c is n s get loops =
    let found : Bool = is_found (source_in w.fragment.run s.statement) in
    let allows : Bool = allows_limit w s.statement (limit_of (counting_in s.statement)) in
    let h = none_where (is_loop s.statement && not (found && allows)) (place_of s.statement) (unbroken_at (broken_list w) w.sites (rules w is.none).unbroken.lists n s get) in
    (and_parts found allows (true_from_not (found && allows) (and_second (is_loop s.statement) (not (found && allows)) h loops))).1

limit_step : (w : Setting) (loop : Statement) (o : Option ℕ) → limit_fits o ≡ true → allows_limit w loop o ≡ true → limit_is_valid (length (lists_of w w.sites)) o ≡ true
limit_step w loop None h a = refl
limit_step w loop (Some n) h a =
    let two = and_parts (nat_eq (count_loops w.sites) 1) (not (is_sorted_source (source_in w.fragment.run loop) && any_site (is_barred_site w) 0 w.sites)) a in
    rw (h, lists_count w w.sites, two.0) refl

pub limit_at : (w : Setting) (c : Frame) → Checked w c → (n : ℕ) (s : Site) → slice_get w.sites n ≡ Some s → is_loop s.statement ≡ true → limit_is_valid (length (lists_of w w.sites)) (limit_of (counting_in s.statement)) ≡ true
limit_at w c is n s get loops =
    let v : Visited AnyRow c w.types w.sites n = site_visited AnyRow w c is (any_first c w.fragment.loop) (any_nested w c is) n (slice_get_within w.sites n s get) in
    let same : v.site ≡ s = get_same w.sites n v.site s v.there get in
    let fits : limit_fits (limit_of (counting_in s.statement)) ≡ true = subst (λ (z : Site). limit_fits (limit_of (counting_in z.statement)) ≡ true) same (statement_fits c v.at_body v.now v.after v.site.statement v.typed) in
    limit_step w s.statement (limit_of (counting_in s.statement)) fits (limit_allowed w c is n s get loops)

lists_step : (w : Setting) (p : ListDef → Bool) (s : Site) (ss : List Site) (b : Bool) → (b ≡ true → p (list_of w s.statement) ≡ true) → list_all p (lists_of w ss) ≡ true → list_all p (cond b (list_of w s.statement ∷ lists_of w ss) (lists_of w ss)) ≡ true
lists_step w p s ss true h a = rw (h refl, a) refl
lists_step w p s ss false h a = a

pub lists_pass : (w : Setting) (p : ListDef → Bool) (n : ℕ) (ss : List Site) → ((i m : ℕ) (s : Site) → n + i ≡ m → slice_get ss i ≡ Some s → slice_get w.sites m ≡ Some s) → ((m : ℕ) (s : Site) → slice_get w.sites m ≡ Some s → is_loop s.statement ≡ true → p (list_of w s.statement) ≡ true) → list_all p (lists_of w ss) ≡ true
lists_pass w p n [] f h = refl
lists_pass w p n (s ∷ ss) f h = lists_step w p s ss (is_loop s.statement) (λ e. h n s (f 0 n s (omega arith) refl) e) (lists_pass w p (suc n) ss (λ i m t e there. f (suc i) m t (omega arith) there) h)

pub same_place : (w : Setting) (i m : ℕ) (s : Site) → 0 + i ≡ m → slice_get w.sites i ≡ Some s → slice_get w.sites m ≡ Some s
same_place w i m s e there = let same : i ≡ m = omega arith in subst (λ k. slice_get w.sites k ≡ Some s) same there

-- Limits are valid.
pub limits_valid : (w : Setting) (c : Frame) → Checked w c → limits_are_valid (lowering w).fragment ≡ true
unfolding limits_are_valid
limits_valid w c is = lists_pass w (λ d. limit_is_valid (length (lists_of w w.sites)) d.limit) 0 w.sites (λ i m s e there. same_place w i m s e there) (λ m s there loops. limit_at w c is m s there loops)
