-- A loop of the kernel form that counts has the form of loops that count through a list.
use Rattle.std.proofs.Common.{◌≡◌, ℕ, pos, Bool, true, false, not, ◌&&◌, List, Option, Some, None, refl, sym, ap, ◌∙◌, subst, cond}
use Rattle.std.specs.Prelude.{bytes_eq}
use Rattle.std.proofs.lemmas.Bool.{and_parts}
use Rattle.qbs_base.specs.declared.scalar.Scalar.{Scalar}
use Rattle.qbs_base.specs.declared.scalar.Scalar.TheVariants as scalars
use Rattle.qbs_base.specs.declared.scalar.Ty.TheVariants as tys
use Rattle.qbs_base.specs.declared.span.Span.{Span}
use Rattle.java_ast.specs.declared.tree.Op.{Op}
use Rattle.java_ast.specs.declared.tree.Op.TheVariants as ops
use Rattle.java_ast.specs.Tree as tree
use Rattle.java_ast.specs.Tree.{Spelled, Expression, Statement, Statements, Nothing, Then}
use Rattle.java_mean.specs.declared.types.JavaType.{JavaType}
use Rattle.java_mean.specs.declared.types.JavaType.TheVariants.{Of}
use Rattle.java_mean.specs.declared.types.Single.{Single}
use Rattle.java_mean.specs.declared.types.Single.TheVariants.{ScalarOf}
use Rattle.java_mean.specs.Refines.{followed_by}
use Rattle.java_mean.specs.Statement.{is_set_type}
use Rattle.java_mean.specs.Types.{Types}
use Rattle.java_mean.specs.Typing.{Frame, lt_takes, and_takes, Has, HasType, var, binary, size}
use Rattle.java_mean.proofs.Puts.{names_equal}
use Rattle.java_loops.specs.Walks.Counting.{below_size, below_count, Counts, by_size, size_first, count_first, CountPlaces, counting_body}
use Rattle.loop_text.specs.Kernel.Counting.{is_and, is_less, Counting, Cap, counting_of, counted_below, counted, cap_of_number, cap_of, capped_below, capped, both_bound, either_counting, counting}
use Rattle.loop_text.specs.Kernel.KernelLoop.{is_table, is_item, takes_row, goes_on, ends, counts_in}
use Rattle.java_ast.specs.Names.{is_among, mentioned_among}
use Rattle.loop_text.specs.Statements.Setting.{is_add, is_literal_number, is_variable, is_next_of}
use Rattle.loop_text.specs.Sites.Sites.{without_first, without_last, before_last}
use Rattle.java_loops.proofs.Nested.NestRules.{false_from_not}
use Rattle.java_loops.proofs.Starts.Start.{number_literal, number_is}

-- ---- The form of the condition

less_is : (op : Op) → is_less op ≡ true → op ≡ ops.Lt
less_is ops.Lt h = refl
less_is _ h = absurd cc

and_is : (op : Op) → is_and op ≡ true → op ≡ ops.And
and_is ops.And h = refl
and_is _ h = absurd cc

add_is : (op : Op) → is_add op ≡ true → op ≡ ops.Add
add_is ops.Add h = refl
add_is _ h = absurd cc

-- `i < xs.size()`
record IsBelowSize (k : Counting) (e : Expression) : Type 0 where
  at : Span
  at_counter : Span
  at_size : Span
  is : e ≡ below_size at at_counter at_size k.counter k.list
  limit : k.limit ≡ None

below_size_is : (at at_counter at_size : Span) (i xs : List ℕ) (k : Counting) → Some (record { counter = i; list = xs; limit = None }) ≡ Some k → IsBelowSize k (below_size at at_counter at_size i xs)
below_size_is at at_counter at_size i xs k h =
    let plain : Counting = record { counter = i; list = xs; limit = None } in
    let same : plain ≡ k = (let l : Some plain ≡ Some k = h in cc) in
    subst (λ (z : Counting). IsBelowSize z (below_size at at_counter at_size i xs)) same (record { at = at; at_counter = at_counter; at_size = at_size; is = refl; limit = refl })

size_of : (at at_counter : Span) (i : List ℕ) (e : Expression) (k : Counting) → counting_of i e ≡ Some k → IsBelowSize k (tree.Binary at ops.Lt (tree.Var at_counter i) e)
size_of at at_counter i (tree.Size at_size xs) k h = below_size_is at at_counter at_size i xs k h
size_of at at_counter i (tree.Lit at' x) k h = absurd cc
size_of at at_counter i (tree.Var at' x) k h = absurd cc
size_of at at_counter i (tree.Field at' e n) k h = absurd cc
size_of at at_counter i (tree.Binary at' op a b) k h = absurd cc
size_of at at_counter i (tree.Not at' e) k h = absurd cc
size_of at at_counter i (tree.Equals at' a b) k h = absurd cc
size_of at at_counter i (tree.Get at' x e) k h = absurd cc
size_of at at_counter i (tree.Contains at' x e) k h = absurd cc
size_of at at_counter i (tree.Fetch at' n) k h = absurd cc
size_of at at_counter i (tree.Query at' ty text es) k h = absurd cc
size_of at at_counter i (tree.QueryLong at' text es) k h = absurd cc
size_of at at_counter i (tree.QueryBoolean at' text es) k h = absurd cc
size_of at at_counter i (tree.NewList at') k h = absurd cc
size_of at at_counter i (tree.NewSet at') k h = absurd cc
size_of at at_counter i (tree.NewSetOf at' e) k h = absurd cc

below_of : (at : Span) (a b : Expression) (k : Counting) → counted_below a b ≡ Some k → IsBelowSize k (tree.Binary at ops.Lt a b)
below_of at (tree.Var at_counter i) b k h = size_of at at_counter i b k h
below_of at (tree.Lit at' x) c k h = absurd cc
below_of at (tree.Field at' e n) c k h = absurd cc
below_of at (tree.Binary at' op a b) c k h = absurd cc
below_of at (tree.Not at' e) c k h = absurd cc
below_of at (tree.Equals at' a b) c k h = absurd cc
below_of at (tree.Size at' x) c k h = absurd cc
below_of at (tree.Get at' x e) c k h = absurd cc
below_of at (tree.Contains at' x e) c k h = absurd cc
below_of at (tree.Fetch at' n) c k h = absurd cc
below_of at (tree.Query at' ty text es) c k h = absurd cc
below_of at (tree.QueryLong at' text es) c k h = absurd cc
below_of at (tree.QueryBoolean at' text es) c k h = absurd cc
below_of at (tree.NewList at') c k h = absurd cc
below_of at (tree.NewSet at') c k h = absurd cc
below_of at (tree.NewSetOf at' e) c k h = absurd cc

less_of : (at : Span) (op : Op) (a b : Expression) (k : Counting) (t : Bool) → is_less op ≡ t → cond t (counted_below a b) None ≡ Some k → IsBelowSize k (tree.Binary at op a b)
less_of at op a b k true e h = subst (λ o. IsBelowSize k (tree.Binary at o a b)) (sym (less_is op e)) (below_of at a b k h)
less_of at op a b k false e h = absurd cc

counted_of : (e : Expression) (k : Counting) → counted e ≡ Some k → IsBelowSize k e
counted_of (tree.Binary at op a b) k h = less_of at op a b k (is_less op) refl h
counted_of (tree.Lit at x) k h = absurd cc
counted_of (tree.Var at x) k h = absurd cc
counted_of (tree.Field at e n) k h = absurd cc
counted_of (tree.Not at e) k h = absurd cc
counted_of (tree.Equals at a b) k h = absurd cc
counted_of (tree.Size at x) k h = absurd cc
counted_of (tree.Get at x e) k h = absurd cc
counted_of (tree.Contains at x e) k h = absurd cc
counted_of (tree.Fetch at n) k h = absurd cc
counted_of (tree.Query at ty text es) k h = absurd cc
counted_of (tree.QueryLong at text es) k h = absurd cc
counted_of (tree.QueryBoolean at text es) k h = absurd cc
counted_of (tree.NewList at) k h = absurd cc
counted_of (tree.NewSet at) k h = absurd cc
counted_of (tree.NewSetOf at e) k h = absurd cc

-- `i < c`
record IsBelowCount (k : Cap) (e : Expression) : Type 0 where
  at : Span
  at_counter : Span
  at_count : Span
  is : e ≡ below_count at at_counter at_count k.counter k.most

number_of : (at at_counter at_count : Span) (i : List ℕ) (x : Scalar) (k : Cap) → cap_of_number i x ≡ Some k → IsBelowCount k (tree.Binary at ops.Lt (tree.Var at_counter i) (tree.Lit at_count x))
number_of at at_counter at_count i (scalars.Long (pos n)) k h =
    let plain : Cap = record { counter = i; most = n } in
    let same : plain ≡ k = (let l : Some plain ≡ Some k = h in cc) in
    subst (λ (z : Cap). IsBelowCount z (below_count at at_counter at_count i n)) same (record { at = at; at_counter = at_counter; at_count = at_count; is = refl })
number_of at at_counter at_count i _ k h = absurd cc

literal_of : (at at_counter : Span) (i : List ℕ) (e : Expression) (k : Cap) → cap_of i e ≡ Some k → IsBelowCount k (tree.Binary at ops.Lt (tree.Var at_counter i) e)
literal_of at at_counter i (tree.Lit at_count x) k h = number_of at at_counter at_count i x k h
literal_of at at_counter i (tree.Var at' x) k h = absurd cc
literal_of at at_counter i (tree.Field at' e n) k h = absurd cc
literal_of at at_counter i (tree.Binary at' op a b) k h = absurd cc
literal_of at at_counter i (tree.Not at' e) k h = absurd cc
literal_of at at_counter i (tree.Equals at' a b) k h = absurd cc
literal_of at at_counter i (tree.Size at' x) k h = absurd cc
literal_of at at_counter i (tree.Get at' x e) k h = absurd cc
literal_of at at_counter i (tree.Contains at' x e) k h = absurd cc
literal_of at at_counter i (tree.Fetch at' n) k h = absurd cc
literal_of at at_counter i (tree.Query at' ty text es) k h = absurd cc
literal_of at at_counter i (tree.QueryLong at' text es) k h = absurd cc
literal_of at at_counter i (tree.QueryBoolean at' text es) k h = absurd cc
literal_of at at_counter i (tree.NewList at') k h = absurd cc
literal_of at at_counter i (tree.NewSet at') k h = absurd cc
literal_of at at_counter i (tree.NewSetOf at' e) k h = absurd cc

cap_below : (at : Span) (a b : Expression) (k : Cap) → capped_below a b ≡ Some k → IsBelowCount k (tree.Binary at ops.Lt a b)
cap_below at (tree.Var at_counter i) b k h = literal_of at at_counter i b k h
cap_below at (tree.Lit at' x) c k h = absurd cc
cap_below at (tree.Field at' e n) c k h = absurd cc
cap_below at (tree.Binary at' op a b) c k h = absurd cc
cap_below at (tree.Not at' e) c k h = absurd cc
cap_below at (tree.Equals at' a b) c k h = absurd cc
cap_below at (tree.Size at' x) c k h = absurd cc
cap_below at (tree.Get at' x e) c k h = absurd cc
cap_below at (tree.Contains at' x e) c k h = absurd cc
cap_below at (tree.Fetch at' n) c k h = absurd cc
cap_below at (tree.Query at' ty text es) c k h = absurd cc
cap_below at (tree.QueryLong at' text es) c k h = absurd cc
cap_below at (tree.QueryBoolean at' text es) c k h = absurd cc
cap_below at (tree.NewList at') c k h = absurd cc
cap_below at (tree.NewSet at') c k h = absurd cc
cap_below at (tree.NewSetOf at' e) c k h = absurd cc

cap_less : (at : Span) (op : Op) (a b : Expression) (k : Cap) (t : Bool) → is_less op ≡ t → cond t (capped_below a b) None ≡ Some k → IsBelowCount k (tree.Binary at op a b)
cap_less at op a b k true e h = subst (λ o. IsBelowCount k (tree.Binary at o a b)) (sym (less_is op e)) (cap_below at a b k h)
cap_less at op a b k false e h = absurd cc

capped_of : (e : Expression) (k : Cap) → capped e ≡ Some k → IsBelowCount k e
capped_of (tree.Binary at op a b) k h = cap_less at op a b k (is_less op) refl h
capped_of (tree.Lit at x) k h = absurd cc
capped_of (tree.Var at x) k h = absurd cc
capped_of (tree.Field at e n) k h = absurd cc
capped_of (tree.Not at e) k h = absurd cc
capped_of (tree.Equals at a b) k h = absurd cc
capped_of (tree.Size at x) k h = absurd cc
capped_of (tree.Get at x e) k h = absurd cc
capped_of (tree.Contains at x e) k h = absurd cc
capped_of (tree.Fetch at n) k h = absurd cc
capped_of (tree.Query at ty text es) k h = absurd cc
capped_of (tree.QueryLong at text es) k h = absurd cc
capped_of (tree.QueryBoolean at text es) k h = absurd cc
capped_of (tree.NewList at) k h = absurd cc
capped_of (tree.NewSet at) k h = absurd cc
capped_of (tree.NewSetOf at e) k h = absurd cc

-- both bound one counter
record BothBound (a b : Expression) (k : Counting) : Type 0 where
  sized : Counting
  capped : Cap
  left : IsBelowSize sized a
  right : IsBelowCount capped b
  counter : sized.counter ≡ capped.counter
  is : k ≡ record sized { limit = Some capped.most }

both_where : (a b : Expression) (x : Counting) (y : Cap) (k : Counting) (t : Bool) → bytes_eq x.counter y.counter ≡ t → IsBelowSize x a → IsBelowCount y b → cond t (Some (record x { limit = Some y.most })) None ≡ Some k → BothBound a b k
both_where a b x y k true e l r h = record { sized = x; capped = y; left = l; right = r; counter = names_equal x.counter y.counter e; is = (let q : Some (record x { limit = Some y.most }) ≡ Some k = h in sym cc) }
both_where a b x y k false e l r h = absurd cc

both_of : (a b : Expression) (k : Counting) (o : Option Counting) (p : Option Cap) → counted a ≡ o → capped b ≡ p → both_bound o p ≡ Some k → BothBound a b k
both_of a b k (Some x) (Some y) e q h = both_where a b x y k (bytes_eq x.counter y.counter) refl (counted_of a x e) (capped_of b y q) h
both_of a b k (Some x) None e q h = absurd cc
both_of a b k None p e q h = absurd cc

size_then_count : (at : Span) (a b : Expression) (k : Counting) → BothBound a b k → Counts k.counter k.list k.limit (tree.Binary at ops.And a b)
size_then_count at a b k h =
    let x : Counting = h.sized in
    let l = h.left in
    let r = h.right in
    let first : Counts x.counter x.list (Some h.capped.most) (tree.Binary at ops.And a b) =
    subst (λ z. Counts x.counter x.list (Some h.capped.most) (tree.Binary at ops.And z b)) (sym l.is)
    (subst (λ z. Counts x.counter x.list (Some h.capped.most) (tree.Binary at ops.And (below_size l.at l.at_counter l.at_size x.counter x.list) z)) (sym r.is)
    (subst (λ i. Counts x.counter x.list (Some h.capped.most) (tree.Binary at ops.And (below_size l.at l.at_counter l.at_size x.counter x.list) (below_count r.at r.at_counter r.at_count i h.capped.most))) h.counter (size_first at l.at l.at_counter l.at_size r.at r.at_counter r.at_count h.capped.most))) in
    subst (λ (z : Counting). Counts z.counter z.list z.limit (tree.Binary at ops.And a b)) (sym h.is) first

count_then_size : (at : Span) (a b : Expression) (k : Counting) → BothBound b a k → Counts k.counter k.list k.limit (tree.Binary at ops.And a b)
count_then_size at a b k h =
    let x : Counting = h.sized in
    let l = h.left in
    let r = h.right in
    let first : Counts x.counter x.list (Some h.capped.most) (tree.Binary at ops.And a b) =
    subst (λ z. Counts x.counter x.list (Some h.capped.most) (tree.Binary at ops.And a z)) (sym l.is)
    (subst (λ z. Counts x.counter x.list (Some h.capped.most) (tree.Binary at ops.And z (below_size l.at l.at_counter l.at_size x.counter x.list))) (sym r.is)
    (subst (λ i. Counts x.counter x.list (Some h.capped.most) (tree.Binary at ops.And (below_count r.at r.at_counter r.at_count i h.capped.most) (below_size l.at l.at_counter l.at_size x.counter x.list))) h.counter (count_first at r.at r.at_counter r.at_count l.at l.at_counter l.at_size h.capped.most))) in
    subst (λ (z : Counting). Counts z.counter z.list z.limit (tree.Binary at ops.And a b)) (sym h.is) first

either_counts : (at : Span) (a b : Expression) (k : Counting) (o : Option Counting) → both_bound (counted a) (capped b) ≡ o → either_counting o (both_bound (counted b) (capped a)) ≡ Some k → Counts k.counter k.list k.limit (tree.Binary at ops.And a b)
either_counts at a b k (Some x) e h = size_then_count at a b k (both_of a b k (counted a) (capped b) refl refl (e ∙ h))
either_counts at a b k None e h = count_then_size at a b k (both_of b a k (counted b) (capped a) refl refl h)

size_counts : (k : Counting) (e : Expression) → IsBelowSize k e → Counts k.counter k.list k.limit e
size_counts k e l =
    subst (λ o. Counts k.counter k.list o e) (sym l.limit) (subst (Counts k.counter k.list None) (sym l.is) (by_size l.at l.at_counter l.at_size))

counts_where : (at : Span) (op : Op) (a b : Expression) (k : Counting) (t : Bool) → is_and op ≡ t → cond t (either_counting (both_bound (counted a) (capped b)) (both_bound (counted b) (capped a))) (cond (is_less op) (counted_below a b) None) ≡ Some k → Counts k.counter k.list k.limit (tree.Binary at op a b)
counts_where at op a b k true e h = subst (λ o. Counts k.counter k.list k.limit (tree.Binary at o a b)) (sym (and_is op e)) (either_counts at a b k (both_bound (counted a) (capped b)) refl h)
counts_where at op a b k false e h = size_counts k (tree.Binary at op a b) (less_of at op a b k (is_less op) refl h)

-- the condition of a loop that counts holds below the size of the list, and below the limit
pub condition_counts : (c : Expression) (k : Counting) → counting c ≡ Some k → Counts k.counter k.list k.limit c
condition_counts (tree.Binary at op a b) k h = counts_where at op a b k (is_and op) refl h
condition_counts (tree.Lit at x) k h = absurd cc
condition_counts (tree.Var at x) k h = absurd cc
condition_counts (tree.Field at e n) k h = absurd cc
condition_counts (tree.Not at e) k h = absurd cc
condition_counts (tree.Equals at a b) k h = absurd cc
condition_counts (tree.Size at x) k h = absurd cc
condition_counts (tree.Get at x e) k h = absurd cc
condition_counts (tree.Contains at x e) k h = absurd cc
condition_counts (tree.Fetch at n) k h = absurd cc
condition_counts (tree.Query at ty text es) k h = absurd cc
condition_counts (tree.QueryLong at text es) k h = absurd cc
condition_counts (tree.QueryBoolean at text es) k h = absurd cc
condition_counts (tree.NewList at) k h = absurd cc
condition_counts (tree.NewSet at) k h = absurd cc
condition_counts (tree.NewSetOf at e) k h = absurd cc

-- ---- The types of the counter and of the list

-- the counter is a number, and what is counted through a list or a set
pub record AreCounted (g : Types) (i xs : List ℕ) : Type 0 where
  pub counter : g i ≡ Some (Of (ScalarOf tys.Long))
  pub type : JavaType
  pub element : Single
  pub list : g xs ≡ Some type
  pub members : Has type element

below_typed : (c : Frame) (g : Types) (at at_counter at_size : Span) (i xs : List ℕ) (k : JavaType) → HasType c g (below_size at at_counter at_size i xs) k → AreCounted g i xs
below_typed c g _ _ _ _ _ _ (binary at op a b from to lt_takes (var at' x k e) (size at'' y j el q has)) = record { counter = e; type = j; element = el; list = q; members = has }

both_typed : (c : Frame) (g : Types) (at : Span) (a b : Expression) (k : JavaType) → HasType c g (tree.Binary at ops.And a b) k → HasType c g a (Of (ScalarOf tys.Bool)) × HasType c g b (Of (ScalarOf tys.Bool))
both_typed c g _ _ _ _ (binary at op a b from to and_takes s t) = (s, t)

pub counts_typed : (c : Frame) (g : Types) (i xs : List ℕ) (limit : Option ℕ) (e : Expression) (k : JavaType) → Counts i xs limit e → HasType c g e k → AreCounted g i xs
counts_typed c g i xs _ _ k (by_size at at_counter at_size) t = below_typed c g at at_counter at_size i xs k t
counts_typed c g i xs _ _ k (size_first at al ac az ar aa an n) t = below_typed c g al ac az i xs (Of (ScalarOf tys.Bool)) (both_typed c g at (below_size al ac az i xs) (below_count ar aa an i n) k t).0
counts_typed c g i xs _ _ k (count_first at al ac an ar aa az n) t = below_typed c g ar aa az i xs (Of (ScalarOf tys.Bool)) (both_typed c g at (below_count al ac an i n) (below_size ar aa az i xs) k t).1

-- ---- The form of the body

variable_is : (x : List ℕ) (e : Expression) → is_variable x e ≡ true → (at : Span) × (e ≡ tree.Var at x)
variable_is x (tree.Var at y) h = (at, ap (tree.Var at) (names_equal y x h))
variable_is x (tree.Lit at y) h = absurd cc
variable_is x (tree.Field at e n) h = absurd cc
variable_is x (tree.Binary at op a b) h = absurd cc
variable_is x (tree.Not at e) h = absurd cc
variable_is x (tree.Equals at a b) h = absurd cc
variable_is x (tree.Size at y) h = absurd cc
variable_is x (tree.Get at y e) h = absurd cc
variable_is x (tree.Contains at y e) h = absurd cc
variable_is x (tree.Fetch at n) h = absurd cc
variable_is x (tree.Query at ty text es) h = absurd cc
variable_is x (tree.QueryLong at text es) h = absurd cc
variable_is x (tree.QueryBoolean at text es) h = absurd cc
variable_is x (tree.NewList at) h = absurd cc
variable_is x (tree.NewSet at) h = absurd cc
variable_is x (tree.NewSetOf at e) h = absurd cc

-- `xs.get(i)`
item_is : (k : Counting) (e : Expression) → is_item k e ≡ true → (at : Span) × (at' : Span) × (e ≡ tree.Get at k.list (tree.Var at' k.counter))
item_is k (tree.Get at xs e) h =
    let two = and_parts (bytes_eq xs k.list) (is_variable k.counter e) h in
    let v = variable_is k.counter e two.1 in
    (at, v.0, ap (λ z. tree.Get at z e) (names_equal xs k.list two.0) ∙ ap (tree.Get at k.list) v.1)
item_is k (tree.Lit at x) h = absurd cc
item_is k (tree.Var at x) h = absurd cc
item_is k (tree.Field at e n) h = absurd cc
item_is k (tree.Binary at op a b) h = absurd cc
item_is k (tree.Not at e) h = absurd cc
item_is k (tree.Equals at a b) h = absurd cc
item_is k (tree.Size at x) h = absurd cc
item_is k (tree.Contains at x e) h = absurd cc
item_is k (tree.Fetch at n) h = absurd cc
item_is k (tree.Query at ty text es) h = absurd cc
item_is k (tree.QueryLong at text es) h = absurd cc
item_is k (tree.QueryBoolean at text es) h = absurd cc
item_is k (tree.NewList at) h = absurd cc
item_is k (tree.NewSet at) h = absurd cc
item_is k (tree.NewSetOf at e) h = absurd cc

-- `i + 1`
next_is : (x : List ℕ) (e : Expression) → is_next_of x e ≡ true → (at : Span) × (at' : Span) × (at'' : Span) × (e ≡ tree.Binary at ops.Add (tree.Var at' x) (tree.Lit at'' (scalars.Long (pos 1))))
next_is x (tree.Binary at op a b) h =
    let two = and_parts (is_add op) (is_variable x a && is_literal_number 1 b) h in
    let more = and_parts (is_variable x a) (is_literal_number 1 b) two.1 in
    let v = variable_is x a more.0 in
    let l = number_literal 1 b more.1 in
    (at, v.0, l.at, ap (λ o. tree.Binary at o a b) (add_is op two.0) ∙ ap (λ z. tree.Binary at ops.Add z b) v.1 ∙ ap (tree.Binary at ops.Add (tree.Var v.0 x)) (l.is ∙ ap (tree.Lit l.at) (number_is 1 l.value l.passes)))
next_is x (tree.Lit at y) h = absurd cc
next_is x (tree.Var at y) h = absurd cc
next_is x (tree.Field at e n) h = absurd cc
next_is x (tree.Not at e) h = absurd cc
next_is x (tree.Equals at a b) h = absurd cc
next_is x (tree.Size at y) h = absurd cc
next_is x (tree.Get at y e) h = absurd cc
next_is x (tree.Contains at y e) h = absurd cc
next_is x (tree.Fetch at n) h = absurd cc
next_is x (tree.Query at ty text es) h = absurd cc
next_is x (tree.QueryLong at text es) h = absurd cc
next_is x (tree.QueryBoolean at text es) h = absurd cc
next_is x (tree.NewList at) h = absurd cc
next_is x (tree.NewSet at) h = absurd cc
next_is x (tree.NewSetOf at e) h = absurd cc

-- the declaration of the row
record TakesRow (k : Counting) (a : Statement) : Type 0 where
  at : Span
  at_get : Span
  at_index : Span
  ty : Spelled
  name : List ℕ
  is : a ≡ tree.Declare at ty name (tree.Get at_get k.list (tree.Var at_index k.counter))
  table : is_table ty ≡ true

takes_row_is : (k : Counting) (a : Statement) → takes_row k a ≡ true → TakesRow k a
takes_row_is k (tree.Declare at ty x e) h =
    let two = and_parts (is_table ty) (is_item k e) h in
    let m = item_is k e two.1 in
    record { at = at; at_get = m.0; at_index = m.1; ty = ty; name = x; is = ap (tree.Declare at ty x) m.2; table = two.0 }
takes_row_is k (tree.Assign at x e) h = absurd cc
takes_row_is k (tree.Add at x e) h = absurd cc
takes_row_is k (tree.Sort at x keys downs) h = absurd cc
takes_row_is k (tree.If at c p) h = absurd cc
takes_row_is k (tree.IfElse at c p q) h = absurd cc
takes_row_is k (tree.ForEach at ty x e p) h = absurd cc
takes_row_is k (tree.While at c p) h = absurd cc
takes_row_is k (tree.Print at e) h = absurd cc
takes_row_is k (tree.Return at e) h = absurd cc
takes_row_is k (tree.Break at) h = absurd cc

-- the step of the counter
record GoesOnBy (k : Counting) (a : Statement) : Type 0 where
  at : Span
  at_sum : Span
  at_counter : Span
  at_one : Span
  is : a ≡ tree.Assign at k.counter (tree.Binary at_sum ops.Add (tree.Var at_counter k.counter) (tree.Lit at_one (scalars.Long (pos 1))))

goes_on_is : (k : Counting) (a : Statement) → goes_on k a ≡ true → GoesOnBy k a
goes_on_is k (tree.Assign at x e) h =
    let two = and_parts (bytes_eq x k.counter) (is_next_of k.counter e) h in
    let n = next_is k.counter e two.1 in
    record { at = at; at_sum = n.0; at_counter = n.1; at_one = n.2; is = ap (λ z. tree.Assign at z e) (names_equal x k.counter two.0) ∙ ap (tree.Assign at k.counter) n.3 }
goes_on_is k (tree.Declare at ty x e) h = absurd cc
goes_on_is k (tree.Add at x e) h = absurd cc
goes_on_is k (tree.Sort at x keys downs) h = absurd cc
goes_on_is k (tree.If at c p) h = absurd cc
goes_on_is k (tree.IfElse at c p q) h = absurd cc
goes_on_is k (tree.ForEach at ty x e p) h = absurd cc
goes_on_is k (tree.While at c p) h = absurd cc
goes_on_is k (tree.Print at e) h = absurd cc
goes_on_is k (tree.Return at e) h = absurd cc
goes_on_is k (tree.Break at) h = absurd cc

record EndsSo (k : Counting) (a : Statement) (p : Statements) : Type 0 where
  last : Statement
  step : GoesOnBy k last
  is : Then a p ≡ followed_by (before_last a p) (Then last Nothing)

ends_so : (p : Statements) (k : Counting) (a : Statement) → ends k (Then a p) ≡ true → EndsSo k a p
ends_so Nothing k a h = record { last = a; step = goes_on_is k a h; is = refl }
ends_so (Then b p) k a h = let r : EndsSo k b p = ends_so p k b h in record { last = r.last; step = r.step; is = ap (Then a) r.is }

table_is_no_set : (ty : Spelled) → is_table ty ≡ true → is_set_type ty ≡ false
table_is_no_set (tree.Table name) h = refl
table_is_no_set _ h = absurd cc

-- The body takes the row, does what the fragment's body does, and goes on, and what it does between doesn't mention the counter.
pub record IsCountingBody (at : Span) (k : Counting) (b : Statements) : Type 0 where
  pub places : CountPlaces
  pub loop : places.loop ≡ at
  pub ty : Spelled
  pub row : List ℕ
  pub is : b ≡ counting_body places ty k.counter k.list row (without_last (without_first b))
  pub no_set : is_set_type ty ≡ false
  pub unmentioned : is_among (mentioned_among (without_last (without_first b))) k.counter ≡ false

pub body_counts : (loop : Span) (k : Counting) (b : Statements) → counts_in k b ≡ true → IsCountingBody loop k b
body_counts loop k Nothing h = absurd cc
body_counts loop k (Then a Nothing) h =
    let two = and_parts (takes_row k a) (ends k Nothing && not (is_among (mentioned_among Nothing) k.counter)) h in
    absurd cc
body_counts loop k (Then a (Then b p)) h =
    let two = and_parts (takes_row k a) (ends k (Then b p) && not (is_among (mentioned_among (before_last b p)) k.counter)) h in
    let more = and_parts (ends k (Then b p)) (not (is_among (mentioned_among (before_last b p)) k.counter)) two.1 in
    let t : TakesRow k a = takes_row_is k a two.0 in
    let e : EndsSo k b p = ends_so p k b more.0 in
    record {
      places = record { loop = loop; row = t.at; get = t.at_get; index = t.at_index; step = e.step.at; sum = e.step.at_sum; counter = e.step.at_counter; one = e.step.at_one };
      loop = refl;
      ty = t.ty;
      row = t.name;
      is = ap (λ z. Then z (Then b p)) t.is ∙ ap (Then (tree.Declare t.at t.ty t.name (tree.Get t.at_get k.list (tree.Var t.at_index k.counter)))) (e.is ∙ ap (λ z. followed_by (before_last b p) (Then z Nothing)) e.step.is);
      no_set = table_is_no_set t.ty t.table;
      unmentioned = false_from_not (is_among (mentioned_among (before_last b p)) k.counter) more.1;
    }
