-- The text of a loop of the kernel form that counts is that of loops that count through a list: the body between sets
-- neither the counter nor the list.
use Rattle.std.proofs.Common.{◌≡◌, ℕ, suc, Bool, true, false, not, ◌&&◌, ◌||◌, List, [], ◌∷◌, ◌++◌, length, Option, Some, None, refl, sym, ap, ◌∙◌, subst, cond, append_assoc}
use Rattle.std.specs.Prelude.{bytes_eq, slice_get}
use Rattle.std.specs.List.{filter}
use Rattle.std.proofs.lemmas.Bool.{or_parts}
use Rattle.std.proofs.lemmas.Map.Views.{any-filter_same}
use Rattle.qbs_base.specs.declared.scalar.Value.{Value}
use Rattle.qbs_base.specs.declared.span.Span.{Span}
use Rattle.java_ast.specs.Tree as tree
use Rattle.java_ast.specs.Tree.{Spelled, Expression, Statement, Statements, Nothing, Then}
use Rattle.java_mean.specs.declared.types.JavaType.{JavaType}
use Rattle.java_mean.specs.declared.types.JavaType.TheVariants.{Of}
use Rattle.java_mean.specs.Refines.{followed_by}
use Rattle.java_mean.specs.Types.{Types, with_type}
use Rattle.java_mean.specs.Typing.{Frame, Extends, TypedStatement, declare, assign, add, sort, when, choose, for_each, for_each_new, while_true, print, return_none, return_value, leave, TypedStatements, done as nothing, next}
use Rattle.java_mean.proofs.Alike.{extends_new}
use Rattle.java_mean.proofs.Puts.{names_equal, name_same}
use Rattle.java_mean.proofs.TypedRuns.{extends_statement}
use Rattle.java_loops.specs.Walks.Counting.{Counts, by_size, size_first, count_first, counting_step, counting_loop, IsCountingText}
use Rattle.java_loops.specs.Walks.Reads.{touches, all_touch}
use Rattle.java_loops.specs.Walks.Runs.{constant}
use Rattle.java_loops.proofs.Walks.Visibility.{TypedNext, next_of, TypedParts, typed_parts}
use Rattle.loop_text.specs.Statements.Fragment.{Fragment, counter_named, counter, is_name, declared_in_run, is_outer, accumulators}
use Rattle.loop_text.specs.Kernel.KernelLists.{Source, fetched, sorted_by, source_after, source_past}
use Rattle.loop_text.specs.Kernel.KernelStarts.{update_of, form_found}
use Rattle.java_loops.specs.Kernel.KernelStarts.{broken_starts}
use Rattle.loop_text.specs.Kernel.Counting.{Counting, counting, either_counting}
use Rattle.loop_text.specs.Kernel.KernelStatements.{is_allowed}
use Rattle.java_ast.specs.Names.{Names, is_among, updated_in, updated_among}
use Rattle.java_loops.specs.Kernel.Setting.{Setting}
use Rattle.loop_text.specs.Statements.Setting.{touches as mentions, first_touching, given_by}
use Rattle.loop_text.specs.Sites.Sites.{Site, Round, in_loop, outside, is_some, sites_of, without_first, without_last, kernel_body}
use Rattle.java_loops.proofs.Nested.NestRules.{Unbroken, allowed_at}
use Rattle.java_mean.proofs.Sets.{among_set}
use Rattle.java_loops.proofs.Standing.Standing.{is_single, site_of, Stands, single, when as at_when, choose as at_choose, walks, repeats, AllStand, nothing as none_stand, next as one_stands}
use Rattle.java_loops.proofs.Standing.StandingSites.{body_stands}
use Rattle.java_loops.proofs.Starts.Start.{IsStarted, accumulator_started, IsStart, start_of}
use Rattle.java_loops.proofs.Starts.StartCounting.{AreCounted, IsCountingBody}
use Rattle.java_loops.proofs.Typing.Visible.{names_back}
use Rattle.java_loops.proofs.Starts.StartCountingApart.{all_within_other, declared_apart, all_untouched, set_apart, either_part, neither, counter_is_no_list}

-- ---- The list is no accumulator

source_kept : (x : List ℕ) (a : Statement) (o : Option Source) → mentions x a ≡ false → source_after x a o ≡ o
source_kept x (tree.Declare at ty y e) o h = ap (λ b. cond b (fetched e) o) (or_parts (bytes_eq y x) _ h).0
source_kept x (tree.Assign at y e) o h = ap (λ b. cond b (fetched e) o) (or_parts (bytes_eq y x) _ h).0
source_kept x (tree.Sort at y keys downs) o h = ap (λ b. cond b (sorted_by keys downs o) o) (or_parts (bytes_eq y x) _ h).0
source_kept x (tree.Add at y e) o h = refl
source_kept x (tree.If at c p) o h = refl
source_kept x (tree.IfElse at c p q) o h = refl
source_kept x (tree.ForEach at ty y e p) o h = refl
source_kept x (tree.While at c p) o h = refl
source_kept x (tree.Print at e) o h = refl
source_kept x (tree.Return at e) o h = refl
source_kept x (tree.Break at) o h = refl

untouched_step : (x : List ℕ) (a : Statement) (p : Statements) (o : Option Source) (t : Bool) → mentions x a ≡ t → cond t (Some a) (first_touching x p) ≡ None → ((q : Option Source) → first_touching x p ≡ None → source_past x q p ≡ q) → source_past x (source_after x a o) p ≡ o
untouched_step x a p o true e h ih = absurd cc
untouched_step x a p o false e h ih = ih (source_after x a o) h ∙ source_kept x a o e

-- what no statement mentions keeps its source
untouched_source : (x : List ℕ) (p : Statements) (o : Option Source) → first_touching x p ≡ None → source_past x o p ≡ o
untouched_source x Nothing o h = refl
untouched_source x (Then a p) o h = untouched_step x a p o (mentions x a) refl h (λ q i. untouched_source x p q i)

source_joined : (x : List ℕ) (p q : Statements) (o : Option Source) → source_past x o (followed_by p q) ≡ source_past x (source_past x o p) q
source_joined x Nothing q o = refl
source_joined x (Then a p) q o = source_joined x p q (source_after x a o)

given_where : (d e : Expression) (t : Bool) → cond t (Some d) None ≡ Some e → cond t (fetched d) None ≡ fetched e
given_where d e true h = ap fetched (let l : Some d ≡ Some e = h in cc)
given_where d e false h = absurd cc

source_given : (x : List ℕ) (a : Statement) (e : Expression) → given_by x a ≡ Some e → source_after x a None ≡ fetched e
source_given x (tree.Declare at ty y d) e h = given_where d e (bytes_eq y x) h
source_given x (tree.Assign at y d) e h = given_where d e (bytes_eq y x) h
source_given x (tree.Add at y d) e h = absurd cc
source_given x (tree.Sort at y keys downs) e h = absurd cc
source_given x (tree.If at c p) e h = absurd cc
source_given x (tree.IfElse at c p q) e h = absurd cc
source_given x (tree.ForEach at ty y d p) e h = absurd cc
source_given x (tree.While at c p) e h = absurd cc
source_given x (tree.Print at d) e h = absurd cc
source_given x (tree.Return at d) e h = absurd cc
source_given x (tree.Break at) e h = absurd cc

constant_unfetched : (e : Expression) (v : Value) → constant e ≡ Some v → fetched e ≡ None
constant_unfetched (tree.Fetch at n) v h = absurd cc
constant_unfetched (tree.Lit at x) v h = refl
constant_unfetched (tree.Var at x) v h = refl
constant_unfetched (tree.Field at e n) v h = refl
constant_unfetched (tree.Binary at op a b) v h = refl
constant_unfetched (tree.Not at e) v h = refl
constant_unfetched (tree.Equals at a b) v h = refl
constant_unfetched (tree.Size at x) v h = refl
constant_unfetched (tree.Get at x e) v h = refl
constant_unfetched (tree.Contains at x e) v h = refl
constant_unfetched (tree.Query at ty text es) v h = refl
constant_unfetched (tree.QueryLong at text es) v h = refl
constant_unfetched (tree.QueryBoolean at text es) v h = refl
constant_unfetched (tree.NewList at) v h = refl
constant_unfetched (tree.NewSet at) v h = refl
constant_unfetched (tree.NewSetOf at e) v h = refl

-- what is started isn't fetched
started_unfetched : (sites : List Site) (x : List ℕ) (run : Statements) → IsStarted sites x run → source_past x None run ≡ None
started_unfetched sites x run k =
    let c : IsStart (form_found sites (update_of sites x)) k.value = start_of (form_found sites (update_of sites x)) k.value k.may in
    ap (source_past x None) k.is ∙ source_joined x k.before (Then k.statement k.after) None ∙ ap (λ o. source_past x (source_after x k.statement o) k.after) (untouched_source x k.before None k.none_before)
    ∙ untouched_source x k.after (source_after x k.statement None) k.none_after ∙ source_given x k.statement k.value k.given ∙ constant_unfetched k.value c.value c.constant

-- a variable with a source is no accumulator
pub sourced_no_accumulator : (w : Setting) → broken_starts w ≡ None → (x : List ℕ) (src : Source) (t : Bool) → source_past x None w.fragment.run ≡ Some src → is_among (accumulators w.fragment) x ≡ t → t ≡ false
sourced_no_accumulator w h x src true e a = let n : source_past x None w.fragment.run ≡ None = started_unfetched w.sites x w.fragment.run (accumulator_started w h x a) in absurd cc
sourced_no_accumulator w h x src false e a = refl

-- ---- The list isn't updated

counter_there : (i xs : List ℕ) (limit : Option ℕ) (c : Expression) → Counts i xs limit c → counter_named (counting c) ≡ Some i
counter_there i xs _ _ (by_size at a b) = refl
counter_there i xs _ _ (size_first at al ac az ar aa an n) = ap (λ t. counter_named (either_counting (cond t (Some (record { counter = i; list = xs; limit = Some n })) None) None)) (name_same i)
counter_there i xs _ _ (count_first at al ac an ar aa az n) = ap (λ t. counter_named (cond t (Some (record { counter = i; list = xs; limit = Some n })) None)) (name_same i)

outer_updated : (f : Fragment) (x : List ℕ) → is_outer f.visible (declared_in_run f) (counter f.loop) x ≡ true → is_among (updated_in f.loop) x ≡ true → is_among (accumulators f) x ≡ true
outer_updated f x o u =
    let test : List ℕ → Bool = is_outer f.visible (declared_in_run f) (counter f.loop) in
    among_set (filter test (updated_in f.loop)) x ∙ any-filter_same (bytes_eq x) test true (λ y e. ap test (sym (names_equal x y e)) ∙ o) (updated_in f.loop) ∙ u

not_updated : (f : Fragment) (x : List ℕ) (t : Bool) → is_among (updated_in f.loop) x ≡ t → is_outer f.visible (declared_in_run f) (counter f.loop) x ≡ true → is_among (accumulators f) x ≡ false → t ≡ false
not_updated f x true e o n = let a : is_among (accumulators f) x ≡ true = outer_updated f x o e in absurd cc
not_updated f x false e o n = refl

both : (a b : Bool) → a ≡ true → b ≡ true → (a && b) ≡ true
both a b e h = ap (λ z. z && b) e ∙ h

typed_some : (g : Types) (x : List ℕ) (k : JavaType) → g x ≡ Some k → is_some (g x) ≡ true
typed_some g x k e = ap is_some e

-- a visible variable with a source, other than the counter, isn't updated in the loop
pub sourced_not_updated : (w : Setting) → broken_starts w ≡ None → ((y : List ℕ) → is_some (w.types y) ≡ (is_among w.fragment.visible y || is_among (declared_in_run w.fragment) y)) → (x : List ℕ) (src : Source) (k : JavaType) → source_past x None w.fragment.run ≡ Some src → w.types x ≡ Some k → is_name (counter w.fragment.loop) x ≡ false → is_among (updated_in w.fragment.loop) x ≡ false
sourced_not_updated w h named x src k e t n =
    not_updated w.fragment x (is_among (updated_in w.fragment.loop) x) refl
    (both (is_among w.fragment.visible x || is_among (declared_in_run w.fragment) x) (not (is_name (counter w.fragment.loop) x)) (sym (named x) ∙ typed_some w.types x k t) (ap not n))
    (sourced_no_accumulator w h x src (is_among (accumulators w.fragment) x) e refl ∙ refl)

-- ---- Nothing is sorted in the loop

abbrev mutual
  sorted_in : Statement → Names
  sorted_in (tree.Sort at x keys downs) = x ∷ []
  sorted_in (tree.If at c p) = sorted_among p
  sorted_in (tree.IfElse at c p q) = sorted_among p ++ sorted_among q
  sorted_in (tree.ForEach at ty x e p) = sorted_among p
  sorted_in (tree.While at c p) = sorted_among p
  sorted_in _ = []

  sorted_among : Statements → Names
  sorted_among Nothing = []
  sorted_among (Then a p) = sorted_in a ++ sorted_among p

single_unsorted : (sites : List Site) (r : Round) (previous : Option Statement) (a : Statement) → is_single a ≡ true → is_allowed sites (site_of r previous a) a ≡ true → sorted_in a ≡ []
single_unsorted sites r previous (tree.Sort at x keys downs) h i = absurd cc
single_unsorted sites r previous (tree.If at c p) h i = absurd cc
single_unsorted sites r previous (tree.IfElse at c p q) h i = absurd cc
single_unsorted sites r previous (tree.ForEach at ty x e p) h i = absurd cc
single_unsorted sites r previous (tree.While at c p) h i = absurd cc
single_unsorted sites r previous (tree.Declare at ty x e) h i = refl
single_unsorted sites r previous (tree.Assign at x e) h i = refl
single_unsorted sites r previous (tree.Add at x e) h i = refl
single_unsorted sites r previous (tree.Print at e) h i = refl
single_unsorted sites r previous (tree.Return at e) h i = refl
single_unsorted sites r previous (tree.Break at) h i = refl

both_empty : (xs ys : Names) → xs ≡ [] → ys ≡ [] → xs ++ ys ≡ []
both_empty xs ys e h = ap (λ zs. zs ++ ys) e ∙ h

module _ (sites : List Site) (allowed : (n : ℕ) (s : Site) → slice_get sites n ≡ Some s → is_allowed sites s s.statement ≡ true) where
  mutual
    unsorted : (r : Round) (previous : Option Statement) (a : Statement) (n m : ℕ) → Stands sites r previous a n m → sorted_in a ≡ []
    unsorted _ _ _ _ _ (single r previous a n h get) = single_unsorted sites r previous a h (allowed n (site_of r previous a) get)
    unsorted _ _ _ _ _ (at_when r previous at c p n m get stand) = all_unsorted _ None p (suc n) m stand
    unsorted _ _ _ _ _ (at_choose r previous at c p q n m o get one two) = both_empty (sorted_among p) (sorted_among q) (all_unsorted _ None p (suc n) m one) (all_unsorted _ None q m o two)
    unsorted _ _ _ _ _ (walks r previous at ty x e p n m get stand) = all_unsorted _ None p (suc n) m stand
    unsorted _ _ _ _ _ (repeats r previous at c p n m get stand) = all_unsorted _ None p (suc n) m stand

    all_unsorted : (r : Round) (previous : Option Statement) (p : Statements) (n m : ℕ) → AllStand sites r previous p n m → sorted_among p ≡ []
    all_unsorted _ _ _ _ _ (none_stand r previous n) = refl
    all_unsorted _ _ _ _ _ (one_stands r previous a p n m o stand rest) = both_empty (sorted_in a) (sorted_among p) (unsorted r previous a n m stand) (all_unsorted r (Some a) p m o rest)

-- ---- What is neither updated nor sorted isn't set

alone_apart : (x i : List ℕ) → is_among (x ∷ []) i ≡ false → bytes_eq x i ≡ false
alone_apart x i h = set_apart x i [] h

mutual
  unset : (c : Frame) (l : Option Types) (g h : Types) (a : Statement) (i : List ℕ) (k : JavaType) → TypedStatement c l g a h → g i ≡ Some k → is_among (updated_in a) i ≡ false → is_among (sorted_in a) i ≡ false → touches a i ≡ false
  unset c _ _ _ _ i k (declare l g at ty x e j n q t) v m s = declared_apart g x i k n v
  unset c _ _ _ _ i k (assign l g at x e j n t) v m s = alone_apart x i m
  unset c _ _ _ _ i k (add l g at x e j b n has t) v m s = alone_apart x i m
  unset c _ _ _ _ i k (sort l g at x keys down b n) v m s = alone_apart x i s
  unset c _ _ _ _ i k (when l g h at e p t q) v m s = all_unset c l g h p i k q v m s
  unset c _ _ _ _ i k (choose l g h h' at e p q t u w) v m s =
      let two = either_part (updated_among p) (updated_among q) i m in
      let more = either_part (sorted_among p) (sorted_among q) i s in
      neither (all_touch p i) (all_touch q i) (all_unset c l g h p i k u v two.0 more.0) (all_unset c l g h' q i k w v two.1 more.1)
  unset c _ _ _ _ i k (for_each l g h at ty x e p j b n t has q) v m s =
      neither (bytes_eq x i) (all_touch p i) (declared_apart g x i k n v) (all_unset c (Some (with_type x (Some (Of b)) g)) (with_type x (Some (Of b)) g) h p i k q (extends_new g x (Of b) n i k v) m s)
  unset c _ _ _ _ i k (for_each_new l g h at ty x e p j n q new t) v m s =
      neither (bytes_eq x i) (all_touch p i) (declared_apart g x i k n v) (all_unset c (Some (with_type x (Some j) g)) (with_type x (Some j) g) h p i k t (extends_new g x j n i k v) m s)
  unset c _ _ _ _ i k (while_true l g h at e p t q) v m s = all_unset c (Some g) g h p i k q v m s
  unset c _ _ _ _ i k (print l g at e ty t) v m s = refl
  unset c _ _ _ _ i k (return_none l g at n) v m s = refl
  unset c _ _ _ _ i k (return_value l g at e j n t) v m s = refl
  unset c _ _ _ _ i k (leave b g at ex) v m s = refl

  all_unset : (c : Frame) (l : Option Types) (g h : Types) (p : Statements) (i : List ℕ) (k : JavaType) → TypedStatements c l g p h → g i ≡ Some k → is_among (updated_among p) i ≡ false → is_among (sorted_among p) i ≡ false → all_touch p i ≡ false
  all_unset c _ _ _ _ i k (nothing l g) v m s = refl
  all_unset c _ _ _ _ i k (next l g h z a p t u) v m s =
      let two = either_part (updated_in a) (updated_among p) i m in
      let more = either_part (sorted_in a) (sorted_among p) i s in
      neither (touches a i) (all_touch p i) (unset c l g h a i k t v two.0 more.0) (all_unset c l h z p i k u (extends_statement c l g h a t i k v) two.1 more.1)

-- ---- The text of the loop

updated_followed : (p q : Statements) → updated_among (followed_by p q) ≡ updated_among p ++ updated_among q
updated_followed Nothing q = refl
updated_followed (Then a p) q = ap (λ ns. updated_in a ++ ns) (updated_followed p q) ∙ sym (append_assoc (updated_in a) (updated_among p) (updated_among q))

-- the body between, typed where the row is visible too
record TypedBody (c : Frame) (g : Types) (row : List ℕ) (p : Statements) : Type 0 where
  before : Types
  after : Types
  extends : Extends before g
  new : g row ≡ None
  typed : TypedStatements c (Some g) before p after

new_row : (c : Frame) (l : Option Types) (g : Types) (at : Span) (ty : Spelled) (x : List ℕ) (e : Expression) (h : Types) → TypedStatement c l g (tree.Declare at ty x e) h → g x ≡ None
new_row c _ _ _ _ _ _ _ (declare l g at ty x e k n q t) = n

typed_body : (c : Frame) (g h : Types) (at : Span) (ty : Spelled) (x : List ℕ) (e : Expression) (p q : Statements) → TypedStatements c (Some g) g (Then (tree.Declare at ty x e) (followed_by p q)) h → TypedBody c g x p
typed_body c g h at ty x e p q t =
    let n : TypedNext c (Some g) g (tree.Declare at ty x e) (followed_by p q) h = next_of c (Some g) g (tree.Declare at ty x e) (followed_by p q) h t in
    let r : TypedParts c (Some g) n.middle p q h = typed_parts c (Some g) n.middle p q h n.rest in
    record { before = n.middle; after = r.middle; extends = extends_statement c (Some g) g n.middle (tree.Declare at ty x e) n.first; new = new_row c (Some g) g at ty x e n.middle n.first; typed = r.first }

-- The loop counts, as its text says: places, row and body are these, and the body sets neither the counter nor the list.
pub record IsCountingLoop (at : Span) (k : Counting) (loop : Statement) (c : Expression) (b : Statements) : Type 0 where
  pub body : IsCountingBody at k b
  pub is : loop ≡ counting_loop body.places body.ty k.counter k.list body.row c (without_last (without_first b))
  pub text : IsCountingText body.ty k.counter k.list body.row k.limit c (without_last (without_first b))

module _ (w : Setting) (unbroken : Unbroken w) (sites : w.sites ≡ sites_of w.fragment.loop) (c : Frame) (h : Types) (named : (y : List ℕ) → is_some (w.types y) ≡ (is_among w.fragment.visible y || is_among (declared_in_run w.fragment) y)) (at : Span) (e : Expression) (b : Statements) (is : w.fragment.loop ≡ tree.While at e b) (k : Counting) (condition : Counts k.counter k.list k.limit e) (body : IsCountingBody at k b) (types : AreCounted w.types k.counter k.list) (src : Source) (source : source_past k.list None w.fragment.run ≡ Some src) where
  nothing_sorted : sorted_among (without_last (without_first b)) ≡ []
  nothing_sorted =
      all_unsorted w.sites (λ n s get. allowed_at w unbroken n s get) (in_loop outside 0) None (without_last (without_first b)) 1 _
      (subst (λ z. AllStand z (in_loop outside 0) None (without_last (without_first b)) 1 (length z)) (sym sites)
      (subst (λ z. AllStand (sites_of w.fragment.loop) (in_loop outside 0) None (kernel_body z) 1 (length (sites_of w.fragment.loop))) is (body_stands w.fragment.loop)))

  named_counter : is_name (counter w.fragment.loop) k.list ≡ false
  named_counter = ap (λ z. is_name (counter z) k.list) is ∙ ap (λ o. is_name o k.list) (counter_there k.counter k.list k.limit e condition) ∙ names_back k.list k.counter ∙ counter_is_no_list w.types k.counter k.list types

  list_unset : is_among (updated_among (without_last (without_first b))) k.list ≡ false
  list_unset =
      let whole : is_among (updated_among b) k.list ≡ false = ap (λ z. is_among (updated_in z) k.list) (sym is) ∙ sourced_not_updated w unbroken.starts named k.list src types.type source types.list named_counter in
      let parts : is_among (updated_among (followed_by (without_last (without_first b)) (Then (counting_step body.places k.counter) Nothing))) k.list ≡ false = ap (λ z. is_among (updated_among z) k.list) (sym body.is) ∙ whole in
      (either_part (updated_among (without_last (without_first b))) (k.counter ∷ []) k.list (ap (λ z. is_among z k.list) (sym (updated_followed (without_last (without_first b)) (Then (counting_step body.places k.counter) Nothing))) ∙ parts)).0

  -- a loop of the kernel form that counts has the text of loops that count
  pub loop_text : TypedStatements c (Some w.types) w.types b h → IsCountingLoop at k w.fragment.loop e b
  loop_text t =
      let p : Statements = without_last (without_first b) in
      let typed : TypedBody c w.types body.row p = typed_body c w.types h body.places.row body.ty body.row _ p (Then (counting_step body.places k.counter) Nothing) (subst (λ z. TypedStatements c (Some w.types) w.types z h) body.is t) in
      record {
        body = body;
        is = is ∙ ap (λ z. tree.While z e b) (sym body.loop) ∙ ap (tree.While body.places.loop e) body.is;
        text = record {
          condition = condition;
          no_set = body.no_set;
          row_apart = declared_apart w.types body.row k.counter (Of _) typed.new types.counter;
          list_apart = declared_apart w.types body.row k.list types.type typed.new types.list;
          counter_apart = counter_is_no_list w.types k.counter k.list types;
          counter_untouched = all_untouched c (Some w.types) typed.before typed.after p k.counter (Of _) typed.typed (typed.extends k.counter (Of _) types.counter) body.unmentioned;
          list_untouched = all_unset c (Some w.types) typed.before typed.after p k.list types.type typed.typed (typed.extends k.list types.type types.list) list_unset (ap (λ z. is_among z k.list) nothing_sorted);
          unmentioned = all_within_other p k.counter body.unmentioned;
        };
      }
