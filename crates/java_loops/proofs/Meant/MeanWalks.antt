-- The loop of a fragment passes as a walk over its list does, also where it counts.
use Rattle.std.proofs.Common.{◌≡◌, ℕ, ◌≤◌, Bool, true, false, not, ◌||◌, List, [], ◌∷◌, Option, Some, None, Result, Ok, refl, sym, ap, ◌∙◌, subst, cond, bytes_eq}
use Rattle.std.specs.Prelude.{slice_get}
use Rattle.std.specs.List.{filter}
use Rattle.std.proofs.lemmas.Bool.{or_right, or_parts, and_parts}
use Rattle.qbs_base.specs.declared.scalar.Row.{Row}
use Rattle.qbs_base.specs.declared.scalar.Ty.TheVariants as tys
use Rattle.qbs_base.specs.declared.scalar.Value.TheVariants.{Many}
use Rattle.qbs_base.specs.declared.span.Span.{Span}
use Rattle.qbs_base.specs.Named.{at_name}
use Rattle.java_ast.specs.Tree as tree
use Rattle.java_ast.specs.Tree.{Spelled, Expression, Statement, Statements, Nothing, Then}
use Rattle.java_mean.specs.declared.ending.Ending.{Ending}
use Rattle.java_mean.specs.declared.types.JavaType.{JavaType}
use Rattle.java_mean.specs.declared.types.JavaType.TheVariants.{Of}
use Rattle.java_mean.specs.declared.types.Single.TheVariants.{ScalarOf}
use Rattle.java_mean.specs.Endings.{◌>>=◌}
use Rattle.java_mean.specs.Expression.{value_of, as_rows}
use Rattle.java_mean.specs.Refines.{Follows, followed_by}
use Rattle.java_mean.specs.Statement.{State, Passed, GoesOn, Leaves, Returns, each, meaning, meanings}
use Rattle.java_mean.specs.Types.{Types}
use Rattle.java_mean.specs.Typing.{Frame, TypedStatement, TypedStatements}
use Rattle.java_mean.specs.World.{World}
use Rattle.kernel_lang.specs.Given.{cut, list_at, listed}
use Rattle.java_loops.specs.Walks.Counting.{SameState, same_ways, CountPlaces, counting_step, IsCounting}
use Rattle.java_loops.specs.Walks.Left.{Effect, Became, Left, GoneOn}
use Rattle.java_loops.specs.Walks.Nests.{with_name, AreNest}
use Rattle.java_loops.specs.Walks.Reads.{Set, other_than, all_touch}
use Rattle.java_loops.proofs.Walks.Apart.{all_within_same}
use Rattle.java_loops.proofs.Walks.Becoming.{all_left_by, over_rows, each_goes_on}
use Rattle.java_loops.proofs.Walks.Counted.{counting_follows}
use Rattle.java_loops.proofs.Walks.Names.{apart_more, apart_end, none_have, none_distinct}
use Rattle.java_loops.proofs.Walks.Untouched.{all_untouched as kept_by}
use Rattle.java_loops.proofs.Walks.Visibility.{TypedParts, typed_parts}
use Rattle.loop_text.specs.Statements.Fragment.{accumulators, counter, counter_named, is_outer, is_name, declared_in_run}
use Rattle.loop_text.specs.Kernel.Counting.{Counting, counting}
use Rattle.loop_text.specs.Kernel.KernelLoop.{counting_in, limit_of}
use Rattle.loop_text.specs.Statements.Loops.{is_loop}
use Rattle.java_loops.specs.Lowering.Lowered.{list_of, lists_of}
use Rattle.java_ast.specs.Names.{is_among, updated_in}
use Rattle.java_loops.specs.Kernel.Setting.{Setting}
use Rattle.loop_text.specs.Sites.Sites.{Site, outside, is_some, counted_row, without_first, without_last, kernel_body, sites_of}
use Rattle.java_loops.proofs.Typing.BoundTyping.{TypedNext, typed_next, TypedWhile, typed_while, TypedDeclare, typed_declare, seen_with, swapped}
use Rattle.java_loops.proofs.Listed.ListedRows.{HasList}
use Rattle.java_loops.proofs.Meant.MeanLists.{held_rows, each_rows}
use Rattle.java_loops.proofs.Nested.Nest.{set_by_loop, left_by_loop, BodyIsNest}
use Rattle.java_loops.proofs.Nested.NestCounter.{Kind, each as walks, counts, loop_kind}
use Rattle.java_loops.proofs.Nested.NestNames.{among_filtered}
use Rattle.java_loops.proofs.Nested.NestRules.{Unbroken, false_from_not}
use Rattle.java_loops.proofs.Nested.NestSight.{is_set_outside}
use Rattle.java_loops.proofs.Placing.PlaceLoop.{CountsRightly, IsEstablished}
use Rattle.java_mean.proofs.Sets.{among_set}
use Rattle.java_loops.proofs.Standing.Standing.{site_of}
use Rattle.java_loops.proofs.Standing.StandingSites.{loop_first}
use Rattle.java_loops.proofs.Starts.StartCounting.{IsCountingBody}
use Rattle.java_loops.proofs.Starts.StartCountingApart.{all_within_other, declared_apart, all_untouched, counter_is_no_list}

-- ---- The list of the whole loop

first_list : (w : Setting) (ss : List Site) (s : Site) → slice_get ss 0 ≡ Some s → is_loop s.statement ≡ true → slice_get (lists_of w ss) 0 ≡ Some (list_of w s.statement)
first_list w [] s e h = absurd cc
first_list w (x ∷ ss) s e h =
    let same : x ≡ s = cc in
    ap (λ b. slice_get (cond b (list_of w x.statement ∷ lists_of w ss) (lists_of w ss)) 0) (ap (λ (z : Site). is_loop z.statement) same ∙ h) ∙ ap (λ (z : Site). Some (list_of w z.statement)) same

-- ---- States that are the same but for the counter

moved : (a f : Set) (g : Effect) (i : List ℕ) (t s z : State) → ((y : List ℕ) → a y ≡ true → other_than i y ≡ true) → ((y : List ℕ) → f y ≡ true → other_than i y ≡ true) → SameState (other_than i) s z → Left a f g t z → Left a f g t s
moved a f g i t s z pa pf k l =
    record {
      value = λ x ax v h env same. subst (Became (g x env v)) (sym (k.store.by x (pa x ax))) (l.value x ax v h env same);
      fixed = record { by = λ x fx. l.fixed.by x fx ∙ sym (k.store.by x (pf x fx)) };
      lines = l.lines ∙ sym k.lines;
      turns = subst (λ n. n ≤ t.turns) (sym k.turns) l.turns;
    }

-- what follows a run that goes on goes on, to a state that is the same but for the counter
gone_with : (a f : Set) (g : Effect) (i : List ℕ) (t : State) (p : Result Passed Ending) → ((z : Passed) → p ≡ Ok z → GoneOn a f g t z) → ((y : List ℕ) → a y ≡ true → other_than i y ≡ true) → ((y : List ℕ) → f y ≡ true → other_than i y ≡ true) → (q : Passed) → Follows (SameState (other_than i)) (same_ways (other_than i)) (Ok q) p → GoneOn a f g t q
gone_with a f g i t p goes pa pf (GoesOn s) k =
    let z : GoneOn a f g t (GoesOn k.state) = goes (GoesOn k.state) k.is in
    let same : z.state ≡ k.state = (let e : GoesOn k.state ≡ GoesOn z.state = z.is in cc) in
    record { state = s; is = refl; left = moved a f g i t s k.state pa pf k.holds (subst (Left a f g t) same z.left) }
gone_with a f g i t p goes pa pf (Leaves s) k = let z : GoneOn a f g t (Leaves k.state) = goes (Leaves k.state) k.is in (let e : Leaves k.state ≡ GoesOn z.state = z.is in absurd cc)
gone_with a f g i t p goes pa pf (Returns s v) k = let z : GoneOn a f g t (Returns k.0.state v) = goes (Returns k.0.state v) k.0.is in (let e : Returns k.0.state v ≡ GoesOn z.state = z.is in absurd cc)

-- ---- A loop that counts

-- the body between the row and the step is typed, where the row is new
record InnerTyped (c : Frame) (g : Types) (x : List ℕ) (p : Statements) : Type 0 where
  before : Types
  after : Types
  new : g x ≡ None
  typed : TypedStatements c (Some g) before p after
  seen : (y : List ℕ) (k : JavaType) → g y ≡ Some k → before y ≡ Some k

inner_typed : (c : Frame) (l : Option Types) (g h : Types) (at : Span) (q : Expression) (b : Statements) (k : Counting) (here : Span) (body : IsCountingBody here k b) → TypedStatement c l g (tree.While at q b) h → InnerTyped c g body.row (without_last (without_first b))
inner_typed c l g h at q b k here body t =
    let p : Statements = without_last (without_first b) in
    let d : Statement = tree.Declare body.places.row body.ty body.row (tree.Get body.places.get k.list (tree.Var body.places.index k.counter)) in
    let step : Statements = Then (counting_step body.places k.counter) Nothing in
    let whole : TypedWhile c g q b = typed_while c l g h at q b t in
    let parts : TypedNext c (Some g) g d (followed_by p step) = typed_next c (Some g) g whole.branch.last d (followed_by p step) (subst (λ z. TypedStatements c (Some g) g z whole.branch.last) body.is whole.branch.body) in
    let declared : TypedDeclare c g parts.middle body.ty body.row (tree.Get body.places.get k.list (tree.Var body.places.index k.counter)) = typed_declare c (Some g) g body.places.row body.ty body.row (tree.Get body.places.get k.list (tree.Var body.places.index k.counter)) parts.middle parts.first in
    let two : TypedParts c (Some g) parts.middle p step parts.last = typed_parts c (Some g) parts.middle p step parts.last parts.rest in
    record {
      before = parts.middle;
      after = two.middle;
      new = declared.new;
      typed = two.first;
      seen = λ y j e. ap (λ (z : Types). z y) declared.after ∙ seen_with g y body.row (Some declared.type) j declared.new e;
    }

module _ (w : Setting) (c : Frame) (l : Option Types) (h : Types) (world : World) (t : State) (at : Span) (q : Expression) (b : Statements) (k : CountsRightly w world t at q b) (typed : TypedStatement c l w.types (tree.While at q b) h) (n : BodyIsNest w w.types (tree.While at q b)) where
  abbrev i : List ℕ
  i = k.rule.count.counter

  abbrev xs : List ℕ
  xs = k.rule.count.list

  abbrev x : List ℕ
  x = k.text.body.row

  abbrev p : Statements
  p = without_last (without_first b)

  abbrev a : Set
  a = set_by_loop w

  abbrev f : Set
  f = left_by_loop w w.types

  same_row : x ≡ n.row
  same_row = let e : Some x ≡ Some n.row = sym (ap counted_row k.text.body.is) ∙ n.is_row in cc

  inner : InnerTyped c w.types x p
  inner = inner_typed c l w.types h at q b k.rule.count at k.text.body typed

  row_not_set : a x ≡ false
  row_not_set = ap a same_row ∙ n.row_not_set

  row_not_left : f x ≡ false
  row_not_left = ap f same_row ∙ n.row_not_left

  nest : AreNest p a (with_name x f) [] n.mark
  nest = subst (λ z. AreNest p a (with_name z f) [] n.mark) (sym same_row) n.nest

  list_left : f xs ≡ true
  list_left = n.list k.rule.count k.rule.is

  list_same : (s u : State) → meanings p world s ≡ Ok (GoesOn u) → at_name u.store xs ≡ at_name s.store xs
  list_same s u e =
      let left = all_left_by p a (with_name x f) [] n.mark nest (apart_end a (with_name x f) (apart_more a f x row_not_set n.apart)) (none_distinct (with_name x f)) world s u (none_have s.store) e in
      sym (left.fixed.by xs (or_right (bytes_eq x xs) (f xs) list_left))

  counter_untouched : all_touch p i ≡ false
  counter_untouched = all_untouched c (Some w.types) inner.before inner.after p i (Of (ScalarOf tys.Long)) inner.typed (inner.seen i (Of (ScalarOf tys.Long)) k.typed.counter) k.text.body.unmentioned

  is_counting : IsCounting world k.text.body.ty i xs x k.rule.count.limit q p
  is_counting =
      record {
        condition = k.condition;
        no_set = k.text.body.no_set;
        row_apart = declared_apart w.types x i (Of (ScalarOf tys.Long)) inner.new k.typed.counter;
        list_apart = declared_apart w.types x xs k.typed.type inner.new k.typed.list;
        counter_apart = counter_is_no_list w.types i xs k.typed;
        leaves = λ s u e. (kept_by world p s u i counter_untouched e, list_same s u e);
        same = all_within_same p (other_than i) world (all_within_other p i k.text.body.unmentioned);
      }

  abbrev places : CountPlaces
  places = record { loop = at; row = k.text.body.places.row; get = k.text.body.places.get; index = k.text.body.places.index; step = k.text.body.places.step; sum = k.text.body.places.sum; counter = k.text.body.places.counter; one = k.text.body.places.one }

  walk_goes_on : (rows : List Row) (z : Passed) → each rows x (meanings p world) t ≡ Ok z → GoneOn a f (over_rows rows x p world) t z
  walk_goes_on rows z e = each_goes_on rows x p a f n.mark row_not_set row_not_left nest n.apart world t z e

  walk_follows : Follows (SameState (other_than i)) (same_ways (other_than i)) (meaning (tree.While at q b) world t) (each (cut k.rule.count.limit k.list.rows) x (meanings p world) t)
  walk_follows =
      let held = held_rows (at_name t.store xs) k.list.rows k.list.are in
      subst (λ z. Follows (SameState (other_than i)) (same_ways (other_than i)) (meaning (tree.While at q z) world t) (each (cut k.rule.count.limit k.list.rows) x (meanings p world) t)) (sym k.text.body.is)
      (counting_follows world k.text.body.ty i xs x k.rule.count.limit q p is_counting places k.list.rows t k.zero.held (record { value = Many k.list.rows; is_set = held.is_set }) k.zero.left k.zero.value held.is refl)

  -- a loop that counts goes on as the walk over the rows that it takes
  counted_goes_on : ((y : List ℕ) → a y ≡ true → other_than i y ≡ true) → ((y : List ℕ) → f y ≡ true → other_than i y ≡ true) → (z : Passed) → meaning (tree.While at q b) world t ≡ Ok z → GoneOn a f (over_rows (cut k.rule.count.limit k.list.rows) n.row p world) t z
  counted_goes_on pa pf z e =
      subst (λ y. GoneOn a f (over_rows (cut k.rule.count.limit k.list.rows) y p world) t z) same_row
      (gone_with a f (over_rows (cut k.rule.count.limit k.list.rows) x p world) i t (each (cut k.rule.count.limit k.list.rows) x (meanings p world) t) (walk_goes_on (cut k.rule.count.limit k.list.rows)) pa pf z
      (subst (λ o. Follows (SameState (other_than i)) (same_ways (other_than i)) o (each (cut k.rule.count.limit k.list.rows) x (meanings p world) t)) e walk_follows))

-- ---- The counter is neither an accumulator nor left

other_name : (y : List ℕ) (loop : Statement) → is_name (counter loop) y ≡ false → (at : Span) (q : Expression) (b : Statements) → loop ≡ tree.While at q b → (k : Counting) → counting q ≡ Some k → other_than k.counter y ≡ true
other_name y loop none at q b is k e =
    let other : bytes_eq y k.counter ≡ false = sym (ap (λ o. is_name (counter_named o) y) e) ∙ (sym (ap (λ z. is_name (counter z) y) is) ∙ none) in
    ap not (swapped y k.counter false other)

accumulator_no_counter : (w : Setting) (y : List ℕ) → set_by_loop w y ≡ true → is_name (counter w.fragment.loop) y ≡ false
accumulator_no_counter w y h =
    let outer : List ℕ → Bool = is_outer w.fragment.visible (declared_in_run w.fragment) (counter w.fragment.loop) in
    false_from_not (is_name (counter w.fragment.loop) y) (and_parts (is_among w.fragment.visible y || is_among (declared_in_run w.fragment) y) (not (is_name (counter w.fragment.loop) y)) (among_filtered outer (updated_in w.fragment.loop) y (sym (among_set (filter outer (updated_in w.fragment.loop)) y) ∙ h)).1).1

left_no_counter : (w : Setting) (y : List ℕ) → left_by_loop w w.types y ≡ true → is_name (counter w.fragment.loop) y ≡ false
left_no_counter w y h = (or_parts (is_among (accumulators w.fragment) y) (is_name (counter w.fragment.loop) y) (false_from_not (is_set_outside w y) (and_parts (is_some (w.types y)) (not (is_set_outside w y)) h).1)).1

-- ---- Any loop of the kernel form

-- the rows of the list of the whole loop
abbrev pub rows_at : Setting → World → List Row
rows_at w world = list_at world.db (slice_get (lists_of w w.sites) 0)

module _ (w : Setting) (there : slice_get w.sites 0 ≡ Some (site_of outside None w.fragment.loop)) (c : Frame) (l : Option Types) (h : Types) (world : World) (t : State) (k : IsEstablished w world t) where
  rows_are : is_loop w.fragment.loop ≡ true → (rows : List Row) → rows ≡ listed world.db (list_of w w.fragment.loop) → rows ≡ rows_at w world
  rows_are loop rows e = e ∙ sym (ap (list_at world.db) (first_list w w.sites (site_of outside None w.fragment.loop) there loop))

  loop_case : (loop : Statement) → Kind w.fragment loop → w.fragment.loop ≡ loop → (n : BodyIsNest w w.types loop) → TypedStatement c l w.types loop h → (z : Passed) → meaning loop world t ≡ Ok z → GoneOn (set_by_loop w) (left_by_loop w w.types) (over_rows (rows_at w world) n.row (kernel_body loop) world) t z
  loop_case _ (walks at ty x e b) is n typed z m =
      let held : HasList w world w.fragment.loop (value_of e world t.store) = k.lists 0 (site_of outside None w.fragment.loop) there at ty x e b is in
      let same : x ≡ n.row = (let i : Some x ≡ Some n.row = n.is_row in cc) in
      let rows : held.rows ≡ rows_at w world = rows_are (ap is_loop is) held.rows (each_rows w world w.fragment.loop at ty x e b held.rows is held.listed) in
      let walk : each held.rows x (meanings b world) t ≡ Ok z = sym (ap (λ o. o >>= λ v. as_rows v >>= λ rs. each rs x (meanings b world) t) held.are) ∙ m in
      subst (λ rs. GoneOn (set_by_loop w) (left_by_loop w w.types) (over_rows rs n.row b world) t z) rows
      (each_goes_on held.rows n.row b (set_by_loop w) (left_by_loop w w.types) n.mark n.row_not_set n.row_not_left n.nest n.apart world t z (ap (λ y. each held.rows y (meanings b world) t) (sym same) ∙ walk))
  loop_case _ (counts at q b j is_counted body zero) is n typed z m =
      let r : CountsRightly w world t at q b = k.counts at q b is in
      let limit : limit_of (counting_in w.fragment.loop) ≡ r.rule.count.limit = ap limit_of (ap counting_in is ∙ r.rule.is) in
      let rows : cut r.rule.count.limit r.list.rows ≡ rows_at w world = rows_are (ap is_loop is) (cut r.rule.count.limit r.list.rows) (ap (λ o. cut o r.list.rows) (sym limit) ∙ r.list.listed.list) in
      subst (λ rs. GoneOn (set_by_loop w) (left_by_loop w w.types) (over_rows rs n.row (without_last (without_first b)) world) t z) rows
      (counted_goes_on w c l h world t at q b r typed n (λ y ay. other_name y w.fragment.loop (accumulator_no_counter w y ay) at q b is r.rule.count r.rule.is) (λ y fy. other_name y w.fragment.loop (left_no_counter w y fy) at q b is r.rule.count r.rule.is) z m)

-- Where the run has passed, the loop goes on, and leaves what the walk over the rows of its list leaves.
pub loop_goes_on : (w : Setting) → w.sites ≡ sites_of w.fragment.loop → Unbroken w → (c : Frame) (l : Option Types) (h : Types) → TypedStatement c l w.types w.fragment.loop h → (n : BodyIsNest w w.types w.fragment.loop) → (world : World) (t : State) → IsEstablished w world t → (z : Passed) → meaning w.fragment.loop world t ≡ Ok z → GoneOn (set_by_loop w) (left_by_loop w w.types) (over_rows (rows_at w world) n.row (kernel_body w.fragment.loop) world) t z
loop_goes_on w e u c l h typed n world t k z m =
    loop_case w (subst (λ xs. slice_get xs 0 ≡ Some (site_of outside None w.fragment.loop)) (sym e) (loop_first w.fragment.loop)) c l h world t k w.fragment.loop (loop_kind w u) refl n typed z m
