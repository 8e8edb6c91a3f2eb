-- A loop of the kernel form is a nest: its accumulators can be taken one by one.
use Rattle.std.proofs.Common.{◌≡◌, ℕ, Bool, true, false, not, ◌&&◌, ◌||◌, List, [], length, Option, Some, None, refl, sym, ap, ◌∙◌, subst, cond, slice_get, bytes_eq}
use Rattle.std.specs.List.{filter}
use Rattle.std.proofs.lemmas.Bool.{or_parts, and_parts, and_from, not_from_false}
use Rattle.qbs_base.specs.declared.span.Span.{Span}
use Rattle.qbs_base.specs.Values.{Schema}
use Rattle.java_ast.specs.Tree as tree
use Rattle.java_ast.specs.Tree.{Spelled, Expression, Statement, Statements, Nothing, Then}
use Rattle.java_mean.specs.declared.types.JavaType.{JavaType}
use Rattle.java_mean.specs.declared.types.JavaType.TheVariants.{Of, Listed}
use Rattle.java_mean.specs.declared.types.Single.{Single}
use Rattle.java_mean.specs.Types.{Types, with_type, type_spelled, single_spelled, made_of}
use Rattle.java_mean.specs.Typing.{Frame, HasType, get, TypedStatement, TypedStatements, done, next}
use Rattle.java_mean.proofs.Puts.{names_equal}
use Rattle.java_loops.specs.Walks.Effects.{all_set}
use Rattle.java_loops.specs.Walks.Nests.{with_name, Apart, Mark, IsNest, for_each, AreNest}
use Rattle.java_loops.specs.Walks.Reads.{Set, Reads}
use Rattle.loop_text.specs.Statements.Fragment.{Fragment, accumulators, declared_in_run, counter, is_outer, is_name}
use Rattle.loop_text.specs.Kernel.KernelLists.{source_counted, source_past}
use Rattle.loop_text.specs.Kernel.Counting.{Counting, counting}
use Rattle.loop_text.specs.Kernel.KernelLoop.{is_table, is_item, is_while, takes_row, begins, ends}
use Rattle.java_ast.specs.Names as names
use Rattle.java_ast.specs.Names.{updated_in}
use Rattle.java_loops.specs.Kernel.Setting.{Setting}
use Rattle.loop_text.specs.Statements.Setting.{is_found, is_variable}
use Rattle.loop_text.specs.declared.sites.bindings.Binding.TheVariants.{Row, Local, Outer}
use Rattle.loop_text.specs.Sites.Sites.{binding_at, in_loop, outside, kernel_body, sites_of, counted_row, without_first, without_last, before_last, is_some}
use Rattle.java_loops.proofs.Typing.BoundSteps.{bound_next}
use Rattle.java_loops.proofs.Typing.BoundTyping.{swapped, TypedNext, typed_next, over, over_new, typed_each, typed_while, TypedDeclare, typed_declare}
use Rattle.java_loops.proofs.Nested.NestBlocks.{all_breaks_last, loop_place, new_unset}
use Rattle.java_loops.proofs.Nested.NestCounter.{Kind, each, counts, loop_kind, source_outside}
use Rattle.java_loops.proofs.Nested.NestForms.{list_reads}
use Rattle.java_loops.proofs.Nested.NestMarks.{Sound, Marked, mark_for}
use Rattle.java_loops.proofs.Nested.NestNames.{among_filtered}
use Rattle.java_loops.proofs.Nested.NestRules.{Unbroken, listed_at, false_from_not}
use Rattle.java_loops.proofs.Nested.NestSight.{is_set_outside, Sight, Binds, row_sight}
use Rattle.java_loops.proofs.Nested.NestStatements.{row_sets, new_unlisted, each_binds, first_no_break, nests_of}
use Rattle.java_loops.proofs.Nested.NestUpdates.{all_set_updated, updated_accumulates}
use Rattle.java_mean.proofs.Sets.{among_set}
use Rattle.java_loops.proofs.Standing.Standing.{site_of, AllStand}
use Rattle.java_loops.proofs.Standing.StandingKnown.{Known, site_known}
use Rattle.java_loops.proofs.Standing.StandingSites.{body_stands, loop_first}

-- ---- What a loop sets and leaves

abbrev pub set_by_loop : Setting → Set
set_by_loop w = names.is_among (accumulators w.fragment)

-- what is visible at the loop and neither an accumulator nor a counter
abbrev pub left_by_loop : Setting → Types → Set
left_by_loop w g = λ y. is_some (g y) && not (is_set_outside w y)

-- the variable of a for-each, and the one that a loop that counts declares first
abbrev pub row_of : Statement → Option (List ℕ)
row_of (tree.ForEach at ty x e b) = Some x
row_of (tree.While at c b) = counted_row b
row_of _ = None

-- the list of a loop reads only variables of the set
abbrev pub ReadsList : Set → Statement → Type 0
ReadsList f (tree.ForEach at ty x e b) = Reads f e
ReadsList f (tree.While at c b) = (k : Counting) → counting c ≡ Some k → f k.list ≡ true
ReadsList f _ = ⊥

-- The body of a loop is a nest that sets the accumulators and leaves all else that is visible at the loop.
pub record BodyIsNest (w : Setting) (g : Types) (loop : Statement) : Type 0 where
  pub row : List ℕ
  pub mark : Option Mark
  pub is_row : row_of loop ≡ Some row
  pub nest : AreNest (kernel_body loop) (set_by_loop w) (with_name row (left_by_loop w g)) [] mark
  pub row_not_set : set_by_loop w row ≡ false
  pub row_not_left : left_by_loop w g row ≡ false
  pub apart : Apart (set_by_loop w) (left_by_loop w g)
  pub list : ReadsList (left_by_loop w g) loop

-- the visible variables of the fragment are those of the types
pub record SeesFragment (f : Fragment) (g : Types) : Type 0 where
  pub by : (y : List ℕ) → is_some (g y) ≡ (names.is_among f.visible y || names.is_among (declared_in_run f) y)

-- ---- At the loop

loop_there : (w : Setting) → w.sites ≡ sites_of w.fragment.loop → slice_get w.sites 0 ≡ Some (site_of outside None w.fragment.loop)
loop_there w e = subst (λ xs. slice_get xs 0 ≡ Some (site_of outside None w.fragment.loop)) (sym e) (loop_first w.fragment.loop)

pub sound : (w : Setting) → w.sites ≡ sites_of w.fragment.loop → Unbroken w → Sound w
sound w e u =
    record {
      unbroken = u;
      known = λ n s there. subst (λ xs. Known xs n s) (sym e) (site_known w.fragment.loop n s (subst (λ xs. slice_get xs n ≡ Some s) e there));
      first = site_of outside None w.fragment.loop;
      first_there = loop_there w e;
      first_flat = refl;
    }

pub accumulator_seen : (f : Fragment) (g : Types) → SeesFragment f g → (y : List ℕ) → names.is_among (accumulators f) y ≡ true → is_some (g y) ≡ true
accumulator_seen f g v y h =
    let outer : List ℕ → Bool = is_outer f.visible (declared_in_run f) (counter f.loop) in
    v.by y ∙ (and_parts (names.is_among f.visible y || names.is_among (declared_in_run f) y) (not (is_name (counter f.loop) y)) (among_filtered outer (updated_in f.loop) y (sym (among_set (filter outer (updated_in f.loop)) y) ∙ h)).1).0

apart_at : (w : Setting) (g : Types) → Apart (set_by_loop w) (left_by_loop w g)
apart_at w g = record { by = λ y h. (or_parts (names.is_among (accumulators w.fragment) y) (is_name (counter w.fragment.loop) y) (false_from_not (is_set_outside w y) (and_parts (is_some (g y)) (not (is_set_outside w y)) h).1)).0 }

pub left_from : (w : Setting) (g : Types) (y : List ℕ) (k : JavaType) → g y ≡ Some k → is_set_outside w y ≡ false → left_by_loop w g y ≡ true
left_from w g y k i steady = and_from (is_some (g y)) (not (is_set_outside w y)) (ap is_some i) (not_from_false (is_set_outside w y) steady)

loop_sight : (w : Setting) (g : Types) → SeesFragment w.fragment g → Sight w 0 1 g (set_by_loop w) (left_by_loop w g)
loop_sight w g v =
    record {
      known = λ y h. accumulator_seen w.fragment g v y h;
      seen_fixed = λ y h. (and_parts (is_some (g y)) (not (is_set_outside w y)) h).0;
      rows = λ y k j i b. absurd (not_row j b);
      outer = λ y k i b steady. left_from w g y k i steady;
      flags = λ y k d t i b there. absurd (not_local d b);
      lists = λ y k e i h. refl;
    }
  where
    not_row : (j : ℕ) → Outer ≡ Row j → ⊥
    not_row j b = absurd cc

    not_local : (d : ℕ) → Outer ≡ Local d → ⊥
    not_local d b = absurd cc

-- ---- A for-each

module _ (w : Setting) (u : Sound w) (c : Frame) (g : Types) (v : SeesFragment w.fragment g) where
  each_case : (at : Span) (ty : Spelled) (x : List ℕ) (e : Expression) (b : Statements) (o : ℕ) → slice_get w.sites 0 ≡ Some (site_of outside None (tree.ForEach at ty x e b)) → AllStand w.sites (in_loop outside 0) None b 1 o → (l : Option Types) (h : Types) → TypedStatement c l g (tree.ForEach at ty x e b) h → all_breaks_last b ≡ true → ((y : List ℕ) (k : JavaType) → g y ≡ Some k → all_set b y ≡ true → set_by_loop w y ≡ true) → BodyIsNest w g (tree.ForEach at ty x e b)
  each_case at ty x e b o here all l h t last sets_it =
      elim (typed_each c l g h at ty x e b t) [
        | over z j k new typed has body ↦
            let a : Set = set_by_loop w in
            let f : Set = left_by_loop w g in
            let inner : Types = with_type x (Some (Of k)) g in
            let i : Marked w (in_loop outside 0) = mark_for w u (in_loop outside 0) 0 refl in
            let q = new_unset w 0 1 g a f x (loop_sight w g v) new in
            let binds : Binds w 0 1 x (Row 0) = each_binds w outside None at ty x e b 0 here in
            record {
              row = x;
              mark = i.mark;
              is_row = refl;
              nest = nests_of w u c (in_loop outside 0) None b 1 o all (Some inner) inner z body a (with_name x f) [] i.mark (row_sight w 0 1 outside g a f x k binds (loop_sight w g v)) (row_sets w u c (in_loop outside 0) b 0 1 o all (Some inner) g z x k a body binds sets_it) (loop_place outside 0 (record { by = tt })) i.fits last (first_no_break w u c b (in_loop outside 0) 1 o i.mark all i.fits);
              row_not_set = q.0;
              row_not_left = q.1;
              apart = apart_at w g;
              list = list_reads w u.unbroken c 0 1 g a f (loop_sight w g v) outside None at ty x e b j k here typed has;
            }
        | over_new z j new is body ↦ absurd (new_unlisted w e is (listed_at w u.unbroken 0 (site_of outside None (tree.ForEach at ty x e b)) here refl))
      ]

-- ---- A loop that counts

record SomeSingle (k : JavaType) : Type 0 where
  single : Single
  is : k ≡ Of single

made_single : (o : Option Single) (k : JavaType) → made_of Of o ≡ Some k → SomeSingle k
made_single (Some j) k h = let e : Of j ≡ k = cc in record { single = j; is = sym e }
made_single None k h = absurd cc

table_single : (schema : Schema) (ty : Spelled) (k : JavaType) → is_table ty ≡ true → type_spelled schema ty ≡ Some k → SomeSingle k
table_single schema tree.Int k h e = absurd cc
table_single schema tree.Long k h e = absurd cc
table_single schema tree.Boolean k h e = absurd cc
table_single schema tree.String k h e = absurd cc
table_single schema tree.BoxedInteger k h e = absurd cc
table_single schema tree.BoxedLong k h e = absurd cc
table_single schema tree.BoxedBoolean k h e = absurd cc
table_single schema (tree.Table x) k h e = made_single (single_spelled schema (tree.Table x)) k e
table_single schema (tree.ListOf x) k h e = absurd cc
table_single schema (tree.SetOf x) k h e = absurd cc

record TypedPart (c : Frame) (l : Option Types) (g : Types) (p : Statements) : Type 0 where
  last : Types
  typed : TypedStatements c l g p last

typed_before : (c : Frame) (l : Option Types) (g z : Types) (s : Statement) (p : Statements) → TypedStatements c l g (Then s p) z → TypedPart c l g (before_last s p)
typed_before c l g z s Nothing t = record { last = g; typed = done l g }
typed_before c l g z s (Then q p) t =
    let k : TypedNext c l g s (Then q p) = typed_next c l g z s (Then q p) t in
    let r : TypedPart c l k.middle (before_last q p) = typed_before c l k.middle k.last q p k.rest in
    record { last = r.last; typed = next l g k.middle r.last s (before_last q p) k.first r.typed }

typed_without_last : (c : Frame) (l : Option Types) (g z : Types) (p : Statements) → TypedStatements c l g p z → TypedPart c l g (without_last p)
typed_without_last c l g z Nothing t = record { last = z; typed = t }
typed_without_last c l g z (Then s p) t = typed_before c l g z s p t

record Listed_in (g : Types) (x : List ℕ) : Type 0 where
  type : JavaType
  is : g x ≡ Some type

typed_get : (c : Frame) (g : Types) (at : Span) (x : List ℕ) (e : Expression) (k : JavaType) → HasType c g (tree.Get at x e) k → Listed_in g x
typed_get c g _ _ _ _ (get at x e a i t) = record { type = Listed a; is = i }

item_seen : (c : Frame) (g : Types) (k : Counting) (e : Expression) (j : JavaType) → HasType c g e j → is_item k e ≡ true → Listed_in g k.list
item_seen c g k (tree.Lit at x) j t h = absurd cc
item_seen c g k (tree.Var at x) j t h = absurd cc
item_seen c g k (tree.Field at e f) j t h = absurd cc
item_seen c g k (tree.Binary at op a b) j t h = absurd cc
item_seen c g k (tree.Not at e) j t h = absurd cc
item_seen c g k (tree.Equals at a b) j t h = absurd cc
item_seen c g k (tree.Size at x) j t h = absurd cc
item_seen c g k (tree.Get at x e) j t h = subst (λ z. Listed_in g z) (names_equal x k.list (and_parts (bytes_eq x k.list) (is_variable k.counter e) h).0) (typed_get c g at x e j t)
item_seen c g k (tree.Contains at x e) j t h = absurd cc
item_seen c g k (tree.Fetch at x) j t h = absurd cc
item_seen c g k (tree.Query at ty text es) j t h = absurd cc
item_seen c g k (tree.QueryLong at text es) j t h = absurd cc
item_seen c g k (tree.QueryBoolean at text es) j t h = absurd cc
item_seen c g k (tree.NewList at) j t h = absurd cc
item_seen c g k (tree.NewSet at) j t h = absurd cc
item_seen c g k (tree.NewSetOf at e) j t h = absurd cc

module _ (w : Setting) (u : Sound w) (c : Frame) (g : Types) (v : SeesFragment w.fragment g) where
  counted_binds : (at at' : Span) (q : Expression) (ty : Spelled) (x : List ℕ) (e : Expression) (p : Statements) → slice_get w.sites 0 ≡ Some (site_of outside None (tree.While at q (Then (tree.Declare at' ty x e) p))) → Binds w 0 1 x (Row 0)
  counted_binds at at' q ty x e p here =
      record { by = λ y. bound_next w.sites 0 (site_of outside None (tree.While at q (Then (tree.Declare at' ty x e) p))) y here ∙ ap (λ b. cond b (Row 0) (binding_at w.sites 0 y)) (swapped x y (bytes_eq x y) refl) }

  list_left : (at : Span) (q : Expression) (b : Statements) (k : Counting) (e : Expression) (j : JavaType) → slice_get w.sites 0 ≡ Some (site_of outside None (tree.While at q b)) → counting q ≡ Some k → HasType c g e j → is_item k e ≡ true → left_by_loop w g k.list ≡ true
  list_left at q b k e j here is t item =
      let seen : Listed_in g k.list = item_seen c g k e j t item in
      let found : is_found (source_past k.list None w.fragment.run) ≡ true = ap (λ o. is_found (source_counted w.fragment.run o)) (sym is) ∙ listed_at w u.unbroken 0 (site_of outside None (tree.While at q b)) here refl in
      left_from w g k.list seen.type seen.is (source_outside w u.unbroken at k.list found)

  counted_case : (at at' : Span) (q : Expression) (ty : Spelled) (x : List ℕ) (e : Expression) (p : Statements) (k : Counting) (o : ℕ) → slice_get w.sites 0 ≡ Some (site_of outside None (tree.While at q (Then (tree.Declare at' ty x e) p))) → AllStand w.sites (in_loop outside 0) None (without_last p) 1 o → (l : Option Types) (h : Types) → TypedStatement c l g (tree.While at q (Then (tree.Declare at' ty x e) p)) h → all_breaks_last (without_last p) ≡ true → ((y : List ℕ) (j : JavaType) → g y ≡ Some j → all_set (without_last p) y ≡ true → set_by_loop w y ≡ true) → counting q ≡ Some k → takes_row k (tree.Declare at' ty x e) ≡ true → BodyIsNest w g (tree.While at q (Then (tree.Declare at' ty x e) p))
  counted_case at at' q ty x e p k o here all l h t last sets_it is takes =
      let d : Statement = tree.Declare at' ty x e in
      let a : Set = set_by_loop w in
      let f : Set = left_by_loop w g in
      let two = and_parts (is_table ty) (is_item k e) takes in
      let body = typed_while c l g h at q (Then d p) t in
      let parts : TypedNext c (Some g) g d p = typed_next c (Some g) g body.branch.last d p body.branch.body in
      let declared : TypedDeclare c g parts.middle ty x e = typed_declare c (Some g) g at' ty x e parts.middle parts.first in
      let one : SomeSingle declared.type = table_single c.schema ty declared.type two.0 declared.spelled in
      let after : parts.middle ≡ with_type x (Some (Of one.single)) g = declared.after ∙ ap (λ z. with_type x (Some z) g) one.is in
      let rest : TypedPart c (Some g) (with_type x (Some (Of one.single)) g) (without_last p) = typed_without_last c (Some g) (with_type x (Some (Of one.single)) g) parts.last p (subst (λ z. TypedStatements c (Some g) z p parts.last) after parts.rest) in
      let binds : Binds w 0 1 x (Row 0) = counted_binds at at' q ty x e p here in
      let i : Marked w (in_loop outside 0) = mark_for w u (in_loop outside 0) 0 refl in
      let new = new_unset w 0 1 g a f x (loop_sight w g v) declared.new in
      record {
        row = x;
        mark = i.mark;
        is_row = refl;
        nest = nests_of w u c (in_loop outside 0) None (without_last p) 1 o all (Some g) (with_type x (Some (Of one.single)) g) rest.last rest.typed a (with_name x f) [] i.mark (row_sight w 0 1 outside g a f x one.single binds (loop_sight w g v)) (row_sets w u c (in_loop outside 0) (without_last p) 0 1 o all (Some g) g rest.last x one.single a rest.typed binds sets_it) (loop_place outside 0 (record { by = tt })) i.fits last (first_no_break w u c (without_last p) (in_loop outside 0) 1 o i.mark all i.fits);
        row_not_set = new.0;
        row_not_left = new.1;
        apart = apart_at w g;
        list = λ j same. list_left at q (Then d p) j e declared.type here same declared.value (let equal : k ≡ j = cc in subst (λ z. is_item z e ≡ true) equal two.1);
      }

  while_case : (at : Span) (q : Expression) (b : Statements) (k : Counting) (o : ℕ) → slice_get w.sites 0 ≡ Some (site_of outside None (tree.While at q b)) → AllStand w.sites (in_loop outside 0) None (without_last (without_first b)) 1 o → (l : Option Types) (h : Types) → TypedStatement c l g (tree.While at q b) h → all_breaks_last (without_last (without_first b)) ≡ true → ((y : List ℕ) (j : JavaType) → g y ≡ Some j → all_set (without_last (without_first b)) y ≡ true → set_by_loop w y ≡ true) → counting q ≡ Some k → begins k b ≡ true → BodyIsNest w g (tree.While at q b)
  while_case at q Nothing k o here all l h t last sets_it is first = absurd cc
  while_case at q (Then (tree.Declare at' ty x e) p) k o here all l h t last sets_it is first = counted_case at at' q ty x e p k o here all l h t last sets_it is first
  while_case at q (Then (tree.Assign at' x e) p) k o here all l h t last sets_it is first = absurd cc
  while_case at q (Then (tree.Add at' x e) p) k o here all l h t last sets_it is first = absurd cc
  while_case at q (Then (tree.Sort at' x keys downs) p) k o here all l h t last sets_it is first = absurd cc
  while_case at q (Then (tree.If at' e r) p) k o here all l h t last sets_it is first = absurd cc
  while_case at q (Then (tree.IfElse at' e r s) p) k o here all l h t last sets_it is first = absurd cc
  while_case at q (Then (tree.ForEach at' ty x e r) p) k o here all l h t last sets_it is first = absurd cc
  while_case at q (Then (tree.While at' e r) p) k o here all l h t last sets_it is first = absurd cc
  while_case at q (Then (tree.Print at' e) p) k o here all l h t last sets_it is first = absurd cc
  while_case at q (Then (tree.Return at' e) p) k o here all l h t last sets_it is first = absurd cc
  while_case at q (Then (tree.Break at') p) k o here all l h t last sets_it is first = absurd cc

  -- ---- Any loop of the kernel form

  loop_case : (s : Statement) → Kind w.fragment s → (o : ℕ) → slice_get w.sites 0 ≡ Some (site_of outside None s) → AllStand w.sites (in_loop outside 0) None (kernel_body s) 1 o → (l : Option Types) (h : Types) → TypedStatement c l g s h → all_breaks_last (kernel_body s) ≡ true → ((y : List ℕ) (j : JavaType) → g y ≡ Some j → all_set (kernel_body s) y ≡ true → set_by_loop w y ≡ true) → BodyIsNest w g s
  loop_case _ (each at ty x e b) o here all l h t last sets_it = each_case w u c g v at ty x e b o here all l h t last sets_it
  loop_case _ (counts at q b k is i z) o here all l h t last sets_it =
      while_case at q b k o here all l h t last sets_it is (and_parts (begins k b) (ends k (without_first b) && not (names.is_among (names.mentioned_among (without_last (without_first b))) k.counter)) i).0

-- Where no rule is broken, the body of the loop is a nest that sets the accumulators, one by one, and leaves all
-- else that is visible at the loop.
pub body_is_nest : (w : Setting) → w.sites ≡ sites_of w.fragment.loop → Unbroken w → (c : Frame) (l : Option Types) (g h : Types) → SeesFragment w.fragment g → TypedStatement c l g w.fragment.loop h → all_breaks_last (kernel_body w.fragment.loop) ≡ true → BodyIsNest w g w.fragment.loop
body_is_nest w e broken c l g h v t last =
    let u : Sound w = sound w e broken in
    let all : AllStand w.sites (in_loop outside 0) None (kernel_body w.fragment.loop) 1 (length (sites_of w.fragment.loop)) = subst (λ xs. AllStand xs (in_loop outside 0) None (kernel_body w.fragment.loop) 1 (length (sites_of w.fragment.loop))) (sym e) (body_stands w.fragment.loop) in
    loop_case w u c g v w.fragment.loop (loop_kind w broken) (length (sites_of w.fragment.loop)) (loop_there w e) all l h t last
    (λ y k i set. updated_accumulates w.fragment (loop_kind w broken) y (sym (v.by y) ∙ ap is_some i) (all_set_updated w broken y (in_loop outside 0) None (kernel_body w.fragment.loop) 1 (length (sites_of w.fragment.loop)) all set))

each_is_nest : (w : Setting) (g : Types) (at : Span) (ty : Spelled) (x : List ℕ) (e : Expression) (b : Statements) → BodyIsNest w g (tree.ForEach at ty x e b) → IsNest (tree.ForEach at ty x e b) (set_by_loop w) (left_by_loop w g) None
each_is_nest w g at ty x e b n =
    let same : x ≡ n.row = cc in
    for_each (set_by_loop w) (left_by_loop w g) None n.mark at ty x e b (ap (set_by_loop w) same ∙ n.row_not_set) (ap (left_by_loop w g) same ∙ n.row_not_left) n.list tt (subst (λ z. AreNest b (set_by_loop w) (with_name z (left_by_loop w g)) [] n.mark) (sym same) n.nest)

-- the loop as one statement, where it doesn't count
pub loop_is_nest : (w : Setting) (g : Types) (loop : Statement) → is_while loop ≡ false → BodyIsNest w g loop → IsNest loop (set_by_loop w) (left_by_loop w g) None
loop_is_nest w g (tree.Declare at ty x e) h n = absurd n.list
loop_is_nest w g (tree.Assign at x e) h n = absurd n.list
loop_is_nest w g (tree.Add at x e) h n = absurd n.list
loop_is_nest w g (tree.Sort at x keys downs) h n = absurd n.list
loop_is_nest w g (tree.If at c p) h n = absurd n.list
loop_is_nest w g (tree.IfElse at c p q) h n = absurd n.list
loop_is_nest w g (tree.ForEach at ty x e b) h n = each_is_nest w g at ty x e b n
loop_is_nest w g (tree.While at c b) h n = absurd cc
loop_is_nest w g (tree.Print at e) h n = absurd n.list
loop_is_nest w g (tree.Return at e) h n = absurd n.list
loop_is_nest w g (tree.Break at) h n = absurd n.list
