-- The statements of a block of a nest, one by one.
use Rattle.std.proofs.Common.{◌≡◌, ℕ, suc, ◌+◌, ◌<◌, ◌≤◌, Bool, true, false, ◌&&◌, ◌||◌, List, [], ◌∷◌, length, Option, Some, None, refl, sym, ap, ◌∙◌, subst, cond, slice_get, bytes_eq, arith, ◌⊎◌, inr, ⊎_elim, length-append}
use Rattle.std.proofs.lemmas.Bool.{cases_Bool, or_left, or_right, and_parts, and_from, false_from_ne_true}
use Rattle.qbs_base.specs.declared.span.Span.{Span}
use Rattle.qbs_base.specs.declared.scalar.Scalar.{Scalar}
use Rattle.qbs_base.specs.declared.scalar.Ty.TheVariants as tys
use Rattle.qbs_base.specs.Values.{Schema}
use Rattle.qbs_base.proofs.Order.{all_more}
use Rattle.java_ast.specs.Tree as tree
use Rattle.java_ast.specs.Tree.{Spelled, Expression, Statement, Statements, Nothing, Then}
use Rattle.java_mean.specs.declared.types.JavaType.{JavaType}
use Rattle.java_mean.specs.declared.types.JavaType.TheVariants.{Of}
use Rattle.java_mean.specs.declared.types.Single.TheVariants.{ScalarOf}
use Rattle.java_mean.specs.Places.{is_nothing}
use Rattle.java_mean.specs.Types.{Types, with_type, type_spelled}
use Rattle.java_mean.specs.Typing.{Frame, TypedStatement, declare as declare_typed, assign as assign_typed, add as add_typed, sort, when as when_typed, choose as choose_typed, for_each as each_typed, for_each_new, while_true, print, return_none, return_value, leave as leave_typed}
use Rattle.java_mean.proofs.Members.{all_added}
use Rattle.java_mean.proofs.Puts.{name_same}
use Rattle.java_loops.specs.Walks.Effects.{sets, all_set}
use Rattle.java_loops.specs.Walks.Nests.{is_among, set_here, accumulators_here, fixed_here, Mark, IsNest, AreNest, declare, leave, next}
use Rattle.java_loops.specs.Walks.Reads.{Set}
use Rattle.loop_text.specs.Kernel.KernelStatements.{is_truth_literal, is_boolean, is_declaration, is_break}
use Rattle.loop_text.specs.Statements.Loops.{is_loop}
use Rattle.java_loops.specs.Kernel.Setting.{Setting}
use Rattle.loop_text.specs.declared.sites.bindings.Binding.TheVariants.{Local}
use Rattle.loop_text.specs.Sites.Sites.{Test, Round, Site, in_loop, in_branch, is_some}
use Rattle.java_loops.proofs.Typing.BoundSteps.{bound_next, bound_past}
use Rattle.java_loops.proofs.Typing.BoundTyping.{TypedDeclare, typed_declare, typed_assign}
use Rattle.java_loops.proofs.Nested.NestMarks.{Sound, IsMark, MarkBreak, MarkFits}
use Rattle.java_loops.proofs.Nested.NestRules.{allowed_at, loop_sets}
use Rattle.java_loops.proofs.Nested.NestSight.{Sight, inner_level, Own, BlockSight, Kept, Binds, SetsOwn, next_sight, declared_sight, here_sight}
use Rattle.java_loops.proofs.Standing.Standing.{site_of, Stands, AllStand, single, when, choose, walks, repeats, next as next_statement}
use Rattle.java_loops.proofs.Standing.StandingKnown.{Ended, ended}
use Rattle.java_loops.proofs.Standing.StandingWithin.{under_self, test_of, Leveled}

-- ---- Each `break` is the last statement of its block

abbrev pub ends_there : Bool → Statements → Bool
ends_there true p = is_nothing p
ends_there false p = true

abbrev mutual
  pub breaks_last : Statement → Bool
  breaks_last (tree.Declare at ty x e) = true
  breaks_last (tree.Assign at x e) = true
  breaks_last (tree.Add at x e) = true
  breaks_last (tree.Sort at x keys downs) = true
  breaks_last (tree.If at c p) = all_breaks_last p
  breaks_last (tree.IfElse at c p q) = all_breaks_last p && all_breaks_last q
  breaks_last (tree.ForEach at ty x e p) = all_breaks_last p
  breaks_last (tree.While at c p) = all_breaks_last p
  breaks_last (tree.Print at e) = true
  breaks_last (tree.Return at e) = true
  breaks_last (tree.Break at) = true

  pub all_breaks_last : Statements → Bool
  all_breaks_last Nothing = true
  all_breaks_last (Then s p) = breaks_last s && (ends_there (is_break s) p && all_breaks_last p)

abbrev pub starts_break : Statements → Bool
starts_break Nothing = false
starts_break (Then s p) = is_break s

-- ---- Places

-- where a place stands: in a loop at least, under `if`s with no more loops round them
pub record Place (r : Round) : Type 0 where
  pub leveled : Leveled r
  pub deep : 0 < length r.loops

pub branch_place : (r : Round) (n : ℕ) (c : Expression) (holds : Bool) → Place r → Place (in_branch r n c holds)
branch_place r n c holds p = record { leveled = record { by = all_added (λ (t : Test). t.level ≤ length r.loops) r.tests (test_of r n c holds) p.leveled.by (omega arith) }; deep = p.deep }

loops_more : (r : Round) (n : ℕ) → length (in_loop r n).loops ≡ suc (length r.loops)
loops_more r n = length-append r.loops (n ∷ []) ∙ (let e : length r.loops + 1 ≡ suc (length r.loops) = omega arith in e)

pub loop_place : (r : Round) (n : ℕ) → Leveled r → Place (in_loop r n)
loop_place r n p =
    let e : length (in_loop r n).loops ≡ suc (length r.loops) = loops_more r n in
    record { leveled = record { by = all_more (λ (t : Test). t.level ≤ length r.loops) (λ (t : Test). t.level ≤ length (in_loop r n).loops) (λ t h. omega (arith, e, h)) r.tests p.by }; deep = omega (arith, e) }

-- ---- What statements set

-- what a statement sets of the visible names is of the set
pub record SetsIn (g : Types) (s : Statement) (a : Set) : Type 0 where
  pub by : (y : List ℕ) (k : JavaType) → g y ≡ Some k → sets s y ≡ true → a y ≡ true

-- what the statements of a block set is of the set or a flag of the block
pub record SetsOf (g : Types) (p : Statements) (a : Set) (bs : List (List ℕ)) : Type 0 where
  pub by : (y : List ℕ) (k : JavaType) → g y ≡ Some k → all_set p y ≡ true → (a y ≡ true) ⊎ (is_among bs y ≡ true)

sets_first : (g : Types) (s : Statement) (p : Statements) (a : Set) (bs : List (List ℕ)) → SetsOf g (Then s p) a bs → SetsIn g s (accumulators_here a bs s)
sets_first g s p a bs h =
    record { by = λ y k i e. ⊎_elim (λ m. or_left (a y) (set_here bs s y) m) (λ m. or_right (a y) (set_here bs s y) (and_from (is_among bs y) (sets s y) m e)) (h.by y k i (or_left (sets s y) (all_set p y) e)) }

sets_rest : (g : Types) (s : Statement) (p : Statements) (a : Set) (bs : List (List ℕ)) → SetsOf g (Then s p) a bs → SetsOf g p a bs
sets_rest g s p a bs h = record { by = λ y k i e. h.by y k i (or_right (sets s y) (all_set p y) e) }

more_step : (g : Types) (a : Set) (bs : List (List ℕ)) (b y : List ℕ) (o k : JavaType) (q : Bool) → cond q (Some o) (g y) ≡ Some k → (g y ≡ Some k → (a y ≡ true) ⊎ (is_among bs y ≡ true)) → (a y ≡ true) ⊎ ((q || is_among bs y) ≡ true)
more_step g a bs b y o k true i f = inr refl
more_step g a bs b y o k false i f = f i

sets_declared : (g : Types) (at : Span) (ty : Spelled) (b : List ℕ) (v : Expression) (o : JavaType) (p : Statements) (a : Set) (bs : List (List ℕ)) → SetsOf g (Then (tree.Declare at ty b v) p) a bs → SetsOf (with_type b (Some o) g) p a (b ∷ bs)
sets_declared g at ty b v o p a bs h = record { by = λ y k i e. more_step g a bs b y o k (bytes_eq b y) i (λ j. h.by y k j e) }

-- a statement that is no declaration leaves the same names visible
pub same_after : (c : Frame) (l : Option Types) (g h : Types) (s : Statement) → TypedStatement c l g s h → is_declaration s ≡ false → h ≡ g
same_after c _ _ _ _ (declare_typed l g at ty x e k n q t) d = absurd cc
same_after c _ _ _ _ (assign_typed l g at x e k n t) d = refl
same_after c _ _ _ _ (add_typed l g at x e k a n has t) d = refl
same_after c _ _ _ _ (sort l g at x keys down a n) d = refl
same_after c _ _ _ _ (when_typed l g h at e p t q) d = refl
same_after c _ _ _ _ (choose_typed l g h h' at e p q t r s) d = refl
same_after c _ _ _ _ (each_typed l g h at ty x e p k a n t has q) d = refl
same_after c _ _ _ _ (for_each_new l g h at ty x e p k n s new q) d = refl
same_after c _ _ _ _ (while_true l g h at e p t q) d = refl
same_after c _ _ _ _ (print l g at e ty t) d = refl
same_after c _ _ _ _ (return_none l g at n) d = refl
same_after c _ _ _ _ (return_value l g at e k n t) d = refl
same_after c _ _ _ _ (leave_typed b g at n) d = refl

-- ---- The site behind a statement

begins_with : (sites : List Site) (r : Round) (previous : Option Statement) (s : Statement) (n m : ℕ) → Stands sites r previous s n m → slice_get sites n ≡ Some (site_of r previous s)
begins_with sites _ _ _ _ _ (single r previous s n one get) = get
begins_with sites _ _ _ _ _ (when r previous at q p n m get all) = get
begins_with sites _ _ _ _ _ (choose r previous at q p o n m z get all other) = get
begins_with sites _ _ _ _ _ (walks r previous at ty x q p n m get all) = get
begins_with sites _ _ _ _ _ (repeats r previous at q p n m get all) = get

first_site : (sites : List Site) (r : Round) (previous : Option Statement) (s : Statement) (p : Statements) (n m : ℕ) → AllStand sites r previous (Then s p) n m → slice_get sites n ≡ Some (site_of r previous s)
first_site sites _ _ _ _ _ _ (next_statement r previous s p n m o first rest) = begins_with sites r previous s n m first

record BreakNext (w : Setting) (r : Round) (s : Statement) (p : Statements) (mark : Option Mark) : Type 0 where
  at : Span
  is : p ≡ Then (tree.Break at) Nothing
  before : MarkBreak mark (Some s)

break_found : (w : Setting) (r : Round) (s t : Statement) (q : Statements) (m o : ℕ) (mark : Option Mark) → AllStand w.sites r (Some s) (Then t q) m o → MarkFits w r mark → is_break t ≡ true → MarkBreak mark (Some s)
break_found w r s t q m o mark all fits b = fits.breaks m (site_of r (Some s) t) (first_site w.sites r (Some s) t q m o all) b (under_self r) refl

-- a `break` isn't the first statement of its block
pub unfollowed : (w : Setting) (r : Round) (p : Statements) (n m : ℕ) (mark : Option Mark) → AllStand w.sites r None p n m → MarkFits w r mark → starts_break p ≡ true → ⊥
unfollowed w r Nothing n m mark all fits b = absurd cc
unfollowed w r (Then t q) n m mark all fits b =
    let k : MarkBreak mark None = fits.breaks n (site_of r None t) (first_site w.sites r None t q n m all) b (under_self r) refl in
    let was : None ≡ Some k.statement = k.was in
    absurd cc

break_is : (t : Statement) → is_break t ≡ true → (at : Span) × (t ≡ tree.Break at)
break_is (tree.Declare at ty x e) h = absurd cc
break_is (tree.Assign at x e) h = absurd cc
break_is (tree.Add at x e) h = absurd cc
break_is (tree.Sort at x keys downs) h = absurd cc
break_is (tree.If at c p) h = absurd cc
break_is (tree.IfElse at c p q) h = absurd cc
break_is (tree.ForEach at ty x e p) h = absurd cc
break_is (tree.While at c p) h = absurd cc
break_is (tree.Print at e) h = absurd cc
break_is (tree.Return at e) h = absurd cc
break_is (tree.Break at) h = (at, refl)

nothing_is : (p : Statements) → is_nothing p ≡ true → p ≡ Nothing
nothing_is Nothing h = refl
nothing_is (Then s p) h = absurd cc

ends_step : (b : Bool) (p : Statements) → ends_there b p ≡ true → b ≡ true → p ≡ Nothing
ends_step true p h e = nothing_is p h
ends_step false p h e = absurd cc

-- where a `break` follows a statement, the block ends with that and the statement is the mark
break_next : (w : Setting) (r : Round) (s : Statement) (p : Statements) (m o : ℕ) (mark : Option Mark) → AllStand w.sites r (Some s) p m o → MarkFits w r mark → all_breaks_last p ≡ true → starts_break p ≡ true → BreakNext w r s p mark
break_next w r s Nothing m o mark all fits last b = absurd cc
break_next w r s (Then t q) m o mark all fits last b =
    let one = and_parts (breaks_last t) (ends_there (is_break t) q && all_breaks_last q) last in
    let two = and_parts (ends_there (is_break t) q) (all_breaks_last q) one.1 in
    let is = break_is t b in
    record { at = is.0; is = ap (λ z. Then z q) is.1 ∙ ap (λ z. Then (tree.Break is.0) z) (ends_step (is_break t) q two.0 b); before = break_found w r s t q m o mark all fits b }

-- ---- The mark before a `break`

mark_set : (c : Frame) (l : Option Types) (g h : Types) (s : Statement) (mk : Mark) → TypedStatement c l g s h → IsMark mk s → (type : JavaType) × (g mk.name ≡ Some type) × (sets s mk.name ≡ true)
mark_set c l g h s mk t is =
    let u = typed_assign c l g h is.at mk.name (tree.Lit is.at_literal mk.value) (subst (λ z. TypedStatement c l g z h) is.is t) in
    (u.type, u.seen, ap (λ z. sets z mk.name) is.is ∙ name_same mk.name)

mark_accumulates : (c : Frame) (l : Option Types) (g h : Types) (s : Statement) (p : Statements) (a : Set) (bs : List (List ℕ)) (mk : Mark) → TypedStatement c l g s h → IsMark mk s → SetsOf g (Then s p) a bs → SetsOwn bs s → a mk.name ≡ true
mark_accumulates c l g h s p a bs mk t is sets_of own =
    let k = mark_set c l g h s mk t is in
    ⊎_elim (λ e. e) (λ m. let loop : is_loop s ≡ true = own.by mk.name m k.2 in let no : is_loop s ≡ false = ap is_loop is.is in absurd cc) (sets_of.by mk.name k.0 k.1 (or_left (sets s mk.name) (all_set p mk.name) k.2))

leave_here : (w : Setting) (c : Frame) (r : Round) (l : Option Types) (g h : Types) (s : Statement) (p : Statements) (a f : Set) (bs : List (List ℕ)) (mark : Option Mark) → TypedStatement c l g s h → SetsOf g (Then s p) a bs → SetsOwn bs s → BreakNext w r s p mark → AreNest (Then s p) a f bs mark
leave_here w c r l g h s p a f bs mark t sets_of own b =
    let k = b.before in
    let same : s ≡ k.statement = cc in
    let is : IsMark k.mark s = subst (λ z. IsMark k.mark z) (sym same) k.marks in
    let nest : AreNest (Then (tree.Assign is.at k.mark.name (tree.Lit is.at_literal k.mark.value)) (Then (tree.Break b.at) Nothing)) a f bs (Some k.mark) = leave a f bs is.at is.at_literal b.at k.mark.name k.mark.value (mark_accumulates c l g h s p a bs k.mark t is sets_of own) in
    subst (λ o. AreNest (Then s p) a f bs o) (sym k.is) (subst (λ z. AreNest (Then s z) a f bs (Some k.mark)) (sym b.is) (subst (λ z. AreNest (Then z (Then (tree.Break b.at) Nothing)) a f bs (Some k.mark)) (sym is.is) nest))

-- ---- A statement that declares nothing

own_sets : (w : Setting) → Sound w → (c : Frame) (r : Round) (previous : Option Statement) (s : Statement) (n m : ℕ) → Stands w.sites r previous s n m → Place r → (l : Option Types) (g h : Types) → TypedStatement c l g s h → (a f : Set) (bs : List (List ℕ)) → BlockSight w n r g a f bs → SetsOwn bs s
own_sets w u c r previous s n m stands place l g h t a f bs sight =
    record { by = λ y member e. let o : Own w n r g y = sight.own y member in loop_sets w u.unbroken c r previous s n m stands place.leveled l g h t y o.type o.number o.site o.visible o.bound o.there o.round e }

pub plain_step : (w : Setting) → Sound w → (c : Frame) (r : Round) (previous : Option Statement) (s : Statement) (p : Statements) (n m o : ℕ) → Stands w.sites r previous s n m → AllStand w.sites r (Some s) p m o → Place r → (l : Option Types) (g h : Types) → TypedStatement c l g s h → (a f : Set) (bs : List (List ℕ)) (mark : Option Mark) → BlockSight w n r g a f bs → SetsOf g (Then s p) a bs → MarkFits w r mark → all_breaks_last p ≡ true → is_declaration s ≡ false → (Sight w n (inner_level r s) g (accumulators_here a bs s) (fixed_here f bs s) → SetsIn g s (accumulators_here a bs s) → IsNest s (accumulators_here a bs s) (fixed_here f bs s) mark) → (BlockSight w m r h a f bs → SetsOf h p a bs → starts_break p ≡ false → AreNest p a f bs mark) → AreNest (Then s p) a f bs mark
plain_step w u c r previous s p n m o stands rest place l g h t a f bs mark sight sets_of fits last plain nest_s nests_p =
    let own : SetsOwn bs s = own_sets w u c r previous s n m stands place l g h t a f bs sight in
    let same : h ≡ g = same_after c l g h s t plain in
    let kept : Kept w n m g = record { by = λ y k i. bound_past c w.sites r previous s n m stands l g h t y k i } in
    ⊎_elim
    (λ b. leave_here w c r l g h s p a f bs mark t sets_of own (break_next w r s p m o mark rest fits last b))
    (λ b. next a f bs mark s p (nest_s (here_sight w n r g a f bs s own sight) (sets_first g s p a bs sets_of)) (nests_p (subst (λ z. BlockSight w m r z a f bs) (sym same) (next_sight w n m r g a f bs kept sight)) (subst (λ z. SetsOf z p a bs) (sym same) (sets_rest g s p a bs sets_of)) b))
    (cases_Bool (starts_break p))

-- ---- A declaration

record TruthLiteral (e : Expression) : Type 0 where
  at : Span
  value : Scalar
  is : e ≡ tree.Lit at value

truth_literal : (e : Expression) → is_truth_literal e ≡ true → TruthLiteral e
truth_literal (tree.Lit at x) h = record { at = at; value = x; is = refl }
truth_literal (tree.Var at x) h = absurd cc
truth_literal (tree.Field at e f) h = absurd cc
truth_literal (tree.Binary at op a b) h = absurd cc
truth_literal (tree.Not at e) h = absurd cc
truth_literal (tree.Equals at a b) h = absurd cc
truth_literal (tree.Size at x) h = absurd cc
truth_literal (tree.Get at x e) h = absurd cc
truth_literal (tree.Contains at x e) h = absurd cc
truth_literal (tree.Fetch at t) h = absurd cc
truth_literal (tree.Query at ty text es) h = absurd cc
truth_literal (tree.QueryLong at text es) h = absurd cc
truth_literal (tree.QueryBoolean at text es) h = absurd cc
truth_literal (tree.NewList at) h = absurd cc
truth_literal (tree.NewSet at) h = absurd cc
truth_literal (tree.NewSetOf at e) h = absurd cc

boolean_spelled : (schema : Schema) (ty : Spelled) → is_boolean ty ≡ true → type_spelled schema ty ≡ Some (Of (ScalarOf tys.Bool))
boolean_spelled schema tree.Int h = absurd cc
boolean_spelled schema tree.Long h = absurd cc
boolean_spelled schema tree.Boolean h = refl
boolean_spelled schema tree.String h = absurd cc
boolean_spelled schema tree.BoxedInteger h = absurd cc
boolean_spelled schema tree.BoxedLong h = absurd cc
boolean_spelled schema tree.BoxedBoolean h = absurd cc
boolean_spelled schema (tree.Table x) h = absurd cc
boolean_spelled schema (tree.ListOf e) h = absurd cc
boolean_spelled schema (tree.SetOf e) h = absurd cc

not_visible : (g : Types) (q : Set) (y : List ℕ) → g y ≡ None → (q y ≡ true → is_some (g y) ≡ true) → q y ≡ false
not_visible g q y new h = false_from_ne_true (q y) (λ e. let i : is_some (g y) ≡ true = h e in let j : is_some (g y) ≡ false = ap is_some new in absurd cc)

-- a new name is neither set nor left as it is
pub new_unset : (w : Setting) (n level : ℕ) (g : Types) (a f : Set) (y : List ℕ) → Sight w n level g a f → g y ≡ None → (a y ≡ false) × (f y ≡ false)
new_unset w n level g a f y s new = (not_visible g a y new (s.known y), not_visible g f y new (s.seen_fixed y))

no_break_behind : (w : Setting) (r : Round) (at : Span) (ty : Spelled) (b : List ℕ) (e : Expression) (p : Statements) (m o : ℕ) (mark : Option Mark) → AllStand w.sites r (Some (tree.Declare at ty b e)) p m o → MarkFits w r mark → all_breaks_last p ≡ true → starts_break p ≡ true → ⊥
no_break_behind w r at ty b e p m o mark all fits last starts =
    let k = (break_next w r (tree.Declare at ty b e) p m o mark all fits last starts).before in
    let same : tree.Declare at ty b e ≡ k.statement = cc in
    let is : tree.Declare at ty b e ≡ tree.Assign k.marks.at k.mark.name (tree.Lit k.marks.at_literal k.mark.value) = same ∙ k.marks.is in
    absurd cc

pub declare_step : (w : Setting) → Sound w → (c : Frame) (r : Round) (previous : Option Statement) (at : Span) (ty : Spelled) (b : List ℕ) (e : Expression) (p : Statements) (n m o : ℕ) → Stands w.sites r previous (tree.Declare at ty b e) n m → AllStand w.sites r (Some (tree.Declare at ty b e)) p m o → (l : Option Types) (g h : Types) → TypedStatement c l g (tree.Declare at ty b e) h → (a f : Set) (bs : List (List ℕ)) (mark : Option Mark) → BlockSight w n r g a f bs → SetsOf g (Then (tree.Declare at ty b e) p) a bs → MarkFits w r mark → all_breaks_last p ≡ true → (BlockSight w m r h a f (b ∷ bs) → SetsOf h p a (b ∷ bs) → starts_break p ≡ false → AreNest p a f (b ∷ bs) mark) → AreNest (Then (tree.Declare at ty b e) p) a f bs mark
declare_step w u c r previous at ty b e p n m o stands rest l g h t a f bs mark sight sets_of fits last nests_p =
    let s : Statement = tree.Declare at ty b e in
    let k : Ended w.sites r previous s n m = ended w.sites r previous s n m stands refl in
    let allowed = and_parts (is_boolean ty) (is_truth_literal e) (allowed_at w u.unbroken n (site_of r previous s) k.there) in
    let d : TypedDeclare c g h ty b e = typed_declare c l g at ty b e h t in
    let type : Some d.type ≡ Some (Of (ScalarOf tys.Bool)) = sym d.spelled ∙ boolean_spelled c.schema ty allowed.0 in
    let after : h ≡ with_type b (Some (Of (ScalarOf tys.Bool))) g = d.after ∙ ap (λ z. with_type b z g) type in
    let binds : Binds w n m b (Local n) = subst (λ z. Binds w n z b (Local n)) k.one_more (record { by = λ y. bound_next w.sites n (site_of r previous s) y k.there }) in
    let value : TruthLiteral e = truth_literal e allowed.1 in
    let more : BlockSight w m r h a f (b ∷ bs) = subst (λ z. BlockSight w m r z a f (b ∷ bs)) (sym after) (declared_sight w n m r g a f bs b (ScalarOf tys.Bool) (site_of r previous s) k.there refl d.new binds sight) in
    let nest : AreNest p a f (b ∷ bs) mark = nests_p more (subst (λ z. SetsOf z p a (b ∷ bs)) (sym after) (sets_declared g at ty b e (Of (ScalarOf tys.Bool)) p a bs sets_of)) (false_from_ne_true (starts_break p) (no_break_behind w r at ty b e p m o mark rest fits last)) in
    subst (λ z. AreNest (Then (tree.Declare at ty b z) p) a f bs mark) (sym value.is) (declare a f bs mark at value.at ty b value.value p (not_visible g a b d.new (sight.known b)) (not_visible g f b d.new (sight.seen_fixed b)) nest)
