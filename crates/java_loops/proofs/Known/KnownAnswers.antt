-- What a known list holds at the loop: the scalars that its query answers to the values of its arguments there, in a
-- set each once.
use Rattle.std.proofs.Common.{◌≡◌, ℕ, Bool, true, false, not, ◌||◌, List, [], ◌∷◌, Option, Some, None, Ok, refl, sym, ap, ◌∙◌, subst, cond}
use Rattle.std.specs.Prelude.{map, bytes_eq}
use Rattle.std.specs.List.{AllByRecursion}
use Rattle.std.specs.Option.{option_map}
use Rattle.std.proofs.lemmas.Bool.{and_parts}
use Rattle.qbs_base.specs.declared.scalar.Kind.{Kind}
use Rattle.qbs_base.specs.declared.scalar.Kind.TheVariants as kinds
use Rattle.qbs_base.specs.declared.scalar.Row.{Row}
use Rattle.qbs_base.specs.declared.scalar.Scalar.{Scalar}
use Rattle.qbs_base.specs.declared.scalar.Ty.{Ty}
use Rattle.qbs_base.specs.declared.scalar.Value.{Value}
use Rattle.qbs_base.specs.declared.scalar.Value.TheVariants.{One, Many}
use Rattle.qbs_base.specs.declared.span.Span.{Span}
use Rattle.qbs_base.specs.Named.{at_name}
use Rattle.qbs_base.specs.Values.{Schema, HasTy, AreOf}
use Rattle.sql_ast.specs.declared.tree.FromItem.{FromItem}
use Rattle.sql_ast.specs.declared.tree.SqlCol.{SqlCol}
use Rattle.sql_ast.specs.declared.tree.SqlItem.{SqlItem}
use Rattle.sql_ast.specs.declared.tree.SqlItem.TheVariants as items
use Rattle.sql_ast.specs.Grouped.{firsts}
use Rattle.sql_ast.specs.Tree.{PlainListing, PlainQuery, Listing, Number, Truth}
use Rattle.sql_ast.specs.Typing.{ty_of_col}
use Rattle.java_ast.specs.Tree as tree
use Rattle.java_ast.specs.Tree.{Spelled, Expression, Expressions, Statement, Statements, Nothing, Then, PlainMethod}
use Rattle.java_mean.specs.declared.types.JavaType.{JavaType}
use Rattle.java_mean.specs.declared.types.JavaType.TheVariants.{Listed, Distinct}
use Rattle.java_mean.specs.declared.types.Single.{Single}
use Rattle.java_mean.specs.declared.types.Single.TheVariants.{ScalarOf}
use Rattle.java_mean.specs.Asks.{item_type, element_type, type_of_found, frame_of}
use Rattle.java_mean.specs.Endings.{◌>>=◌}
use Rattle.java_mean.specs.Expression.{value_of, scalars_of, answered, as_rows, same_member, alone}
use Rattle.java_mean.specs.Queries.{Answered, Rows}
use Rattle.java_mean.specs.Queries as answers
use Rattle.java_mean.specs.Refines.{followed_by}
use Rattle.java_mean.specs.Statement.{State, GoesOn, meanings}
use Rattle.java_mean.specs.Store.{Store, Variable}
use Rattle.java_mean.specs.Types.{Types, made_of, IsMember, IsOf, IsTyped}
use Rattle.java_mean.specs.Typing.{Frame, QueryType, IsWorld, Extends, HasType, query, new_set_of, TypedStatement, declare, assign, TypedStatements}
use Rattle.java_mean.specs.World.{World}
use Rattle.java_mean.proofs.Puts.{names_equal, name_same}
use Rattle.java_mean.proofs.Simulates.{Holds}
use Rattle.java_mean.proofs.TypedRuns.{extends_statements}
use Rattle.java_mean.proofs.TypedValues.{typed_value}
use Rattle.java_loops.specs.Walks.Reads.{Set, Reads, AllRead}
use Rattle.java_loops.specs.Walks.Runs.{is_set_in, unset_in, Gives, declares, assigns}
use Rattle.java_loops.proofs.Walks.Given.{given_still}
use Rattle.java_loops.proofs.Walks.Passing.{Went, went, same_ok}
use Rattle.java_loops.proofs.Walks.Visibility.{TypedNext, next_of, TypedParts, typed_parts}
use Rattle.loop_text.specs.Statements.Fragment.{is_simple, are_simple, set_by}
use Rattle.java_loops.specs.Kernel.KernelConditions.{is_scalar_type, is_row_type, is_column_item, is_column_query}
use Rattle.loop_text.specs.Kernel.KernelConditions.{Asked, behind_setting}
use Rattle.java_ast.specs.Names.{is_among, names_among}
use Rattle.java_loops.specs.Kernel.Setting.{Setting}
use Rattle.loop_text.specs.Statements.Setting.{is_found}
use Rattle.java_loops.proofs.Known.KnownLists.{AsksBy, as_list, as_set, IsAskedFor, IsKnownList, unset_names, arguments_single}
use Rattle.java_loops.proofs.Walks.Named.{all_read_named}

-- ---- Types of known lists

scalar_column : (o : Option Ty) (a : Single) → option_map ScalarOf o ≡ Some a → (ty : Ty) × (a ≡ ScalarOf ty)
scalar_column None a h = absurd cc
scalar_column (Some ty) a h = (ty, let l : Some (ScalarOf ty) ≡ Some a = h in cc)

scalar_item : (schema : Schema) (froms : List FromItem) (item : SqlItem) (a : Single) → is_column_item item ≡ true → item_type schema froms item ≡ Some a → (ty : Ty) × (a ≡ ScalarOf ty)
scalar_item schema froms (items.Whole i) a c h = absurd cc
scalar_item schema froms (items.Column col) a c h = scalar_column (ty_of_col schema froms col) a h

scalar_element : (schema : Schema) (q : PlainListing) (group : Option SqlCol) (a : Single) → is_column_item q.item ≡ true → element_type schema q group ≡ Some a → (ty : Ty) × (a ≡ ScalarOf ty)
scalar_element schema q None a c h = scalar_item schema q.from q.item a c h
scalar_element schema q (Some col) a c h = scalar_column (ty_of_col schema q.from col) a h

list_of_scalars : (o : Option Single) (params : List Ty) (t : QueryType) → option_map (λ k. record { params = params; answer = k }) (made_of Listed o) ≡ Some t → ((a : Single) → o ≡ Some a → (ty : Ty) × (a ≡ ScalarOf ty)) → (ty : Ty) × (t.answer ≡ Listed (ScalarOf ty))
list_of_scalars None params t h f = absurd cc
list_of_scalars (Some a) params t h f =
    let k = f a refl in
    let plain : QueryType = record { params = params; answer = Listed a } in
    let same : plain ≡ t = (let l : Some plain ≡ Some t = h in cc) in
    (k.0, sym (ap (λ (z : QueryType). z.answer) same) ∙ ap Listed k.1)

column_query_type : (schema : Schema) (o : Option PlainQuery) (t : QueryType) → is_column_query o ≡ true → type_of_found schema o ≡ Some t → (ty : Ty) × (t.answer ≡ Listed (ScalarOf ty))
column_query_type schema None t c h = absurd cc
column_query_type schema (Some (Listing q)) t c h = list_of_scalars (element_type schema q q.group) q.params t h (λ a e. scalar_element schema q q.group a (and_parts (is_column_item q.item) (not (is_found q.limit)) c).0 e)
column_query_type schema (Some (Number q)) t c h = absurd cc
column_query_type schema (Some (Truth q)) t c h = absurd cc

-- a list, or a set
abbrev pub many_of : Bool → Single → JavaType
many_of true a = Distinct a
many_of false a = Listed a

-- the type of a known list's expression, and of the query in it
record AsksTyped (c : Frame) (g : Types) (a : Asked) (set : Bool) (k : JavaType) : Type 0 where
  ty : Ty
  type : k ≡ many_of set (ScalarOf ty)
  at : Span
  spelled : Spelled
  query : HasType c g (tree.Query at spelled a.text a.arguments) (Listed (ScalarOf ty))

query_typed : (schema : Schema) (read : List ℕ → Option PlainQuery) (m : PlainMethod) (g : Types) (at : Span) (ty : Spelled) (text : List ℕ) (es : Expressions) (k : JavaType) → is_column_query (read text) ≡ true → HasType (frame_of schema read m) g (tree.Query at ty text es) k → (ty : Ty) × (k ≡ Listed (ScalarOf ty))
query_typed schema read m g _ _ _ _ _ c (query at ty text es q e t) = column_query_type schema (read text) q c e

set_typed : (c : Frame) (g : Types) (at : Span) (e : Expression) (k : JavaType) → HasType c g (tree.NewSetOf at e) k → (a : Single) × (k ≡ Distinct a) × HasType c g e (Listed a)
set_typed c g _ _ _ (new_set_of at e a t) = (a, refl, t)

listed_same : (a b : Single) → Listed a ≡ Listed b → a ≡ b
listed_same a b e = cc

asks_typed : (schema : Schema) (read : List ℕ → Option PlainQuery) (m : PlainMethod) (g : Types) (a : Asked) (set : Bool) (e : Expression) (k : JavaType) → AsksBy a set e → is_column_query (read a.text) ≡ true → HasType (frame_of schema read m) g e k → AsksTyped (frame_of schema read m) g a set k
asks_typed schema read m g a _ _ k (as_list at ty) c t =
    let q = query_typed schema read m g at ty a.text a.arguments k c t in
    record { ty = q.0; type = q.1; at = at; spelled = ty; query = subst (HasType (frame_of schema read m) g (tree.Query at ty a.text a.arguments)) q.1 t }
asks_typed schema read m g a _ _ k (as_set at at' ty) c t =
    let s = set_typed (frame_of schema read m) g at (tree.Query at' ty a.text a.arguments) k t in
    let q = query_typed schema read m g at' ty a.text a.arguments (Listed s.0) c s.2 in
    record { ty = q.0; type = s.1 ∙ ap Distinct (listed_same s.0 (ScalarOf q.0) q.1); at = at'; spelled = ty; query = subst (HasType (frame_of schema read m) g (tree.Query at' ty a.text a.arguments)) q.1 s.2 }

-- ---- Types in a run

-- what a statement of a run gives a variable has the variable's type
pub record GivenTyped (c : Frame) (g : Types) (x : List ℕ) (e : Expression) : Type 0 where
  pub before : Types
  pub type : JavaType
  pub extends : Extends g before
  pub value : HasType c before e type
  pub there : g x ≡ Some type

declared_typed : (c : Frame) (l : Option Types) (g : Types) (at : Span) (ty : Spelled) (x : List ℕ) (e : Expression) (h : Types) → TypedStatement c l g (tree.Declare at ty x e) h → (k : JavaType) × HasType c g e k × (h x ≡ Some k)
declared_typed c _ _ _ _ _ _ _ (declare l g at ty x e k n q t) = (k, t, ap (λ b. cond b (Some k) (g x)) (name_same x))

assigned_typed : (c : Frame) (l : Option Types) (g h : Types) (at : Span) (x : List ℕ) (e : Expression) → TypedStatement c l g (tree.Assign at x e) h → (k : JavaType) × HasType c g e k × (h x ≡ Some k)
assigned_typed c _ _ _ _ _ _ (assign l g at x e k n t) = (k, t, n)

here_typed : (c : Frame) (l : Option Types) (g h : Types) (a : Statement) (x : List ℕ) (e : Expression) → Gives a x e → TypedStatement c l g a h → (k : JavaType) × HasType c g e k × (h x ≡ Some k)
here_typed c l g h _ _ _ (declares at ty x e) t = declared_typed c l g at ty x e h t
here_typed c l g h _ _ _ (assigns at x e) t = assigned_typed c l g h at x e t

pub given_typed : (c : Frame) (l : Option Types) (start g : Types) (before : Statements) (a : Statement) (after : Statements) (x : List ℕ) (e : Expression) → Gives a x e → TypedStatements c l start (followed_by before (Then a after)) g → GivenTyped c g x e
given_typed c l start g before a after x e gives t =
    let p : TypedParts c l start before (Then a after) g = typed_parts c l start before (Then a after) g t in
    let n : TypedNext c l p.middle a after g = next_of c l p.middle a after g p.second in
    let k = here_typed c l p.middle n.middle a x e gives n.first in
    let rest : Extends g n.middle = extends_statements c l n.middle g after n.rest in
    let whole : Extends g p.middle = extends_statements c l p.middle g (Then a after) p.second in
    record { before = p.middle; type = k.0; extends = whole; value = k.1; there = rest x k.0 k.2 }

-- ---- Values

-- the rows of a list or, each once, of a set
abbrev pub kept_once : Bool → List Row → List Row
kept_once true rows = firsts same_member rows
kept_once false rows = rows

alone_is : (ty : Ty) (kind : Kind) (cells : List Scalar) → kind ≡ kinds.Plain → AreOf (ty ∷ []) cells → (x : Scalar) × (record { kind = kind; cells = cells } ≡ alone x) × HasTy ty x
alone_is ty kind [] e h = absurd h
alone_is ty kind (x ∷ []) e h = (x, ap (λ (z : Kind). record { kind = z; cells = x ∷ [] }) e, h.0)
alone_is ty kind (x ∷ y ∷ xs) e h = absurd h.1

pub scalars_are : (schema : Schema) (ty : Ty) (rows : List Row) → AllByRecursion (IsMember schema (ScalarOf ty)) rows → (xs : List Scalar) × (rows ≡ map alone xs) × AllByRecursion (HasTy ty) xs
scalars_are schema ty [] h = ([], refl, tt)
scalars_are schema ty (row ∷ rows) h =
    let k = alone_is ty row.kind row.cells h.0.0 h.0.1 in
    let r = scalars_are schema ty rows h.1 in
    (k.0 ∷ r.0, ap (λ z. z ∷ rows) k.1 ∙ ap (λ zs. alone k.0 ∷ zs) r.1, (k.2, r.2))

record AnsweredRows (o : Option Answered) (v : Value) : Type 0 where
  rows : List Row
  answer : o ≡ Some (Rows rows)
  is : v ≡ Many rows

rows_answered : (schema : Schema) (a : Single) (at : Span) (o : Option Answered) (v : Value) → answered at o ≡ Ok v → IsOf schema (Listed a) v → AnsweredRows o v
rows_answered schema a at (Some (answers.Rows rows)) v h t = record { rows = rows; answer = refl; is = same_ok (Ok v) v (Many rows) refl (sym h) }
rows_answered schema a at (Some (answers.One x)) v h t = absurd (subst (IsOf schema (Listed a)) (same_ok (Ok v) v (One x) refl (sym h)) t)
rows_answered schema a at (Some answers.TooLarge) v h t = absurd cc
rows_answered schema a at None v h t = absurd cc

-- The query with these arguments answers scalars of the type.
pub record HasAnswer (world : World) (store : Store) (a : Asked) (ty : Ty) : Type 0 where
  pub arguments : List Scalar
  pub are : scalars_of a.arguments world store ≡ Ok arguments
  pub scalars : List Scalar
  pub answer : world.ask a.text arguments ≡ Some (Rows (map alone scalars))
  pub typed : AllByRecursion (HasTy ty) scalars

answered_so : (schema : Schema) (world : World) (store : Store) (at : Span) (a : Asked) (ty : Ty) (v : Value) (k : Went (scalars_of a.arguments world store) (λ xs. answered at (world.ask a.text xs)) v) → IsOf schema (Listed (ScalarOf ty)) v → (h : HasAnswer world store a ty) × (v ≡ Many (map alone h.scalars))
answered_so schema world store at a ty v k t =
    let r : AnsweredRows (world.ask a.text k.value) v = rows_answered schema (ScalarOf ty) at (world.ask a.text k.value) v k.rest t in
    let s = scalars_are schema ty r.rows (subst (IsOf schema (Listed (ScalarOf ty))) r.is t) in
    (record { arguments = k.value; are = k.first; scalars = s.0; answer = r.answer ∙ ap (λ z. Some (Rows z)) s.1; typed = s.2 }, r.is ∙ ap (λ z. Many z) s.1)

query_answers : (c : Frame) (g : Types) (world : World) (store : Store) (at : Span) (spelled : Spelled) (a : Asked) (ty : Ty) (v : Value) → IsWorld c world → IsTyped c.schema g store → HasType c g (tree.Query at spelled a.text a.arguments) (Listed (ScalarOf ty)) → value_of (tree.Query at spelled a.text a.arguments) world store ≡ Ok v → (h : HasAnswer world store a ty) × (v ≡ Many (map alone h.scalars))
query_answers c g world store at spelled a ty v i typed t e =
    let k : Went (scalars_of a.arguments world store) (λ xs. answered at (world.ask a.text xs)) v = went (scalars_of a.arguments world store) (λ xs. answered at (world.ask a.text xs)) v e in
    let of : IsOf c.schema (Listed (ScalarOf ty)) v = subst (Holds ⊥ (IsOf c.schema (Listed (ScalarOf ty)))) e (typed_value c g (tree.Query at spelled a.text a.arguments) (Listed (ScalarOf ty)) t world store i typed) in
    answered_so c.schema world store at a ty v k of

many_same : (xs ys : List Row) → Many xs ≡ Many ys → xs ≡ ys
many_same xs ys e = cc

set_rows : (v u : Value) (rows : List Row) → v ≡ Many rows → (as_rows v >>= λ rows. Ok (Many (firsts same_member rows))) ≡ Ok u → u ≡ Many (firsts same_member rows)
set_rows v u rows e h =
    let k : Ok (Many (firsts same_member rows)) ≡ Ok u = sym (ap (λ z. as_rows z >>= λ rows. Ok (Many (firsts same_member rows))) e) ∙ h in
    same_ok (Ok u) u (Many (firsts same_member rows)) refl (sym k)

value_answers : (c : Frame) (g : Types) (world : World) (store : Store) (a : Asked) (set : Bool) (e : Expression) (ty : Ty) (v : Value) → AsksBy a set e → IsWorld c world → IsTyped c.schema g store → ((at : Span) (spelled : Spelled) → HasType c g (tree.Query at spelled a.text a.arguments) (Listed (ScalarOf ty))) → value_of e world store ≡ Ok v → (h : HasAnswer world store a ty) × (v ≡ Many (kept_once set (map alone h.scalars)))
value_answers c g world store a _ _ ty v (as_list at spelled) i typed t e = query_answers c g world store at spelled a ty v i typed (t at spelled) e
value_answers c g world store a _ _ ty v (as_set at at' spelled) i typed t e =
    let k : Went (value_of (tree.Query at' spelled a.text a.arguments) world store) (λ u. as_rows u >>= λ rows. Ok (Many (firsts same_member rows))) v = went (value_of (tree.Query at' spelled a.text a.arguments) world store) (λ u. as_rows u >>= λ rows. Ok (Many (firsts same_member rows))) v e in
    let q = query_answers c g world store at' spelled a ty k.value i typed (t at' spelled) k.first in
    (q.0, set_rows k.value v (map alone q.0.scalars) q.1 k.rest)

-- the place and the spelled elements of a query have no say in its type
query_anywhere : (c : Frame) (g : Types) (at at' : Span) (ty ty' : Spelled) (text : List ℕ) (es : Expressions) (k : JavaType) → HasType c g (tree.Query at ty text es) k → HasType c g (tree.Query at' ty' text es) k
query_anywhere c g _ at' _ ty' _ _ _ (query at ty text es q e t) = query at' ty' text es q e t

-- ---- At the loop

-- The variable has what the query answers to the values of its arguments in this state.
pub record HoldsKnown (world : World) (a : Asked) (ids : List ℕ) (types : Types) (t : State) : Type 0 where
  pub ty : Ty
  pub set : Bool
  pub typed : types ids ≡ Some (many_of set (ScalarOf ty))
  pub answer : HasAnswer world t.store a ty
  pub held : Variable
  pub left : at_name t.store ids ≡ Some held
  pub value : held.value ≡ Many (kept_once set (map alone answer.scalars))

many_is_no_single : (set : Bool) (a : Single) → (is_scalar_type (Some (many_of set a)) || is_row_type (Some (many_of set a))) ≡ false
many_is_no_single true a = refl
many_is_no_single false a = refl

not_itself : (types : Types) (ids y : List ℕ) (set : Bool) (a : Single) (t : Bool) → bytes_eq ids y ≡ t → types ids ≡ Some (many_of set a) → (is_scalar_type (types y) || is_row_type (types y)) ≡ true → bytes_eq ids y ≡ false
not_itself types ids y set a true e k h =
    let same : (is_scalar_type (types y) || is_row_type (types y)) ≡ false = ap (λ z. is_scalar_type (types z) || is_row_type (types z)) (sym (names_equal ids y e)) ∙ ap (λ o. is_scalar_type o || is_row_type o) k ∙ many_is_no_single set a in
    absurd cc
not_itself types ids y set a false e k h = e

set_by_given : (s : Statement) (x : List ℕ) (e : Expression) → Gives s x e → set_by s ≡ x
set_by_given _ _ _ (declares at ty x e) = refl
set_by_given _ _ _ (assigns at x e) = refl

asks_read : (f : Set) (a : Asked) (set : Bool) (e : Expression) → AsksBy a set e → AllRead f a.arguments → Reads f e
asks_read f a _ _ (as_list at ty) h = h
asks_read f a _ _ (as_set at at' ty) h = h

neither : (a b : Bool) → a ≡ false → b ≡ false → not (a || b) ≡ true
neither a b e h = ap (λ z. not (z || b)) e ∙ ap not h

simple_behind : (p : Statements) (s : Statement) (q : Statements) → are_simple (followed_by p (Then s q)) ≡ true → are_simple q ≡ true
simple_behind Nothing s q h = (and_parts (is_simple s) (are_simple q) h).1
simple_behind (Then a p) s q h = simple_behind p s q (and_parts (is_simple a) (are_simple (followed_by p (Then s q))) h).1

-- Where the run passes, a known list holds at the loop what its query answers there.
pub known_holds : (w : Setting) (m : PlainMethod) (l : Option Types) (start : Types) (n : ℕ) (ids : List ℕ) (k : IsKnownList w n ids) (world : World) (s t : State) → TypedStatements (frame_of w.schema w.read m) l start w.fragment.run w.types → IsWorld (frame_of w.schema w.read m) world → IsTyped w.schema w.types t.store → are_simple w.fragment.run ≡ true → meanings w.fragment.run world s ≡ Ok (GoesOn t) → HoldsKnown world k.asked ids w.types t
known_holds w m l start n ids k world s t run i typed simple passes =
    let c : Frame = frame_of w.schema w.read m in
    let q : IsAskedFor w.fragment.run ids k.asked = k.asks in
    let behind : Statements = behind_setting ids w.fragment.run in
    let run_so : TypedStatements c l start (followed_by q.before (Then q.statement behind)) w.types = subst (λ p. TypedStatements c l start p w.types) q.is run in
    let given : GivenTyped c w.types ids q.value = given_typed c l start w.types q.before q.statement behind ids q.value q.gives run_so in
    let ask : AsksTyped c given.before k.asked q.asks.set given.type = asks_typed w.schema w.read m given.before k.asked q.asks.set q.value given.type q.asks.form k.column given.value in
    let there : w.types ids ≡ Some (many_of q.asks.set (ScalarOf ask.ty)) = given.there ∙ ap Some ask.type in
    let still : (y : List ℕ) → is_among (names_among k.asked.arguments) y ≡ true → unset_in (Then q.statement behind) y ≡ true =
    λ y h. neither (bytes_eq (set_by q.statement) y) (is_set_in behind y)
    (ap (λ z. bytes_eq z y) (set_by_given q.statement ids q.value q.gives) ∙ not_itself w.types ids y q.asks.set (ScalarOf ask.ty) (bytes_eq ids y) refl there (arguments_single w n k.asked.arguments y k.entries h))
    (unset_names (names_among k.asked.arguments) behind y (simple_behind q.before q.statement behind (subst (λ p. are_simple p ≡ true) q.is simple)) k.still h) in
    let reads : Reads (unset_in (Then q.statement behind)) q.value = asks_read (unset_in (Then q.statement behind)) k.asked q.asks.set q.value q.asks.form (all_read_named k.asked.arguments (unset_in (Then q.statement behind)) still) in
    let simple_so : are_simple (followed_by q.before (Then q.statement behind)) ≡ true = ap are_simple (sym q.is) ∙ simple in
    let v = given_still world q.before q.statement ids q.value behind s t q.gives simple_so q.once reads (ap (λ p. meanings p world s) (sym q.is) ∙ passes) in
    let typed_before : IsTyped w.schema given.before t.store = record { held = λ x z e. typed.held x z (given.extends x z e) } in
    let a = value_answers c given.before world t.store k.asked q.asks.set q.value ask.ty v.0.value q.asks.form i typed_before (λ at ty. query_anywhere c given.before ask.at at ask.spelled ty k.asked.text k.asked.arguments (Listed (ScalarOf ask.ty)) ask.query) v.2 in
    record { ty = ask.ty; set = q.asks.set; typed = there; answer = a.0; held = v.0; left = v.1; value = a.1 }
