-- A walk over the rows of a select is covered by a walk over its table with the condition tested.
use Rattle.std.proofs.Common.{◌≡◌, ℕ, ◌+◌, Bool, true, false, not, ◌&&◌, List, [], ◌∷◌, Option, Some, None, Result, Ok, Err, refl, sym, ap, ◌∙◌, subst, arith}
use Rattle.std.specs.Prelude.{bytes_eq}
use Rattle.std.specs.List.{filter, AllByRecursion}
use Rattle.std.specs.Option.{option_map}
use Rattle.qbs_base.specs.declared.scalar.Row.{Row}
use Rattle.qbs_base.specs.declared.scalar.Scalar.{Scalar}
use Rattle.qbs_base.specs.declared.scalar.Ty.{Ty}
use Rattle.qbs_base.specs.declared.scalar.Value.{Value}
use Rattle.qbs_base.specs.declared.scalar.Value.TheVariants.{Many}
use Rattle.qbs_base.specs.declared.span.Span.{Span}
use Rattle.qbs_base.specs.Columns.{columns_at}
use Rattle.qbs_base.specs.Named.{at_name}
use Rattle.qbs_base.specs.Tables.{NamedRows, rows_of}
use Rattle.qbs_base.specs.Values.{Schema, AreOf, IsRowOf}
use Rattle.sql_ast.specs.declared.tree.SqlItem.TheVariants as items
use Rattle.sql_ast.specs.Meaning.{passes, query_answer}
use Rattle.sql_ast.specs.Tree.{Filter, Everything, Where, PlainListing, PlainQuery, Listing, Number, Truth}
use Rattle.java_ast.specs.Names.{Names, is_among}
use Rattle.java_ast.specs.Tree as tree
use Rattle.java_ast.specs.Tree.{Spelled, Expression, Expressions, NoMore, And, Statement, Statements, Nothing, Then}
use Rattle.java_mean.specs.declared.ending.Ending.{Ending}
use Rattle.java_mean.specs.declared.types.JavaType.{JavaType}
use Rattle.java_mean.specs.declared.types.JavaType.TheVariants.{Of, Listed}
use Rattle.java_mean.specs.declared.types.Single.{Single}
use Rattle.java_mean.specs.declared.types.Single.TheVariants.{ScalarOf, RowOf}
use Rattle.java_mean.specs.Asks.{item_type, element_type, query_type, type_of_found, frame_of}
use Rattle.java_mean.specs.Endings.{◌>>=◌, found}
use Rattle.java_mean.specs.Expression.{value_of, scalars_of, as_rows, answered, element}
use Rattle.java_mean.specs.Queries.{Reader}
use Rattle.java_mean.specs.Refines.{Alike}
use Rattle.java_mean.specs.Statement.{State, Passed, GoesOn, Leaves, Returns, done, then_do, branch, each, test_of, meaning, meanings}
use Rattle.java_mean.specs.Store.{Store, Variable, put, plainly}
use Rattle.java_mean.specs.Types.{Types, with_type, made_of, IsTyped, IsMember}
use Rattle.java_mean.specs.Typing.{QueryType, Frame, IsWorld, HasType, lit, var, field, binary, negated, equals, size, get, contains, fetch, query, query_long, query_boolean, new_list, new_set, new_set_of, HaveTypes, no_more, and, Extends, TypedStatements}
use Rattle.java_mean.specs.World.{World}
use Rattle.java_mean.proofs.Alike.{alike_fewer, typed_same, extends_new}
use Rattle.java_mean.proofs.Further.{meanings_same}
use Rattle.java_mean.proofs.Numbered.{rows_of_table}
use Rattle.java_mean.proofs.Puts.{put_other, names_equal}
use Rattle.java_mean.proofs.Simulates.{Holds}
use Rattle.java_mean.proofs.TypedValues.{typed_values}
use Rattle.java_ast.specs.Tree.{PlainMethod}
use Rattle.select_parts.specs.Selects.{is_select}
use Rattle.spreads.specs.Conditions.{condition_in}
use Rattle.spreads.specs.Covers.{with_turns, Covered}
use Rattle.spreads.specs.Passing.{row_passes}
use Rattle.spreads.specs.Spread.{Select, select_if, select_of_rows, select_of, table_of, tested, walked}
use Rattle.spreads.specs.Staying.{assigned_among, stays, all_stay}
use Rattle.spreads.proofs.Chosen.{both_so, SelectIs, select_is, rows_selected, single}
use Rattle.spreads.proofs.Covering.{IsWalk, covered_same, walk_covers}
use Rattle.spreads.proofs.Known.{IsFrom, text_known}
use Rattle.spreads.proofs.Passing.{Untouched, IsAmong, untouched}
use Rattle.spreads.proofs.Truth.{FilterIs, AtRow, test_true}
use Rattle.spreads.proofs.Typed.{select_typed}
use Rattle.spreads.proofs.Typings.{QueryTyped, value_typing}

-- ---- The select that an expression is

pub record FoundSelect (schema : Schema) (read : List ℕ → Option PlainQuery) (assigned : Names) (e : Expression) (s : Select) : Type 0 where
  pub at : Span
  pub name : List ℕ
  pub text : List ℕ
  pub is : e ≡ tree.Query at (tree.Table name) text s.arguments
  pub read_so : read text ≡ Some (Listing s.query)
  pub select : is_select schema s.query ≡ true
  pub stay : all_stay assigned s.arguments ≡ true

module _ (schema : Schema) (read : List ℕ → Option PlainQuery) (assigned : Names) where
  if_select : (at : Span) (name text : List ℕ) (q : PlainListing) (es : Expressions) (s : Select) → read text ≡ Some (Listing q) → (b : Bool) → (is_select schema q && all_stay assigned es) ≡ b → select_if b q es ≡ Some s → FoundSelect schema read assigned (tree.Query at (tree.Table name) text es) s
  if_select at name text q es s r false e h = absurd cc
  if_select at name text q es s r true e h =
      let both = both_so (is_select schema q) (all_stay assigned es) e in
      let here : FoundSelect schema read assigned (tree.Query at (tree.Table name) text es) (record { query = q; arguments = es }) = record { at = at; name = name; text = text; is = refl; read_so = r; select = both.0; stay = both.1 } in
      subst (FoundSelect schema read assigned (tree.Query at (tree.Table name) text es)) (some_select (record { query = q; arguments = es }) s h) here
    where
      some_select : (x y : Select) → (let o : Option Select = Some x in o) ≡ Some y → x ≡ y
      some_select x y e = ap (λ (o : Option Select). elim o as (λ _. Select) [ Some z ↦ z | None ↦ x ]) e

  in_text : (at : Span) (name text : List ℕ) (es : Expressions) (s : Select) (o : Option PlainQuery) → read text ≡ o → select_of_rows schema assigned o es ≡ Some s → FoundSelect schema read assigned (tree.Query at (tree.Table name) text es) s
  in_text at name text es s (Some (Listing q)) r h = if_select at name text q es s r (is_select schema q && all_stay assigned es) refl h
  in_text at name text es s (Some (Number q)) r h = absurd cc
  in_text at name text es s (Some (Truth q)) r h = absurd cc
  in_text at name text es s None r h = absurd cc

  pub found_select : (e : Expression) (s : Select) → select_of schema read assigned e ≡ Some s → FoundSelect schema read assigned e s
  found_select (tree.Query at (tree.Table name) text es) s h = in_text at name text es s (read text) refl h
  found_select e s h = absurd cc

-- ---- Arguments stay

not_so : (b : Bool) → not b ≡ true → b ≡ false
not_so true e = absurd cc
not_so false e = refl

abbrev Reads : World → Store → Store → Expression → Type 0
Reads w s t e = value_of e w t ≡ value_of e w s

module _ (c : Frame) (g : Types) (assigned : Names) (w : World) (s t : Store) (kept : Untouched g assigned s t) where
  var_same : (at : Span) (x : List ℕ) (b : Single) → g x ≡ Some (Of b) → is_among assigned x ≡ false → Reads w s t (tree.Var at x)
  var_same at x b e n = ap (λ o. found o >>= λ (held : Variable). (let r : Result Value Ending = Ok held.value in r)) (kept x b e n)

  row_same : (e : Expression) (k : JavaType) → HasType c g e k → (b : Single) → k ≡ Of b → (at : Span) (f : List ℕ) → stays assigned (tree.Field at e f) ≡ true → Reads w s t e
  row_same (tree.Var at' x) k h b same at f n = var_same at' x b (value_typing c g (tree.Var at' x) k h ∙ ap (λ z. let o : Option JavaType = Some z in o) same) (not_so (is_among assigned x) n)
  row_same e k h b same at f n = absurd cc

  stays_same : (e : Expression) (k : JavaType) → HasType c g e k → (b : Single) → k ≡ Of b → stays assigned e ≡ true → Reads w s t e
  stays_same _ _ (lit at x ty h) b same n = refl
  stays_same _ _ (var at x k e) b same n = var_same at x b (e ∙ ap (λ z. let o : Option JavaType = Some z in o) same) (not_so (is_among assigned x) n)
  stays_same _ _ (field at e f j i column h q r) b same n = simp (row_same e (Of (RowOf j)) h (RowOf j) refl at f n)
  stays_same _ _ (binary at op x y from to o h k) b same n = absurd cc
  stays_same _ _ (negated at e h) b same n = absurd cc
  stays_same _ _ (equals at x y h k) b same n = absurd cc
  stays_same _ _ (size at x k a e has) b same n = absurd cc
  stays_same _ _ (get at x e a q h) b same n = absurd cc
  stays_same _ _ (contains at x e k ty q has h) b same n = absurd cc
  stays_same _ _ (fetch at x j e) b same n = absurd cc
  stays_same _ _ (query at ty text es q e h) b same n = absurd cc
  stays_same _ _ (query_long at text es q e h) b same n = absurd cc
  stays_same _ _ (query_boolean at text es q e h) b same n = absurd cc
  stays_same _ _ (new_list at a) b same n = absurd cc
  stays_same _ _ (new_set at a) b same n = absurd cc
  stays_same _ _ (new_set_of at e a h) b same n = absurd cc

  pub all_stay_same : (es : Expressions) (types : List Ty) → HaveTypes c g es types → all_stay assigned es ≡ true → scalars_of es w t ≡ scalars_of es w s
  all_stay_same _ _ no_more n = refl
  all_stay_same _ _ (and e es ty types h k) n =
      let both = both_so (stays assigned e) (all_stay assigned es) n in
      simp (stays_same e (Of (ScalarOf ty)) h (ScalarOf ty) refl both.0, all_stay_same es types k both.1)

-- arguments have one value in states that agree
all_alike : (c : Frame) (g : Types) (es : Expressions) (types : List Ty) → HaveTypes c g es types → (w : World) (s t : State) → Alike c.schema g s t → scalars_of es w s.store ≡ scalars_of es w t.store
all_alike c g _ _ no_more w s t a = refl
all_alike c g _ _ (and e es ty types h k) w s t a = simp (typed_same c g e _ h w s t a, all_alike c g es types k w s t a)

-- ---- The walk

then_done : (r : Result Passed Ending) → then_do r done ≡ r
then_done (Ok (GoesOn s)) = refl
then_done (Ok (Leaves s)) = refl
then_done (Ok (Returns s v)) = refl
then_done (Err e) = refl

abbrev rows_in : Option NamedRows → List Row
rows_in (Some table) = table.1
rows_in None = []

-- a select of a typed expression
pub record SelectTyped (schema : Schema) (reader : Reader schema) (m : PlainMethod) (assigned : Names) (g : Types) (e : Expression) (k : JavaType) (s : Select) : Type 0 where
  pub found : FoundSelect schema reader.read assigned e s
  pub is : SelectIs schema s.query
  pub number : IsFrom schema is.from
  pub filter_ : FilterIs schema is.from.table s.query s.query.filter
  pub arguments : HaveTypes (frame_of schema reader.read m) g s.arguments s.query.params
  pub answer : k ≡ Listed (RowOf is.from.table)

module _ (schema : Schema) (reader : Reader schema) (m : PlainMethod) where
  abbrev frame : Frame
  frame = frame_of schema reader.read m

  type_is : (q : PlainListing) (is : SelectIs schema q) → query_type schema (Listing q) ≡ Some (record { params = q.params; answer = Listed (RowOf is.from.table) })
  type_is q is =
      let typed = λ (o : Option Single). option_map (λ (k : JavaType). (let x : QueryType = record { params = q.params; answer = k } in x)) (made_of Listed o) in
      ap (λ z. typed (element_type schema q z)) is.group ∙ ap (λ z. typed (item_type schema q.from z)) is.whole ∙ ap (λ z. typed (item_type schema z (items.Whole 1))) is.alone

  pub select_of_typed : (assigned : Names) (g : Types) (e : Expression) (k : JavaType) (s : Select) → HasType frame g e k → select_of schema reader.read assigned e ≡ Some s → SelectTyped schema reader m assigned g e k s
  select_of_typed assigned g e k s typed h =
      let f = found_select schema reader.read assigned e s h in
      let is = select_is schema s.query f.select in
      let known = text_known schema f.text (Listing s.query) ((reader.exact f.text (Listing s.query)).0 f.read_so) in
      let t : QueryTyped frame g f.text s.arguments k = value_typing frame g (tree.Query f.at (tree.Table f.name) f.text s.arguments) k (subst (λ z. HasType frame g z k) f.is typed) in
      let type : QueryType = record { params = s.query.params; answer = Listed (RowOf is.from.table) } in
      let asked : (let o : Option QueryType = Some type in o) ≡ Some t.type = sym (ap (type_of_found schema) f.read_so ∙ type_is s.query is) ∙ t.asks in
      let same : type ≡ t.type = some_type type t.type asked in
      let items : AllByRecursion (IsFrom schema) (is.from ∷ []) = subst (AllByRecursion (IsFrom schema)) is.alone known.names.items in
      record {
        found = f;
        is = is;
        number = items.0;
        filter_ = select_typed schema s.query is known;
        arguments = subst (λ (z : QueryType). HaveTypes frame g s.arguments z.params) (sym same) t.typed;
        answer = t.answer ∙ ap (λ (z : QueryType). z.answer) (sym same);
      }
    where
      some_type : (x y : QueryType) → (let o : Option QueryType = Some x in o) ≡ Some y → x ≡ y
      some_type x y e = ap (λ (o : Option QueryType). elim o as (λ _. QueryType) [ Some z ↦ z | None ↦ x ]) e

  module _ (assigned : Names) (g : Types) (e : Expression) (k : JavaType) (s : Select) (typed : SelectTyped schema reader m assigned g e k s) (w : World) (world : IsWorld frame w) where
    abbrev pub table_rows : List Row
    table_rows = rows_of w.db typed.is.from.table

    abbrev pub chosen_rows : List Scalar → List Row
    chosen_rows xs = filter (row_passes w.db xs s.query) table_rows

    answer_is : (at : Span) (xs : List Scalar) → answered at (w.ask typed.found.text xs) ≡ Ok (Many (chosen_rows xs))
    answer_is at xs =
        ap (answered at) (world.asked typed.found.text xs ∙ ap (option_map (query_answer w.db xs)) typed.found.read_so)
        ∙ ap (λ rows. let r : Result Value Ending = Ok (Many rows) in r) (rows_selected schema w.db xs s.query typed.is)

    -- the select's value, where its arguments have these
    pub value_is : (store : Store) (xs : List Scalar) → scalars_of s.arguments w store ≡ Ok xs → value_of e w store ≡ Ok (Many (chosen_rows xs))
    value_is store xs h =
        ap (λ z. value_of z w store) typed.found.is ∙ ap (λ o. o >>= λ ys. answered typed.found.at (w.ask typed.found.text ys)) h ∙ answer_is typed.found.at xs

    pub value_fails : (store : Store) (x : Ending) → scalars_of s.arguments w store ≡ Err x → value_of e w store ≡ Err x
    value_fails store x h = ap (λ z. value_of z w store) typed.found.is ∙ ap (λ o. o >>= λ ys. answered typed.found.at (w.ask typed.found.text ys)) h

    pub arguments_typed : (store : Store) (xs : List Scalar) → IsTyped schema g store → scalars_of s.arguments w store ≡ Ok xs → AreOf s.query.params xs
    arguments_typed store xs t h = subst (Holds ⊥ (AreOf s.query.params)) h (typed_values frame g s.arguments s.query.params typed.arguments w store world t)

    pub record TableHas : Type 0 where
      pub there : at_name w.db (table_of s.query.from) ≡ Some table_rows
      pub all : AllByRecursion (IsRowOf typed.is.from.table (columns_at schema typed.is.from.table)) table_rows

    pub table_has : TableHas
    table_has =
        let held = rows_of_table 0 schema w.db typed.is.from.name typed.is.from.table world.tables typed.number in
        let rows : rows_of w.db typed.is.from.table ≡ held.rows = ap (λ (z : Option NamedRows). rows_in z) held.numbered ∙ held.rows_are in
        let at_zero : 0 + typed.is.from.table ≡ typed.is.from.table = omega arith in
        record {
          there = ap (λ z. at_name w.db (table_of z)) typed.is.alone ∙ held.there ∙ ap (λ z. let o : Option (List Row) = Some z in o) (sym rows);
          all = subst (AllByRecursion (IsRowOf typed.is.from.table (columns_at schema typed.is.from.table))) (sym rows) (subst (λ (n : ℕ). AllByRecursion (IsRowOf n (columns_at schema typed.is.from.table)) held.rows) at_zero held.all);
        }

    -- a walk over the table walks its rows
    walk_is : (at : Span) (ty : Spelled) (x : List ℕ) (body : Statements) (z : State) → meaning (walked schema at ty x s body) w z ≡ each table_rows x (meanings (tested schema at x s s.query.filter body) w) z
    walk_is at ty x body z = ap (λ o. (found o >>= λ rows. (let r : Result Value Ending = Ok (Many rows) in r)) >>= λ v. as_rows v >>= λ rows. each rows x (meanings (tested schema at x s s.query.filter body) w) z) table_has.there

    module _ (at : Span) (x : List ℕ) (old new : Statements) (hb : Types) (new_name : g x ≡ None) (body_typed : TypedStatements frame (Some (with_type x (Some (Of (RowOf typed.is.from.table))) g)) (with_type x (Some (Of (RowOf typed.is.from.table))) g) old hb) (names : AllByRecursion (IsAmong assigned) (assigned_among old)) (covers : (u v : State) → Alike schema (with_type x (Some (Of (RowOf typed.is.from.table))) g) u v → Covered schema (Some (with_type x (Some (Of (RowOf typed.is.from.table))) g)) (with_type x (Some (Of (RowOf typed.is.from.table))) g) u v (meanings old w u) (meanings new w)) (start : Store) (start_typed : IsTyped schema g start) (xs : List Scalar) (given : scalars_of s.arguments w start ≡ Ok xs) where
      abbrev row_types : Types
      row_types = with_type x (Some (Of (RowOf typed.is.from.table))) g

      wider : Extends row_types g
      wider = extends_new g x (Of (RowOf typed.is.from.table)) new_name

      abbrev Kept : Store → Type 0
      Kept store = Untouched g assigned start store

      set_kept : (store : Store) (v : Variable) → Kept store → Kept (put store x v)
      set_kept store v h y b e n = put_other store x y v (by_name (bytes_eq x y) refl) ∙ h y b e n
        where
          by_name : (d : Bool) → bytes_eq x y ≡ d → d ≡ false
          by_name true q = let there : g x ≡ g y = ap g (names_equal x y q) in absurd cc
          by_name false q = refl

      goes_kept : (u v : State) → Kept u.store → meanings old w u ≡ Ok (GoesOn v) → Kept v.store
      goes_kept u v h went y b e n = untouched frame g assigned (Some row_types) row_types old hb body_typed wider names w u v went y b e n ∙ h y b e n

      -- the arguments at a row of the second run
      at_row : (row : Row) → IsMember schema (RowOf typed.is.from.table) row → (u v : State) → Alike schema row_types u v → Kept u.store → at_name v.store x ≡ Some (plainly (element row)) → AtRow schema typed.is.from.table x s.arguments s.query.params xs row w v.store
      at_row row is u v a h there =
          record {
            schema_is = world.schema;
            row_there = there;
            row_is = is;
            arguments = sym (all_alike frame g s.arguments s.query.params typed.arguments w u v (alike_fewer schema row_types g wider u v a)) ∙ all_stay_same frame g assigned w start u.store h s.arguments s.query.params typed.arguments typed.found.stay ∙ given;
            typed = arguments_typed start xs start_typed given;
          }

      abbrev Takes : Filter → Type 0
      Takes f = (row : Row) → IsMember schema (RowOf typed.is.from.table) row → passes w.db xs f (single (0, row)) ≡ true → (u v : State) → Alike schema row_types u v → Kept u.store → at_name v.store x ≡ Some (plainly (element row)) → Covered schema (Some row_types) row_types u v (meanings old w u) (meanings (tested schema at x s f new) w)

      takes : (f : Filter) → FilterIs schema typed.is.from.table s.query f → Takes f
      takes Everything is row r p u v a h there = covers u v a
      takes (Where c) is row r p u v a h there =
          let test : test_of (condition_in schema s.query at x s.arguments c) w v.store ≡ Ok true = test_true schema typed.is.from.table s.query at x s.arguments xs row w v.store (at_row row r u v a h there) w.db c is ∙ ap (λ b. let o : Result Bool Ending = Ok b in o) p in
          covered_same schema (Some row_types) row_types u v (meanings old w u) (meanings new w) (meanings (tested schema at x s (Where c) new) w) (λ n. ap (λ o. then_do (o >>= λ b. branch b (meanings new w) done (with_turns n v)) done) test ∙ then_done (meanings new w (with_turns n v))) (covers u v a)

      abbrev Skips : Filter → Type 0
      Skips f = (row : Row) → IsMember schema (RowOf typed.is.from.table) row → passes w.db xs f (single (0, row)) ≡ false → (u v : State) → Alike schema row_types u v → Kept u.store → at_name v.store x ≡ Some (plainly (element row)) → meanings (tested schema at x s f new) w v ≡ Ok (GoesOn v)

      skips : (f : Filter) → FilterIs schema typed.is.from.table s.query f → Skips f
      skips Everything is row r p u v a h there = absurd cc
      skips (Where c) is row r p u v a h there =
          let test : test_of (condition_in schema s.query at x s.arguments c) w v.store ≡ Ok false = test_true schema typed.is.from.table s.query at x s.arguments xs row w v.store (at_row row r u v a h there) w.db c is ∙ ap (λ b. let o : Result Bool Ending = Ok b in o) p in
          ap (λ o. then_do (o >>= λ b. branch b (meanings new w) done v) done) test

      is_walk : IsWalk schema g row_types x (RowOf typed.is.from.table) (row_passes w.db xs s.query) (meanings old w) (meanings (tested schema at x s s.query.filter new) w) Kept
      is_walk = record {
        new = new_name;
        wider = wider;
        steady = λ n z. meanings_same n (tested schema at x s s.query.filter new) w z;
        set = set_kept;
        goes = goes_kept;
        takes = takes s.query.filter typed.filter_;
        skips = skips s.query.filter typed.filter_;
      }

      pub select_walk : (l : Option Types) (ty : Spelled) (u v : State) → Alike schema g u v → Kept u.store → Covered schema l g u v (each (chosen_rows xs) x (meanings old w) u) (meaning (walked schema at ty x s new) w)
      select_walk l ty u v a h =
          covered_same schema l g u v (each (chosen_rows xs) x (meanings old w) u) (each table_rows x (meanings (tested schema at x s s.query.filter new) w)) (meaning (walked schema at ty x s new) w) (λ n. walk_is at ty x new (with_turns n v))
          (walk_covers schema l g row_types x (RowOf typed.is.from.table) (row_passes w.db xs s.query) (meanings old w) (meanings (tested schema at x s s.query.filter new) w) Kept is_walk table_rows table_has.all u v a h)
