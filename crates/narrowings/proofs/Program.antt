-- The program in which a walk is narrowed keeps what it did.
use Rattle.std.proofs.Common.{◌≡◌, ℕ, suc, ◌≤◌, true, cond, List, [], ◌∷◌, ◌++◌, Option, Some, None, refl, sym, ap, ◌∙◌, subst, arith}
use Rattle.std.specs.Prelude.{bytes_eq, nat_eq, slice_get}
use Rattle.qbs_base.specs.declared.scalar.Ty.{Ty}
use Rattle.qbs_base.specs.declared.span.Span.{Span}
use Rattle.qbs_base.specs.Columns.{columns_at, table_number}
use Rattle.qbs_base.specs.Values.{Schema}
use Rattle.sql_ast.specs.Canonical.{canonical}
use Rattle.sql_ast.specs.Tree.{Condition, Listing}
use Rattle.java_ast.specs.Path.{found_in, statement_in, behind_of, first_of, last_of, with_body, with_methods, replaced_in, replaced_at}
use Rattle.java_ast.specs.Tree as tree
use Rattle.java_ast.specs.Tree.{Spelled, Expression, Expressions, Statement, Statements, Nothing, Then, PlainMethod, PlainProgram}
use Rattle.java_mean.specs.declared.types.JavaType.{JavaType}
use Rattle.java_mean.specs.declared.types.JavaType.TheVariants.{Of, Listed, Distinct}
use Rattle.java_mean.specs.declared.types.Single.{Single}
use Rattle.java_mean.specs.declared.types.Single.TheVariants.{RowOf}
use Rattle.java_mean.specs.Asks.{frame_of}
use Rattle.java_mean.specs.Keeps.{Keeps}
use Rattle.java_mean.specs.Mentions.{EachMentioned}
use Rattle.java_mean.specs.Numbers.{NumbersFit}
use Rattle.java_mean.specs.Queries.{Reader}
use Rattle.java_mean.specs.Refines.{Hole, fill, behind, loop_at, types_at, IsTypedPlace, MayReplace}
use Rattle.java_mean.specs.Types.{Types, with_type, type_spelled, types_of_params, types_past}
use Rattle.java_mean.specs.Typing.{Frame, HasType, fetch, HaveTypes, Has, listed, distinct, IsNew, is_new_list, is_new_set, Extends, TypedStatement, declare, for_each, TypedStatements, done as nothing, next}
use Rattle.java_mean.specs.WellTyped.{IsWellTyped}
use Rattle.java_mean.proofs.Alike.{extends_new}
use Rattle.java_mean.proofs.Bridge.{body_in}
use Rattle.java_mean.proofs.Fewer.{Same, fewer_with, Stand, statements_stand, narrower}
use Rattle.java_mean.proofs.Puts.{names_equal, name_same}
use Rattle.java_mean.proofs.Replaced.{program_kept}
use Rattle.java_mean.proofs.Replacing.{by_any_reader}
use Rattle.java_mean.proofs.TypedPlaces.{places_typed}
use Rattle.java_loops.specs.Walks.Places.{place_in, run_in}
use Rattle.java_loops.specs.Walks.Replacing.{run_and_loop}
use Rattle.java_loops.proofs.Walks.Placed.{replaced_fills, whole_fills}
use Rattle.java_loops.proofs.Walks.PlacedPrograms.{MethodAt, method_at}
use Rattle.spreads.specs.Alone.{times_named, is_variable, walks_alone}
use Rattle.spreads.specs.Narrowed.{parts_of, taken, all_read, taken_condition, expressions, selecting, query_for, query_of_body, outer_block, narrowed_each, narrowed_in, narrowed_at}
use Rattle.spreads.specs.Staying.{assigned_among}
use Rattle.spreads.proofs.Named.{Other, AreOthers, others, once}
use Rattle.spreads.proofs.Typings.{DeclareTyped, EachTyped, over, fresh, typing, typings, value_typing}
use Rattle.narrowings.proofs.Args.{have_types}
use Rattle.narrowings.proofs.Cases.{by_each}
use Rattle.narrowings.proofs.Loop.{IsAsked, text_of, arguments, query_typed, each_replaces, pair_replaces}
use Rattle.narrowings.proofs.Parts.{both_so, some_is, mapped}
use Rattle.narrowings.proofs.Places.{Leads, leads_to, numbered_behind, rest_behind, none_first, one_first}

-- ---- The query of a body

abbrev pub body_of : Span → Expression → Statements → Statements
body_of at test inside = Then (tree.If at test inside) Nothing

abbrev pub parts_in : List ℕ → Span → Expression → Statements → List Expression
parts_in x at test inside = taken (assigned_among (body_of at test inside)) x [] (parts_of test)

abbrev pub read_in : List ℕ → Span → Expression → Statements → Expressions
read_in x at test inside = expressions (all_read x [] (parts_in x at test inside))

pub record IsQueryFor (schema : Schema) (name x : List ℕ) (at1 at : Span) (test : Expression) (inside : Statements) (q : Expression) : Type 0 where
  pub table : ℕ
  pub number : table_number schema name ≡ Some table
  pub condition : Condition
  pub is : taken_condition (columns_at schema table) x (all_read x [] (parts_in x at test inside)) (parts_in x at test inside) ≡ Some condition
  pub query_is : tree.Query at1 (tree.Table name) (text_of name table condition) (read_in x at test inside) ≡ q

query_by : (schema : Schema) (name x : List ℕ) (at1 at : Span) (test : Expression) (inside : Statements) (q : Expression) (o : Option ℕ) → table_number schema name ≡ o → found_in (λ table. query_for schema at1 name table (assigned_among (body_of at test inside)) x test) o ≡ Some q → IsQueryFor schema name x at1 at test inside q
query_by schema name x at1 at test inside q None e h = absurd cc
query_by schema name x at1 at test inside q (Some table) e h =
    let r = mapped (λ (d : Condition). tree.Query at1 (tree.Table name) (canonical (Listing (selecting name table d))) (read_in x at test inside)) (taken_condition (columns_at schema table) x (all_read x [] (parts_in x at test inside)) (parts_in x at test inside)) q h in
    record { table = table; number = e; condition = r.0; is = r.1; query_is = r.2 }

pub record IsBodyQuery (schema : Schema) (e : Expression) (x : List ℕ) (body : Statements) (q : Expression) : Type 0 where
  pub at1 : Span
  pub name : List ℕ
  pub list : e ≡ tree.Fetch at1 name
  pub at : Span
  pub test : Expression
  pub inside : Statements
  pub body_is : body ≡ body_of at test inside
  pub asks : IsQueryFor schema name x at1 at test inside q

pub body_query : (schema : Schema) (e : Expression) (x : List ℕ) (body : Statements) (q : Expression) → query_of_body schema e x body ≡ Some q → IsBodyQuery schema e x body q
body_query schema (tree.Fetch at1 name) x (Then (tree.If at test inside) Nothing) q h =
    record { at1 = at1; name = name; list = refl; at = at; test = test; inside = inside; body_is = refl; asks = query_by schema name x at1 at test inside q (table_number schema name) refl h }
body_query schema e x body q h = absurd cc

-- ---- Typings

record FetchIs (c : Frame) (name : List ℕ) (k : JavaType) : Type 0 where
  number : ℕ
  there : table_number c.schema name ≡ Some number
  is : k ≡ Listed (RowOf number)

fetch_is : (c : Frame) (g : Types) (at : Span) (name : List ℕ) (k : JavaType) → HasType c g (tree.Fetch at name) k → FetchIs c name k
fetch_is c g at name _ (fetch _ _ n e) = record { number = n; there = e; is = refl }

fetch_row : (c : Frame) (g : Types) (at : Span) (name : List ℕ) (table : ℕ) → table_number c.schema name ≡ Some table → (k : JavaType) → HasType c g (tree.Fetch at name) k → k ≡ Listed (RowOf table)
fetch_row c g at name table number k h =
    let f = fetch_is c g at name k h in
    f.is ∙ ap (λ (n : ℕ). Listed (RowOf n)) (some_is f.number table (sym f.there ∙ number))

has_listed : (k : JavaType) (a b : Single) → Has k a → k ≡ Listed b → a ≡ b
has_listed _ a b (listed _) e = ap (λ (j : JavaType). elim j as (λ _. Single) [ Of x ↦ x | Listed x ↦ x | Distinct x ↦ x ]) e
has_listed _ a b (distinct _) e = absurd cc

new_fetch : (e : Expression) (at : Span) (name : List ℕ) → IsNew e → e ≡ tree.Fetch at name → ⊥
new_fetch _ at name (is_new_list new) e = absurd cc
new_fetch _ at name (is_new_set new) e = absurd cc

new_var : (e : Expression) (at : Span) (x : List ℕ) → IsNew e → e ≡ tree.Var at x → ⊥
new_var _ at x (is_new_list new) e = absurd cc
new_var _ at x (is_new_set new) e = absurd cc

-- each select that is written is read as it
abbrev pub AllAsked : Schema → Type 0
AllAsked schema =
    (reader : Reader schema) (m : PlainMethod) (g : Types) (x name : List ℕ) (table : ℕ) → table_number schema name ≡ Some table
    → (at : Span) (test : Expression) (inside : Statements) → g x ≡ None → (end : Types)
    → TypedStatements (frame_of schema reader.read m) (Some (with_type x (Some (Of (RowOf table))) g)) (with_type x (Some (Of (RowOf table))) g) (body_of at test inside) end
    → (d : Condition) → taken_condition (columns_at schema table) x (all_read x [] (parts_in x at test inside)) (parts_in x at test inside) ≡ Some d
    → (types : List Ty) → HaveTypes (frame_of schema reader.read m) g (read_in x at test inside) types
    → IsAsked schema reader.read name table d types

module _ (schema : Schema) (all : AllAsked schema) (p : PlainProgram) (i n : ℕ) (path : List ℕ) (m : PlainMethod) (block : Statements) (reader : Reader schema) where
  abbrev frame : Frame
  frame = frame_of schema reader.read m

  abbrev params : Types
  params = types_of_params schema m.params

  -- ---- The fetch is the list of the for-each

  module _ (hole : Hole) where
    abbrev before : Types
    before = types_at schema params hole

    abbrev loop : Option Types
    loop = loop_at schema None params hole

    -- the walk's variable is new, and its body typed, over the row's type
    pub record WalkIs (x : List ℕ) (table : ℕ) (at : Span) (test : Expression) (inside : Statements) : Type 0 where
      pub new : before x ≡ None
      pub end : Types
      pub typed : TypedStatements frame (Some (with_type x (Some (Of (RowOf table))) before)) (with_type x (Some (Of (RowOf table))) before) (body_of at test inside) end

    walk_by : (name x : List ℕ) (at1 at : Span) (test : Expression) (inside : Statements) (q : Expression) (asks : IsQueryFor schema name x at1 at test inside q) (e : Expression) (h : Types) → e ≡ tree.Fetch at1 name → EachTyped frame before x e (body_of at test inside) h → WalkIs x asks.table at test inside
    walk_by name x at1 at test inside q asks e _ is (over k a hb new typed has body) =
        let row : a ≡ RowOf asks.table = has_listed k a (RowOf asks.table) has (fetch_row frame before at1 name asks.table asks.number k (subst (λ z. HasType frame before z k) is typed)) in
        record { new = new; end = hb; typed = subst (λ z. TypedStatements frame (Some (with_type x (Some (Of z)) before)) (with_type x (Some (Of z)) before) (body_of at test inside) hb) row body }
    walk_by name x at1 at test inside q asks e _ is (fresh k hb new fine body) = absurd (new_fetch e at1 name fine is)

    pub each_walk : (name x : List ℕ) (at1 at : Span) (test : Expression) (inside : Statements) (q : Expression) (asks : IsQueryFor schema name x at1 at test inside q) (at2 : Span) (ty : Spelled) → IsTypedPlace frame None params hole (Then (tree.ForEach at2 ty x (tree.Fetch at1 name) (body_of at test inside)) Nothing) → WalkIs x asks.table at test inside
    each_walk name x at1 at test inside q asks at2 ty place =
        let old : Statement = tree.ForEach at2 ty x (tree.Fetch at1 name) (body_of at test inside) in
        let t = typings frame loop before (Then old Nothing) before place.typed in
        walk_by name x at1 at test inside q asks (tree.Fetch at1 name) t.between refl (typing frame loop before old t.between t.one)

    -- what gives way, over the row's type
    each_may : (name x : List ℕ) (at1 at : Span) (test : Expression) (inside : Statements) (q : Expression) (asks : IsQueryFor schema name x at1 at test inside q) (at2 : Span) (ty : Spelled) → WalkIs x asks.table at test inside → IsTypedPlace frame None params hole (Then (tree.ForEach at2 ty x (tree.Fetch at1 name) (body_of at test inside)) Nothing) → MayReplace frame m hole (Then (tree.ForEach at2 ty x (tree.Fetch at1 name) (body_of at test inside)) Nothing) (Then (tree.ForEach at2 ty x q (body_of at test inside)) Nothing)
    each_may name x at1 at test inside q asks at2 ty walk place =
        let have = have_types frame before (assigned_among (body_of at test inside)) (all_read x [] (parts_in x at test inside)) (arguments schema reader m before x name asks.table asks.number at test inside walk.new walk.end walk.typed) in
        let is = all reader m before x name asks.table asks.number at test inside walk.new walk.end walk.typed asks.condition asks.is have.0 have.1 in
        let asking = query_typed schema reader m before x name asks.table asks.number at test inside walk.new walk.end walk.typed asks.condition asks.is have.0 have.1 is at1 in
        let query : Expression = tree.Query at1 (tree.Table name) (text_of name asks.table asks.condition) (read_in x at test inside) in
        subst (λ z. MayReplace frame m hole (Then (tree.ForEach at2 ty x (tree.Fetch at1 name) (body_of at test inside)) Nothing) (Then (tree.ForEach at2 ty x z (body_of at test inside)) Nothing)) asks.query_is
        (record {
          loop = loop;
          before = before;
          after_old = before;
          after_new = before;
          after = before;
          end = place.end;
          around = place.around;
          old_typed = place.typed;
          new_typed = next loop before before before (tree.ForEach at2 ty x query (body_of at test inside)) Nothing (for_each loop before walk.end at2 ty x query (body_of at test inside) (Listed (RowOf asks.table)) (RowOf asks.table) walk.new asking (listed (RowOf asks.table)) walk.typed) (nothing loop before);
          old_leaves = λ y j e. e;
          new_leaves = λ y j e. e;
          replaces = each_replaces schema reader m before x name asks.table asks.number at test inside walk.new walk.end walk.typed asks.condition asks.is have.0 have.1 is loop at2 ty at1;
        })

    pub each_place : (at2 : Span) (ty : Spelled) (x : List ℕ) (e : Expression) (body : Statements) (q : Expression) → IsBodyQuery schema e x body q → IsTypedPlace frame None params hole (Then (tree.ForEach at2 ty x e body) Nothing) → MayReplace frame m hole (Then (tree.ForEach at2 ty x e body) Nothing) (Then (tree.ForEach at2 ty x q body) Nothing)
    each_place at2 ty x e body q b =
        subst (λ z. IsTypedPlace frame None params hole (Then (tree.ForEach at2 ty x z body) Nothing) → MayReplace frame m hole (Then (tree.ForEach at2 ty x z body) Nothing) (Then (tree.ForEach at2 ty x q body) Nothing)) (sym b.list)
        (subst (λ z. IsTypedPlace frame None params hole (Then (tree.ForEach at2 ty x (tree.Fetch b.at1 b.name) z) Nothing) → MayReplace frame m hole (Then (tree.ForEach at2 ty x (tree.Fetch b.at1 b.name) z) Nothing) (Then (tree.ForEach at2 ty x q z) Nothing)) (sym b.body_is) (λ place. each_may b.name x b.at1 b.at b.test b.inside q b.asks at2 ty (each_walk b.name x b.at1 b.at b.test b.inside q b.asks at2 ty place) place))

    -- ---- The fetch is declared before

    module _ (name x v : List ℕ) (at1 at : Span) (test : Expression) (inside : Statements) (q : Expression) (asks : IsQueryFor schema name x at1 at test inside q) (at2 : Span) (ty : Spelled) (at3 : Span) (ty3 : Spelled) (at4 : Span) (rest : Statements) (other : AreOthers v x (body_of at test inside) rest) (rest_is : behind hole ≡ rest) where
      abbrev old_pair : Statements
      old_pair = Then (tree.Declare at3 ty3 v (tree.Fetch at1 name)) (Then (tree.ForEach at2 ty x (tree.Var at4 v) (body_of at test inside)) Nothing)

      abbrev new_pair : Expression → Statements
      new_pair z = Then (tree.Declare at3 ty3 v z) (Then (tree.ForEach at2 ty x (tree.Var at4 v) (body_of at test inside)) Nothing)

      abbrev row : Single
      row = RowOf asks.table

      abbrev with_list : JavaType → Types
      with_list k = with_type v (Some k) before

      same_beside : (o : Option JavaType) → Same (Other v) before (with_type v o before)
      same_beside o z d = ap (λ b. cond b o (before z)) (sym d)

      same_inside : (k : JavaType) → Same (Other v) (with_type x (Some (Of row)) before) (with_type x (Some (Of row)) (with_list k))
      same_inside k z d = ap (cond (bytes_eq x z) (Some (Of row))) (same_beside (Some k) z d)

      row_new : (k : JavaType) → with_list k x ≡ None → before x ≡ None
      row_new k e = ap (λ b. cond b (Some k) (before x)) (sym other.row) ∙ e

      row_is : (k j : JavaType) (a : Single) → k ≡ Listed row → HasType frame (with_list k) (tree.Var at4 v) j → Has j a → a ≡ row
      row_is k j a is h has =
          let here : (let o : Option JavaType = Some k in o) ≡ Some j = ap (λ b. cond b (Some k) (before v)) (sym (name_same v)) ∙ value_typing frame (with_list k) (tree.Var at4 v) j h in
          has_listed j a row has (sym (some_is k j here) ∙ is)

      body_stands : (k : JavaType) (hb : Types) → before v ≡ None → TypedStatements frame (Some (with_type x (Some (Of row)) (with_list k))) (with_type x (Some (Of row)) (with_list k)) (body_of at test inside) hb → Stand frame (Some (with_type x (Some (Of row)) before)) (with_type x (Some (Of row)) before) (body_of at test inside)
      body_stands k hb fresh_name t =
          statements_stand frame (Other v) (Some (with_type x (Some (Of row)) (with_list k))) (Some (with_type x (Some (Of row)) before)) (with_type x (Some (Of row)) (with_list k)) (with_type x (Some (Of row)) before) (body_of at test inside) hb t (fewer_with (with_list k) before x (Some (Of row)) (extends_new before v k fresh_name)) (same_inside k) (λ b e. body_in (with_type x (Some (Of row)) before)) other.inside

      pair_may : (between : Types) (d : DeclareTyped frame before ty3 v (tree.Fetch at1 name) between) → TypedStatements frame loop between (Then (tree.ForEach at2 ty x (tree.Var at4 v) (body_of at test inside)) Nothing) (types_past schema before old_pair) → IsTypedPlace frame None params hole old_pair → WalkIs x asks.table at test inside → MayReplace frame m hole old_pair (new_pair q)
      pair_may between d behind_typed place walk =
          let is : d.type ≡ Listed row = fetch_row frame before at1 name asks.table asks.number d.type d.typed in
          let have = have_types frame before (assigned_among (body_of at test inside)) (all_read x [] (parts_in x at test inside)) (arguments schema reader m before x name asks.table asks.number at test inside walk.new walk.end walk.typed) in
          let asked = all reader m before x name asks.table asks.number at test inside walk.new walk.end walk.typed asks.condition asks.is have.0 have.1 in
          let asking = query_typed schema reader m before x name asks.table asks.number at test inside walk.new walk.end walk.typed asks.condition asks.is have.0 have.1 asked at1 in
          let query : Expression = tree.Query at1 (tree.Table name) (text_of name asks.table asks.condition) (read_in x at test inside) in
          let one : TypedStatement frame loop before (tree.Declare at3 ty3 v query) between = subst (TypedStatement frame loop before (tree.Declare at3 ty3 v query)) (sym d.end) (declare loop before at3 ty3 v query d.type d.new d.spelled (subst (HasType frame before query) (sym is) asking)) in
          let leaves : Extends (types_past schema before old_pair) before = subst (λ (o : Option JavaType). Extends (with_type v o before) before) (sym d.spelled) (extends_new before v d.type d.new) in
          let narrow = narrower frame (Other v) None params hole loop before (types_past schema before old_pair) before place.end place.around leaves (same_beside (type_spelled schema ty3)) (λ y j e. e) (λ b e. absurd cc) (subst (EachMentioned (Other v)) (sym rest_is) other.behind) in
          subst (λ z. MayReplace frame m hole old_pair (new_pair z)) asks.query_is
          (record {
            loop = loop;
            before = before;
            after_old = types_past schema before old_pair;
            after_new = types_past schema before old_pair;
            after = before;
            end = narrow.end;
            around = narrow.around;
            old_typed = place.typed;
            new_typed = next loop before between (types_past schema before old_pair) (tree.Declare at3 ty3 v query) (Then (tree.ForEach at2 ty x (tree.Var at4 v) (body_of at test inside)) Nothing) one behind_typed;
            old_leaves = leaves;
            new_leaves = leaves;
            replaces = pair_replaces schema reader m before x name asks.table asks.number at test inside walk.new walk.end walk.typed asks.condition asks.is have.0 have.1 asked loop v d.new at3 ty3 at1 at2 ty at4;
          })

      pair_walk_by : (between : Types) (d : DeclareTyped frame before ty3 v (tree.Fetch at1 name) between) (h : Types) (e : Expression) → e ≡ tree.Var at4 v → EachTyped frame (with_list d.type) x e (body_of at test inside) h → WalkIs x asks.table at test inside
      pair_walk_by between d _ e is (over k a hb new typed has body) =
          let a_row : a ≡ row = row_is d.type k a (fetch_row frame before at1 name asks.table asks.number d.type d.typed) (subst (λ z. HasType frame (with_list d.type) z k) is typed) has in
          let inner = subst (λ z. TypedStatements frame (Some (with_type x (Some (Of z)) (with_list d.type))) (with_type x (Some (Of z)) (with_list d.type)) (body_of at test inside) hb) a_row body in
          let s = body_stands d.type hb d.new inner in
          record { new = row_new d.type new; end = s.end; typed = s.typed }
      pair_walk_by between d _ e is (fresh k hb new fine body) = absurd (new_var e at4 v fine is)

      pub pair_walk : IsTypedPlace frame None params hole old_pair → WalkIs x asks.table at test inside
      pair_walk place =
          let declared : Statement = tree.Declare at3 ty3 v (tree.Fetch at1 name) in
          let walk : Statement = tree.ForEach at2 ty x (tree.Var at4 v) (body_of at test inside) in
          let t = typings frame loop before old_pair (types_past schema before old_pair) place.typed in
          let d : DeclareTyped frame before ty3 v (tree.Fetch at1 name) t.between = typing frame loop before declared t.between t.one in
          let u = typings frame loop t.between (Then walk Nothing) (types_past schema before old_pair) t.rest in
          let each_ : EachTyped frame t.between x (tree.Var at4 v) (body_of at test inside) u.between = typing frame loop t.between walk u.between u.one in
          pair_walk_by t.between d u.between (tree.Var at4 v) refl (subst (λ z. EachTyped frame z x (tree.Var at4 v) (body_of at test inside) u.between) d.end each_)

      pair_fetch : IsTypedPlace frame None params hole old_pair → MayReplace frame m hole old_pair (new_pair q)
      pair_fetch place =
          let declared : Statement = tree.Declare at3 ty3 v (tree.Fetch at1 name) in
          let t = typings frame loop before old_pair (types_past schema before old_pair) place.typed in
          pair_may t.between (typing frame loop before declared t.between t.one) t.rest place (pair_walk place)

    pub var_is : (x : List ℕ) (e : Expression) → is_variable x e ≡ true → (place : Span) × (e ≡ tree.Var place x)
    var_is x (tree.Var at y) h = (at, ap (tree.Var at) (sym (names_equal x y h)))
    var_is x e h = absurd cc

    abbrev PairMay : Span → Spelled → List ℕ → Span → Spelled → List ℕ → Expression → Expression → Expression → Statements → Type 0
    PairMay at3 ty3 v at2 ty x value q e body =
        IsTypedPlace frame None params hole (Then (tree.Declare at3 ty3 v value) (Then (tree.ForEach at2 ty x e body) Nothing))
        → MayReplace frame m hole (Then (tree.Declare at3 ty3 v value) (Then (tree.ForEach at2 ty x e body) Nothing)) (Then (tree.Declare at3 ty3 v q) (Then (tree.ForEach at2 ty x e body) Nothing))

    pub pair_place : (at3 : Span) (ty3 : Spelled) (v : List ℕ) (value : Expression) (at2 : Span) (ty : Spelled) (x : List ℕ) (e : Expression) (body rest : Statements) (q : Expression) → walks_alone v (Then (tree.ForEach at2 ty x e body) rest) ≡ true → behind hole ≡ rest → IsBodyQuery schema value x body q → PairMay at3 ty3 v at2 ty x value q e body
    pair_place at3 ty3 v value at2 ty x e body rest q alone rest_is b =
        let both = both_so (is_variable v e) (nat_eq (times_named v (Then (tree.ForEach at2 ty x e body) rest)) 1) alone in
        let var = var_is v e both.0 in
        let named : times_named v (Then (tree.ForEach at2 ty x (tree.Var var.0 v) (body_of b.at b.test b.inside)) rest) ≡ 1 = subst (λ z. times_named v (Then (tree.ForEach at2 ty x (tree.Var var.0 v) z) rest) ≡ 1) b.body_is (subst (λ z. times_named v (Then (tree.ForEach at2 ty x z body) rest) ≡ 1) var.1 (once (times_named v (Then (tree.ForEach at2 ty x e body) rest)) both.1)) in
        subst (λ z. PairMay at3 ty3 v at2 ty x z q e body) (sym b.list)
        (subst (λ z. PairMay at3 ty3 v at2 ty x (tree.Fetch b.at1 b.name) q z body) (sym var.1)
        (subst (λ z. PairMay at3 ty3 v at2 ty x (tree.Fetch b.at1 b.name) q (tree.Var var.0 v) z) (sym b.body_is)
        (pair_fetch b.name x v b.at1 b.at b.test b.inside q b.asks at2 ty at3 ty3 var.0 rest (others v at2 var.0 ty x (body_of b.at b.test b.inside) rest named) rest_is)))

-- ---- The program

module _ (schema : Schema) (all : AllAsked schema) (reader : Reader schema) (p : PlainProgram) (well : IsWellTyped schema reader.read p) (fits : NumbersFit p) (i n : ℕ) (path : List ℕ) (m : PlainMethod) (found : slice_get p.methods i ≡ Some m) where
  -- statements at the place of a path give way
  placed : (first : ℕ) (walk : Statement) (new : Statements) → statement_in path n m.body ≡ Some walk → first ≤ last_of (n ∷ path) → ((r : Reader schema) → IsTypedPlace (frame_of schema r.read m) None (types_of_params schema m.params) (place_in path n first m.body) (run_and_loop (run_in path n first m.body) walk) → MayReplace (frame_of schema r.read m) m (place_in path n first m.body) (run_and_loop (run_in path n first m.body) walk) new) → Keeps p (replaced_at (i ∷ n ∷ path) first new p) schema
  placed first walk new leads below may =
      let hole : Hole = place_in path n first m.body in
      let old : Statements = run_and_loop (run_in path n first m.body) walk in
      let k : MethodAt i p.methods m = method_at i p.methods m found in
      let at : Statements → PlainProgram = λ body. with_methods p (k.before ++ with_body m body ∷ k.after) in
      let whole : m.body ≡ fill hole old = whole_fills path n first m.body walk below leads in
      let old_is : p ≡ at (fill hole old) = ap (with_methods p) k.is ∙ ap at whole in
      let new_is : replaced_at (i ∷ n ∷ path) first new p ≡ at (fill hole new) = ap (with_methods p) (k.changed (λ z. with_body z (replaced_in path n first new z.body))) ∙ ap at (replaced_fills path n first new m.body walk leads) in
      let kept : Keeps (at (fill hole old)) (at (fill hole new)) schema = program_kept schema p k.before k.after m hole old new (λ r. may r (places_typed schema r.read p i m hole old (by_any_reader schema reader r p well) fits found whole)) in
      subst (λ z. Keeps z (replaced_at (i ∷ n ∷ path) first new p) schema) (sym old_is) (subst (λ z. Keeps (at (fill hole old)) z schema) (sym new_is) kept)

  abbrev May : Reader schema → ℕ → Statements → Statements → Type 0
  May r first old new = IsTypedPlace (frame_of schema r.read m) None (types_of_params schema m.params) (place_in path n first m.body) old → MayReplace (frame_of schema r.read m) m (place_in path n first m.body) old new

  module _ (block : Statements) (leads : Leads path n m.body block) where
    abbrev last : ℕ
    last = last_of (n ∷ path)

    -- a for-each over the fetch
    each_kept : (at2 : Span) (ty : Spelled) (x : List ℕ) (e : Expression) (body rest : Statements) (q : Expression) → behind_of last block ≡ Then (tree.ForEach at2 ty x e body) rest → query_of_body schema e x body ≡ Some q → Keeps p (replaced_at (i ∷ n ∷ path) last (Then (tree.ForEach at2 ty x q body) Nothing) p) schema
    each_kept at2 ty x e body rest q there h =
        let walk : Statement = tree.ForEach at2 ty x e body in
        let new : Statements = Then (tree.ForEach at2 ty x q body) Nothing in
        let run : run_in path n last m.body ≡ Nothing = leads.run last ∙ none_first last block in
        placed last walk new (leads.leads walk (numbered_behind last block walk rest there)) (omega arith) (λ r. subst (λ z. May r last (run_and_loop z walk) new) (sym run) (each_place schema all p i n path m block r (place_in path n last m.body) at2 ty x e body q (body_query schema e x body q h)))

    -- a for-each over a list that is fetched before
    pair_kept : (k : ℕ) → last ≡ suc k → (at3 : Span) (ty3 : Spelled) (v : List ℕ) (value : Expression) (at2 : Span) (ty : Spelled) (x : List ℕ) (e : Expression) (body rest : Statements) (q : Expression) → behind_of k block ≡ Then (tree.Declare at3 ty3 v value) (Then (tree.ForEach at2 ty x e body) rest) → walks_alone v (Then (tree.ForEach at2 ty x e body) rest) ≡ true → query_of_body schema value x body ≡ Some q → Keeps p (replaced_at (i ∷ n ∷ path) k (Then (tree.Declare at3 ty3 v q) (Then (tree.ForEach at2 ty x e body) Nothing)) p) schema
    pair_kept k is at3 ty3 v value at2 ty x e body rest q there alone h =
        let declared : Statement = tree.Declare at3 ty3 v value in
        let walk : Statement = tree.ForEach at2 ty x e body in
        let new : Statements = Then (tree.Declare at3 ty3 v q) (Then walk Nothing) in
        let run : run_in path n k m.body ≡ Then declared Nothing = leads.run k ∙ ap (λ (z : ℕ). behind_of k (first_of z block)) is ∙ one_first k block declared (Then walk rest) there in
        let next_there : behind_of (suc k) block ≡ Then walk rest = rest_behind k block declared (Then walk rest) there in
        let last_there : behind_of last block ≡ Then walk rest = ap (λ (z : ℕ). behind_of z block) is ∙ next_there in
        let rest_is : behind (place_in path n k m.body) ≡ rest = leads.rest k ∙ rest_behind last block walk rest last_there in
        placed k walk new (leads.leads walk (numbered_behind last block walk rest last_there)) (omega (arith, is)) (λ r. subst (λ z. May r k (run_and_loop z walk) new) (sym run) (pair_place schema all p i n path m block r (place_in path n k m.body) at3 ty3 v value at2 ty x e body rest q alone rest_is (body_query schema value x body q h)))

  by_block : (o : Option Statements) → outer_block path n m.body ≡ o → (q : PlainProgram) → found_in (λ block. narrowed_in schema (i ∷ n ∷ path) (last_of (n ∷ path)) block p) o ≡ Some q → Keeps p q schema
  by_block (Some block) e q h = (let leads = leads_to path n m.body block e in by_each schema p i n path block (λ z. Keeps p z schema) (each_kept block leads) (pair_kept block leads) (narrowed_each schema (behind_of (last_of (n ∷ path)) block)) refl q h)
  by_block None e q h = absurd cc

by_method : (schema : Schema) → AllAsked schema → (reader : Reader schema) (p : PlainProgram) → IsWellTyped schema reader.read p → NumbersFit p → (i n : ℕ) (path : List ℕ) (o : Option PlainMethod) → slice_get p.methods i ≡ o → (q : PlainProgram) → found_in (λ block. narrowed_in schema (i ∷ n ∷ path) (last_of (n ∷ path)) block p) (found_in (λ (method : PlainMethod). outer_block path n method.body) o) ≡ Some q → Keeps p q schema
by_method schema all reader p well fits i n path (Some m) e q h = by_block schema all reader p well fits i n path m e (outer_block path n m.body) refl q h
by_method schema all reader p well fits i n path None e q h = absurd cc

pub narrowed_keeps : (schema : Schema) → AllAsked schema → (reader : Reader schema) (p q : PlainProgram) (path : List ℕ) → IsWellTyped schema reader.read p → NumbersFit p → narrowed_at schema path p ≡ Some q → Keeps p q schema
narrowed_keeps schema all reader p q [] well fits h = absurd cc
narrowed_keeps schema all reader p q (i ∷ []) well fits h = absurd cc
narrowed_keeps schema all reader p q (i ∷ n ∷ path) well fits h = by_method schema all reader p well fits i n path (slice_get p.methods i) refl q h
