-- A walk over a table whose body is one `if` is followed by one over the rows that the plain parts of its condition want.
use Rattle.std.proofs.Common.{◌≡◌, ℕ, ◌+◌, Bool, true, false, ◌&&◌, ◌||◌, List, [], ◌∷◌, Option, Some, None, Result, Ok, Err, refl, sym, ap, ◌∙◌, subst, arith}
use Rattle.std.specs.Prelude.{bytes_eq}
use Rattle.std.specs.List.{filter, AllByRecursion}
use Rattle.std.specs.Option.{option_map}
use Rattle.qbs_base.specs.declared.scalar.Row.{Row}
use Rattle.qbs_base.specs.declared.scalar.Scalar.{Scalar}
use Rattle.qbs_base.specs.declared.scalar.Ty.{Ty}
use Rattle.qbs_base.specs.declared.scalar.Ty.TheVariants as tys
use Rattle.qbs_base.specs.declared.scalar.Value.{Value}
use Rattle.qbs_base.specs.declared.scalar.Value.TheVariants.{Many}
use Rattle.qbs_base.specs.declared.span.Span.{Span}
use Rattle.qbs_base.specs.Columns.{columns_at, table_number}
use Rattle.qbs_base.specs.Named.{at_name}
use Rattle.qbs_base.specs.Tables.{NamedRows, rows_of}
use Rattle.qbs_base.specs.Values.{Schema, HasTy, IsRowOf}
use Rattle.sql_ast.specs.declared.tree.SqlColumn.TheVariants as columns
use Rattle.sql_ast.specs.declared.tree.SqlItem.TheVariants as items
use Rattle.sql_ast.specs.Canonical.{canonical}
use Rattle.sql_ast.specs.Meaning.{Answered, query_answer, truth_of}
use Rattle.sql_ast.specs.Tree as sql
use Rattle.sql_ast.specs.Tree.{Condition, PlainListing, PlainQuery, Listing}
use Rattle.java_ast.specs.Names.{Names, is_among}
use Rattle.java_ast.specs.Tree as tree
use Rattle.java_ast.specs.Tree.{Spelled, Expression, Expressions, Statement, Statements, Nothing, Then, PlainMethod}
use Rattle.java_mean.specs.declared.ending.Ending.{Ending}
use Rattle.java_mean.specs.declared.ending.Ending.TheVariants as endings
use Rattle.java_mean.specs.declared.types.JavaType.TheVariants.{Of, Listed}
use Rattle.java_mean.specs.declared.types.Single.TheVariants.{RowOf}
use Rattle.java_mean.specs.Asks.{type_of_found, frame_of}
use Rattle.java_mean.specs.Endings.{◌>>=◌, found}
use Rattle.java_mean.specs.Expression.{value_of, scalars_of, as_scalar, as_rows, as_bool, truth, answered, element}
use Rattle.java_mean.specs.Queries.{Reader}
use Rattle.java_mean.specs.Refines.{Follows, Alike, exits, Agree, same_exits, Replaces, leaving, agreeing}
use Rattle.java_mean.specs.Statement.{State, Passed, GoesOn, done, then_do, branch, with_variable, each, test_of, is_set_type, meanings}
use Rattle.java_mean.specs.Store.{Store, Variable, put, plainly}
use Rattle.java_mean.specs.Types.{Types, with_type, IsOf, IsTyped}
use Rattle.java_mean.specs.Typing.{Frame, IsWorld, HasType, query, HaveTypes, Extends, bool, TypedStatements}
use Rattle.java_mean.specs.World.{World}
use Rattle.java_mean.proofs.Alike.{extends_new}
use Rattle.java_mean.proofs.Numbered.{rows_of_table}
use Rattle.java_mean.proofs.Puts.{put_other, put_same, names_equal, name_same}
use Rattle.java_mean.proofs.Simulates.{Holds, follows_then, follows_wider}
use Rattle.java_mean.proofs.TypedRuns.{extends_statements, loops_on, typed_statements}
use Rattle.java_mean.proofs.TypedValues.{holds_bind, scalar_in, bool_in, typed_value}
use Rattle.select_parts.specs.Selects.{is_select}
use Rattle.spreads.specs.Narrowed.{parts_of, is_plain, Arguments, taken, all_read, condition_of, taken_condition, expressions, selecting}
use Rattle.spreads.specs.Passing.{row_passes}
use Rattle.spreads.specs.Staying.{assigned_among}
use Rattle.spreads.proofs.Covering.{alike_beside, beside_alike}
use Rattle.spreads.proofs.Passing.{IsAmong, Untouched, untouched}
use Rattle.spreads.proofs.Selected.{all_stay_same}
use Rattle.spreads.proofs.Stated.{selects_answer}
use Rattle.spreads.proofs.Typings.{typing, typings}
use Rattle.narrowings.proofs.Args.{AreArguments, they_stay, values_there, read_args}
use Rattle.narrowings.proofs.Conjuncts.{IsTrueHere, parts_typed, parts_true, test_true, all_taken, all_mapped, all_conditions}
use Rattle.narrowings.proofs.Parts.{PartIs, part_is}
use Rattle.narrowings.proofs.Truth.{AtRow, part_true}
use Rattle.narrowings.proofs.Walk.{Skipped, IsWalk, walk_follows}

-- the select of a condition, where its parameters have these types
abbrev pub asked : List ℕ → ℕ → Condition → List Ty → PlainListing
asked name table d types =
    record {
      item = items.Whole 1;
      from = record { name = name; table = table } ∷ [];
      filter = sql.Where d;
      group = None;
      keys = record { least = false; col = record { item = 1; column = columns.Pos }; down = false } ∷ [];
      limit = None;
      params = types;
    }

abbrev pub text_of : List ℕ → ℕ → Condition → List ℕ
text_of name table d = canonical (Listing (selecting name table d))

-- its text is read as the select
pub record IsAsked (schema : Schema) (read : List ℕ → Option PlainQuery) (name : List ℕ) (table : ℕ) (d : Condition) (types : List Ty) : Type 0 where
  pub read_so : read (text_of name table d) ≡ Some (Listing (asked name table d types))
  pub select : is_select schema (asked name table d types) ≡ true

all_both : {A : Type 0} (P Q : A → Type 0) (xs : List A) → AllByRecursion P xs → AllByRecursion Q xs → AllByRecursion (λ x. P x × Q x) xs
all_both P Q [] h k = tt
all_both P Q (x ∷ xs) h k = ((h.0, k.0), all_both P Q xs h.1 k.1)

truth_one : (b : Bool) → (let r : Result Value Ending = Ok (truth b) in r) ≡ Ok (truth true) → b ≡ true
truth_one true e = refl
truth_one false e = absurd cc

both_true : (a b : Bool) → a ≡ true → b ≡ true → (a && b) ≡ true
both_true true b e h = h
both_true false b e h = absurd cc

or_true : (a b : Bool) → b ≡ true → (a || b) ≡ true
or_true true b e = refl
or_true false b e = e

first_true : (a b : Bool) → a ≡ true → (a || b) ≡ true
first_true true b e = refl
first_true false b e = absurd cc

among_more : (n : List ℕ) (ns ms : Names) → AllByRecursion (IsAmong ns) ms → AllByRecursion (IsAmong (n ∷ ns)) ms
among_more n ns [] h = tt
among_more n ns (z ∷ ms) h = (or_true (bytes_eq z n) (is_among ns z) h.0, among_more n ns ms h.1)

among_themselves : (ns : Names) → AllByRecursion (IsAmong ns) ns
among_themselves [] = tt
among_themselves (n ∷ ns) = (first_true (bytes_eq n n) (is_among ns n) (name_same n), among_more n ns ns (among_themselves ns))

abbrev rows_in : Option NamedRows → List Row
rows_in (Some table) = table.1
rows_in None = []

pub untouched_put : (g : Types) (assigned : Names) (start s : Store) (x : List ℕ) (v : Variable) → g x ≡ None → Untouched g assigned start s → Untouched g assigned start (put s x v)
untouched_put g assigned start s x v new h y b e n = put_other s x y v (by_name (bytes_eq x y) refl) ∙ h y b e n
  where
    by_name : (d : Bool) → bytes_eq x y ≡ d → d ≡ false
    by_name true q = let there : g x ≡ g y = ap g (names_equal x y q) in absurd cc
    by_name false q = refl

pub alike_itself : (schema : Schema) (g : Types) (s : State) → IsTyped schema g s.store → Alike schema g s s
alike_itself schema g s typed = record { store = λ y k e. (let v = typed.held y k e in record { held = v.0; typed = v.2; left = v.1; right = v.1 }); lines = refl; turns = omega arith }

-- what is alike agrees
agree : (schema : Schema) (g : Types) (s t : State) → Alike schema g s t → Agree g s t
agree schema g s t a = record { store = λ y k e. (let v = a.store y k e in v.left ∙ sym v.right); lines = a.lines; turns = a.turns }

leaves_agree : (schema : Schema) (l : Option Types) (s t : State) → leaving schema l s t → agreeing l s t
leaves_agree schema None s t h = tt
leaves_agree schema (Some b) s t h = agree schema b s t h

pub agreeing_so : (c : Frame) (l : Option Types) (g : Types) (o p : Result Passed Ending) → Follows (Alike c.schema g) (exits c l ⊥) o p → Follows (Agree g) (same_exits l) o p
agreeing_so c l g o p h = follows_wider (Alike c.schema g) (Agree g) (exits c l ⊥) (same_exits l) o p (agree c.schema g) (record { leaves = leaves_agree c.schema l; returns = λ v k. tt; stuck = λ k. tt }) h

module _ (schema : Schema) (reader : Reader schema) (m : PlainMethod) where
  abbrev frame : Frame
  frame = frame_of schema reader.read m

  module _ (g : Types) (x : List ℕ) (name : List ℕ) (table : ℕ) (number : table_number schema name ≡ Some table) (at : Span) (test : Expression) (inside : Statements) (new : g x ≡ None) (end : Types) where
    abbrev body : Statements
    body = Then (tree.If at test inside) Nothing

    abbrev assigned : Names
    assigned = assigned_among body

    abbrev parts : List Expression
    parts = taken assigned x [] (parts_of test)

    abbrev args : Arguments
    args = all_read x [] parts

    abbrev es : Expressions
    es = expressions args

    abbrev inner : Types
    inner = with_type x (Some (Of (RowOf table))) g

    module _ (typed : TypedStatements frame (Some inner) inner body end) where
      wider : Extends inner g
      wider = extends_new g x (Of (RowOf table)) new

      test_typed : HasType frame inner test bool
      test_typed = (let t = typings frame (Some inner) inner body end typed in (let i = typing frame (Some inner) inner (tree.If at test inside) t.between t.one in i.test))

      plain_parts : AllByRecursion (λ (e : Expression). HasType frame inner e bool × (is_plain assigned x e ≡ true)) parts
      plain_parts = all_taken (λ (e : Expression). HasType frame inner e bool) assigned x [] (parts_of test) (parts_typed frame inner test test_typed)

      pub arguments : AreArguments frame g assigned args
      arguments = read_args frame g x table new assigned parts plain_parts [] tt

      -- what a typed plain part is
      pub parts_are : AllByRecursion (λ (e : Expression). (d : Condition) → condition_of (columns_at schema table) x args e ≡ Some d → PartIs frame g x table args e d) parts
      parts_are = all_mapped (λ (e : Expression). HasType frame inner e bool × (is_plain assigned x e ≡ true)) (λ (e : Expression). (d : Condition) → condition_of (columns_at schema table) x args e ≡ Some d → PartIs frame g x table args e d) (λ e h d i. part_is frame g x table args new assigned e bool h.0 refl h.1 d i) parts plain_parts

      module _ (d : Condition) (is : taken_condition (columns_at schema table) x args parts ≡ Some d) (types : List Ty) (have : HaveTypes frame g es types) (asks : IsAsked schema reader.read name table d types) where
        -- the query has the type of the fetch
        pub query_typed : (at1 : Span) → HasType frame g (tree.Query at1 (tree.Table name) (text_of name table d) es) (Listed (RowOf table))
        query_typed at1 = query at1 (tree.Table name) (text_of name table d) es (record { params = types; answer = Listed (RowOf table) }) (ap (type_of_found schema) asks.read_so) have

        module _ (w : World) (world : IsWorld frame w) where
          abbrev table_rows : List Row
          table_rows = rows_of w.db table

          abbrev wanted : List Scalar → Row → Bool
          wanted xs = row_passes w.db xs (asked name table d types)

          record TableHas : Type 0 where
            there : at_name w.db name ≡ Some table_rows
            all : AllByRecursion (IsRowOf table (columns_at schema table)) table_rows

          table_has : TableHas
          table_has =
              let held = rows_of_table 0 schema w.db name table world.tables number in
              let rows : table_rows ≡ held.rows = ap (λ (z : Option NamedRows). rows_in z) held.numbered ∙ held.rows_are in
              let at_zero : 0 + table ≡ table = omega arith in
              record {
                there = held.there ∙ ap (λ z. let o : Option (List Row) = Some z in o) (sym rows);
                all = subst (AllByRecursion (IsRowOf table (columns_at schema table))) (sym rows) (subst (λ (n : ℕ). AllByRecursion (IsRowOf n (columns_at schema table)) held.rows) at_zero held.all);
              }

          pub fetched : (at1 : Span) (s : Store) → value_of (tree.Fetch at1 name) w s ≡ Ok (Many table_rows)
          fetched at1 s = ap (λ o. found o >>= λ rows. (let r : Result Value Ending = Ok (Many rows) in r)) table_has.there

          pub queried : (at1 : Span) (s : Store) (xs : List Scalar) → scalars_of es w s ≡ Ok xs → value_of (tree.Query at1 (tree.Table name) (text_of name table d) es) w s ≡ Ok (Many (filter (wanted xs) table_rows))
          queried at1 s xs h =
              ap (λ o. o >>= λ ys. answered at1 (w.ask (text_of name table d) ys)) h
              ∙ ap (answered at1) (world.asked (text_of name table d) xs ∙ ap (option_map (query_answer w.db xs)) asks.read_so)
              ∙ ap (λ (z : Answered). answered at1 (Some z)) (selects_answer schema (asked name table d types) (record { name = name; table = table }) w.db xs asks.select refl)

          module _ (start : Store) (start_typed : IsTyped schema g start) (xs : List Scalar) (given : scalars_of es w start ≡ Ok xs) where
            abbrev Kept : Store → Type 0
            Kept s = Untouched g assigned start s

            goes_kept : (u v : State) → Kept u.store → meanings body w u ≡ Ok (GoesOn v) → Kept v.store
            goes_kept u v h went y b e n = untouched frame g assigned (Some inner) inner body end typed wider (among_themselves assigned) w u v went y b e n ∙ h y b e n

            -- where the test is true the row is wanted
            module _ (row : Row) (of : IsRowOf table (columns_at schema table) row) (s : State) (s_typed : IsTyped schema inner s.store) (kept : Kept s.store) (there : at_name s.store x ≡ Some (plainly (element row))) where
              at_row : AtRow frame g x table args xs row w s.store
              at_row = record {
                world = world;
                typed = record { held = λ y k e. s_typed.held y k (wider y k e) };
                there = there;
                is = of;
                given = all_stay_same frame g assigned w start s.store kept es types have (they_stay frame g assigned args arguments) ∙ given;
              }

              abbrev IsTruePart : Expression → Type 0
              IsTruePart e = (f : Condition) → condition_of (columns_at schema table) x args e ≡ Some f → truth_of w.db xs f ((0, row) ∷ []) ≡ true

              true_part_of : (e : Expression) → (HasType frame inner e bool × IsTrueHere w s.store e) × (is_plain assigned x e ≡ true) → IsTruePart e
              true_part_of e h f i =
                  truth_one (truth_of w.db xs f ((0, row) ∷ [])) (sym (part_true frame g x table args xs row w s.store at_row e f (part_is frame g x table args new assigned e bool h.0.0 refl h.1 f i)) ∙ h.0.1)

              true_wanted : test_of test w s.store ≡ Ok true → wanted xs row ≡ true
              true_wanted h =
                  let both = all_both (λ (e : Expression). HasType frame inner e bool) (IsTrueHere w s.store) (parts_of test) (parts_typed frame inner test test_typed) (parts_true w s.store test (test_true w s.store test h)) in
                  let all = all_taken (λ (e : Expression). HasType frame inner e bool × IsTrueHere w s.store e) assigned x [] (parts_of test) both in
                  all_conditions (columns_at schema table) x args (λ (f : Condition). truth_of w.db xs f ((0, row) ∷ []) ≡ true) (λ a b p r. both_true (truth_of w.db xs a ((0, row) ∷ [])) (truth_of w.db xs b ((0, row) ∷ [])) p r) parts (all_mapped (λ (e : Expression). (HasType frame inner e bool × IsTrueHere w s.store e) × (is_plain assigned x e ≡ true)) IsTruePart true_part_of parts all) d is

              test_holds : Holds ⊥ (λ (b : Bool). Unit {0}) (test_of test w s.store)
              test_holds =
                  holds_bind (HasTy tys.Bool) (λ (b : Bool). Unit {0}) (value_of test w s.store >>= as_scalar) as_bool (holds_bind (IsOf schema bool) (HasTy tys.Bool) (value_of test w s.store) as_scalar (typed_value frame inner test bool test_typed w s.store world s_typed) (λ v hv. scalar_in schema tys.Bool v hv)) (λ z hz. bool_in z hz)

              skip_by : (l : Option Types) (o : Result Bool Ending) → Holds ⊥ (λ (b : Bool). Unit {0}) o → (o ≡ Ok true → ⊥) → Skipped schema g end x (RowOf table) (exits frame (Some inner) ⊥) (exits frame l ⊥) (wanted xs) (meanings body w) Kept s (then_do (o >>= λ b. branch b (meanings inside w) done s) (meanings Nothing w))
              skip_by l (Ok true) h k = absurd (k refl)
              skip_by l (Ok false) h k = refl
              skip_by l (Err (endings.Faulted fault place)) h k = tt
              skip_by l (Err endings.OutOfTurns) h k = tt
              skip_by l (Err endings.Stuck) h k = h

              skipped : (l : Option Types) → wanted xs row ≡ false → Skipped schema g end x (RowOf table) (exits frame (Some inner) ⊥) (exits frame l ⊥) (wanted xs) (meanings body w) Kept s (meanings body w s)
              skipped l out = skip_by l (test_of test w s.store) test_holds (λ h. (let yes : wanted xs row ≡ true = true_wanted h in absurd cc))

            is_walk : (l : Option Types) → IsWalk schema g end x (RowOf table) (exits frame (Some inner) ⊥) (exits frame l ⊥) (wanted xs) (meanings body w) Kept
            is_walk l = record {
              wider = λ y k e. extends_statements frame (Some inner) inner end body typed y k (wider y k e);
              new = new;
              same = typed_statements frame (Some inner) inner body end typed w world;
              loops = loops_on frame l inner g ⊥ wider;
              set = λ s v h. untouched_put g assigned start s x v new h;
              goes = goes_kept;
              skips = λ row of out s s_typed kept there. skipped row of s s_typed kept there l out;
            }

            pub walks : (l : Option Types) (s t : State) → Alike schema g s t → Kept s.store → Follows (Alike schema g) (exits frame l ⊥) (each table_rows x (meanings body w) s) (each (filter (wanted xs) table_rows) x (meanings body w) t)
            walks l s t i k = walk_follows schema g end x (RowOf table) (exits frame (Some inner) ⊥) (exits frame l ⊥) (wanted xs) (meanings body w) Kept (is_walk l) table_rows table_has.all s t i k

        -- ---- The fetch is the list of the for-each

        then_nothing : (c : Frame) (l : Option Types) (w : World) (o p : Result Passed Ending) → Follows (Alike c.schema g) (exits c l ⊥) o p → Follows (Alike c.schema g) (exits c l ⊥) (then_do o (meanings Nothing w)) (then_do p (meanings Nothing w))
        then_nothing c l w o p h = follows_then (Alike c.schema g) (Alike c.schema g) (exits c l ⊥) o p (meanings Nothing w) (meanings Nothing w) h (λ s t a. record { state = t; is = refl; holds = a })

        abbrev old_each : Span → Spelled → Span → Statements
        old_each at2 ty at1 = Then (tree.ForEach at2 ty x (tree.Fetch at1 name) body) Nothing

        abbrev new_each : Span → Spelled → Span → Statements
        new_each at2 ty at1 = Then (tree.ForEach at2 ty x (tree.Query at1 (tree.Table name) (text_of name table d) es) body) Nothing

        abbrev run_each : World → State → Result Value Ending → Result Passed Ending
        run_each w s o = then_do (o >>= λ v. as_rows v >>= λ rows. each rows x (meanings body w) s) (meanings Nothing w)

        pub each_replaces : (l : Option Types) (at2 : Span) (ty : Spelled) (at1 : Span) → Replaces frame l g g (old_each at2 ty at1) (new_each at2 ty at1)
        each_replaces l at2 ty at1 = record {
          by = λ w world s typed_s. (
              let xs = values_there frame g assigned args arguments w world s.store typed_s in
              let walk = walks w world s.store typed_s xs.0 xs.1 l s s (alike_itself schema g s typed_s) (λ y b e n. refl) in
              let both = agreeing_so frame l g (then_do (each (rows_of w.db table) x (meanings body w) s) (meanings Nothing w)) (then_do (each (filter (row_passes w.db xs.0 (asked name table d types)) (rows_of w.db table)) x (meanings body w) s) (meanings Nothing w)) (then_nothing frame l w (each (rows_of w.db table) x (meanings body w) s) (each (filter (row_passes w.db xs.0 (asked name table d types)) (rows_of w.db table)) x (meanings body w) s) walk) in
              subst (λ o. Follows (Agree g) (same_exits l) (run_each w s o) (meanings (new_each at2 ty at1) w s)) (sym (fetched w world at1 s.store))
              (subst (λ o. Follows (Agree g) (same_exits l) (then_do (each (rows_of w.db table) x (meanings body w) s) (meanings Nothing w)) (run_each w s o)) (sym (queried w world at1 s.store xs.0 xs.1)) both));
        }

        -- ---- The fetch is declared before

        abbrev old_pair : Span → Spelled → List ℕ → Span → Span → Spelled → Span → Statements
        old_pair at3 ty3 v at1 at2 ty at4 = Then (tree.Declare at3 ty3 v (tree.Fetch at1 name)) (Then (tree.ForEach at2 ty x (tree.Var at4 v) body) Nothing)

        abbrev new_pair : Span → Spelled → List ℕ → Span → Span → Spelled → Span → Statements
        new_pair at3 ty3 v at1 at2 ty at4 = Then (tree.Declare at3 ty3 v (tree.Query at1 (tree.Table name) (text_of name table d) es)) (Then (tree.ForEach at2 ty x (tree.Var at4 v) body) Nothing)

        abbrev run_pair : World → Span → Spelled → List ℕ → Span → Spelled → Span → State → Result Value Ending → Result Passed Ending
        run_pair w at3 ty3 v at2 ty at4 s o = then_do (o >>= λ z. done (with_variable s v (record { value = z; is_set = is_set_type ty3 }))) (meanings (Then (tree.ForEach at2 ty x (tree.Var at4 v) body) Nothing) w)

        -- what the two statements do, where the list has these rows
        pair_run : (w : World) (at3 : Span) (ty3 : Spelled) (v : List ℕ) (at2 : Span) (ty : Spelled) (at4 : Span) (s : State) (rows : List Row) → run_pair w at3 ty3 v at2 ty at4 s (Ok (Many rows)) ≡ then_do (each rows x (meanings body w) (with_variable s v (record { value = Many rows; is_set = is_set_type ty3 }))) (meanings Nothing w)
        pair_run w at3 ty3 v at2 ty at4 s rows =
            let held : Variable = record { value = Many rows; is_set = is_set_type ty3 } in
            ap (λ o. then_do ((found o >>= λ (u : Variable). (let r : Result Value Ending = Ok u.value in r)) >>= λ z. as_rows z >>= λ rows. each rows x (meanings body w) (with_variable s v held)) (meanings Nothing w)) (put_same s.store v held)

        pub pair_replaces : (l : Option Types) (v : List ℕ) → g v ≡ None → (at3 : Span) (ty3 : Spelled) (at1 at2 : Span) (ty : Spelled) (at4 : Span) → Replaces frame l g g (old_pair at3 ty3 v at1 at2 ty at4) (new_pair at3 ty3 v at1 at2 ty at4)
        pair_replaces l v fresh at3 ty3 at1 at2 ty at4 = record {
          by = λ w world s typed_s. (
              let xs = values_there frame g assigned args arguments w world s.store typed_s in
              let all : List Row = rows_of w.db table in
              let some : List Row = filter (row_passes w.db xs.0 (asked name table d types)) all in
              let old : Variable = record { value = Many all; is_set = is_set_type ty3 } in
              let new_ : Variable = record { value = Many some; is_set = is_set_type ty3 } in
              let s1 : State = with_variable s v old in
              let t1 : State = with_variable s v new_ in
              let alike : Alike schema g s1 t1 = beside_alike schema g s t1 v old fresh (alike_beside schema g s s v new_ fresh (alike_itself schema g s typed_s)) in
              let walk = walks w world s.store typed_s xs.0 xs.1 l s1 t1 alike (untouched_put g assigned s.store s.store v old fresh (λ y b e n. refl)) in
              let both = agreeing_so frame l g (then_do (each all x (meanings body w) s1) (meanings Nothing w)) (then_do (each some x (meanings body w) t1) (meanings Nothing w)) (then_nothing frame l w (each all x (meanings body w) s1) (each some x (meanings body w) t1) walk) in
              subst (λ o. Follows (Agree g) (same_exits l) (run_pair w at3 ty3 v at2 ty at4 s o) (meanings (new_pair at3 ty3 v at1 at2 ty at4) w s)) (sym (fetched w world at1 s.store))
              (subst (λ o. Follows (Agree g) (same_exits l) (run_pair w at3 ty3 v at2 ty at4 s (Ok (Many all))) (run_pair w at3 ty3 v at2 ty at4 s o)) (sym (queried w world at1 s.store xs.0 xs.1))
              (subst (λ r. Follows (Agree g) (same_exits l) r (run_pair w at3 ty3 v at2 ty at4 s (Ok (Many some)))) (sym (pair_run w at3 ty3 v at2 ty at4 s all))
              (subst (λ r. Follows (Agree g) (same_exits l) (then_do (each all x (meanings body w) s1) (meanings Nothing w)) r) (sym (pair_run w at3 ty3 v at2 ty at4 s some)) both))));
        }
