-- What selects are, and what stays, as laws say it.
use Rattle.std.proofs.Common.{◌≡◌, ℕ, Bool, true, List, [], ◌∷◌, Option, Some, Result, Ok, sym, ap, ◌∙◌, subst}
use Rattle.std.specs.List.{AllByRecursion}
use Rattle.qbs_base.specs.declared.scalar.Row.{Row}
use Rattle.qbs_base.specs.declared.scalar.Scalar.{Scalar}
use Rattle.qbs_base.specs.declared.scalar.Ty.{Ty}
use Rattle.qbs_base.specs.declared.scalar.Value.{Value}
use Rattle.qbs_base.specs.declared.scalar.Value.TheVariants.{Many}
use Rattle.qbs_base.specs.declared.span.Span.{Span}
use Rattle.qbs_base.specs.Columns.{columns_at}
use Rattle.qbs_base.specs.Named.{at_name}
use Rattle.qbs_base.specs.Tables.{rows_of}
use Rattle.qbs_base.specs.Values.{Schema, Database, IsRowOf}
use Rattle.sql_ast.specs.declared.tree.FromItem.{FromItem}
use Rattle.sql_ast.specs.Meaning.{Rows, passes, query_answer}
use Rattle.sql_ast.specs.Tree.{Condition, Where, PlainListing, Listing}
use Rattle.java_ast.specs.Names.{Names}
use Rattle.java_ast.specs.Tree.{Expression, Fetch, Expressions, Statements, PlainMethod}
use Rattle.java_mean.specs.declared.ending.Ending.{Ending}
use Rattle.java_mean.specs.declared.types.JavaType.{JavaType}
use Rattle.java_mean.specs.Asks.{frame_of}
use Rattle.java_mean.specs.Endings.{◌>>=◌, found}
use Rattle.java_mean.specs.Expression.{value_of, scalars_of, element}
use Rattle.java_mean.specs.Queries.{Reader}
use Rattle.java_mean.specs.Statement.{State, GoesOn, test_of, meanings}
use Rattle.java_mean.specs.Store.{Store, plainly}
use Rattle.java_mean.specs.Types.{Types, IsTyped}
use Rattle.java_mean.specs.Typing.{Frame, IsWorld, HasType, HaveTypes, Extends, TypedStatements}
use Rattle.java_mean.specs.World.{World}
use Rattle.select_parts.specs.Selects.{is_select}
use Rattle.spreads.specs.Conditions.{condition_in}
use Rattle.spreads.specs.Passing.{row_passes, passing}
use Rattle.spreads.specs.Spread.{Select, select_of, table_of}
use Rattle.spreads.specs.Staying.{assigned_among, all_stay}
use Rattle.spreads.proofs.Chosen.{select_is, rows_selected}
use Rattle.spreads.proofs.Passing.{IsAmong, untouched}
use Rattle.spreads.proofs.Selected.{select_of_typed, arguments_typed, value_is, table_has, all_stay_same}
use Rattle.spreads.proofs.Truth.{FilterIs, test_true}

same_from : (froms : List FromItem) (a b : FromItem) → froms ≡ a ∷ [] → froms ≡ b ∷ [] → a ≡ b
same_from froms a b e h = ap (λ (z : List FromItem). elim z as (λ _. FromItem) [ [] ↦ a | x ∷ xs ↦ x ]) (sym e ∙ h)

pub selects_answer : (schema : Schema) (q : PlainListing) (from : FromItem) (db : Database) (xs : List Scalar) → is_select schema q ≡ true → q.from ≡ from ∷ [] → query_answer db xs (Listing q) ≡ Rows (passing db xs q from)
selects_answer schema q from db xs e alone =
    let is = select_is schema q e in
    ap Rows (rows_selected schema db xs q is) ∙ ap (λ z. Rows (passing db xs q z)) (same_from q.from is.from from is.alone alone)

pub list_of_select : (schema : Schema) (reader : Reader schema) (m : PlainMethod) (assigned : Names) (g : Types) (e : Expression) (k : JavaType) (s : Select) (from : FromItem) → HasType (frame_of schema reader.read m) g e k → select_of schema reader.read assigned e ≡ Some s → s.query.from ≡ from ∷ [] → (w : World) → IsWorld (frame_of schema reader.read m) w → (store : Store) (xs : List Scalar) → scalars_of s.arguments w store ≡ Ok xs → value_of e w store ≡ Ok (Many (passing w.db xs s.query from))
list_of_select schema reader m assigned g e k s from typed is alone w world store xs h =
    let st = select_of_typed schema reader m assigned g e k s typed is in
    value_is schema reader m assigned g e k s st w world store xs h ∙ ap (λ (z : FromItem). let r : Result Value Ending = Ok (Many (passing w.db xs s.query z)) in r) (same_from s.query.from st.is.from from st.is.alone alone)

pub list_of_table : (schema : Schema) (reader : Reader schema) (m : PlainMethod) (assigned : Names) (g : Types) (e : Expression) (k : JavaType) (s : Select) (from : FromItem) → HasType (frame_of schema reader.read m) g e k → select_of schema reader.read assigned e ≡ Some s → s.query.from ≡ from ∷ [] → (w : World) → IsWorld (frame_of schema reader.read m) w → (store : Store) (at : Span) → value_of (Fetch at (table_of s.query.from)) w store ≡ Ok (Many (rows_of w.db from.table))
list_of_table schema reader m assigned g e k s from typed is alone w world store at =
    let st = select_of_typed schema reader m assigned g e k s typed is in
    ap (λ o. found o >>= λ rows. (let r : Result Value Ending = Ok (Many rows) in r)) (table_has schema reader m assigned g e k s st w world).there
    ∙ ap (λ (z : FromItem). let r : Result Value Ending = Ok (Many (rows_of w.db z.table)) in r) (same_from s.query.from st.is.from from st.is.alone alone)

pub truth_at_row : (schema : Schema) (reader : Reader schema) (m : PlainMethod) (assigned : Names) (g : Types) (e : Expression) (k : JavaType) (s : Select) (from : FromItem) (c : Condition) → HasType (frame_of schema reader.read m) g e k → select_of schema reader.read assigned e ≡ Some s → s.query.from ≡ from ∷ [] → s.query.filter ≡ Where c → (w : World) → IsWorld (frame_of schema reader.read m) w → (store : Store) → IsTyped schema g store → (xs : List Scalar) → scalars_of s.arguments w store ≡ Ok xs → (at : Span) (x : List ℕ) (row : Row) → IsRowOf from.table (columns_at schema from.table) row → at_name store x ≡ Some (plainly (element row)) → test_of (condition_in schema s.query at x s.arguments c) w store ≡ Ok (row_passes w.db xs s.query row)
truth_at_row schema reader m assigned g e k s from c typed is alone where_ w world store held xs h at x row of there =
    let st = select_of_typed schema reader m assigned g e k s typed is in
    let same = same_from s.query.from st.is.from from st.is.alone alone in
    test_true schema st.is.from.table s.query at x s.arguments xs row w store (record { schema_is = world.schema; row_there = there; row_is = subst (λ (z : FromItem). IsRowOf z.table (columns_at schema z.table) row) (sym same) of; arguments = h; typed = arguments_typed schema reader m assigned g e k s st w world store xs held h }) w.db c (subst (FilterIs schema st.is.from.table s.query) where_ st.filter_)
    ∙ ap (λ f. let r : Result Bool Ending = Ok (passes w.db xs f ((0, row) ∷ [])) in r) (sym where_)

pub arguments_stay : (c : Frame) (l : Option Types) (g h end : Types) (assigned : Names) (es : Expressions) (types : List Ty) (body : Statements) → HaveTypes c g es types → all_stay assigned es ≡ true → Extends h g → TypedStatements c l h body end → AllByRecursion (IsAmong assigned) (assigned_among body) → (w : World) (s u : State) → meanings body w s ≡ Ok (GoesOn u) → scalars_of es w u.store ≡ scalars_of es w s.store
arguments_stay c l g h end assigned es types body typed stay wider inner names w s u e = all_stay_same c g assigned w s.store u.store (untouched c g assigned l h body end inner wider names w s u e) es types typed stay
