-- The first form of a loop gives way to its query.
use Rattle.std.proofs.Common.{◌≡◌, ℕ, zero, suc, Bool, true, false, List, [], ◌∷◌, ◌++◌, ◌≢◌, Option, Some, None, ℤ, refl, sym, ap, ◌∙◌, subst, ◌+◌, arith}
use Rattle.std.specs.Prelude.{bytes_eq, slice_get}
use Rattle.std.specs.List.{filter, AllByRecursion}
use Rattle.qbs_base.specs.declared.scalar.Scalar.{Scalar}
use Rattle.qbs_base.specs.declared.scalar.Scalar.TheVariants as scalars
use Rattle.qbs_base.specs.declared.scalar.Ty.{Ty}
use Rattle.qbs_base.specs.declared.scalar.Ty.TheVariants as tys
use Rattle.qbs_base.specs.declared.scalar.Kind.{Kind}
use Rattle.qbs_base.specs.declared.scalar.Row.{Row}
use Rattle.qbs_base.specs.declared.scalar.Value.TheVariants.{Many}
use Rattle.qbs_base.specs.declared.columns.Column.{Column}
use Rattle.qbs_base.specs.Values.{Schema, Database, HasTy, AreCells, IsRowOf}
use Rattle.qbs_base.specs.Tables.{NamedRows, rows_of}
use Rattle.qbs_base.specs.Columns.{columns_at, column_number}
use Rattle.std.specs.Option.{option_map}
use Rattle.sql_ast.specs.Tree.{PlainQuery}
use Rattle.java_ast.specs.Tree.{PlainMethod, PlainProgram}
use Rattle.java_ast.specs.Path.{with_body, with_methods}
use Rattle.java_mean.specs.Queries.{Reader, HasQuery, Rows, query_answer}
use Rattle.java_mean.specs.Outcome.{Done, world}
use Rattle.java_mean.specs.Keeps.{IsDoneAlike, Keeps}
use Rattle.java_mean.specs.World.{World}
use Rattle.java_mean.specs.Expression.{element_in, cell_at, columns_of}
use Rattle.java_mean.specs.FirstForm.{HasLongColumn, FormPlaces, QueryPlaces, collecting, selecting, selection, is_collected}
use Rattle.java_mean.proofs.Collected.{HasNumber, collected_done, selected_done}
use Rattle.java_mean.proofs.Kept.{keeps_replaced}
use Rattle.java_mean.proofs.Puts.{names_equal}
use Rattle.java_mean.proofs.Numbered.{rows_of_table}
use Rattle.java_mean.proofs.Selected.{IsTested, selection_answered}

-- a cell of a column of type Long is a number
pub record IsNumberAt (cells : List Scalar) (c : ℕ) : Type 0 where
  pub number : ℤ
  pub there : slice_get cells c ≡ Some (scalars.Long number)

long_cell : (ty : Ty) (x : Scalar) (cells : List Scalar) → ty ≡ tys.Long → HasTy ty x → IsNumberAt (x ∷ cells) 0
long_cell tys.Long (scalars.Long n) cells e h = record { number = n; there = refl }
long_cell tys.Long (scalars.Bool b) cells e h = absurd h
long_cell tys.Long (scalars.Text t) cells e h = absurd h
long_cell tys.Bool x cells e h = absurd cc
long_cell tys.Text x cells e h = absurd cc

pub number_at : (columns : List Column) (cells : List Scalar) (c : ℕ) (column : Column) → AreCells columns cells → slice_get columns c ≡ Some column → column.ty ≡ tys.Long → IsNumberAt cells c
number_at [] cells c column h e long = absurd cc
number_at (k ∷ ks) [] c column h e long = absurd h
number_at (k ∷ ks) (x ∷ xs) zero column h e long = let same : k ≡ column = cc in long_cell k.ty x xs (ap (λ (z : Column). z.ty) same ∙ long) h.0
number_at (k ∷ ks) (x ∷ xs) (suc c) column h e long =
    let rest = number_at ks xs c column h.1 e long in
    record { number = rest.number; there = rest.there }

row_has_number : (w : World) (f : List ℕ) (row : Row) (has : (t : List ℕ) × HasLongColumn w.schema t f) → IsRowOf has.1.table (columns_at w.schema has.1.table) row → HasNumber w f row
row_has_number w f row has h =
    let k = number_at (columns_at w.schema has.1.table) row.cells has.1.column has.1.declared h.1 has.1.there has.1.long in
    record {
      whole = ap (λ (z : Kind). element_in z row.cells row) h.0;
      number = k.number;
      there = ap (λ (z : Kind). cell_at row.cells (column_number (columns_of w.schema z) f)) h.0 ∙ ap (cell_at row.cells) has.1.named ∙ k.there;
    }

pub rows_have_numbers : (w : World) (t f : List ℕ) (has : HasLongColumn w.schema t f) (rows : List Row) → AllByRecursion (IsRowOf has.table (columns_at w.schema has.table)) rows → AllByRecursion (HasNumber w f) rows
rows_have_numbers w t f has [] h = tt
rows_have_numbers w t f has (row ∷ rows) h = (row_has_number w f row (t, has) h.0, rows_have_numbers w t f has rows h.1)

rows_tested : (schema : Schema) (t f : List ℕ) (has : HasLongColumn schema t f) (rows : List Row) → AllByRecursion (IsRowOf has.table (columns_at schema has.table)) rows → AllByRecursion (IsTested schema f has.column) rows
rows_tested schema t f has [] h = tt
rows_tested schema t f has (row ∷ rows) h =
    (ap (λ (z : Kind). cell_at row.cells (column_number (columns_of schema z) f)) h.0.0 ∙ ap (cell_at row.cells) has.named, rows_tested schema t f has rows h.1)

asked : (schema : Schema) (reader : Reader schema) (db : Database) (text : List ℕ) (q : PlainQuery) → HasQuery schema text q → (world schema reader db).ask text [] ≡ Some (query_answer db [] q)
asked schema reader db text q h = ap (option_map (query_answer db [])) ((reader.exact text q).1 h)

abbrev rows_in : Option NamedRows → List Row
rows_in (Some table) = table.1
rows_in None = []

-- the loop is done with the rows that the query answers
pub first_form_alike : (schema : Schema) (t o x f text : List ℕ) (d : ℤ) (at : FormPlaces) (at' : QueryPlaces) (m : PlainMethod) (has : HasLongColumn schema t f) → bytes_eq x o ≡ false → HasQuery schema text (selection t has.table f has.column d) → IsDoneAlike schema (with_body m (collecting at t o x f d)) (with_body m (selecting at' t o text))
first_form_alike schema t o x f text d at at' m has ne q reader db is args typed n lines value e =
    let w : World = world schema reader db in
    let held = rows_of_table 0 schema db t has.table is has.known in
    let at_zero : 0 + has.table ≡ has.table = omega arith in
    let all : AllByRecursion (IsRowOf has.table (columns_at schema has.table)) held.rows = subst (λ (k : ℕ). AllByRecursion (IsRowOf k (columns_at schema has.table)) held.rows) at_zero held.all in
    let numbered : rows_of db has.table ≡ held.rows = ap (λ (z : Option NamedRows). rows_in z) held.numbered ∙ held.rows_are in
    let done : Done lines value ≡ Done [] (Some (Many (filter (is_collected schema f d) held.rows))) = collected_done at t o x f d w held.rows m args n lines value ne held.there (rows_have_numbers w t f has held.rows all) e in
    let answer : w.ask text [] ≡ Some (Rows (filter (is_collected schema f d) held.rows)) = asked schema reader db text (selection t has.table f has.column d) q ∙ ap Some (selection_answered schema db t f has.table has.column d held.rows numbered (rows_tested schema t f has held.rows all)) in
    selected_done at' t o text w (filter (is_collected schema f d) held.rows) m args n answer ∙ sym done

names_differ : (x o : List ℕ) (b : Bool) → bytes_eq x o ≡ b → (x ≡ o → ⊥) → bytes_eq x o ≡ false
names_differ x o true e h = absurd (h (names_equal x o e))
names_differ x o false e h = e

pub first_form_kept : (schema : Schema) (t o x f text : List ℕ) (d : ℤ) (at : FormPlaces) (at' : QueryPlaces) (p : PlainProgram) (before after : List PlainMethod) (m : PlainMethod) (has : HasLongColumn schema t f) → x ≢ o → HasQuery schema text (selection t has.table f has.column d) → Keeps (with_methods p (before ++ with_body m (collecting at t o x f d) ∷ after)) (with_methods p (before ++ with_body m (selecting at' t o text) ∷ after)) schema
first_form_kept schema t o x f text d at at' p before after m has ne q =
    keeps_replaced schema p before after (with_body m (collecting at t o x f d)) (selecting at' t o text) (first_form_alike schema t o x f text d at at' m has (names_differ x o (bytes_eq x o) refl ne) q)
