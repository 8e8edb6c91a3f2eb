-- The rows that texts have are a database of the schema, and the arguments that words are have their parameters' types.
use Rattle.std.proofs.Common.{◌≡◌, ℕ, zero, suc, ◌≤◌, Bool, true, false, List, [], ◌∷◌, length, drop, Option, Some, None, Result, Ok, Err, refl, sym, ap, subst, arith, rules}
use Rattle.std.specs.Prelude.{slice_get, ◌==◌, if◌then◌else◌}
use Rattle.std.specs.List.{AllByRecursion}
use Rattle.qbs_base.specs.declared.columns.Table.{Table}
use Rattle.qbs_base.specs.declared.scalar.Row.{Row}
use Rattle.qbs_base.specs.declared.scalar.Scalar.{Scalar}
use Rattle.qbs_base.specs.declared.scalar.Ty.{Ty}
use Rattle.qbs_base.specs.Values.{Schema, Database, IsRowOf, AreTables, IsDatabaseOf, HasTy}
use Rattle.java_ast.specs.Tree.{PlainParam}
use Rattle.java_mean.specs.declared.rule.TypeRule.{TypeRule}
use Rattle.java_mean.specs.Types.{IsArgument, AreArguments, single_spelled}
use Rattle.schema.specs.declared.fault.DataFault.{DataFault}
use Rattle.schema.specs.declared.fault.DataRule.{DataRule}
use Rattle.schema.specs.Rows.{cell_of, table_rows, most_rows}
use Rattle.schema_text.proofs.Typed.{field_has, rows_of_table, few_rows}
use Rattle.plans.specs.Calls.{param_type, found, argument_of, with_argument, fields_of, or_mismatch, arguments}
use Rattle.plans.specs.Tables.{TableFault, with_rows, loaded_from, loaded}
use Rattle.plans.proofs.Called.{scalar_param}
use Rattle.plans.proofs.Loading.{columns_held}

-- ---- rows

first_dropped : {A : Type 0} (xs : List A) (n : ℕ) (y : A) (ys : List A) → drop n xs ≡ y ∷ ys → (slice_get xs n ≡ Some y) × (drop (suc n) xs ≡ ys)
first_dropped [] zero y ys e = absurd cc
first_dropped [] (suc n) y ys e = absurd cc
first_dropped (x ∷ xs) zero y ys e = let a : x ≡ y = cc in let b : xs ≡ ys = cc in (ap (λ z. Some z) a, b)
first_dropped (x ∷ xs) (suc n) y ys e = first_dropped xs n y ys e

joined_with : (name : List ℕ) (rows : List Row) (further : Result Database TableFault) (db : Database) → with_rows name (Ok rows) further ≡ Ok db → (rest : Database) × (further ≡ Ok rest) × ((name, rows) ∷ rest ≡ db)
joined_with name rows (Ok rest) db e = (rest, refl, cc)
joined_with name rows (Err fault) db e = absurd cc

rows_loaded : (schema : Schema) (n : ℕ) (t : Table) (ts : List Table) (text : List ℕ) (further : Result Database TableFault) (db : Database) (rows : Result (List Row) DataFault) →
    drop n schema ≡ t ∷ ts → ((rest : Database) → further ≡ Ok rest → AreTables (suc n) ts rest) → table_rows schema n text ≡ rows → with_rows t.name rows further ≡ Ok db → AreTables n (t ∷ ts) db
rows_loaded schema n t ts text further db (Err fault) here behind read e = absurd cc
rows_loaded schema n t ts text further db (Ok rows) here behind read e =
    let part = joined_with t.name rows further db e in
    let few : length rows ≤ most_rows = few_rows schema n text rows read in
    subst (AreTables n (t ∷ ts)) part.2 (
      refl,
      (omega arith),
      subst (λ columns. AllByRecursion (IsRowOf n columns) rows) (columns_held schema n t (first_dropped schema n t ts here).0) (rows_of_table schema n text rows read),
      behind part.0 part.1,
    )

tables_loaded : (schema : Schema) (n : ℕ) (tables : List Table) (texts : List (List ℕ)) (db : Database) → length texts ≡ length tables → drop n schema ≡ tables → loaded_from schema n tables texts ≡ Ok db → AreTables n tables db
unfolding loaded_from
tables_loaded schema n [] [] db many here e = let none : [] ≡ db = cc in subst (AreTables n []) none tt
tables_loaded schema n [] (text ∷ texts) db many here e = absurd cc
tables_loaded schema n (t ∷ ts) [] db many here e = absurd cc
tables_loaded schema n (t ∷ ts) (text ∷ texts) db many here e =
    let fewer : length texts ≡ length ts = omega arith in
    rows_loaded schema n t ts text (loaded_from schema (suc n) ts texts) db (table_rows schema n text) here
    (λ rest f. tables_loaded schema (suc n) ts texts rest fewer (first_dropped schema n t ts here).1 f) refl e

pub loaded_is_database : (schema : Schema) (texts : List (List ℕ)) (db : Database) → length texts ≡ length schema → loaded schema texts ≡ Ok db → IsDatabaseOf schema db
loaded_is_database schema texts db many e = tables_loaded schema 0 schema texts db many refl e

-- ---- arguments

taken : (schema : Schema) (p : PlainParam) (word : List ℕ) (x : Scalar) (o : Option Ty) → param_type p.ty ≡ o → argument_of o word ≡ Some x → IsArgument (single_spelled schema p.ty) x
taken schema p word x None e h = absurd cc
taken schema p word x (Some ty) e h = by (cell_of ty word) refl h
  where
    by : (r : Result Scalar DataRule) → cell_of ty word ≡ r → found r ≡ Some x → IsArgument (single_spelled schema p.ty) x
    by (Err rule) read is = absurd cc
    by (Ok y) read is =
        let same : y ≡ x = cc in
        let typed : HasTy ty y = field_has ty word (Ok y) read in
        subst (λ (o : _). IsArgument o x) (sym (scalar_param schema p.ty ty e)) (subst (HasTy ty) same typed)

both_taken : (first : Option Scalar) (further : Option (List Scalar)) (xs : List Scalar) → with_argument first further ≡ Some xs → (y : Scalar) × (ys : List Scalar) × (first ≡ Some y) × (further ≡ Some ys) × (y ∷ ys ≡ xs)
both_taken None further xs e = absurd cc
both_taken (Some y) None xs e = absurd cc
both_taken (Some y) (Some ys) xs e = (y, ys, refl, refl, cc)

all_taken : (schema : Schema) (params : List PlainParam) (words : List (List ℕ)) (xs : List Scalar) → length params ≡ length words → fields_of params words ≡ Some xs → AreArguments schema params xs
unfolding fields_of
all_taken schema [] [] xs many e = let none : [] ≡ xs = cc in subst (AreArguments schema []) none tt
all_taken schema [] (w ∷ ws) xs many e = absurd cc
all_taken schema (p ∷ ps) [] xs many e = absurd cc
all_taken schema (p ∷ ps) (w ∷ ws) xs many e =
    let parts = both_taken (argument_of (param_type p.ty) w) (fields_of ps ws) xs e in
    let fewer : length ps ≡ length ws = omega arith in
    subst (AreArguments schema (p ∷ ps)) parts.4 (taken schema p w parts.0 (param_type p.ty) refl parts.2, all_taken schema ps ws parts.1 fewer parts.3)

by_number : (schema : Schema) (params : List PlainParam) (words : List (List ℕ)) (args : List Scalar) (b : Bool) → (length params == length words) ≡ b → (if b then or_mismatch (fields_of params words) else Err TypeRule.Arity) ≡ Ok args → AreArguments schema params args
by_number schema params words args false e h = absurd cc
by_number schema params words args true e h = by (fields_of params words) refl h
  where
    by : (o : Option (List Scalar)) → fields_of params words ≡ o → or_mismatch o ≡ Ok args → AreArguments schema params args
    by None f is = absurd cc
    by (Some xs) f is =
        let same : xs ≡ args = cc in
        let many : length params ≡ length words = search rules in
        subst (AreArguments schema params) same (all_taken schema params words xs many f)

pub arguments_are_typed : (schema : Schema) (params : List PlainParam) (words : List (List ℕ)) (args : List Scalar) → arguments params words ≡ Ok args → AreArguments schema params args
arguments_are_typed schema params words args h = by_number schema params words args (length params == length words) refl h
