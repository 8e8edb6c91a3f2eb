-- The first form of a loop, which collects the rows of a table with a number in a column, and the
-- statements with a query that stand for it.
use Rattle.std.specs.Prelude.{◌≡◌, ℕ, ℤ, Bool, false, List, [], ◌∷◌, Some, None, slice_get}
use Rattle.qbs_base.specs.declared.span.Span.{Span}
use Rattle.qbs_base.specs.declared.scalar.Scalar.TheVariants as scalars
use Rattle.qbs_base.specs.declared.scalar.Ty.TheVariants as tys
use Rattle.qbs_base.specs.declared.scalar.Row.{Row}
use Rattle.qbs_base.specs.declared.columns.Column.{Column}
use Rattle.qbs_base.specs.Scalar.{scalar_same, compared}
use Rattle.qbs_base.specs.Values.{Schema}
use Rattle.qbs_base.specs.Columns.{table_number, column_number, columns_at}
use Rattle.java_ast.specs.declared.tree.Op.TheVariants as ops
use Rattle.java_ast.specs.Tree.{Table, ListOf, Lit, Var, Field, Binary, Fetch, Query, NewList, NoMore, Declare, Add, If, ForEach, Return, Statements, Nothing, Then}
use Rattle.sql_ast.specs.declared.tree.Cmp.TheVariants as cmps
use Rattle.sql_ast.specs.declared.tree.SqlColumn.TheVariants as columns
use Rattle.sql_ast.specs.declared.tree.SqlItem.TheVariants as items
use Rattle.sql_ast.specs.declared.tree.SqlOpnd.TheVariants as operands
use Rattle.sql_ast.specs.Tree.{PlainQuery, Listing, Where, Compare}
use Rattle.java_mean.specs.Expression.{cell}

-- where the nodes of the form stand
pub record FormPlaces : Type 0 where
  pub declare : Span
  pub list : Span
  pub loop : Span
  pub fetch : Span
  pub test : Span
  pub comparison : Span
  pub field : Span
  pub row : Span
  pub number : Span
  pub add : Span
  pub member : Span
  pub give : Span
  pub given : Span

-- List<T> o = new ArrayList<>(); for (T x : db.fetch(T.class)) { if (x.f == d) { o.add(x); } } return o;
abbrev pub collecting : FormPlaces → List ℕ → List ℕ → List ℕ → List ℕ → ℤ → Statements
collecting at t o x f d =
    Then (Declare at.declare (ListOf (Table t)) o (NewList at.list))
    (Then (ForEach at.loop (Table t) x (Fetch at.fetch t)
    (Then (If at.test (Binary at.comparison ops.Eq (Field at.field (Var at.row x) f) (Lit at.number (scalars.Long d)))
    (Then (Add at.add o (Var at.member x)) Nothing))
    Nothing))
    (Then (Return at.give (Some (Var at.given o)))
    Nothing))

-- where the nodes of the statements with the query stand
pub record QueryPlaces : Type 0 where
  pub declare : Span
  pub query : Span
  pub give : Span
  pub given : Span

-- List<T> o = db.query(T.class, text); return o;
abbrev pub selecting : QueryPlaces → List ℕ → List ℕ → List ℕ → Statements
selecting at t o text =
    Then (Declare at.declare (ListOf (Table t)) o (Query at.query (Table t) text NoMore))
    (Then (Return at.give (Some (Var at.given o)))
    Nothing)

-- whether the loop collects the row
abbrev pub is_collected : Schema → List ℕ → ℤ → Row → Bool
is_collected schema f d row = compared scalar_same (cell schema row f) (Some (scalars.Long d))

-- the schema has a table t with a column f of type Long: their numbers
pub record HasLongColumn (schema : Schema) (t f : List ℕ) : Type 0 where
  pub table : ℕ
  pub column : ℕ
  pub declared : Column
  pub known : table_number schema t ≡ Some table
  pub named : column_number (columns_at schema table) f ≡ Some column
  pub there : slice_get (columns_at schema table) column ≡ Some declared
  pub long : declared.ty ≡ tys.Long

-- SELECT t1.* FROM t t1 WHERE t1.f = d ORDER BY t1._pos
abbrev pub selection : List ℕ → ℕ → List ℕ → ℕ → ℤ → PlainQuery
selection t table f column d =
    Listing
    (record {
      item = items.Whole 1;
      from = record { name = t; table = table } ∷ [];
      filter = Where (Compare cmps.Eq (operands.Column (record { item = 1; column = columns.Named f column })) (operands.Lit (scalars.Long d)));
      group = None;
      keys = record { least = false; col = record { item = 1; column = columns.Pos }; down = false } ∷ [];
      limit = None;
      params = [];
    })
