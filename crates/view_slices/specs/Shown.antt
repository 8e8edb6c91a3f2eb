-- The method that a slice is seen as, token by token.
use Rattle.std.specs.Prelude.{ℕ, ◌-◌, not, List, [], ◌∷◌, ◌++◌, codes, Option, Some, None, slice_get}
use Rattle.qbs_base.specs.declared.columns.Column.{Column}
use Rattle.qbs_base.specs.declared.columns.Table.{Table}
use Rattle.view_items.specs.declared.cell.Cell.{Cell}
use Rattle.view_map.specs.declared.model.RowClass.{RowClass}
use Rattle.view_map.specs.declared.model.ScalarKind.{ScalarKind}
use Rattle.view_rules.specs.declared.java_type.JavaType.{JavaType}
use Rattle.view_rules.specs.declared.java_type.JavaType.TheVariants as types
use Rattle.view_rules.specs.declared.sight.Param.{Param}
use Rattle.view_rules.specs.Cells.{made, all_made}
use Rattle.view_rules.specs.Setting.{Within}
use Rattle.view_rules.specs.Spelled.{kind_word, table_of}
use Rattle.view_statements.specs.declared.slice.Printed.{Printed}
use Rattle.view_slices.specs.Slices.{PlainSlice, PlainGroup, PlainEnding, Open, Grouped, Returned}
use Rattle.view_statements.specs.Cells.{statement_cells, all_cells}
use Rattle.view_statements.specs.Statements.{truth_word}
use Rattle.view_statements.specs.Tree.{PlainStatement}
use Rattle.view_statements.specs.Tree as plain

-- ---- The head

abbrev pub param_words : ScalarKind → Param → List (List ℕ)
param_words kind p = kind_word kind ∷ p.name ∷ []

abbrev pub further_param_cells : Within → ℕ → List Param → List ScalarKind → List Cell
further_param_cells w i (p ∷ ps) (kind ∷ kinds) = made w i (codes ",") ++ (all_made w i (param_words kind p) ++ further_param_cells w i ps kinds)
further_param_cells w i ps kinds = []

-- `T x , T y`
abbrev pub param_cells : Within → ℕ → List Param → List ScalarKind → List Cell
param_cells w i (p ∷ ps) (kind ∷ kinds) = all_made w i (param_words kind p) ++ further_param_cells w i ps kinds
param_cells w i ps kinds = []

-- `void s3 ( T x , T y ) {`
abbrev pub head_cells : Within → List ℕ → PlainSlice → List Cell
head_cells w name s =
    all_made w s.from (codes "void" ∷ name ∷ codes "(" ∷ []) ++ (param_cells w s.from s.params s.kinds ++ all_made w s.from (codes ")" ∷ codes "{" ∷ []))

-- ---- The prints

abbrev pub println_words : List (List ℕ)
println_words = codes "System" ∷ codes "." ∷ codes "out" ∷ codes "." ∷ codes "println" ∷ codes "(" ∷ []

abbrev pub closing_words : List (List ℕ)
closing_words = codes ")" ∷ codes ";" ∷ []

abbrev pub scalar_print : Within → ℕ → List ℕ → List Cell
scalar_print w i name = all_made w i println_words ++ (made w i name ++ all_made w i closing_words)

abbrev pub size_print : Within → ℕ → List ℕ → List Cell
size_print w i name =
    all_made w i println_words ++ (all_made w i (name ∷ codes "." ∷ codes "size" ∷ codes "(" ∷ codes ")" ∷ []) ++ all_made w i closing_words)

-- `r . f`
abbrev pub column_print : Within → ℕ → List ℕ → List ℕ → List Cell
column_print w i row column = all_made w i println_words ++ (all_made w i (row ∷ codes "." ∷ column ∷ []) ++ all_made w i closing_words)

-- of each column, in the schema's order
abbrev pub column_prints : Within → ℕ → List ℕ → List Column → List Cell
column_prints w i row [] = []
column_prints w i row (c ∷ cs) = column_print w i row c.name ++ column_prints w i row cs

abbrev pub columns_of_table : Option Table → List Column
columns_of_table None = []
columns_of_table (Some t) = t.columns

abbrev pub columns_of_class : Within → Option RowClass → List Column
columns_of_class w None = []
columns_of_class w (Some c) = columns_of_table (slice_get w.tables c.table)

-- a row: a line a column
abbrev pub row_prints : Within → ℕ → List ℕ → ℕ → List Cell
row_prints w i row class = column_prints w i row (columns_of_class w (slice_get w.map.classes class))

-- a list or set: how many it holds, and then each of them
abbrev pub each_front : Within → ℕ → List ℕ → List ℕ → List ℕ → List Cell
each_front w i element each name =
    size_print w i name ++ all_made w i (codes "for" ∷ codes "(" ∷ element ∷ each ∷ codes ":" ∷ name ∷ codes ")" ∷ codes "{" ∷ [])

abbrev pub rows_print : Within → ℕ → List ℕ → List ℕ → ℕ → List Cell
rows_print w i each name class = each_front w i (table_of w class) each name ++ (row_prints w i each class ++ made w i (codes "}"))

abbrev pub scalars_print : Within → ℕ → List ℕ → List ℕ → ScalarKind → List Cell
scalars_print w i each name kind = each_front w i (kind_word kind) each name ++ (scalar_print w i each ++ made w i (codes "}"))

abbrev pub print_cells : Within → ℕ → List ℕ → List ℕ → JavaType → List Cell
print_cells w i each name (types.Scalar t) = scalar_print w i name
print_cells w i each name (types.Row c) = row_prints w i name c
print_cells w i each name (types.Rows c) = rows_print w i each name c
print_cells w i each name (types.Scalars k) = scalars_print w i each name k
print_cells w i each name (types.Distinct k) = scalars_print w i each name k

abbrev pub prints_cells : Within → ℕ → List ℕ → List Printed → List Cell
prints_cells w i each [] = []
prints_cells w i each (p ∷ ps) = print_cells w i each p.name p.java ++ prints_cells w i each ps

-- ---- The method

-- where the for-each of a group begins
abbrev pub walk_at : PlainStatement → ℕ
walk_at (plain.ForEach at by_var name java walked close braces body end) = at
walk_at st = 0

abbrev pub truth_words : List ℕ → List ℕ → List (List ℕ)
truth_words name value = codes "boolean" ∷ name ∷ codes "=" ∷ value ∷ codes ";" ∷ []

-- the variable of a group, as it is before its for-each, and the for-each
abbrev pub group_cells : Within → PlainGroup → List Cell
group_cells w g =
    all_made w (walk_at g.walk) (truth_words g.variable (truth_word (not g.value))) ++ statement_cells w g.variable g.walk

-- what is returned is printed
abbrev pub ending_cells : Within → PlainEnding → List Cell
ending_cells w Open = []
ending_cells w (Grouped g) = group_cells w g
ending_cells w (Returned variable) = []

abbrev pub before : ℕ → ℕ
before i = i - 1

-- `void s3 ( .. ) { statements prints }`: its head comes from the first item, its prints from the last one
abbrev pub method_cells : Within → List ℕ → PlainSlice → List Cell
method_cells w name s =
    head_cells w name s ++ (all_cells w [] s.statements ++ (ending_cells w s.ending
    ++ (prints_cells w (before s.to) s.each s.prints ++ made w (before s.to) (codes "}"))))
