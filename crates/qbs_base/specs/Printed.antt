-- The lines of a value.
use Rattle.std.specs.Prelude.{ℕ, List, [], ◌∷◌, ◌++◌, length, codes, slice_get}
use Rattle.std.specs.Fmt.{decimal}
use Rattle.std.specs.List.{flat_map}
use Rattle.std.specs.declared.option.Option.{Option}
use Rattle.std.specs.declared.option.Option.TheVariants.{Some, None}
use Rattle.qbs_base.specs.declared.scalar.Kind.{Kind}
use Rattle.qbs_base.specs.declared.scalar.Kind.TheVariants as kinds
use Rattle.qbs_base.specs.declared.scalar.Row.{Row}
use Rattle.qbs_base.specs.declared.scalar.Scalar.{Scalar}
use Rattle.qbs_base.specs.declared.scalar.Value.{Value}
use Rattle.qbs_base.specs.declared.scalar.Value.TheVariants as values
use Rattle.qbs_base.specs.Literal.{scalar_text}

abbrev pub further_cell : Scalar → List ℕ
further_cell cell = codes ", " ++ scalar_text cell

-- cells with a comma and a space between them
abbrev pub cells_text : List Scalar → List ℕ
cells_text [] = []
cells_text (cell ∷ cells) = scalar_text cell ++ flat_map further_cell cells

abbrev pub name_text : Option (List ℕ) → List ℕ
name_text (Some name) = name
name_text None = []

-- a table's row by the table's name and its cells, and the one cell of a row that stands for a scalar
abbrev pub kind_text : List (List ℕ) → Kind → List ℕ → List ℕ
kind_text tables (kinds.Table number) cells = name_text (slice_get tables number) ++ codes "(" ++ cells ++ codes ")"
kind_text tables kinds.Plain cells = cells

abbrev pub row_text : List (List ℕ) → Row → List ℕ
row_text tables row = kind_text tables row.kind (cells_text row.cells)

abbrev pub row_line : List (List ℕ) → Row → List ℕ
row_line tables row = row_text tables row ++ codes "\n"

-- a scalar or a row on one line; a list by its length on one line, and each of its rows on one more
abbrev pub value_text : List (List ℕ) → Value → List ℕ
value_text tables (values.One scalar) = scalar_text scalar ++ codes "\n"
value_text tables (values.Whole row) = row_line tables row
value_text tables (values.Many rows) = codes "list " ++ decimal (length rows) ++ codes "\n" ++ flat_map (row_line tables) rows
