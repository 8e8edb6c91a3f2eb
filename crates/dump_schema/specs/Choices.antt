-- What the options choose: `a,b,c` of tables, and `T=a,b;U=c` of columns.
use Rattle.std.specs.Prelude.{ℕ, Bool, true, ◌==◌, not, List, [], ◌∷◌, map, take, drop, if◌then◌else◌}
use Rattle.std.specs.declared.option.Option.{Option}
use Rattle.std.specs.declared.option.Option.TheVariants.{Some, None}
use Rattle.std.specs.List.{prefix_len}
use Rattle.std.specs.Str.{bytes_eq}
use Rattle.schema.specs.Words.{is_among}
use Rattle.dump_schema.specs.declared.choice.ColumnChoice.{ColumnChoice}
use Rattle.dump_schema.specs.declared.choice.Choice.{Choice}

abbrev pub with_first : ℕ → List (List ℕ) → List (List ℕ)
with_first b [] = (b ∷ []) ∷ []
with_first b (p ∷ ps) = (b ∷ p) ∷ ps

-- what stands between the marks
unfoldable pub pieces : ℕ → List ℕ → List (List ℕ)
pieces mark [] = [] ∷ []
pieces mark (b ∷ bs) = if b == mark then [] ∷ pieces mark bs else with_first b (pieces mark bs)

-- a table's name, `=`, and the names of columns
abbrev pub is_before_equals : ℕ → Bool
is_before_equals b = not (b == 61)

abbrev pub column_choice : List ℕ → ColumnChoice
column_choice piece = record {
  table = take (prefix_len is_before_equals piece) piece;
  columns = pieces 44 (drop 1 (drop (prefix_len is_before_equals piece) piece));
}

abbrev pub column_choices : Option (List ℕ) → List ColumnChoice
column_choices None = []
column_choices (Some text) = map column_choice (pieces 59 text)

abbrev pub table_names : Option (List ℕ) → Option (List (List ℕ))
table_names None = None
table_names (Some text) = Some (pieces 44 text)

abbrev pub choice_of : Option (List ℕ) → Option (List ℕ) → Choice
choice_of tables columns = record { tables = table_names tables; columns = column_choices columns }

-- ---- what is chosen

-- all names are, where nothing was said
abbrev pub is_chosen : Option (List (List ℕ)) → List ℕ → Bool
is_chosen None name = true
is_chosen (Some names) name = is_among bytes_eq names name

-- the columns that are named for a table
abbrev pub columns_for : List ColumnChoice → List ℕ → Option (List (List ℕ))
columns_for [] table = None
columns_for (c ∷ cs) table = if bytes_eq c.table table then Some c.columns else columns_for cs table
