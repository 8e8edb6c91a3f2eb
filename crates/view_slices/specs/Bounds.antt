-- What is asked of a slice of the source, so that the text of a view has a bound by its items, the map and the schema.
use Rattle.std.specs.Prelude.{ℕ, ◌+◌, Bool, true, ◌&&◌, not, nat_le, nat_lt, List, [], ◌∷◌, length, Some}
use Rattle.std.specs.List.{list_any, list_all}
use Rattle.std.specs.Str.{bytes_eq}
use Rattle.view_rules.specs.declared.sight.Param.{Param}
use Rattle.view_rules.specs.Names.{is_param}
use Rattle.view_statements.specs.declared.slice.Printed.{Printed}
use Rattle.view_slices.specs.Slices.{PlainSlice, PlainEnding, Grouped}

-- it holds an item: any number of slices without one would stand between two statements
abbrev pub holds_items : PlainSlice → Bool
holds_items s = nat_lt s.from s.to

-- ---- What is printed

abbrev pub is_name_printed : List ℕ → List Printed → Bool
is_name_printed name ps = list_any (λ p. bytes_eq p.name name) ps

-- no variable is printed twice
abbrev pub are_prints_distinct : List Printed → Bool
are_prints_distinct [] = true
are_prints_distinct (p ∷ ps) = not (is_name_printed p.name ps) && are_prints_distinct ps

-- ---- What is handed over

abbrev pub hands_same : Param → Param → Bool
hands_same p q = is_param (Some q) p.variable p.column

abbrev pub is_handed_again : Param → List Param → Bool
is_handed_again p ps = list_any (hands_same p) ps

-- no variable, and no column of a row, has two parameters
abbrev pub are_params_distinct : List Param → Bool
are_params_distinct [] = true
are_params_distinct (p ∷ ps) = not (is_handed_again p ps) && are_params_distinct ps

-- ---- Names that the source doesn't have

-- a name has at most 96 bytes more than this
abbrev pub is_short : ℕ → List ℕ → Bool
is_short count name = nat_le (length name) (count + 96)

abbrev pub is_param_short : Param → Bool
is_param_short p = is_short (length p.variable) p.name

abbrev pub are_params_short : List Param → Bool
are_params_short ps = list_all is_param_short ps

abbrev pub is_ending_short : PlainEnding → Bool
is_ending_short (Grouped g) = is_short 0 g.variable
is_ending_short ending = true

-- those of a parameter, of what goes through a list that is printed, and of the variable of a group
abbrev pub are_names_short : PlainSlice → Bool
are_names_short s = are_params_short s.params && (is_short 0 s.each && is_ending_short s.ending)

-- ---- All of it

abbrev pub is_bounded : PlainSlice → Bool
is_bounded s = holds_items s && (are_prints_distinct s.prints && (are_params_distinct s.params && are_names_short s))
