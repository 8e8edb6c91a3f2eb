-- Names that the language can have, and why a column or a table is left out.
use Rattle.std.specs.Prelude.{ℕ, Bool, nat_le, List, [], ◌∷◌, ◌++◌, length, codes, if◌then◌else◌}
use Rattle.std.specs.declared.option.Option.{Option}
use Rattle.std.specs.declared.option.Option.TheVariants.{Some, None}
use Rattle.std.specs.Str.{bytes_eq, str_eq_ignore_ascii_case}
use Rattle.schema.specs.Bytes.{is_name}
use Rattle.schema.specs.Words.{is_among, is_reserved, is_reserved_table}
use Rattle.dump_schema.specs.declared.reason.Reason.{Reason}
use Rattle.dump_schema.specs.declared.reason.Reason.TheVariants.{NoType, NoName, Reserved, Twice, ManyColumns, ManyTables, NoColumn}

-- a name of letters, digits and `_`
abbrev pub name_in : List ℕ → Option (List ℕ)
name_in bs = if is_name bs then Some bs else None

-- a word that no column may be named
unfoldable pub is_column_word : List ℕ → Bool
is_column_word name = is_reserved name

-- a word that no table may be named
unfoldable pub is_table_word : List ℕ → Bool
is_table_word name = is_reserved_table name

-- why a name isn't taken behind these, of which there may be so many
abbrev pub reason_of : Bool → ℕ → Reason → List (List ℕ) → List ℕ → Option Reason
reason_of reserved most many taken name =
    if reserved then Some Reserved
    else (if is_among bytes_eq taken name then Some Twice
    else (if nat_le most (length taken) then Some many else None))

unfoldable pub reason_text : Reason → List ℕ
reason_text NoType = codes "no type of the language"
reason_text NoName = codes "no name of the language; a view with other names is the cure"
reason_text Reserved = codes "a reserved word; a view with other names is the cure"
reason_text Twice = codes "declared twice"
reason_text ManyColumns = codes "more than 32 columns; --columns chooses"
reason_text ManyTables = codes "more than 64 tables; --tables chooses"
reason_text NoColumn = codes "no column is left"

unfoldable pub left_out_text : Reason → List ℕ
left_out_text reason = codes ": left out, " ++ reason_text reason

-- the first of the names that differs from a name by letter case alone, where it isn't that name
abbrev pub twin_of : List (List ℕ) → List ℕ → Option (List ℕ)
twin_of [] name = None
twin_of (t ∷ ts) name = if str_eq_ignore_ascii_case t name then Some t else twin_of ts name

unfoldable pub twin_text : List ℕ → List ℕ
twin_text twin = codes "differs from " ++ (twin ++ codes " by letter case alone")
