-- The tables of a map.
use Rattle.std.specs.Prelude.{ℕ, zero, suc, ◌==◌, ◌||◌, List, [], ◌∷◌, ◌++◌, length, map, Bool, not, codes, slice_get, Result, Ok, Err, if◌then◌else◌}
use Rattle.std.specs.declared.option.Option.{Option}
use Rattle.std.specs.declared.option.Option.TheVariants.{Some, None}
use Rattle.std.specs.Str.{bytes_eq}
use Rattle.std.specs.List.{list_any}
use Rattle.qbs_base.specs.declared.columns.Column.{Column}
use Rattle.qbs_base.specs.declared.columns.Table.{Table}
use Rattle.qbs_base.specs.Columns.{table_number, column_number, columns_at}
use Rattle.java_words.specs.Words.{is_among, is_type_word}
use Rattle.view_items.specs.declared.item.Item.{Item}
use Rattle.view_map.specs.declared.fault.MapRule.TheVariants as rules
use Rattle.view_map.specs.declared.fault.MapFault.{MapFault}
use Rattle.view_map.specs.declared.draft.Placed.{Placed}
use Rattle.view_map.specs.declared.draft.Head.{Head}
use Rattle.view_map.specs.declared.draft.MemberDraft.{MemberDraft}
use Rattle.view_map.specs.declared.model.Member.{Member}
use Rattle.view_map.specs.declared.model.RowClass.{RowClass}
use Rattle.view_map.specs.Words.{fits_column}
use Rattle.view_map.specs.Keys.{is_key}
use Rattle.view_map.specs.Reading.{◌>>=◌, Read, option_cases, fault_at, unexpected, begins, sign_at, name_at, type_at, within_at, given_at, pair_at}

-- ---- Heads

-- what stands behind the name of a table
abbrev pub begins_body : List Item → Bool
begins_body is = begins (codes "by") is || begins (codes "{") is

-- the table's name, where it is given; else the head is at its end
unfoldable pub table_name_at : ℕ → List Item → Read (Option Placed)
table_name_at end is =
    if begins (codes "=") is || begins_body is then given_at end is else Err (unexpected end is)

unfoldable pub head_at : ℕ → List Item → Read Head
head_at end is =
    name_at end is >>= λ c. within_at end c.1 >>= λ w. table_name_at end w.1 >>= λ t.
    Ok (record { class = c.0; within = w.0; table = t.0 }, t.1)

-- without a name of its own a table has that of the class
abbrev pub own_or : Placed → Option Placed → Placed
own_or own None = own
own_or own (Some given) = given

abbrev pub has_class : List RowClass → List ℕ → Bool
has_class classes name = list_any (λ c. bytes_eq c.class name) classes

abbrev pub has_table : List RowClass → ℕ → Bool
has_table classes number = list_any (λ c. c.table == number) classes

-- further classes of Java's whose meaning is used
abbrev pub java_names : List (List ℕ)
java_names =
    codes "ArrayList" ∷ codes "LinkedHashSet" ∷ codes "HashSet" ∷ codes "Iterator" ∷ codes "Collections" ∷ codes "Math" ∷ codes "Objects" ∷ []

-- a name of a class that may not be given: it was given before, or is one of the language's or of Java's
abbrev pub is_taken : List RowClass → List ℕ → Bool
is_taken classes name = has_class classes name || (is_type_word name || is_among name java_names)

-- the number of the table of a head. The class stands before the table's name, and at one place an unknown table comes first.
abbrev pub table_known : List RowClass → Placed → Placed → ℕ → Result ℕ MapFault
table_known classes class table number =
    if is_taken classes class.name then Err (fault_at rules.DoubleName class.at)
    else (if has_table classes number then Err (fault_at rules.DoubleName table.at) else Ok number)

abbrev pub table_unknown : List RowClass → Placed → Option Placed → MapFault
table_unknown classes class None = fault_at rules.Unknown class.at
table_unknown classes class (Some table) =
    if is_taken classes class.name then fault_at rules.DoubleName class.at else fault_at rules.Unknown table.at

unfoldable pub table_judged : List Table → List RowClass → Head → Result ℕ MapFault
table_judged tables classes h =
    option_cases (table_number tables (own_or h.class h.table).name) (Err (table_unknown classes h.class h.table)) (table_known classes h.class (own_or h.class h.table))

-- ---- Members

unfoldable pub member_at : ℕ → List Item → Read MemberDraft
member_at end is =
    type_at end is >>= λ t. name_at end t.1 >>= λ n. pair_at (codes "(") (codes ")") end n.1 >>= λ p. given_at end p.1 >>= λ c.
    pair_at (codes "never") (codes "null") end c.1 >>= λ e. sign_at (codes ";") end e.1 >>= λ rest.
    Ok (record { java = t.0.0; at = t.0.1; name = n.0; is_call = p.0; column = c.0; never_null = e.0 }, rest)

abbrev pub member_names : List Member → List (List ℕ)
member_names members = map (λ m. m.name) members

-- the schema says that the column is never NULL
abbrev pub is_never_null : Column → Bool
is_never_null c = c.not_null || c.primary

abbrev pub member_of : MemberDraft → ℕ → Member
member_of d number = record { java = d.java; name = d.name.name; is_call = d.is_call; column = number }

-- A member of a column that is there, behind those of these names. Its type stands before its name.
abbrev pub member_known : List (List ℕ) → MemberDraft → ℕ → Column → Result Member MapFault
member_known names d number c =
    if not (fits_column d.java.kind c.ty) then Err (fault_at rules.Mismatch d.at)
    else (if is_key names d.name.name then Err (fault_at rules.DoubleName d.name.at)
    else (if d.never_null || is_never_null c then Ok (member_of d number) else Err (fault_at rules.Nullable d.name.at)))

-- A member of a column that isn't there. Its name stands before the column's, and is the column's where that isn't given.
abbrev pub member_unknown : List (List ℕ) → Placed → Option Placed → MapFault
member_unknown names name None = fault_at rules.Unknown name.at
member_unknown names name (Some column) =
    if is_key names name.name then fault_at rules.DoubleName name.at else fault_at rules.Unknown column.at

-- the first column of a name, and its number
abbrev pub column_of : List Column → List ℕ → Option (ℕ × Column)
column_of columns name = option_cases (column_number columns name) None (λ n. option_cases (slice_get columns n) None (λ c. Some (n, c)))

unfoldable pub member_judged : List Column → List (List ℕ) → MemberDraft → Result Member MapFault
member_judged columns names d =
    option_cases (column_of columns (own_or d.name d.column).name) (Err (member_unknown names d.name d.column)) (λ c. member_known names d c.0 c.1)

-- the next member of a table, behind those of these names
unfoldable pub next_member_at : List Column → List (List ℕ) → ℕ → List Item → Read Member
next_member_at columns names end is = member_at end is >>= λ d. member_judged columns names d.0 >>= λ m. Ok (m, d.1)

-- members up to the brace that closes them, behind these, no more than so many
unfoldable pub members_at : List Column → List Member → ℕ → ℕ → List Item → Read (List Member)
members_at columns members zero end is = Err (unexpected end is)
members_at columns members (suc n) end is =
    if begins (codes "}") is then (sign_at (codes "}") end is >>= λ rest. Ok (members, rest))
    else (next_member_at columns (member_names members) end is >>= λ m. members_at columns (members ++ m.0 ∷ []) n end m.1)

-- ---- Tables

abbrev pub class_of : Head → ℕ → Bool → List Member → RowClass
class_of h number by_value members = record { class = h.class.name; within = h.within; table = number; by_value = by_value; members = members }

-- what stands behind `table`
unfoldable pub table_at : List Table → List RowClass → ℕ → List Item → Read RowClass
table_at tables classes end is =
    head_at end is >>= λ h. table_judged tables classes h.0 >>= λ number. pair_at (codes "by") (codes "value") end h.1 >>= λ v.
    sign_at (codes "{") end v.1 >>= λ rest. members_at (columns_at tables number) [] (length rest) end rest >>= λ ms.
    Ok (class_of h.0 number v.0 ms.0, ms.1)
