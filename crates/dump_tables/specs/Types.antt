-- The types of columns.
use Rattle.std.specs.Prelude.{ℕ, ◌+◌, Bool, true, false, ◌&&◌, ◌||◌, ◌==◌, nat_le, List, [], ◌∷◌, ◌++◌, drop, length, codes, if◌then◌else◌}
use Rattle.std.specs.List.{list_any, list_all}
use Rattle.dump_items.specs.declared.item.ItemKind.{ItemKind}
use Rattle.dump_items.specs.declared.item.ItemKind.TheVariants as kinds
use Rattle.dump_items.specs.declared.item.Item.{Item}
use Rattle.dump_items.specs.Bytes.{spells, begins_with}
use Rattle.dump_tables.specs.declared.table.Sort.{Sort}
use Rattle.dump_tables.specs.declared.table.Sort.TheVariants as sorts
use Rattle.dump_tables.specs.Words.{is_word_kind, is_open, is_close, is_comma, is_dot, is_word, is_one_of, begins, within_quotes}
use Rattle.dump_tables.specs.Parts.{depth_after, behind_close}

-- ---- Where a type ends

-- what may stand behind the type of a column
abbrev pub mark_words : List (List ℕ)
mark_words =
    codes "NOT" ∷ codes "NULL" ∷ codes "DEFAULT" ∷ codes "PRIMARY" ∷ codes "UNIQUE" ∷ codes "REFERENCES" ∷ codes "CHECK" ∷ codes "CONSTRAINT"
    ∷ codes "COLLATE" ∷ codes "GENERATED" ∷ codes "AUTO_INCREMENT" ∷ codes "AUTOINCREMENT" ∷ codes "IDENTITY" ∷ codes "COMMENT" ∷ codes "ON"
    ∷ codes "CHARSET" ∷ codes "KEY" ∷ codes "INVISIBLE" ∷ codes "VISIBLE" ∷ codes "VIRTUAL" ∷ codes "STORED" ∷ codes "PERSISTED" ∷ codes "AS"
    ∷ codes "ENCODING" ∷ codes "STORAGE" ∷ codes "COMPRESSION" ∷ codes "COLUMN_FORMAT" ∷ codes "SPARSE" ∷ codes "ROWGUIDCOL" ∷ codes "SELECTIVITY"
    ∷ codes "DEFERRABLE" ∷ codes "INITIALLY" ∷ codes "ENABLE" ∷ codes "DISABLE" ∷ codes "FIRST" ∷ codes "AFTER" ∷ []

abbrev pub is_mark : Item → Bool
is_mark i = is_one_of mark_words i

abbrev pub begins_mark : List Item → Bool
begins_mark [] = false
begins_mark (i ∷ is) = is_mark i || begins (codes "CHARACTER" ∷ codes "SET" ∷ []) (i ∷ is)

-- how many items there are before the first mark outside of parentheses
unfoldable pub type_len : ℕ → List Item → ℕ
type_len d [] = 0
type_len d (i ∷ is) = if (d == 0) && begins_mark (i ∷ is) then 0 else 1 + type_len (depth_after d i.kind) is

-- ---- How a type is spelled

-- a word has a space before it where it stands behind a word, a quoted name, a text or a parenthesis that closes
abbrev pub space_before : Bool → ItemKind → List ℕ
space_before true kinds.Word = 32 ∷ []
space_before _ kind = []

abbrev pub is_spaced : ItemKind → Bool
is_spaced kinds.Word = true
is_spaced kinds.Quoted = true
is_spaced kinds.Text = true
is_spaced kinds.Close = true
is_spaced _ = false

unfoldable pub spelling : Bool → List Item → List ℕ
spelling spaced [] = []
spelling spaced (i ∷ is) = space_before spaced i.kind ++ i.bytes ++ spelling (is_spaced i.kind) is

-- ---- What a type is to the language

abbrev pub one_of : List (List ℕ) → List ℕ → Bool
one_of keywords word = list_any (λ keyword. spells keyword word) keywords

abbrev pub whole_words : List (List ℕ)
whole_words =
    codes "BIGINT" ∷ codes "INTEGER" ∷ codes "INT" ∷ codes "SMALLINT" ∷ codes "TINYINT" ∷ codes "MEDIUMINT" ∷ codes "INT2" ∷ codes "INT4" ∷ codes "INT8" ∷ []

-- whole numbers that the database counts up: never NULL
abbrev pub serial_words : List (List ℕ)
serial_words =
    codes "SERIAL" ∷ codes "BIGSERIAL" ∷ codes "SMALLSERIAL" ∷ codes "SERIAL2" ∷ codes "SERIAL4" ∷ codes "SERIAL8" ∷ []

abbrev pub decimal_words : List (List ℕ)
decimal_words = codes "NUMBER" ∷ codes "NUMERIC" ∷ codes "DECIMAL" ∷ codes "DEC" ∷ []

abbrev pub truth_words : List (List ℕ)
truth_words = codes "BOOLEAN" ∷ codes "BOOL" ∷ []

abbrev pub text_words : List (List ℕ)
text_words =
    codes "VARCHAR" ∷ codes "TEXT" ∷ codes "VARCHAR2" ∷ codes "NVARCHAR" ∷ codes "NVARCHAR2" ∷ codes "TINYTEXT" ∷ codes "MEDIUMTEXT" ∷ codes "LONGTEXT"
    ∷ codes "NTEXT" ∷ codes "CLOB" ∷ codes "NCLOB" ∷ codes "STRING" ∷ []

abbrev pub padded_words : List (List ℕ)
padded_words = codes "CHARACTER" ∷ codes "CHAR" ∷ codes "NCHAR" ∷ codes "BPCHAR" ∷ []

-- behind what stands in parentheses, where a type has such
abbrev pub behind_room : List Item → List Item
behind_room [] = []
behind_room (i ∷ is) = if is_open i.kind then behind_close is else i ∷ is

abbrev pub is_nothing : List Item → Bool
is_nothing is = length is == 0

-- a 1 in parentheses, and nothing behind them
abbrev pub is_one_in_parentheses : List Item → Bool
is_one_in_parentheses (o ∷ n ∷ c ∷ []) = is_open o.kind && is_word (codes "1") n && is_close c.kind
is_one_in_parentheses is = false

-- 1 to 18
abbrev pub is_few_digits : List ℕ → Bool
is_few_digits (d ∷ []) = nat_le 49 d && nat_le d 57
is_few_digits (t ∷ d ∷ []) = (t == 49) && (nat_le 48 d && nat_le d 56)
is_few_digits ds = false

abbrev pub is_no_scale : List Item → Bool
is_no_scale (s ∷ c ∷ is) = is_word (codes "0") s && is_close c.kind
is_no_scale is = false

-- at most 18 digits, and none behind the point
abbrev pub is_whole_room : List Item → Bool
is_whole_room (o ∷ p ∷ c ∷ is) =
    is_open o.kind && is_word_kind p.kind && is_few_digits p.bytes && (is_close c.kind || (is_comma c.kind && is_no_scale is))
is_whole_room is = false

abbrev pub is_number_word : Item → Bool
is_number_word i = is_one_of (codes "UNSIGNED" ∷ codes "ZEROFILL" ∷ codes "SIGNED" ∷ []) i

abbrev pub is_unsigned_word : Item → Bool
is_unsigned_word i = is_one_of (codes "UNSIGNED" ∷ codes "ZEROFILL" ∷ []) i

abbrev pub are_number_words : List Item → Bool
are_number_words is = list_all is_number_word is

abbrev pub has_unsigned_word : List Item → Bool
has_unsigned_word is = list_any is_unsigned_word is

-- a whole number, by its word and what stands behind it and the parentheses: of all of them BIGINT alone has values without a sign that
-- don't fit
abbrev pub whole_sort : List ℕ → List Item → Sort
whole_sort word is =
    if are_number_words is
    then (if spells (codes "BIGINT") word && has_unsigned_word is then sorts.Unsigned else sorts.Whole)
    else sorts.Other

abbrev pub where_nothing : Sort → List Item → Sort
where_nothing sort is = if is_nothing is then sort else sorts.Other

-- `character varying` and `character large object` aren't padded
abbrev pub padded_sort : List Item → Sort
padded_sort is =
    if begins (codes "VARYING" ∷ []) is then where_nothing sorts.Text (behind_room (drop 1 is))
    else (if begins (codes "LARGE" ∷ codes "OBJECT" ∷ []) is then where_nothing sorts.Text (behind_room (drop 2 is))
    else where_nothing sorts.Padded (behind_room is))

abbrev pub decimal_sort : List ℕ → List Item → Sort
decimal_sort word is = if is_whole_room is then whole_sort word (behind_room is) else sorts.Other

abbrev pub is_one_bit : List ℕ → List Item → Bool
is_one_bit word is = is_one_in_parentheses is && one_of (codes "TINYINT" ∷ codes "BIT" ∷ []) word

abbrev pub is_whole_word : List ℕ → Bool
is_whole_word word = one_of whole_words word || one_of serial_words word

abbrev pub is_truth_word : List ℕ → Bool
is_truth_word word = one_of truth_words word || spells (codes "BIT") word

-- a type by its first word and the items behind it
unfoldable pub sort_by : List ℕ → List Item → Sort
sort_by word is =
    if is_one_bit word is then sorts.Truth
    else (if is_whole_word word then whole_sort word (behind_room is)
    else (if one_of decimal_words word then decimal_sort word is
    else (if is_truth_word word then where_nothing sorts.Truth is
    else (if one_of text_words word then where_nothing sorts.Text (behind_room is)
    else (if one_of padded_words word then padded_sort is else sorts.Other)))))

abbrev pub in_brackets : List ℕ → List ℕ
in_brackets bs = if begins_with 91 bs then within_quotes bs else []

-- the word of a type, also where it stands in brackets, and none where it stands in other quotes
abbrev pub type_word_of : ItemKind → List ℕ → List ℕ
type_word_of kinds.Word bs = bs
type_word_of kinds.Quoted bs = in_brackets bs
type_word_of _ bs = []

abbrev pub type_word : Item → List ℕ
type_word i = type_word_of i.kind i.bytes

-- without the name of PostgreSQL's own schema
abbrev pub plain_type : List Item → List Item
plain_type (s ∷ d ∷ is) = if is_word (codes "PG_CATALOG") s && is_dot d.kind then is else s ∷ d ∷ is
plain_type is = is

abbrev pub sort_of_plain : List Item → Sort
sort_of_plain [] = sorts.Other
sort_of_plain (i ∷ is) = sort_by (type_word i) is

abbrev pub sort_of : List Item → Sort
sort_of is = sort_of_plain (plain_type is)

abbrev pub is_serial_plain : List Item → Bool
is_serial_plain [] = false
is_serial_plain (i ∷ is) = one_of serial_words (type_word i)

abbrev pub is_serial : List Item → Bool
is_serial is = is_serial_plain (plain_type is)

abbrev pub is_other : Sort → Bool
is_other sorts.Other = true
is_other _ = false
