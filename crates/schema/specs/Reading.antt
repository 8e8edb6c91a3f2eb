-- Reading a schema from left to right, made of the kit's readers.
use Rattle.std.specs.Prelude.{ℕ, Bool, true, false, ◌||◌, not, List, [], ◌∷◌, ◌++◌, map, Option, Some, None, Result, codes, if◌then◌else◌}
use Rattle.readers.specs.declared.fault.Fault.{Fault}
use Rattle.readers.specs.Reading.{Read, token_at, both, made, either, many, whole}
use Rattle.qbs_base.specs.declared.scalar.Ty.{Ty}
use Rattle.qbs_base.specs.declared.scalar.Ty.TheVariants as ty
use Rattle.qbs_base.specs.declared.columns.Column.{Column}
use Rattle.qbs_base.specs.declared.columns.Table.{Table}
use Rattle.schema.specs.declared.token.Kind.{Kind}
use Rattle.schema.specs.declared.token.Kind.TheVariants.{Word, Digits, Sign}
use Rattle.schema.specs.declared.token.Sign.TheVariants.{Open, Close, Comma, Semicolon}
use Rattle.schema.specs.declared.token.Sign as signs
use Rattle.schema.specs.declared.draft.Mark.{Mark}
use Rattle.schema.specs.declared.draft.Mark.TheVariants.{NotNull, PrimaryKey}
use Rattle.schema.specs.declared.draft.Marks.{Marks}
use Rattle.schema.specs.declared.draft.Item.{Item}
use Rattle.schema.specs.declared.draft.Item.TheVariants as items
use Rattle.schema.specs.declared.draft.Draft.{Draft}
use Rattle.schema.specs.Marks.{no_marks, with_mark, Rest, column_of, table_of}
use Rattle.schema.specs.Words.{spells}
use Rattle.schema.specs.Series.{series}

abbrev pub Reader : Type 0 → Type 0
Reader A = List Kind → Read Kind A

-- ---- single tokens

abbrev pub word_in : Kind → Option (List ℕ)
word_in (Word w) = Some w
word_in _ = None

abbrev pub is_word : List ℕ → Kind → Bool
is_word keyword (Word w) = spells keyword w
is_word keyword _ = false

abbrev pub same_sign : signs.Sign → signs.Sign → Bool
same_sign Open Open = true
same_sign Close Close = true
same_sign Comma Comma = true
same_sign Semicolon Semicolon = true
same_sign _ _ = false

abbrev pub is_sign : signs.Sign → Kind → Bool
is_sign s (Sign t) = same_sign s t
is_sign s _ = false

abbrev pub is_digits : Kind → Bool
is_digits Digits = true
is_digits _ = false

-- a token that passes, and nothing of it
abbrev pub passing : (Kind → Bool) → Kind → Option (Unit {0})
passing test k = if test k then Some tt else None

abbrev pub name_at : Reader (List ℕ)
name_at ts = token_at word_in ts

abbrev pub word_at : List ℕ → Reader (Unit {0})
word_at keyword ts = token_at (passing (is_word keyword)) ts

abbrev pub sign_at : signs.Sign → Reader (Unit {0})
sign_at s ts = token_at (passing (is_sign s)) ts

abbrev pub digits_at : Reader (Unit {0})
digits_at ts = token_at (passing is_digits) ts

-- ---- types and what follows them

abbrev pub is_long : List ℕ → Bool
is_long w = spells (codes "BIGINT") w || spells (codes "INTEGER") w || spells (codes "INT") w

-- the type of one word
abbrev pub type_of : List ℕ → Option Ty
type_of w = if is_long w then Some ty.Long else (if spells (codes "BOOLEAN") w then Some ty.Bool else (if spells (codes "TEXT") w then Some ty.Text else None))

abbrev pub type_in : Kind → Option Ty
type_in (Word w) = type_of w
type_in _ = None

unfoldable pub sized_at : Reader Ty
sized_at ts = made (λ _. ty.Text) (both (word_at (codes "VARCHAR")) (both (sign_at Open) (both digits_at (sign_at Close)))) ts

unfoldable pub type_at : Reader Ty
type_at ts = either (is_word (codes "VARCHAR")) sized_at (token_at type_in) ts

abbrev pub is_no_mark : Kind → Bool
is_no_mark k = not (is_word (codes "NOT") k || is_word (codes "PRIMARY") k)

unfoldable pub mark_at : Reader Mark
mark_at ts =
    either (is_word (codes "NOT")) (made (λ _. NotNull) (both (word_at (codes "NOT")) (word_at (codes "NULL")))) (made (λ _. PrimaryKey) (both (word_at (codes "PRIMARY")) (word_at (codes "KEY")))) ts

-- these marks and those of a list
abbrev pub marked : Marks → List Mark → Marks
marked marks [] = marks
marked marks (m ∷ ms) = marked (with_mark marks m) ms

unfoldable pub marks_at : Reader Marks
marks_at ts = made (marked no_marks) (many is_no_mark mark_at) ts

unfoldable pub rest_at : Reader Rest
rest_at ts = both type_at marks_at ts

-- ---- columns and the key clause

abbrev pub is_no_comma : Kind → Bool
is_no_comma k = not (is_sign Comma k)

unfoldable pub next_name_at : Reader (List ℕ)
next_name_at ts = made (λ x. x.1) (both (sign_at Comma) name_at) ts

unfoldable pub next_names_at : Reader (List (List ℕ))
next_names_at ts = many is_no_comma next_name_at ts

-- names, behind those that were read before
unfoldable pub names_behind : List (List ℕ) → Reader (List (List ℕ))
names_behind front ts = made (λ names. front ++ names) next_names_at ts

unfoldable pub names_at : Reader (List (List ℕ))
names_at ts = made (λ x. x.0 ∷ x.1) (both name_at next_names_at) ts

-- what stands behind the word PRIMARY: the names of a key clause, or the rest of a column
pub data Behind : Type 0 where
  key_clause : List (List ℕ) → Behind
  column_rest : Rest → Behind

-- a key clause behind PRIMARY
unfoldable pub key_at : Reader Behind
key_at ts = made (λ x. key_clause x.1.1.0) (both (word_at (codes "KEY")) (both (sign_at Open) (both names_at (sign_at Close)))) ts

unfoldable pub typed_at : Reader Behind
typed_at ts = made column_rest rest_at ts

abbrev pub named : List ℕ × Behind → Item
named (n, key_clause names) = items.Key names
named (n, column_rest rest) = items.Column (column_of (n, rest))

unfoldable pub column_at : Reader Column
column_at ts = made column_of (both name_at rest_at) ts

-- the word PRIMARY, as the name that it may be
abbrev pub primary_in : Kind → Option (List ℕ)
primary_in (Word w) = if spells (codes "PRIMARY") w then Some w else None
primary_in _ = None

-- behind PRIMARY a key clause where KEY is next, else a column of that name
unfoldable pub primary_at : Reader Item
primary_at ts = made named (both (token_at primary_in) (either (is_word (codes "KEY")) key_at typed_at)) ts

unfoldable pub item_at : Reader Item
item_at ts = either (is_word (codes "PRIMARY")) primary_at (made (λ c. items.Column c) column_at) ts

unfoldable pub next_item_at : Reader Item
next_item_at ts = made (λ x. x.1) (both (sign_at Comma) item_at) ts

-- columns, and the names of the key clause behind them
abbrev pub Columns : Type 0
Columns = List Column × List (List ℕ)

unfoldable pub columns_at : Reader Columns
columns_at ts = series is_no_comma next_item_at ts

-- ---- tables

-- the name of a table, up to its first column
unfoldable pub head_at : Reader (List ℕ)
head_at ts = made (λ x. x.1.1.0) (both (word_at (codes "CREATE")) (both (word_at (codes "TABLE")) (both name_at (sign_at Open)))) ts

-- columns, behind those that were read before
unfoldable pub columns_behind : List Column → Reader Columns
columns_behind front ts = made (λ x. (front ++ x.0, x.1)) columns_at ts

unfoldable pub body_at : Reader Columns
body_at ts = made (λ x. (x.0 ∷ x.1.0, x.1.1)) (both column_at columns_at) ts

unfoldable pub tail_at : Reader (Unit {0} × Unit {0})
tail_at ts = both (sign_at Close) (sign_at Semicolon) ts

abbrev pub draft_from : List ℕ × (Columns × (Unit {0} × Unit {0})) → Draft
draft_from x = record { table = record { name = x.0; columns = x.1.0.0 }; key = x.1.0.1 }

unfoldable pub draft_at : Reader Draft
draft_at ts = made draft_from (both head_at (both body_at tail_at)) ts

abbrev pub never : Kind → Bool
never k = false

unfoldable pub drafts_at : Reader (List Draft)
drafts_at ts = many never draft_at ts

-- the tables, with the marks of their key clauses
unfoldable pub tables_at : Reader (List Table)
tables_at ts = made (map table_of) drafts_at ts

-- the tables of all of the tokens, or where reading stops
unfoldable pub read_of : List Kind → Result (List Table) Fault
read_of ts = whole tables_at ts
