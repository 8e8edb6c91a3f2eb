-- Where a statement of a slice stands, and what is fixed round it.
use Rattle.std.specs.Prelude.{ℕ, ◌+◌, ◌-◌, Bool, true, false, ◌&&◌, ◌||◌, ◌==◌, not, List, [], ◌∷◌, ◌++◌, map, codes, Option, Some, None, is_some, slice_get, if◌then◌else◌}
use Rattle.std.specs.List.{list_all, list_any}
use Rattle.std.specs.Str.{bytes_eq}
use Rattle.java_words.specs.Words.{is_among, is_reserved_word}
use Rattle.view_shapes.specs.Mentions.{numbers, is_mention}
use Rattle.view_rules.specs.declared.java_type.JavaType.{JavaType}
use Rattle.view_rules.specs.declared.sight.Sighted.{Sighted}
use Rattle.view_rules.specs.declared.sight.ColumnName.{ColumnName}
use Rattle.view_rules.specs.Options.{◌>>=◌}
use Rattle.view_rules.specs.Setting.{Within, within_of, past, next}
use Rattle.view_rules.specs.Sights.{in_sight}
use Rattle.view_rules.specs.Spelled.{bytes_at}
use Rattle.view_rules.specs.Tree.{PlainExpression}
use Rattle.view_rules.specs.Tree as plain
use Rattle.view_shapes.specs.Prefixes.{is_plain_name}
use Rattle.view_statements.specs.declared.frame.Frame as code
use Rattle.view_statements.specs.declared.frame.Place.{Place}

-- what is fixed while one slice is looked at, with the closing brackets of the file and the end of the method's body
pub record Frame : Type 0 where
  pub within : Within
  pub closings : List ℕ
  pub end : ℕ

abbrev pub frame_of : code.Frame → Frame
frame_of f = record { within = within_of f.within.now; closings = f.closings.now; end = f.end }

-- ---- Places: whether a loop of the slice stands round a statement, whether it is of the slice's own level, whether it stands directly in the block of a for-each,
-- and the literal that is returned where it stands in the for-each of a group

abbrev pub at_top : Place
at_top = record { looped = false; top = true; direct = false; found = None }

-- in a body that no loop is
abbrev pub inside : Place → Place
inside p = record { looped = p.looped; top = false; direct = false; found = p.found }

-- behind a `continue` that is skipped, in the same block
abbrev pub beside : Place → Place
beside p = record { looped = p.looped; top = false; direct = true; found = p.found }

abbrev pub in_loop : Place → Bool → Place
in_loop p direct = record { looped = true; top = false; direct = direct; found = p.found }

-- ---- Names

-- no word of the source language, nor the name of the database there
abbrev pub is_no_word : List ℕ → Bool
is_no_word name = not (is_reserved_word name) && not (bytes_eq name (codes "db"))

-- a name that both languages take for one
abbrev pub is_seen_name : Within → ℕ → Bool
is_seen_name w k = is_plain_name w.items k && is_no_word (bytes_at w k)

-- and that no variable in sight has
abbrev pub is_new_name : Frame → List Sighted → ℕ → Bool
is_new_name f s k = is_seen_name f.within k && not (is_some (in_sight s (bytes_at f.within k)))

abbrev pub name_at : Frame → ℕ → List ℕ
name_at f k = bytes_at f.within k

-- a variable of the slice's own
abbrev pub own : List ℕ → JavaType → Option ColumnName → Sighted
own name java column = record { name = name; java = java; outside = false; column = column }

-- the same sight with one more variable
abbrev pub with_own : Frame → List Sighted → ℕ → JavaType → List Sighted
with_own f s k java = s ++ own (bytes_at f.within k) java None ∷ []

-- with a local name of a column
abbrev pub with_column : Frame → List Sighted → ℕ → JavaType → ColumnName → List Sighted
with_column f s k java column = s ++ own (bytes_at f.within k) java (Some column) ∷ []

-- the variable of a name isn't from outside any more
abbrev pub made_own : List ℕ → Sighted → Sighted
made_own name v = record { name = v.name; java = v.java; outside = v.outside && not (bytes_eq v.name name); column = v.column }

abbrev pub own_from_here : List ℕ → List Sighted → List Sighted
own_from_here name s = map (made_own name) s

-- a name of a column stands for one of this row
abbrev pub is_column_of : List ℕ → Option ColumnName → Bool
is_column_of row None = false
is_column_of row (Some c) = bytes_eq c.row row

abbrev pub has_columns : List Sighted → List ℕ → Bool
has_columns s row = list_any (λ v. is_column_of row v.column) s

-- ---- Hash sets

-- the value is a hash set, in parentheses or not
abbrev pub is_hashed : PlainExpression → Bool
is_hashed (plain.NewSet at hashed java) = hashed
is_hashed (plain.NewSetOf at hashed java query close) = hashed
is_hashed (plain.Group at inner close) = is_hashed inner
is_hashed e = false

-- behind the name the set is only added to, or asked what it contains and how much
abbrev pub past_asked : Within → ℕ → Option ℕ
past_asked w i =
    if is_among (bytes_at w i) (codes "add" ∷ codes "contains" ∷ codes "size" ∷ codes "isEmpty" ∷ []) then (next w i >>= λ j. past w (codes "(") j) else None

abbrev pub past_use : Within → ℕ → Option ℕ
past_use w k = next w k >>= λ i. past w (codes ".") i >>= λ j. past_asked w j

abbrev pub is_unordered_at : Within → List ℕ → ℕ → Bool
is_unordered_at w name k = not (is_mention w.items name k) || is_some (past_use w k)

-- nobody walks the set behind a number, so that its order isn't seen
abbrev pub is_unordered : Frame → List ℕ → ℕ → Bool
is_unordered f name from = list_all (is_unordered_at f.within name) (numbers from (f.end - from))

-- a hash set may be the value of a variable that is declared, behind a number
abbrev pub may_be_hashed : Frame → ℕ → PlainExpression → ℕ → Bool
may_be_hashed f name value from = not (is_hashed value) || is_unordered f (bytes_at f.within name) from
