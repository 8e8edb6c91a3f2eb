-- What is written in place of a slice: statements of the source as they stand there, some of them left out, and statements that ask. What is
-- seen has no widths of numbers and no `final`, so it alone doesn't tell what Java makes of a statement.
use Rattle.std.specs.Prelude.{ℕ, zero, suc, ◌-◌, Bool, true, false, ◌&&◌, ◌||◌, ◌==◌, not, List, [], ◌∷◌, take, drop, codes, Option, Some, slice_get, if◌then◌else◌}
use Rattle.std.specs.Str.{bytes_eq}
use Rattle.view_items.specs.declared.item.Item.{Item}
use Rattle.view_shapes.specs.declared.members.Stretch.{Stretch}
use Rattle.view_shapes.specs.Mentions.{is_named}
use Rattle.view_rules.specs.declared.java_type.JavaType.{JavaType}
use Rattle.view_rules.specs.declared.java_type.JavaType.TheVariants as types
use Rattle.view_rules.specs.Decisions.{is_scalar}
use Rattle.view_rules.specs.Spelled.{kind_word}
use Rattle.view_rules.specs.Tree.{PlainExpression, PlainArguments}
use Rattle.view_rules.specs.Tree as exprs
use Rattle.view_scope.specs.Obscured.{word_at}
use Rattle.view_statements.specs.declared.slice.Printed.{Printed}
use Rattle.view_statements.specs.Tree.{PlainStatement, PlainStatements, Nothing, Then}
use Rattle.view_statements.specs.Tree as plain
use Rattle.view_slices.specs.Slices.{PlainSlice, PlainEnding, Grouped, is_printed}
use Rattle.view_slices.specs.Words.{same_sign}
use Rattle.view_slices.specs.declared.kept.Beside as code

-- the items of the source and those of what is written, and what the slice of the source prints
pub record Beside : Type 0 where
  pub items : List Item
  pub written : List Item
  pub prints : List Printed

abbrev pub beside_of : code.Beside → Beside
beside_of b = record { items = b.items.now; written = b.written.now; prints = b.prints.now }

-- ---- Items

abbrev pub begin_alike : List Item → List Item → Bool
begin_alike [] written = true
begin_alike (i ∷ is) [] = false
begin_alike (i ∷ is) (o ∷ os) = bytes_eq i.bytes o.bytes && begin_alike is os

abbrev pub same_word : Option Item → Option Item → Bool
same_word (Some i) (Some o) = bytes_eq i.bytes o.bytes
same_word _ _ = false

-- the items from a number to another, with both, have the bytes of others
abbrev pub same_items : Beside → Stretch → Stretch → Bool
same_items b s t =
    ((s.to - s.from) == (t.to - t.from))
    && (begin_alike (take (s.to - s.from) (drop s.from b.items)) (drop t.from b.written)
    && same_word (slice_get b.items s.to) (slice_get b.written t.to))

-- ---- Statements that ask

abbrev pub is_variable : PlainExpression → Bool
is_variable (exprs.Variable at) = true
is_variable e = false

-- a literal, a variable, a column or a constant, which has no width but that of its value
abbrev pub is_plain_argument : PlainExpression → Bool
is_plain_argument (exprs.Literal at) = true
is_plain_argument (exprs.Negative at digits) = true
is_plain_argument (exprs.Variable at) = true
is_plain_argument (exprs.Parameter at number) = true
is_plain_argument (exprs.NamedColumn at row class member) = true
is_plain_argument (exprs.ClassConstant at number) = true
is_plain_argument (exprs.MapConstant at number) = true
is_plain_argument (exprs.Column row dot class member) = is_variable row
is_plain_argument (exprs.OuterColumn at class member number) = true
is_plain_argument e = false

abbrev pub are_plain_arguments : PlainArguments → Bool
are_plain_arguments exprs.End = true
are_plain_arguments (exprs.Next value rest) = is_plain_argument value && are_plain_arguments rest

abbrev pub is_query_alone : PlainExpression → Bool
is_query_alone (exprs.Query at cast number text java arguments) = are_plain_arguments arguments
is_query_alone e = false

-- the whole value is a query, or a set of what one lists
abbrev pub is_asked : PlainExpression → Bool
is_asked (exprs.NewSetOf at hashed java query close) = is_query_alone query
is_asked e = is_query_alone e

abbrev pub asks : PlainStatement → Bool
asks (plain.Declaration at name java value end) = is_asked value
asks (plain.FirstSet name java value end) = is_asked value
asks (plain.Assignment name value end) = is_asked value
asks st = false

-- what is left behind those that ask
abbrev pub past_asks : PlainStatements → PlainStatements
past_asks Nothing = Nothing
past_asks (Then st sts) = if asks st then past_asks sts else Then st sts

abbrev pub are_none : PlainStatements → Bool
are_none Nothing = true
are_none (Then st sts) = false

-- ---- Statements that are kept

-- the first and the last item of a statement, or of what it has before its body
abbrev pub head_of : PlainStatement → Stretch
head_of (plain.Declaration at name java value end) = record { from = at; to = end }
head_of (plain.Inferred at name java value end) = record { from = at; to = end }
head_of (plain.FirstSet name java value end) = record { from = name; to = end }
head_of (plain.Assignment name value end) = record { from = name; to = end }
head_of (plain.Added name value end) = record { from = name; to = end }
head_of (plain.Lessened name value end) = record { from = name; to = end }
head_of (plain.Stepped at step name sign end) = record { from = at; to = end }
head_of (plain.Extreme name greatest variable_first value end) = record { from = name; to = end }
head_of (plain.Add name value close end) = record { from = name; to = end }
head_of (plain.Sort at by_class list keys end) = record { from = at; to = end }
head_of (plain.If at condition close braces body end) = record { from = at; to = close }
head_of (plain.IfElse at condition close braces body other_at other_braces other end) = record { from = at; to = close }
head_of (plain.ForEach at by_var name java walked close braces body end) = record { from = at; to = close }
head_of (plain.ForIndex at list first name java body close end) = record { from = at; to = name }
head_of (plain.ForIterator at list name java body close end) = record { from = at; to = name }
head_of (plain.Named at name java value end) = record { from = at; to = end }
head_of (plain.While at condition close braces body end) = record { from = at; to = close }
head_of (plain.Break at end) = record { from = at; to = end }
head_of (plain.Skip at condition close braces rest end) = record { from = at; to = close }
head_of (plain.Found at literal end) = record { from = at; to = end }

-- an `if`, one with `else`, one that skips, or none of them
abbrev pub shape_of : PlainStatement → ℕ
shape_of (plain.If at condition close braces body end) = 1
shape_of (plain.IfElse at condition close braces body other_at other_braces other end) = 2
shape_of (plain.Skip at condition close braces rest end) = 3
shape_of st = 0

-- the statements that one holds, and those behind its `else`
abbrev pub body_of : PlainStatement → PlainStatements
body_of (plain.If at condition close braces body end) = body
body_of (plain.IfElse at condition close braces body other_at other_braces other end) = body
body_of (plain.ForEach at by_var name java walked close braces body end) = body
body_of (plain.ForIndex at list first name java body close end) = body
body_of (plain.ForIterator at list name java body close end) = body
body_of (plain.While at condition close braces body end) = body
body_of (plain.Skip at condition close braces rest end) = rest
body_of st = Nothing

abbrev pub other_of : PlainStatement → PlainStatements
other_of (plain.IfElse at condition close braces body other_at other_braces other end) = other
other_of st = Nothing

-- A `final` variable of one value may be a constant for Java, so that what stands behind the slice is typed by it: it isn't left out where it is
-- printed. What a query gives is no constant, and where it stays it is one of those that ask.
abbrev pub is_needed : Beside → ℕ → ℕ → JavaType → Bool
is_needed b at name java = is_scalar java && (is_named b.items (codes "final") at name && is_printed b.prints (word_at b.items name) java)

abbrev pub may_be_left_out : Beside → PlainStatement → Bool
may_be_left_out b (plain.Declaration at name java value end) = is_asked value || not (is_needed b at name java)
may_be_left_out b (plain.Inferred at name java value end) = not (is_needed b at name java)
may_be_left_out b st = true

-- ---- Heads of declarations that ask

-- with `var` in the source a query of a boxed type would make another type of the variable, so the word of its type stands in its place
abbrev pub is_word_for : JavaType → List ℕ → Bool
is_word_for (types.Scalar t) word = bytes_eq word (kind_word t.kind)
is_word_for java word = false

abbrev pub ends_with_type : Beside → Stretch → Stretch → JavaType → Bool
ends_with_type b s t java = bytes_eq (word_at b.items (s.to - 1)) (codes "var") && is_word_for java (word_at b.written (t.to - 1))

-- the items of a declaration up to the name of its variable have the bytes of others, but for `var`
abbrev pub is_inferred_head : Beside → Stretch → Stretch → JavaType → Bool
is_inferred_head b s t java =
    ((s.to - s.from) == (t.to - t.from)) && (ends_with_type b s t java
    && (begin_alike (take ((s.to - 1) - s.from) (drop s.from b.items)) (drop t.from b.written)
    && same_word (slice_get b.items s.to) (slice_get b.written t.to)))

abbrev pub up_to : ℕ → ℕ → Stretch
up_to from to = record { from = from; to = to }

-- the statement declares the variable with the items from a number to its name
abbrev pub has_head : Beside → Stretch → PlainStatement → Bool
has_head b t (plain.Declaration at name java value end) = same_items b (up_to at name) t
has_head b t (plain.Inferred at name java value end) = is_inferred_head b (up_to at name) t java
has_head b t st = false

abbrev pub is_head_among : Beside → Stretch → PlainStatements → Bool
is_head_among b t Nothing = false
is_head_among b t (Then s ss) = has_head b t s || is_head_among b t ss

-- `boolean` and the variable of a group
abbrev pub is_head_of_group : Beside → List ℕ → Stretch → Bool
is_head_of_group b variable t =
    ((t.to - t.from) == 1) && (bytes_eq (word_at b.written t.from) (codes "boolean") && bytes_eq (word_at b.written t.to) variable)

-- A declaration that asks begins as one of the source does in the same block, or declares the variable of a group there.
abbrev pub is_headed : Beside → List ℕ → PlainStatements → PlainStatement → Bool
is_headed b variable ss (plain.Declaration at name java value end) =
    not (is_asked value) || (is_head_among b (up_to at name) ss || is_head_of_group b variable (up_to at name))
is_headed b variable ss t = true

abbrev pub are_headed : Beside → List ℕ → PlainStatements → PlainStatements → Bool
are_headed b variable ss Nothing = true
are_headed b variable ss (Then t ts) = is_headed b variable ss t && are_headed b variable ss ts

-- inside of a statement there is no group
abbrev pub are_bodies_headed : Beside → PlainStatement → PlainStatement → Bool
are_bodies_headed b s t = are_headed b [] (body_of s) (body_of t) && are_headed b [] (other_of s) (other_of t)

-- two statements are alike before what they hold, and what they hold declares variables as the source does
abbrev pub are_fronts_alike : Beside → PlainStatement → PlainStatement → Bool
are_fronts_alike b s t = (shape_of s == shape_of t) && same_items b (head_of s) (head_of t)

unfoldable pub is_front : Beside → PlainStatement → PlainStatement → Bool
is_front b s t = are_fronts_alike b s t && are_bodies_headed b s t

-- ---- One behind the other

abbrev pub is_first : (PlainStatement → Bool) → PlainStatements → Bool
is_first same Nothing = false
is_first same (Then st sts) = same st

abbrev pub behind_first : PlainStatements → PlainStatements
behind_first Nothing = Nothing
behind_first (Then st sts) = sts

-- Statements of the source in their order, some of them left out, and between them those that ask, where it is known which are the same.
abbrev pub are_kept_by : Beside → (PlainStatement → PlainStatement → Bool) → PlainStatements → PlainStatements → Bool
are_kept_by b same Nothing ts = are_none (past_asks ts)
are_kept_by b same (Then s ss) ts =
    if is_first (same s) (past_asks ts) then are_kept_by b same ss (behind_first (past_asks ts))
    else (may_be_left_out b s && are_kept_by b same ss (past_asks ts))

-- A statement of the source as it stands there, and what it holds is kept in the same way, so many levels deep.
abbrev pub is_kept : Beside → ℕ → PlainStatement → PlainStatement → Bool
is_kept b zero s t = false
is_kept b (suc n) s t =
    is_front b s t && (are_kept_by b (is_kept b n) (body_of s) (body_of t) && are_kept_by b (is_kept b n) (other_of s) (other_of t))

abbrev pub are_kept : Beside → ℕ → PlainStatements → PlainStatements → Bool
are_kept b n ss ts = are_kept_by b (is_kept b n) ss ts

abbrev pub are_bodies_kept : Beside → ℕ → PlainStatement → PlainStatement → Bool
are_bodies_kept b n s t = are_kept b n (body_of s) (body_of t) && are_kept b n (other_of s) (other_of t)

-- a group stays as it is, or gives way
abbrev pub is_ending_kept : Beside → ℕ → PlainEnding → PlainEnding → Bool
is_ending_kept b n (Grouped g) (Grouped h) = same_sign g.value h.value && is_kept b n g.walk h.walk
is_ending_kept b n s (Grouped h) = false
is_ending_kept b n s t = true

-- no statement has more others round it than the slice has items
abbrev pub levels_of : PlainSlice → ℕ
levels_of s = s.to - s.from

abbrev pub group_variable : PlainEnding → List ℕ
group_variable (Grouped g) = g.variable
group_variable ending = []

abbrev pub is_all_kept : Beside → PlainSlice → PlainSlice → Bool
is_all_kept b s t =
    are_headed b (group_variable s.ending) s.statements t.statements
    && (are_kept b (levels_of s) s.statements t.statements && is_ending_kept b (levels_of s) s.ending t.ending)

abbrev pub beside : List Item → List Item → PlainSlice → Beside
beside items written s = record { items = items; written = written; prints = s.prints }

-- What stands in place of the slice is made of its statements and of ones that ask.
abbrev pub keeps_statements : List Item → PlainSlice → List Item → PlainSlice → Bool
keeps_statements items s written t = is_all_kept (beside items written s) s t
