-- Queries read from tokens, from left to right. The grammar doesn't stand on this: laws say that both
-- give the same.
use Rattle.std.specs.Prelude.{Result, Err, ℕ, zero, suc, ℤ, pos, Bool, true, false, if◌then◌else◌, List, [], ◌∷◌, length, codes}
use Rattle.std.specs.Str.{str_eq_ignore_ascii_case, bytes_eq}
use Rattle.std.specs.Str.Parse.{digits_value}
use Rattle.std.specs.declared.option.Option.{Option}
use Rattle.std.specs.declared.option.Option.TheVariants.{Some, None}
use Rattle.qbs_base.specs.declared.scalar.Scalar.TheVariants as scalars
use Rattle.qbs_base.specs.Values.{Schema, fits_long}
use Rattle.sql_ast.specs.declared.rule.SqlRule.{SqlRule}
use Rattle.sql_ast.specs.declared.rule.SqlRule.TheVariants as rules
use Rattle.sql_ast.specs.Grammar.{negated}
use Rattle.sql_ast.specs.Lexer.{tokens_in}
use Rattle.sql_ast.specs.Names.{◌>>=◌}
use Rattle.sql_ast.specs.Texts.{judged}
use Rattle.sql_ast.specs.Tokens.{Token, Word, Digits, Negative, Quoted, Param, Test, Open, Close, Comma, Dot, Star, is_free}
use Rattle.sql_ast.specs.Tree.{PlainQuery}
use Rattle.sql_ast.specs.Written.{WrittenCol, WrittenPart, WrittenOpnd, WrittenCondition, Both, Either, Not, Compare, Bare, Exists, Within, WrittenFilter, Everything, Where, WrittenItem, WrittenKey, WrittenKind, Count, Sum, Max, Min, WrittenListing, WrittenNumber, WrittenTruth, WrittenQuery, Listing, Number, Truth}
use Rattle.sql_ast.specs.Written as written

-- what is read, and the tokens after it
abbrev pub Read : Type 0 → Type 0
Read A = Option (A × List Token)

-- by what there is, or else
abbrev pub given : {A B : Type 0} → Option A → (A → B) → B → B
given (Some x) some none = some x
given None some none = none

abbrev pub is_word : List ℕ → Token → Bool
is_word keyword (Word bs) = str_eq_ignore_ascii_case bs keyword
is_word keyword _ = false

-- the tokens after a keyword
abbrev pub after_word : List ℕ → List Token → Option (List Token)
after_word keyword [] = None
after_word keyword (t ∷ ts) = if is_word keyword t then Some ts else None

abbrev pub after_open : List Token → Option (List Token)
after_open (Open ∷ ts) = Some ts
after_open _ = None

abbrev pub after_close : List Token → Option (List Token)
after_close (Close ∷ ts) = Some ts
after_close _ = None

abbrev pub after_comma : List Token → Option (List Token)
after_comma (Comma ∷ ts) = Some ts
after_comma _ = None

abbrev pub after_star : List Token → Option (List Token)
after_star (Star ∷ ts) = Some ts
after_star _ = None

-- the tokens after `1`
abbrev pub after_one : List Token → Option (List Token)
after_one (Digits bs ∷ ts) = if bytes_eq bs (codes "1") then Some ts else None
after_one _ = None

abbrev pub name_at : List Token → Read (List ℕ)
name_at (Word name ∷ ts) = if is_free name then Some (name, ts) else None
name_at _ = None

-- a column whose first name is read
abbrev pub col_from : List ℕ → List Token → Read WrittenCol
col_from first (Dot ∷ ts) = name_at ts >>= λ x. Some (record { alias = Some first; name = x.0 }, x.1)
col_from first ts = Some (record { alias = None; name = first }, ts)

abbrev pub col_at : List Token → Read WrittenCol
col_at ts = name_at ts >>= λ x. col_from x.0 x.1

-- a number within 64 bits
abbrev pub long_of : Token → Option ℤ
long_of (Digits bs) = if fits_long (pos (digits_value 10 bs)) then Some (pos (digits_value 10 bs)) else None
long_of (Negative bs) = if fits_long (negated (digits_value 10 bs)) then Some (negated (digits_value 10 bs)) else None
long_of _ = None

abbrev pub long_at : List Token → Read ℤ
long_at [] = None
long_at (t ∷ ts) = long_of t >>= λ n. Some (n, ts)

abbrev pub word_opnd : List ℕ → List Token → Read WrittenOpnd
word_opnd name ts =
    if str_eq_ignore_ascii_case name (codes "TRUE")
    then Some (written.Lit (scalars.Bool true), ts)
    else (if str_eq_ignore_ascii_case name (codes "FALSE") then Some (written.Lit (scalars.Bool false), ts) else (col_at (Word name ∷ ts) >>= λ x. Some (written.Column x.0, x.1)))

abbrev pub opnd_at : List Token → Read WrittenOpnd
opnd_at (Word name ∷ ts) = word_opnd name ts
opnd_at (Quoted text ∷ ts) = Some (written.Lit (scalars.Text text), ts)
opnd_at (Param n ∷ ts) = Some (written.Param n, ts)
opnd_at ts = long_at ts >>= λ x. Some (written.Lit (scalars.Long x.0), x.1)

-- a table whose name is read, with its alias
abbrev pub part_from : List ℕ → List Token → Read WrittenPart
part_from table (Word alias ∷ ts) =
    if str_eq_ignore_ascii_case alias (codes "AS")
    then (name_at ts >>= λ x. Some (record { table = table; alias = Some x.0 }, x.1))
    else (if is_free alias then Some (record { table = table; alias = Some alias }, ts) else Some (record { table = table; alias = None }, Word alias ∷ ts))
part_from table ts = Some (record { table = table; alias = None }, ts)

abbrev pub part_at : List Token → Read WrittenPart
part_at ts = name_at ts >>= λ x. part_from x.0 x.1

-- one, and after each comma a further one
unfoldable pub listed_at : {A : Type 0} → (List Token → Read A) → ℕ → List Token → Read (List A)
listed_at item zero ts = None
listed_at item (suc n) ts = item ts >>= λ x. given (after_comma x.1) (λ rest. listed_at item n rest >>= λ xs. Some (x.0 ∷ xs.0, xs.1)) (Some (x.0 ∷ [], x.1))

abbrev pub parts_at : List Token → Read (List WrittenPart)
parts_at ts = listed_at part_at (length ts) ts

-- IN or NOT IN
abbrev pub in_at : List Token → Read Bool
in_at [] = None
in_at (t ∷ ts) = if is_word (codes "IN") t then Some (false, ts) else (if is_word (codes "NOT") t then (after_word (codes "IN") ts >>= λ us. Some (true, us)) else None)

-- ---- conditions, where group reads one that stands inside parentheses

abbrev pub where_at : (List Token → Read WrittenCondition) → List Token → Read WrittenFilter
where_at group [] = Some (Everything, [])
where_at group (t ∷ ts) = if is_word (codes "WHERE") t then (group ts >>= λ x. Some (Where x.0, x.1)) else Some (Everything, t ∷ ts)

abbrev pub source_at : (List Token → Read WrittenCondition) → List Token → Read (List WrittenPart × WrittenFilter)
source_at group ts = after_word (codes "FROM") ts >>= λ us. parts_at us >>= λ x. where_at group x.1 >>= λ y. Some ((x.0, y.0), y.1)

-- what stands in parentheses
abbrev pub enclosed_at : {A : Type 0} → (List Token → Read A) → List Token → Read A
enclosed_at inner ts = after_open ts >>= λ us. inner us >>= λ x. after_close x.1 >>= λ vs. Some (x.0, vs)

-- SELECT 1 with its source
abbrev pub one_at : (List Token → Read WrittenCondition) → List Token → Read (List WrittenPart × WrittenFilter)
one_at group ts = after_word (codes "SELECT") ts >>= λ us. after_one us >>= λ vs. source_at group vs

-- SELECT of a column with its source
abbrev pub column_at : (List Token → Read WrittenCondition) → List Token → Read (WrittenCol × (List WrittenPart × WrittenFilter))
column_at group ts = after_word (codes "SELECT") ts >>= λ us. col_at us >>= λ x. source_at group x.1 >>= λ y. Some ((x.0, y.0), y.1)

-- an operand that is a condition by itself
abbrev pub bare_from : WrittenOpnd → List Token → Read WrittenCondition
bare_from (written.Column col) ts = Some (Bare col, ts)
bare_from _ ts = None

abbrev pub within_from : (List Token → Read WrittenCondition) → WrittenOpnd → List Token → Read WrittenCondition
within_from group a ts =
    given (in_at ts) (λ x. enclosed_at (column_at group) x.1 >>= λ y. Some (Within a x.0 y.0.0 y.0.1.0 y.0.1.1, y.1)) (bare_from a ts)

-- a condition whose first operand is read
abbrev pub atom_from : (List Token → Read WrittenCondition) → WrittenOpnd → List Token → Read WrittenCondition
atom_from group a (Test cmp ∷ ts) = opnd_at ts >>= λ x. Some (Compare cmp a x.0, x.1)
atom_from group a ts = within_from group a ts

abbrev pub other_atom : (List Token → Read WrittenCondition) → Token → List Token → Read WrittenCondition
other_atom group t ts =
    if is_word (codes "EXISTS") t
    then (enclosed_at (one_at group) ts >>= λ x. Some (Exists x.0.0 x.0.1, x.1))
    else (opnd_at (t ∷ ts) >>= λ x. atom_from group x.0 x.1)

unfoldable pub atom_at : (List Token → Read WrittenCondition) → List Token → Read WrittenCondition
atom_at group [] = None
atom_at group (Open ∷ ts) = group ts >>= λ x. after_close x.1 >>= λ us. Some (x.0, us)
atom_at group (t ∷ ts) = other_atom group t ts

unfoldable pub negation_in : (List Token → Read WrittenCondition) → ℕ → List Token → Read WrittenCondition
negation_in atom zero ts = None
negation_in atom (suc n) [] = None
negation_in atom (suc n) (t ∷ ts) = if is_word (codes "NOT") t then (negation_in atom n ts >>= λ x. Some (Not x.0, x.1)) else atom (t ∷ ts)

abbrev pub negation_at : (List Token → Read WrittenCondition) → List Token → Read WrittenCondition
negation_at atom ts = negation_in atom (length ts) ts

-- further operands, joined from the left by a keyword
unfoldable pub joined_from : {A : Type 0} → List ℕ → (A → A → A) → (List Token → Read A) → ℕ → A → List Token → Read A
joined_from keyword make operand zero a ts = Some (a, ts)
joined_from keyword make operand (suc n) a ts = given (after_word keyword ts) (λ us. operand us >>= λ x. joined_from keyword make operand n (make a x.0) x.1) (Some (a, ts))

abbrev pub joined_at : {A : Type 0} → List ℕ → (A → A → A) → (List Token → Read A) → List Token → Read A
joined_at keyword make operand ts = operand ts >>= λ x. joined_from keyword make operand (length x.1) x.0 x.1

unfoldable pub conjunction_at : (List Token → Read WrittenCondition) → List Token → Read WrittenCondition
conjunction_at group ts = joined_at (codes "AND") Both (negation_at (atom_at group)) ts

-- a condition, where so many parentheses and inner SELECTs may be open
unfoldable pub condition_at : ℕ → List Token → Read WrittenCondition
condition_at zero ts = None
condition_at (suc n) ts = joined_at (codes "OR") Either (conjunction_at (condition_at n)) ts

-- ---- queries

abbrev pub item_at : List Token → Read WrittenItem
item_at (Star ∷ ts) = Some (written.Whole None, ts)
item_at (Word alias ∷ Dot ∷ Star ∷ ts) = if is_free alias then Some (written.Whole (Some alias), ts) else None
item_at ts = col_at ts >>= λ x. Some (written.Column x.0, x.1)

abbrev pub group_at : List Token → Read (Option WrittenCol)
group_at ts = given (after_word (codes "GROUP") ts) (λ us. after_word (codes "BY") us >>= λ vs. col_at vs >>= λ x. Some (Some x.0, x.1)) (Some (None, ts))

-- a column as a key, with its direction
abbrev pub direction_at : WrittenCol → List Token → Read WrittenKey
direction_at col ts =
    given (after_word (codes "ASC") ts) (λ us. Some (record { least = false; col = col; down = false }, us))
    (given (after_word (codes "DESC") ts) (λ us. Some (record { least = false; col = col; down = true }, us)) (Some (record { least = false; col = col; down = false }, ts)))

-- MIN with a column, where an open parenthesis follows the word
abbrev pub least_at : List Token → Option (List Token)
least_at (t ∷ Open ∷ ts) = if is_word (codes "MIN") t then Some ts else None
least_at _ = None

abbrev pub key_at : List Token → Read WrittenKey
key_at ts =
    given (least_at ts) (λ us. col_at us >>= λ x. after_close x.1 >>= λ vs. Some (record { least = true; col = x.0; down = false }, vs))
    (col_at ts >>= λ x. direction_at x.0 x.1)

abbrev pub order_at : List Token → Read (List WrittenKey)
order_at ts = given (after_word (codes "ORDER") ts) (λ us. after_word (codes "BY") us >>= λ vs. listed_at key_at (length vs) vs) (Some ([], ts))

abbrev pub most_at : List Token → Read (Option ℕ)
most_at (Digits bs ∷ ts) = if fits_long (pos (digits_value 10 bs)) then Some (Some (digits_value 10 bs), ts) else None
most_at _ = None

abbrev pub limit_at : List Token → Read (Option ℕ)
limit_at ts = given (after_word (codes "LIMIT") ts) most_at (Some (None, ts))

abbrev pub listing_at : (List Token → Read WrittenCondition) → List Token → Read WrittenQuery
listing_at group ts =
    item_at ts
    >>= λ a. source_at group a.1
    >>= λ b. group_at b.1
    >>= λ c. order_at c.1
    >>= λ d. limit_at d.1
    >>= λ e. Some (Listing (record { item = a.0; from = b.0.0; filter = b.0.1; group = c.0; keys = d.0; limit = e.0 }), e.1)

abbrev pub is_single : List WrittenPart → Bool
is_single [] = false
is_single (part ∷ []) = true
is_single (part ∷ next ∷ parts) = false

-- the source of COUNT and SUM, with one FROM item
abbrev pub counted_from : WrittenKind → List WrittenPart × WrittenFilter → List Token → Read WrittenQuery
counted_from kind source ts = if is_single source.0 then Some (Number (record { kind = kind; from = source.0; filter = source.1 }), ts) else None

abbrev pub count_at : (List Token → Read WrittenCondition) → List Token → Read WrittenQuery
count_at group ts = after_star ts >>= λ us. after_close us >>= λ vs. source_at group vs >>= λ x. counted_from Count x.0 x.1

-- the name of a total, and what it makes of a column and a number
abbrev pub total_named : Token → Option (WrittenCol → ℤ → WrittenKind)
total_named t =
    if is_word (codes "SUM") t then Some Sum else (if is_word (codes "MAX") t then Some Max else (if is_word (codes "MIN") t then Some Min else None))

abbrev pub total_from : WrittenKind → List WrittenPart × WrittenFilter → List Token → Read WrittenQuery
total_from (Sum col n) source ts = counted_from (Sum col n) source ts
total_from kind source ts = Some (Number (record { kind = kind; from = source.0; filter = source.1 }), ts)

abbrev pub total_at : (List Token → Read WrittenCondition) → List Token → Read WrittenQuery
total_at group [] = None
total_at group (t ∷ ts) =
    total_named t
    >>= λ make. enclosed_at col_at ts
    >>= λ x. after_comma x.1
    >>= λ us. long_at us
    >>= λ y. after_close y.1
    >>= λ vs. source_at group vs
    >>= λ z. total_from (make x.0 y.0) z.0 z.1

-- EXISTS or NOT EXISTS
abbrev pub exists_at : List Token → Read Bool
exists_at [] = None
exists_at (t ∷ ts) = if is_word (codes "EXISTS") t then Some (false, ts) else (if is_word (codes "NOT") t then (after_word (codes "EXISTS") ts >>= λ us. Some (true, us)) else None)

-- COUNT or COALESCE, where an open parenthesis follows the word
abbrev pub number_at : (List Token → Read WrittenCondition) → List Token → Option (Read WrittenQuery)
number_at group (t ∷ Open ∷ ts) = if is_word (codes "COUNT") t then Some (count_at group ts) else (if is_word (codes "COALESCE") t then Some (total_at group ts) else None)
number_at group _ = None

abbrev pub selected_at : (List Token → Read WrittenCondition) → List Token → Read WrittenQuery
selected_at group ts = given (number_at group ts) (λ read. read) (listing_at group ts)

abbrev pub query_at : (List Token → Read WrittenCondition) → List Token → Read WrittenQuery
query_at group ts =
    after_word (codes "SELECT") ts
    >>= λ us. given (exists_at us) (λ x. enclosed_at (one_at group) x.1 >>= λ y. Some (Truth (record { negated = x.0; from = y.0.0; filter = y.0.1 }), y.1)) (selected_at group us)

abbrev pub ended : WrittenQuery × List Token → Option WrittenQuery
ended (q, []) = Some q
ended (q, t ∷ ts) = None

abbrev pub query_in : List Token → Option WrittenQuery
query_in ts = query_at (condition_at (suc (length ts))) ts >>= ended

-- what a text says
abbrev pub written_in : List ℕ → Option WrittenQuery
written_in text = tokens_in (length text) text >>= query_in

-- the query of a text under a schema, or the first rule that it breaks
abbrev pub query_of_text : Schema → List ℕ → Result PlainQuery SqlRule
query_of_text schema text = given (written_in text) (judged schema) (Err rules.BadToken)
