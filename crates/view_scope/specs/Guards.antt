-- What makes sure that a variable isn't null where a slice begins.
use Rattle.std.specs.Prelude.{ℕ, ◌+◌, ◌-◌, Bool, true, false, ◌||◌, ◌&&◌, ◌==◌, not, nat_le, nat_lt, List, [], ◌∷◌, codes, if◌then◌else◌}
use Rattle.std.specs.List.{list_any}
use Rattle.std.specs.declared.option.Option.{Option}
use Rattle.std.specs.declared.option.Option.TheVariants.{Some, None}
use Rattle.view_items.specs.declared.item.Item.{Item}
use Rattle.view_shapes.specs.declared.members.Stretch.{Stretch}
use Rattle.view_shapes.specs.Found.{is_word, is_sign, is_one_of_words, is_one_of_signs, closing_at}
use Rattle.view_shapes.specs.Mentions.{numbers, may_be_set}
use Rattle.view_shapes.specs.Statements.{end_of}
use Rattle.view_shapes.specs.Blocks.{statements_of}
use Rattle.view_scope.specs.declared.standing.Standing.{Standing}
use Rattle.view_scope.specs.Nulls.{is_around}
use Rattle.view_scope.specs.Standing.{standing_of}

-- the items from a number on are a test of the variable by `==` or `!=`, with `null` behind or in front
abbrev pub is_test : List Item → List ℕ → List ℕ → ℕ → Bool
is_test items sign name k =
    is_sign sign items (k + 1)
    && ((is_word name items k && is_word (codes "null") items (k + 2)) || (is_word (codes "null") items k && is_word name items (k + 2)))

-- an item is the operator, or the parenthesis that is opening there or its closing one
abbrev pub is_edge : List Item → List ℕ → ℕ → ℕ → List ℕ → ℕ → Bool
is_edge items rounds opening close operator k =
    (k == opening) || (k == close) || (is_sign operator items k && is_around rounds opening k)

-- the test is one of the parts of the condition in these parentheses that the operator joins
abbrev pub is_part : List Item → List ℕ → ℕ → ℕ → List ℕ → List ℕ → List ℕ → ℕ → Bool
is_part items rounds opening close operator sign name k =
    is_test items sign name k && is_edge items rounds opening close operator (k - 1) && is_edge items rounds opening close operator (k + 3)

-- of conditions that hold only all together the tests are for what isn't null, of others for what is
abbrev pub part_operator : Bool → List ℕ
part_operator true = codes "&&"
part_operator false = codes "||"

abbrev pub part_sign : Bool → List ℕ
part_sign true = codes "!="
part_sign false = codes "=="

abbrev pub is_part_of : List Item → List ℕ → Bool → ℕ → ℕ → List ℕ → ℕ → Bool
is_part_of items rounds all opening close name k = is_part items rounds opening close (part_operator all) (part_sign all) name k

-- one of the parts from a number up to the closing parenthesis is this test
abbrev pub has_part : List Item → List ℕ → Bool → ℕ → List ℕ → ℕ → ℕ → Bool
has_part items rounds all opening name from close = list_any (is_part_of items rounds all opening close name) (numbers from (close - from))

-- signs that bind less tightly than `||`, of which no part of a condition goes on behind; `||` too, where parts of `&&` are meant
abbrev pub loose_signs : List (List ℕ)
loose_signs = codes "?" ∷ codes "->" ∷ codes "&=" ∷ codes "|=" ∷ codes "^=" ∷ []

abbrev pub is_loose_sign : List Item → List ℕ → Bool → ℕ → ℕ → Bool
is_loose_sign items rounds all opening k =
    (is_one_of_signs loose_signs items k || (all && is_sign (codes "||") items k)) && is_around rounds opening k

abbrev pub has_loose : List Item → List ℕ → Bool → ℕ → ℕ → Bool
has_loose items rounds all opening close = list_any (is_loose_sign items rounds all opening) (numbers opening (close - opening))

-- where the condition doesn't hold, the variable isn't null: a part of `||` is that it is null
abbrev pub fails_unless_null : List Item → List ℕ → ℕ → ℕ → List ℕ → Bool
fails_unless_null items rounds opening close name =
    not (has_loose items rounds false opening close) && has_part items rounds false opening name (opening + 1) close

-- where the condition holds, the variable isn't null: a part of `&&` is that it isn't
abbrev pub holds_unless_null : List Item → List ℕ → ℕ → ℕ → List ℕ → Bool
holds_unless_null items rounds opening close name =
    not (has_loose items rounds true opening close) && has_part items rounds true opening name (opening + 1) close

abbrev pub leaves : List Item → ℕ → Bool
leaves items k = is_one_of_words (codes "throw" ∷ codes "return" ∷ codes "continue" ∷ codes "break" ∷ []) items k

-- the last of statements leaves; of none it is as it was said
abbrev pub last_leaves : List Item → Bool → List Stretch → Bool
last_leaves items so_far [] = so_far
last_leaves items so_far (s ∷ ss) = last_leaves items (leaves items s.from) ss

-- the last of the statements from a number on leaves, and so a body ends
abbrev pub ends_leaving : List Item → List ℕ → ℕ → Bool
ends_leaving items closings k = last_leaves items false (statements_of items closings k)

abbrev pub body_leaves : List Item → List ℕ → ℕ → Bool
body_leaves items closings k = if is_sign (codes "{") items k then ends_leaving items closings (k + 1) else leaves items k

-- ---- An `if`

abbrev pub is_before_end : ℕ → Option ℕ → Bool
is_before_end place None = false
is_before_end place (Some e) = nat_lt place e

abbrev pub is_before_end_of : List Item → List ℕ → ℕ → ℕ → Bool
is_before_end_of items closings place k = is_before_end place (end_of items closings k)

-- the closing parenthesis of an `if`
abbrev pub head_closing : List Item → List ℕ → ℕ → Option ℕ
head_closing items closings k = if is_word (codes "if") items k && is_sign (codes "(") items (k + 1) then closing_at items closings (k + 1) else None

abbrev pub is_else : List Item → ℕ → Bool
is_else items k = is_word (codes "else") items k

abbrev pub has_else : List Item → Option ℕ → Bool
has_else items None = true
has_else items (Some e) = is_else items e

-- no `else` stands behind the body, which leaves, and where the condition doesn't hold the variable isn't null
abbrev pub leaves_behind : List Item → List ℕ → List ℕ → List ℕ → ℕ → Option ℕ → Bool
leaves_behind items closings rounds name opening None = false
leaves_behind items closings rounds name opening (Some c) =
    fails_unless_null items rounds opening c name && body_leaves items closings (c + 1) && not (has_else items (end_of items closings (c + 1)))

abbrev pub leaves_where_null : List Item → List ℕ → List ℕ → List ℕ → ℕ → Bool
leaves_where_null items closings rounds name k = leaves_behind items closings rounds name (k + 1) (head_closing items closings k)

-- a place behind a parenthesis is inside of the first body, which runs where the condition holds
abbrev pub is_in_body : List Item → List ℕ → ℕ → ℕ → Bool
is_in_body items closings place c = nat_lt c place && is_before_end_of items closings place (c + 1)

-- or inside of the statement behind `else`
abbrev pub is_behind_else : List Item → List ℕ → ℕ → Option ℕ → Bool
is_behind_else items closings place None = false
is_behind_else items closings place (Some e) = is_else items e && nat_lt e place && is_before_end_of items closings place (e + 1)

-- where the variable isn't null for the condition in these parentheses
abbrev pub guards_inside : List Item → List ℕ → List ℕ → List ℕ → ℕ → ℕ → ℕ → Bool
guards_inside items closings rounds name place opening c =
    (is_in_body items closings place c && holds_unless_null items rounds opening c name)
    || (is_behind_else items closings place (end_of items closings (c + 1)) && fails_unless_null items rounds opening c name)

-- ---- Guards

-- a statement stands before a place, in its block or one round it
abbrev pub is_in_block : ℕ → Stretch → Bool
is_in_block place b = nat_le b.from place && nat_lt place b.to

abbrev pub stands_before : ℕ → Standing → Bool
stands_before place s = is_in_block place s.block && nat_le s.statement.to place

-- A guard stands for a variable that is in sight from a number on, at a place of a method's body: behind an `if` that leaves where it is null, in
-- the same block or in one round it; in the body of an `if` that asks that it isn't null; behind the `else` of one that asks whether it is.
abbrev pub guards_behind : List Item → List ℕ → List ℕ → ℕ → List ℕ → ℕ → Standing → Bool
guards_behind items closings rounds place name since s =
    nat_lt since s.statement.from && stands_before place s && leaves_where_null items closings rounds name s.statement.from

abbrev pub is_behind_guard : List Item → List ℕ → List ℕ → List Standing → ℕ → List ℕ → ℕ → Bool
is_behind_guard items closings rounds standing place name since = list_any (guards_behind items closings rounds place name since) standing

abbrev pub guards_head : List Item → List ℕ → List ℕ → ℕ → List ℕ → ℕ → Option ℕ → Bool
guards_head items closings rounds place name k None = false
guards_head items closings rounds place name k (Some c) = guards_inside items closings rounds name place (k + 1) c

abbrev pub guards_round : List Item → List ℕ → List ℕ → ℕ → List ℕ → ℕ → ℕ → Bool
guards_round items closings rounds place name since k = nat_lt since k && guards_head items closings rounds place name k (head_closing items closings k)

abbrev pub is_in_guard : List Item → List ℕ → List ℕ → ℕ → List ℕ → ℕ → ℕ → Bool
is_in_guard items closings rounds place name since from = list_any (guards_round items closings rounds place name since) (numbers from (place - from))

-- so it is by these statements, and the variable is set nowhere in the body
abbrev pub is_guarded_by : List Item → List ℕ → List ℕ → List Standing → Stretch → ℕ → List ℕ → ℕ → Bool
is_guarded_by items closings rounds standing body place name since =
    not (may_be_set items name body.from body.to)
    && (is_behind_guard items closings rounds standing place name since || is_in_guard items closings rounds place name since body.from)

abbrev pub is_guarded : List Item → List ℕ → List ℕ → Stretch → ℕ → List ℕ → ℕ → Bool
is_guarded items closings rounds body place name since = is_guarded_by items closings rounds (standing_of items closings body) body place name since
