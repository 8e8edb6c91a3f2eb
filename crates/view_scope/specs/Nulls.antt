-- Where a method tests variables for null, or sets them to it: stretches of items in which each variable that is named may be null.
use Rattle.std.specs.Prelude.{ℕ, zero, suc, ◌+◌, ◌-◌, Bool, false, ◌||◌, ◌&&◌, ◌==◌, not, nat_le, List, [], ◌∷◌, ◌++◌, length, codes, slice_get, if◌then◌else◌}
use Rattle.std.specs.List.{list_any, flat_map}
use Rattle.std.specs.declared.option.Option.{Option}
use Rattle.std.specs.declared.option.Option.TheVariants.{Some, None}
use Rattle.view_items.specs.declared.item.Item.{Item}
use Rattle.view_items.specs.Brackets.{if_some}
use Rattle.view_shapes.specs.declared.members.Stretch.{Stretch}
use Rattle.view_shapes.specs.Found.{is_word, is_sign, is_name, is_one_of_words, is_one_of_signs, before, closing_at}
use Rattle.view_shapes.specs.Mentions.{numbers, is_mention}
use Rattle.view_shapes.specs.Uses.{is_called}

abbrev pub from_to : ℕ → ℕ → Stretch
from_to from to = record { from = from; to = to }

-- What an operand of `==` or `!=` doesn't go over. A comma, a question mark and a brace may stand in one: `x.<A, List<?>>conv()`,
-- `new Conv(x) { }.get()`.
abbrev pub bounding_signs : List (List ℕ)
bounding_signs =
    codes "&&" ∷ codes "||" ∷ codes "==" ∷ codes "!=" ∷ codes ":" ∷ codes ";" ∷ codes "=" ∷ codes "->" ∷ codes "}" ∷ []

abbrev pub bounds : List Item → ℕ → Bool
bounds items k =
    is_one_of_signs bounding_signs items k
    || is_one_of_words (codes "return" ∷ codes "case" ∷ codes "throw" ∷ codes "else" ∷ codes "assert" ∷ []) items k

-- two items stand directly in one bracket, or outside of all
abbrev pub same_numbers : Option ℕ → Option ℕ → Bool
same_numbers (Some a) (Some b) = a == b
same_numbers _ _ = false

abbrev pub stand_together : List ℕ → ℕ → ℕ → Bool
stand_together rounds j k = same_numbers (slice_get rounds j) (slice_get rounds k)

-- the bracket that is opening at an item
abbrev pub is_around : List ℕ → ℕ → ℕ → Bool
is_around rounds j k = same_numbers (Some j) (slice_get rounds k)

-- an item before an operand: the bracket that it stands in, or what bounds it
abbrev pub is_before_operand : List Item → List ℕ → ℕ → ℕ → Bool
is_before_operand items rounds operator k = is_around rounds k operator || (stand_together rounds k operator && bounds items k)

-- the first item of the operand that ends before a number, where an operator stands at another
unfoldable pub operand_from : ℕ → List Item → List ℕ → ℕ → ℕ
operand_from zero items rounds operator = 0
operand_from (suc k) items rounds operator = if is_before_operand items rounds operator k then suc k else operand_from k items rounds operator

-- an item behind an operand: what bounds it, or closes the bracket that it stands in
abbrev pub is_behind_operand : List Item → List ℕ → ℕ → ℕ → Bool
is_behind_operand items rounds operator k =
    stand_together rounds k operator && (bounds items k || is_one_of_signs (codes ")" ∷ codes "]" ∷ []) items k)

-- the number behind the operand that goes on at a number
unfoldable pub operand_to : ℕ → List Item → List ℕ → ℕ → ℕ → ℕ
operand_to zero items rounds operator k = k
operand_to (suc steps) items rounds operator k =
    if is_behind_operand items rounds operator k then k else operand_to steps items rounds operator (k + 1)

abbrev pub is_equality : List Item → ℕ → Bool
is_equality items k = is_one_of_signs (codes "==" ∷ codes "!=" ∷ []) items k

-- what stands from one number up to another, with the parentheses round it, at most so many
abbrev pub is_wrapped : List Item → ℕ → ℕ → Bool
is_wrapped items from to = before (is_sign (codes "(") items) from && is_sign (codes ")") items to

unfoldable pub out_of_parentheses : ℕ → List Item → ℕ → ℕ → Stretch
out_of_parentheses zero items from to = from_to from to
out_of_parentheses (suc steps) items from to = if is_wrapped items from to then out_of_parentheses steps items (from - 1) (to + 1) else from_to from to

abbrev pub is_null : List Item → ℕ → Bool
is_null items k = is_word (codes "null") items k

-- what stands round the `null` at a number, which is that alone or it in parentheses
abbrev pub null_at : List Item → ℕ → Stretch
null_at items k = out_of_parentheses (length items) items k (k + 1)

-- what is compared with the `null` in a stretch: the operand before it, and the one behind it
abbrev pub compared_before : List Item → List ℕ → Stretch → Option Stretch
compared_before items rounds s =
    if before (is_equality items) s.from then Some (from_to (operand_from (s.from - 1) items rounds (s.from - 1)) (s.from - 1)) else None

abbrev pub compared_behind : List Item → List ℕ → Stretch → Option Stretch
compared_behind items rounds s =
    if is_equality items s.to then Some (from_to (s.to + 1) (operand_to (length items) items rounds s.to (s.to + 1))) else None

-- where it begins what ends with the item at a number: that item, or what is in parentheses
abbrev pub or_number : ℕ → Option ℕ → ℕ
or_number k None = k
or_number k (Some j) = j

abbrev pub ended_from : List Item → List ℕ → ℕ → ℕ
ended_from items rounds k = if is_sign (codes ")") items k then or_number k (slice_get rounds k) else k

-- ---- What is set to null

-- what ends a statement, or begins or ends a block in it
abbrev pub ends_statement : List Item → ℕ → Bool
ends_statement items k = is_one_of_signs (codes ";" ∷ codes "{" ∷ codes "}" ∷ []) items k

-- a `null` that is compared with something gives nothing
abbrev pub is_equality_round : List Item → Stretch → Bool
is_equality_round items s = before (is_equality items) s.from || is_equality items s.to

abbrev pub is_given_null : List Item → ℕ → Bool
is_given_null items k = is_null items k && not (is_equality_round items (null_at items k))

-- another `null` stands at these numbers, before a statement ends and before any block, whatever the brackets
abbrev pub gives_null_from : List Item → ℕ → Bool → Bool
gives_null_from items k null_behind = is_given_null items k || (not (ends_statement items k) && null_behind)

unfoldable pub gives_null : List Item → List ℕ → Bool
gives_null items [] = false
gives_null items (k ∷ ks) = gives_null_from items k (gives_null items ks)

abbrev pub opens_at : List Item → ℕ → Bool
opens_at items k = is_one_of_signs (codes "(" ∷ codes "[" ∷ codes "{" ∷ []) items k

abbrev pub closes_at : List Item → ℕ → Bool
closes_at items k = is_one_of_signs (codes ")" ∷ codes "]" ∷ codes "}" ∷ []) items k

-- Where so many brackets are open that a statement has opened: what closes one of these goes on with one fewer, and what closes one round the
-- statement ends it. So does a semicolon outside of these.
abbrev pub past_closing : (ℕ → Bool) → ℕ → Bool
past_closing behind zero = false
past_closing behind (suc d) = behind d

abbrev pub past_semicolon : (ℕ → Bool) → ℕ → Bool
past_semicolon behind zero = false
past_semicolon behind (suc d) = behind (suc d)

abbrev pub past_item : List Item → ℕ → (ℕ → Bool) → ℕ → Bool
past_item items k behind depth =
    if opens_at items k then behind (depth + 1)
    else (if closes_at items k then past_closing behind depth else (if is_sign (codes ";") items k then past_semicolon behind depth else behind depth))

-- a `null` stands at these numbers in a statement, its blocks and bodies too, where so many of its brackets are open at the first
abbrev pub holds_given : List Item → List ℕ → ℕ → Bool
holds_given items [] depth = false
holds_given items (k ∷ ks) depth = is_given_null items k || past_item items k (λ d. holds_given items ks d) depth

-- How many brackets have to be open, at the least, for that: where one more is, the statement is longer. So one walk from the last item to
-- the first has it for each.
abbrev pub are_enough : Option ℕ → ℕ → Bool
are_enough None depth = false
are_enough (Some n) depth = nat_le n depth

abbrev pub at_least_one : ℕ → ℕ
at_least_one n = if n == 0 then 1 else n

abbrev pub least_before : List Item → ℕ → ℕ → ℕ
least_before items k n =
    if opens_at items k then n - 1 else (if closes_at items k then n + 1 else (if is_sign (codes ";") items k then at_least_one n else n))

abbrev pub least_from : List Item → ℕ → Option ℕ → Option ℕ
least_from items k least = if is_given_null items k then Some 0 else if_some least (λ n. Some (least_before items k n))

-- The variable is set, and a `null` stands behind it in the same statement, whatever the brackets: `x = null`, `x = c ? id : null`,
-- `x = o.orElse(null)`, `x = switch (k) { default -> null; }`.
abbrev pub set_at : List Item → List ℕ → ℕ → Bool → Option Stretch
set_at items rounds k null_behind =
    if null_behind && (is_sign (codes "=") items k && not (k == 0)) then Some (from_to (ended_from items rounds (k - 1)) k) else None

-- `null` stands directly in the parentheses that are opening at a number, alone or in further ones
abbrev pub is_null_in : List Item → List ℕ → ℕ → ℕ → Bool
is_null_in items rounds opening k = is_null items k && is_around rounds opening (null_at items k).from

abbrev pub holds_null : List Item → List ℕ → ℕ → ℕ → ℕ → Bool
holds_null items rounds opening from to = list_any (is_null_in items rounds opening) (numbers from (to - from))

-- what may be called: a name that is no keyword, or one with type arguments
abbrev pub ends_called : List Item → ℕ → Bool
ends_called items k = is_called items k || is_sign (codes ">") items k

-- the arguments of a call up to a parenthesis, where `null` is one of them
abbrev pub arguments_to : List Item → List ℕ → ℕ → ℕ → Option Stretch
arguments_to items rounds opening close = if holds_null items rounds opening (opening + 1) close then Some (from_to (opening + 1) close) else None

abbrev pub tested_arguments : List Item → List ℕ → List ℕ → ℕ → Option Stretch
tested_arguments items closings rounds k =
    if is_sign (codes "(") items k && before (ends_called items) k then if_some (closing_at items closings k) (arguments_to items rounds k) else None

-- calls of these names test their first argument
abbrev pub testing_calls : List (List ℕ)
testing_calls =
    codes "isNull" ∷ codes "nonNull" ∷ codes "ofNullable" ∷ codes "isEmpty" ∷ codes "isBlank" ∷ codes "isNotEmpty" ∷ codes "isNotBlank"
    ∷ codes "hasText" ∷ codes "hasLength" ∷ codes "isNullOrEmpty" ∷ codes "requireNonNullElse" ∷ codes "requireNonNullElseGet"
    ∷ codes "defaultString" ∷ codes "defaultIfNull" ∷ codes "defaultIfBlank" ∷ codes "defaultIfEmpty" ∷ codes "firstNonNull" ∷ []

-- the item ends the first argument of the call whose parenthesis is opening at a number
abbrev pub ends_argument : List Item → List ℕ → ℕ → ℕ → Bool
ends_argument items rounds opening k = is_around rounds opening k && is_one_of_signs (codes "," ∷ codes ")" ∷ []) items k

-- the number behind the argument that goes on at a number
unfoldable pub argument_to : ℕ → List Item → List ℕ → ℕ → ℕ → ℕ
argument_to zero items rounds opening k = k
argument_to (suc steps) items rounds opening k = if ends_argument items rounds opening k then k else argument_to steps items rounds opening (k + 1)

-- what stands from one number up to another, behind a cast or in parentheses that begin it, of which this is the closing one
abbrev pub bare_behind : (ℕ → ℕ → Stretch) → ℕ → ℕ → Option ℕ → Stretch
bare_behind further from to None = from_to from to
bare_behind further from to (Some c) = if (c + 1) == to then further (from + 1) c else further (c + 1) to

-- without any casts and parentheses
unfoldable pub bare : ℕ → List Item → List ℕ → ℕ → ℕ → Stretch
bare zero items closings from to = from_to from to
bare (suc steps) items closings from to =
    if is_sign (codes "(") items from then bare_behind (λ f t. bare steps items closings f t) from to (closing_at items closings from) else from_to from to

abbrev pub one_item : Stretch → Option Stretch
one_item s = if (s.from + 1) == s.to then Some s else None

-- calls of these names do, and of `toString` where another argument follows
abbrev pub may_test : List Item → ℕ → Bool
may_test items k = is_one_of_words testing_calls items k || is_word (codes "toString") items k

abbrev pub is_testing_call : List Item → ℕ → ℕ → Bool
is_testing_call items k to = not (is_word (codes "toString") items k) || is_sign (codes ",") items to

-- the call tests its first argument, which is one item, behind casts or in parentheses
abbrev pub tested_up_to : List Item → List ℕ → ℕ → ℕ → Option Stretch
tested_up_to items closings k to = if is_testing_call items k to then one_item (bare (length items) items closings (k + 2) to) else None

abbrev pub tested_first : List Item → List ℕ → List ℕ → ℕ → Option Stretch
tested_first items closings rounds k =
    if is_sign (codes "(") items (k + 1) && may_test items k
    then tested_up_to items closings k (argument_to (length items) items rounds (k + 1) (k + 2))
    else None

-- calls of these names test all of their arguments
abbrev pub calls_testing_all : List (List ℕ)
calls_testing_all =
    codes "isAnyBlank" ∷ codes "isNoneBlank" ∷ codes "isAllBlank" ∷ codes "isAnyEmpty" ∷ codes "isNoneEmpty" ∷ codes "isAllEmpty"
    ∷ codes "firstNonBlank" ∷ codes "firstNonEmpty" ∷ codes "firstNonNull" ∷ codes "allNotNull" ∷ codes "anyNull" ∷ codes "allNull" ∷ codes "anyNotNull" ∷ []

abbrev pub all_arguments : ℕ → ℕ → Option Stretch
all_arguments k close = Some (from_to (k + 2) close)

abbrev pub tested_all : List Item → List ℕ → ℕ → Option Stretch
tested_all items closings k =
    if is_sign (codes "(") items (k + 1) && is_one_of_words calls_testing_all items k then if_some (closing_at items closings (k + 1)) (all_arguments k) else None

-- what stands before `instanceof`: one item, or what is in parentheses
abbrev pub tested_class : List Item → List ℕ → ℕ → Option Stretch
tested_class items rounds k =
    if is_word (codes "instanceof") items k && not (k == 0) then Some (from_to (ended_from items rounds (k - 1)) k) else None

abbrev pub listed : Option Stretch → List Stretch
listed None = []
listed (Some s) = s ∷ []

-- what a `switch` asks, in whose braces a `case` is `null`
abbrev pub asked_before : List Item → List ℕ → ℕ → Option Stretch
asked_before items rounds brace =
    if before (is_sign (codes ")") items) brace then Some (from_to (ended_from items rounds (brace - 1)) brace) else None

abbrev pub asked : List Item → List ℕ → Stretch → Option Stretch
asked items rounds s = if before (is_word (codes "case") items) s.from then if_some (slice_get rounds s.from) (asked_before items rounds) else None

-- what is tested by the `null` in a stretch
abbrev pub tested_by_null : List Item → List ℕ → Stretch → List Stretch
tested_by_null items rounds s =
    listed (compared_before items rounds s) ++ (listed (compared_behind items rounds s) ++ listed (asked items rounds s))

-- what is tested by the name at a number
abbrev pub tested_by_name : List Item → List ℕ → List ℕ → ℕ → List Stretch
tested_by_name items closings rounds k =
    listed (tested_first items closings rounds k) ++ (listed (tested_all items closings k) ++ listed (tested_class items rounds k))

-- what is tested by the item at a number
abbrev pub tested_at : List Item → List ℕ → List ℕ → ℕ → List Stretch
tested_at items closings rounds k =
    if is_null items k then tested_by_null items rounds (null_at items k)
    else (if is_name items k then tested_by_name items closings rounds k else listed (tested_arguments items closings rounds k))

-- the variables that are set at these numbers in statements that give null, the last one first
unfoldable pub set_among : List Item → List ℕ → List ℕ → List Stretch
set_among items rounds [] = []
set_among items rounds (k ∷ ks) = set_among items rounds ks ++ listed (set_at items rounds k (gives_null items ks || holds_given items ks 0))

abbrev pub all_tested : List Item → List ℕ → List ℕ → ℕ → ℕ → List Stretch
all_tested items closings rounds from to = flat_map (tested_at items closings rounds) (numbers from (to - from))

abbrev pub all_set : List Item → List ℕ → ℕ → ℕ → List Stretch
all_set items rounds from to = set_among items rounds (numbers from (to - from))

-- where a method's body tests variables for null, or sets them to it
abbrev pub tested_in : List Item → List ℕ → List ℕ → ℕ → ℕ → List Stretch
tested_in items closings rounds from to = all_tested items closings rounds from to ++ all_set items rounds from to

-- A variable is named there, and no dot stands behind it: behind one what it gives is compared, and not itself, since where it is null that throws.
abbrev pub is_compared : List Item → List ℕ → ℕ → Bool
is_compared items name k = is_mention items name k && not (is_sign (codes ".") items (k + 1))

abbrev pub is_compared_in : List Item → List ℕ → ℕ → ℕ → Bool
is_compared_in items name from to = list_any (is_compared items name) (numbers from (to - from))

-- so it is in one of these stretches
abbrev pub is_named_in : List Item → List ℕ → Stretch → Bool
is_named_in items name s = is_compared_in items name s.from s.to

abbrev pub is_tested_by : List Item → List Stretch → List ℕ → Bool
is_tested_by items tested name = list_any (is_named_in items name) tested

-- a variable is tested for null
abbrev pub is_tested : List Item → List ℕ → List ℕ → ℕ → ℕ → List ℕ → Bool
is_tested items closings rounds from to name = is_tested_by items (tested_in items closings rounds from to) name
