-- Where a name stands so that it can't be declared there: a list of what is allowed.
use Rattle.std.specs.Prelude.{ℕ, zero, suc, ◌+◌, ◌-◌, Bool, true, false, ◌||◌, ◌&&◌, ◌==◌, nat_le, not, List, [], ◌∷◌, length, codes, slice_get, if◌then◌else◌}
use Rattle.std.specs.List.{list_any, list_all}
use Rattle.std.specs.Str.{bytes_eq}
use Rattle.std.specs.declared.option.Option.{Option}
use Rattle.std.specs.declared.option.Option.TheVariants.{Some, None}
use Rattle.view_items.specs.declared.item.Item.{Item}
use Rattle.view_items.specs.declared.item.ItemKind.TheVariants.{Text, Number}
use Rattle.view_shapes.specs.Found.{has_kind, is_word, is_sign, is_name, is_one_of_words, is_one_of_signs, before, closing_at}
use Rattle.view_shapes.specs.Mentions.{numbers}

-- the words of Java that are no names
abbrev pub keywords : List (List ℕ)
keywords =
    codes "abstract" ∷ codes "assert" ∷ codes "boolean" ∷ codes "break" ∷ codes "byte" ∷ codes "case" ∷ codes "catch" ∷ codes "char"
    ∷ codes "class" ∷ codes "const" ∷ codes "continue" ∷ codes "default" ∷ codes "do" ∷ codes "double" ∷ codes "else" ∷ codes "enum"
    ∷ codes "extends" ∷ codes "false" ∷ codes "final" ∷ codes "finally" ∷ codes "float" ∷ codes "for" ∷ codes "goto" ∷ codes "if"
    ∷ codes "implements" ∷ codes "import" ∷ codes "instanceof" ∷ codes "int" ∷ codes "interface" ∷ codes "long" ∷ codes "native"
    ∷ codes "new" ∷ codes "null" ∷ codes "package" ∷ codes "private" ∷ codes "protected" ∷ codes "public" ∷ codes "return"
    ∷ codes "short" ∷ codes "static" ∷ codes "strictfp" ∷ codes "super" ∷ codes "switch" ∷ codes "synchronized" ∷ codes "this"
    ∷ codes "throw" ∷ codes "throws" ∷ codes "transient" ∷ codes "true" ∷ codes "try" ∷ codes "void" ∷ codes "volatile"
    ∷ codes "while" ∷ codes "_" ∷ []

abbrev pub is_keyword : List Item → ℕ → Bool
is_keyword items k = is_one_of_words keywords items k

-- the bytes are such a word
unfoldable pub is_keyword_name : List ℕ → Bool
is_keyword_name bytes = list_any (λ w. bytes_eq w bytes) keywords

abbrev pub signs_before_uses : List (List ℕ)
signs_before_uses =
    codes "=" ∷ codes "==" ∷ codes "!=" ∷ codes "<" ∷ codes "<=" ∷ codes ">=" ∷ codes "&&" ∷ codes "||" ∷ codes "!" ∷ codes "+"
    ∷ codes "-" ∷ codes "*" ∷ codes "/" ∷ codes "%" ∷ codes "?" ∷ codes ":" ∷ codes "->" ∷ codes "+=" ∷ codes "-=" ∷ codes ")" ∷ []

abbrev pub words_before_uses : List (List ℕ)
words_before_uses = codes "return" ∷ codes "case" ∷ codes "throw" ∷ codes "else" ∷ codes "new" ∷ []

-- what may stand before a name, a dot and so on that something is compared with
abbrev pub begins_comparison : List Item → ℕ → Bool
begins_comparison items k =
    is_one_of_signs (codes "(" ∷ codes "&&" ∷ codes "||" ∷ codes "!" ∷ codes "=" ∷ codes "+" ∷ codes "-" ∷ codes "*" ∷ []) items k
    || is_word (codes "return") items k

-- a dot and a name stand before
abbrev pub is_dotted : List Item → ℕ → Bool
is_dotted items k = nat_le 2 k && is_sign (codes ".") items (k - 1) && is_name items (k - 2)

-- the number of the first of names with dots between them, of which the last one stands at a number
unfoldable pub first_of_names : ℕ → List Item → ℕ → ℕ
first_of_names zero items k = k
first_of_names (suc steps) items k = if is_dotted items k then first_of_names steps items (k - 2) else k

-- the item ends what is compared
abbrev pub ends_compared : List Item → ℕ → Bool
ends_compared items k =
    is_sign (codes ")") items k || has_kind Number items k || has_kind Text items k
    || (is_name items k && before (begins_comparison items) (first_of_names (length items) items k))

-- the `>` at a number compares
abbrev pub is_comparison : List Item → ℕ → Bool
is_comparison items k = is_sign (codes ">") items k && before (ends_compared items) k

-- the bracket at a number is a parenthesis, and no arrow stands behind its closing one
abbrev pub arrow_behind : List Item → Option ℕ → Bool
arrow_behind items None = true
arrow_behind items (Some c) = is_sign (codes "->") items (c + 1)

abbrev pub is_no_lambda : List Item → List ℕ → ℕ → Bool
is_no_lambda items closings k = is_sign (codes "(") items k && not (arrow_behind items (closing_at items closings k))

-- a name before the parenthesis, which is no keyword
abbrev pub is_called : List Item → ℕ → Bool
is_called items k = is_name items k && not (is_keyword items k)

abbrev pub is_call : List Item → List ℕ → ℕ → Bool
is_call items closings k = is_no_lambda items closings k && before (is_called items) k

-- the innermost bracket that is open at an item is the parenthesis of a call
abbrev pub is_call_around : List Item → List ℕ → Option ℕ → Bool
is_call_around items closings None = false
is_call_around items closings (Some k) = is_call items closings k

-- it is the first in parentheses, or stands behind a comma in those of a call
abbrev pub is_argument : List Item → List ℕ → List ℕ → ℕ → Bool
is_argument items closings rounds k =
    is_no_lambda items closings (k - 1) || (is_sign (codes ",") items (k - 1) && is_call_around items closings (slice_get rounds k))

-- what stands before it stands before uses only
abbrev pub is_behind_use_sign : List Item → List ℕ → List ℕ → ℕ → Bool
is_behind_use_sign items closings rounds k =
    not (k == 0)
    && (is_one_of_signs signs_before_uses items (k - 1)
    || is_one_of_words words_before_uses items (k - 1)
    || is_comparison items (k - 1)
    || (is_one_of_signs (codes "{" ∷ codes "}" ∷ codes ";" ∷ []) items (k - 1) && is_sign (codes ".") items (k + 1))
    || (not (is_name items (k + 1)) && is_argument items closings rounds k))

-- what stands behind it may stand behind a name that is declared
abbrev pub may_be_declared : List Item → ℕ → Bool
may_be_declared items k =
    is_sign (codes "->") items (k + 1) || is_sign (codes "=") items (k + 1)
    || (is_sign (codes ":") items (k + 1) && not (before (λ j. is_word (codes "case") items j || is_sign (codes "?") items j) k))

-- the item stands where it can't declare its name
unfoldable pub is_use : List Item → List ℕ → List ℕ → ℕ → Bool
is_use items closings rounds k = not (may_be_declared items k) && is_behind_use_sign items closings rounds k

-- the item is the name, and neither behind a dot nor `::` nor `@`
abbrev pub stands_alone : List Item → List ℕ → ℕ → Bool
stands_alone items name k = is_word name items k && not (before (is_one_of_signs (codes "." ∷ codes "::" ∷ codes "@" ∷ []) items) k)

-- between two numbers a name stands nowhere but where it can't be declared
abbrev pub is_free : List Item → List ℕ → List ℕ → List ℕ → ℕ → ℕ → Bool
is_free items closings rounds name from to =
    list_all (λ k. not (stands_alone items name k) || is_use items closings rounds k) (numbers from (to - from))
