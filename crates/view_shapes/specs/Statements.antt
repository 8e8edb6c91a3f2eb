-- Where statements end, by the grammar of Java with all names left aside.
use Rattle.std.specs.Prelude.{ℕ, zero, suc, ◌+◌, Bool, ◌||◌, ◌&&◌, List, [], ◌∷◌, length, codes, if◌then◌else◌}
use Rattle.std.specs.declared.option.Option.{Option}
use Rattle.std.specs.declared.option.Option.TheVariants.{Some, None}
use Rattle.view_items.specs.declared.item.Item.{Item}
use Rattle.view_shapes.specs.declared.finding.Sought.TheVariants.{Semicolon, Brace}
use Rattle.view_shapes.specs.declared.statements.Form.{Form}
use Rattle.view_shapes.specs.declared.statements.Form.TheVariants as forms
use Rattle.view_items.specs.Brackets.{if_some}
use Rattle.view_shapes.specs.Found.{is_word, is_sign, is_name, is_one_of_words, is_over, behind, next_number, found}

-- the number behind the parentheses that stand behind the word at a number
abbrev pub head : List Item → List ℕ → ℕ → Option ℕ
head items closings k = if is_sign (codes "(") items (k + 1) then behind items closings (k + 1) else None

abbrev pub modifiers : List (List ℕ)
modifiers = codes "final" ∷ codes "abstract" ∷ codes "static" ∷ codes "strictfp" ∷ []

-- behind a modifier, or a part of an annotation: `@` with a name, a dot with a name, or what stands in parentheses
abbrev pub modifier_end : List Item → List ℕ → ℕ → Option ℕ
modifier_end items closings k =
    if is_sign (codes "@") items k || is_sign (codes ".") items k then Some (k + 2)
    else (if is_one_of_words modifiers items k then Some (k + 1)
    else (if is_sign (codes "(") items k then behind items closings k else None))

abbrev pub from_option : ℕ → Option ℕ → (ℕ → ℕ) → ℕ
from_option k None f = k
from_option k (Some m) f = f m

-- behind all modifiers and annotations
unfoldable pub modifiers_end : ℕ → List Item → List ℕ → ℕ → ℕ
modifiers_end zero items closings k = k
modifiers_end (suc steps) items closings k = from_option k (modifier_end items closings k) (λ m. modifiers_end steps items closings m)

-- `class`, `interface` or `enum`; `record`, a name, and `(` or `<`
abbrev pub begins_type : List Item → ℕ → Bool
begins_type items k =
    is_one_of_words (codes "class" ∷ codes "interface" ∷ codes "enum" ∷ []) items k
    || (is_word (codes "record") items k && is_name items (k + 1) && (is_sign (codes "(") items (k + 2) || is_sign (codes "<") items (k + 2)))

abbrev pub is_label : List Item → ℕ → Bool
is_label items k = is_name items k && is_sign (codes ":") items (k + 1)

-- a statement that no word of its own begins
abbrev pub other_form : List Item → List ℕ → ℕ → Form
other_form items closings k =
    if is_label items k then forms.Label
    else (if begins_type items (modifiers_end (length items) items closings k) then forms.Local else forms.Simple)

unfoldable pub form_of : List Item → List ℕ → ℕ → Form
form_of items closings k =
    if is_sign (codes "{") items k then forms.Braces
    else (if is_word (codes "if") items k then forms.If
    else (if is_one_of_words (codes "for" ∷ codes "while" ∷ codes "synchronized" ∷ []) items k then forms.Headed
    else (if is_word (codes "do") items k then forms.Do
    else (if is_word (codes "switch") items k then forms.Switch
    else (if is_word (codes "try") items k then forms.Try
    else other_form items closings k)))))

-- the brace of `try`, `catch` or `finally`, behind the word and its parentheses, if it has any
abbrev pub brace_from : List Item → ℕ → Option ℕ
brace_from items k = if is_sign (codes "{") items k then Some k else None

abbrev pub brace_of : List Item → List ℕ → ℕ → Option ℕ
brace_of items closings k =
    if is_sign (codes "(") items (k + 1) then if_some (behind items closings (k + 1)) (brace_from items) else brace_from items (k + 1)

abbrev pub is_clause : List Item → ℕ → Bool
is_clause items k = is_one_of_words (codes "catch" ∷ codes "finally" ∷ []) items k

abbrev pub clause_end : List Item → List ℕ → ℕ → Option ℕ
clause_end items closings k = if_some (brace_of items closings k) (behind items closings)

-- behind `try`, `catch` or `finally` and all clauses that follow
unfoldable pub try_end : ℕ → List Item → List ℕ → ℕ → Option ℕ
try_end zero items closings k = None
try_end (suc steps) items closings k =
    if_some (clause_end items closings k) (λ m. if is_clause items m then try_end steps items closings m else Some m)

-- behind the `while`, the parentheses and the semicolon of `do`
abbrev pub semicolon_end : List Item → ℕ → Option ℕ
semicolon_end items k = if is_sign (codes ";") items k then Some (k + 1) else None

abbrev pub do_end : List Item → List ℕ → ℕ → Option ℕ
do_end items closings k = if is_word (codes "while") items k then if_some (head items closings k) (semicolon_end items) else None

abbrev pub simple_end : List Item → List ℕ → ℕ → Option ℕ
simple_end items closings k = if_some (found Semicolon items closings k) next_number

abbrev pub type_end : List Item → List ℕ → ℕ → Option ℕ
type_end items closings k = if_some (found Brace items closings k) (behind items closings)

-- behind `else` and its statement, where it stands there
abbrev pub else_end : (ℕ → Option ℕ) → List Item → ℕ → Option ℕ
else_end inner items k = if is_word (codes "else") items k then inner (k + 1) else Some k

-- the end of a statement of a form, where the statements in it end so
abbrev pub form_end : (ℕ → Option ℕ) → List Item → List ℕ → ℕ → Form → Option ℕ
form_end inner items closings k forms.Braces = behind items closings k
form_end inner items closings k forms.If = if_some (if_some (head items closings k) inner) (else_end inner items)
form_end inner items closings k forms.Headed = if_some (head items closings k) inner
form_end inner items closings k forms.Do = if_some (inner (k + 1)) (do_end items closings)
form_end inner items closings k forms.Switch = if_some (head items closings k) (behind items closings)
form_end inner items closings k forms.Try = try_end (length items) items closings k
form_end inner items closings k forms.Label = inner (k + 2)
form_end inner items closings k forms.Local = type_end items closings k
form_end inner items closings k forms.Simple = simple_end items closings k

-- where the statement ends that begins at a number, if at most so many statements stand inside one another without brackets; none begins
-- where there is no item or a closing bracket
unfoldable pub end_within : ℕ → List Item → List ℕ → ℕ → Option ℕ
end_within zero items closings k = None
end_within (suc levels) items closings k =
    if is_over items k then None else form_end (end_within levels items closings) items closings k (form_of items closings k)

-- a statement with more than 64 others round it has no end
abbrev pub end_of : List Item → List ℕ → ℕ → Option ℕ
end_of items closings k = end_within 65 items closings k
