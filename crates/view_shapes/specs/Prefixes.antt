-- What stands before types: annotations and modifiers.
use Rattle.std.specs.Prelude.{ℕ, zero, suc, ◌+◌, Bool, ◌&&◌, not, List, [], ◌∷◌, length, codes, if◌then◌else◌}
use Rattle.std.specs.declared.option.Option.{Option}
use Rattle.std.specs.declared.option.Option.TheVariants.{Some, None}
use Rattle.view_items.specs.declared.item.Item.{Item}
use Rattle.view_items.specs.Brackets.{if_some}
use Rattle.view_shapes.specs.Found.{is_sign, is_name, is_one_of_words, behind}
use Rattle.view_shapes.specs.Uses.{is_keyword}

-- behind names with dots between them
unfoldable pub dotted_end : ℕ → List Item → ℕ → Option ℕ
dotted_end zero items k = None
dotted_end (suc steps) items k =
    if is_name items k then (if is_sign (codes ".") items (k + 1) then dotted_end steps items (k + 2) else Some (k + 1)) else None

-- behind the parentheses of an annotation, if it has any
abbrev pub past_parentheses : List Item → List ℕ → ℕ → Option ℕ
past_parentheses items closings k = if is_sign (codes "(") items k then behind items closings k else Some k

-- behind `@`, a name with dots, and parentheses if any
abbrev pub annotation_end : List Item → List ℕ → ℕ → Option ℕ
annotation_end items closings k = if_some (dotted_end (length items) items (k + 1)) (past_parentheses items closings)

-- behind annotations and modifiers in any order
unfoldable pub prefix_end : List (List ℕ) → ℕ → List Item → List ℕ → ℕ → Option ℕ
prefix_end modifiers zero items closings k = None
prefix_end modifiers (suc steps) items closings k =
    if is_sign (codes "@") items k then if_some (annotation_end items closings k) (prefix_end modifiers steps items closings)
    else (if is_one_of_words modifiers items k then prefix_end modifiers steps items closings (k + 1) else Some k)

-- behind annotations and `final`, before the type of a variable
abbrev pub variable_prefix_end : List Item → List ℕ → ℕ → Option ℕ
variable_prefix_end items closings k = prefix_end (codes "final" ∷ []) (length items) items closings k

-- a name that no keyword is
abbrev pub is_plain_name : List Item → ℕ → Bool
is_plain_name items k = is_name items k && not (is_keyword items k)
