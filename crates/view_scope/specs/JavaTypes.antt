-- Where types of Java end, whatever they are.
use Rattle.std.specs.Prelude.{ℕ, zero, suc, ◌+◌, ◌-◌, Bool, ◌||◌, ◌&&◌, ◌==◌, List, [], ◌∷◌, length, codes, if◌then◌else◌}
use Rattle.std.specs.declared.option.Option.{Option}
use Rattle.std.specs.declared.option.Option.TheVariants.{Some, None}
use Rattle.view_items.specs.declared.item.Item.{Item}
use Rattle.view_items.specs.Brackets.{if_some}
use Rattle.view_shapes.specs.Found.{is_sign, is_name, is_one_of_signs}

-- what stands between the `<` and the `>` of a type besides these
abbrev pub is_in_arguments : List Item → ℕ → Bool
is_in_arguments items k =
    is_name items k || is_one_of_signs (codes "," ∷ codes "." ∷ codes "?" ∷ codes "&" ∷ codes "[" ∷ codes "]" ∷ []) items k

-- behind the `>` that closes the first `<`, where so many are open
unfoldable pub arguments_end : ℕ → ℕ → List Item → ℕ → Option ℕ
arguments_end zero depth items k = None
arguments_end (suc steps) depth items k =
    if is_sign (codes "<") items k then arguments_end steps (depth + 1) items (k + 1)
    else (if is_sign (codes ">") items k then (if depth == 1 then Some (k + 1) else arguments_end steps (depth - 1) items (k + 1))
    else (if is_in_arguments items k then arguments_end steps depth items (k + 1) else None))

-- a dot and a name, or the brackets of an array
abbrev pub is_part : List Item → ℕ → Bool
is_part items k = (is_sign (codes ".") items k && is_name items (k + 1)) || (is_sign (codes "[") items k && is_sign (codes "]") items (k + 1))

-- behind the type whose first name stands before a number: arguments, parts behind dots, and the brackets of arrays
unfoldable pub type_rest : ℕ → List Item → ℕ → Option ℕ
type_rest zero items k = None
type_rest (suc steps) items k =
    if is_sign (codes "<") items k then if_some (arguments_end (length items) 0 items k) (type_rest steps items)
    else (if is_part items k then type_rest steps items (k + 2) else Some k)

-- behind the type that begins at a number
abbrev pub java_type_end : List Item → ℕ → Option ℕ
java_type_end items k = if is_name items k then type_rest (length items) items (k + 1) else None
