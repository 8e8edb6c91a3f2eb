-- Which members of a class are methods whose bodies are looked into.
use Rattle.std.specs.Prelude.{ℕ, zero, suc, ◌+◌, Bool, ◌&&◌, ◌==◌, not, List, [], ◌∷◌, ◌++◌, length, codes, if◌then◌else◌}
use Rattle.std.specs.declared.option.Option.{Option}
use Rattle.std.specs.declared.option.Option.TheVariants.{Some, None}
use Rattle.view_items.specs.declared.item.Item.{Item}
use Rattle.view_items.specs.Brackets.{is_shallow}
use Rattle.view_items.specs.Brackets.{if_some}
use Rattle.view_shapes.specs.declared.members.Stretch.{Stretch}
use Rattle.view_shapes.specs.Found.{is_word, is_sign, is_one_of_words, closing_at}
use Rattle.view_shapes.specs.Prefixes.{dotted_end, prefix_end, variable_prefix_end, is_plain_name}
use Rattle.view_shapes.specs.declared.method.Parameter.{Parameter}
use Rattle.view_shapes.specs.declared.method.Method.{Method}
use Rattle.view_scope.specs.declared.method.Outline.{Outline}
use Rattle.view_scope.specs.JavaTypes.{java_type_end}

abbrev pub method_modifiers : List (List ℕ)
method_modifiers =
    codes "public" ∷ codes "protected" ∷ codes "private" ∷ codes "static" ∷ codes "final" ∷ codes "abstract" ∷ codes "native"
    ∷ codes "synchronized" ∷ codes "strictfp" ∷ codes "default" ∷ []

-- behind annotations and the modifiers that a method may have
unfoldable pub method_prefix_end : List Item → List ℕ → ℕ → Option ℕ
method_prefix_end items closings k = prefix_end method_modifiers (length items) items closings k

-- behind the dots of a parameter that takes any number of values
abbrev pub past_dots : List Item → ℕ → ℕ
past_dots items k = if is_sign (codes "...") items k then k + 1 else k

-- a parameter whose type begins at a number, with its name at another
abbrev pub parameter_named : List Item → ℕ → ℕ → Option Parameter
parameter_named items k n = if is_plain_name items n then Some (record { ty = k; name = n }) else None

-- its name stands behind the type and its dots
abbrev pub parameter_behind : List Item → ℕ → ℕ → Option Parameter
parameter_behind items k e = parameter_named items k (past_dots items e)

abbrev pub parameter_at : List Item → List ℕ → ℕ → Option Parameter
parameter_at items closings k =
    if_some (variable_prefix_end items closings k) (λ t. if_some (java_type_end items t) (parameter_behind items t))

-- the parameters from a number up to the closing parenthesis, at least one, behind those before
unfoldable pub parameters_from : ℕ → List Parameter → List Item → List ℕ → ℕ → ℕ → Option (List Parameter)
parameters_from zero ps items closings k to = None
parameters_from (suc steps) ps items closings k to =
    if_some (parameter_at items closings k) (λ p.
    if (p.name + 1) == to then Some (ps ++ p ∷ [])
    else (if is_sign (codes ",") items (p.name + 1) then parameters_from steps (ps ++ p ∷ []) items closings (p.name + 2) to else None))

abbrev pub parameters_of : List Item → List ℕ → ℕ → ℕ → Option (List Parameter)
parameters_of items closings k to = if k == to then Some [] else parameters_from (length items) [] items closings k to

-- behind the names of exceptions with commas between them
unfoldable pub exceptions_end : ℕ → List Item → ℕ → Option ℕ
exceptions_end zero items k = None
exceptions_end (suc steps) items k =
    if_some (dotted_end (length items) items k) (λ m. if is_sign (codes ",") items m then exceptions_end steps items (m + 1) else Some m)

-- behind `throws` and its names, if it stands there
abbrev pub throws_end : List Item → ℕ → Option ℕ
throws_end items k = if is_word (codes "throws") items k then exceptions_end (length items) items (k + 1) else Some k

-- behind `void` or a type
abbrev pub result_end : List Item → ℕ → Option ℕ
result_end items k = if is_word (codes "void") items k then Some (k + 1) else java_type_end items k

-- what begins no method
abbrev pub begins_other : List Item → ℕ → Bool
begins_other items k = is_one_of_words (codes "class" ∷ codes "interface" ∷ codes "enum" ∷ codes "record" ∷ []) items k

-- the result is one truth value
abbrev pub gives_truth : List Item → ℕ → ℕ → Bool
gives_truth items k name = is_one_of_words (codes "boolean" ∷ codes "Boolean" ∷ []) items k && (k + 1 == name)

-- the closing brace of the block that begins at a number, where the member ends with that
abbrev pub if_last : Stretch → ℕ → Option ℕ
if_last member c = if c + 1 == member.to then Some c else None

abbrev pub block_end : Stretch → List Item → List ℕ → ℕ → Option ℕ
block_end member items closings b = if is_sign (codes "{") items b then if_some (closing_at items closings b) (if_last member) else None

-- the closing parenthesis behind the name of a method
abbrev pub head_end : List Item → List ℕ → ℕ → Option ℕ
head_end items closings name =
    if is_plain_name items name && is_sign (codes "(") items (name + 1) then closing_at items closings (name + 1) else None

-- where the parts of a method stand whose result begins at a number
abbrev pub outline_at : ℕ → ℕ → ℕ → ℕ → ℕ → Option Outline
outline_at k name closing brace to = Some (record { result = k; name = name; closing = closing; from = brace + 1; to = to })

abbrev pub outline_from : Stretch → List Item → List ℕ → ℕ → Option Outline
outline_from member items closings k =
    if begins_other items k then None
    else if_some (result_end items k) (λ name.
    if_some (head_end items closings name) (λ closing.
    if_some (throws_end items (closing + 1)) (λ brace.
    if_some (block_end member items closings brace) (outline_at k name closing brace))))

-- A member is a method where it is annotations and modifiers, `void` or a type, a name, parameters, `throws` or not, and a block to its end. At
-- most 64 brackets are open at an item of it.
unfoldable pub outline_of : List Item → List ℕ → Stretch → Option Outline
outline_of items closings member =
    if is_shallow items member.from member.to then
    if_some (method_prefix_end items closings member.from) (outline_from member items closings)
    else None

abbrev pub with_parameters : Outline → Bool → List Parameter → Option Method
with_parameters o truth ps = Some (record { name = o.name; parameters = ps; gives_truth = truth; from = o.from; to = o.to })

abbrev pub method_at : List Item → List ℕ → Outline → Option Method
method_at items closings o = if_some (parameters_of items closings (o.name + 2) o.closing) (with_parameters o (gives_truth items o.result o.name))

abbrev pub method_of : List Item → List ℕ → Stretch → Option Method
method_of items closings member = if_some (outline_of items closings member) (method_at items closings)
