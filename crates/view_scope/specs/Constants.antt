-- The constants of a class: Java itself puts their values in place of their names.
use Rattle.std.specs.Prelude.{ℕ, ◌+◌, Bool, true, ◌&&◌, ◌==◌, List, [], ◌∷◌, length, codes, if◌then◌else◌}
use Rattle.std.specs.List.{flat_map}
use Rattle.std.specs.declared.option.Option.{Option}
use Rattle.std.specs.declared.option.Option.TheVariants.{Some, None}
use Rattle.view_items.specs.declared.item.Item.{Item}
use Rattle.view_items.specs.Brackets.{if_some}
use Rattle.view_shapes.specs.declared.members.Stretch.{Stretch}
use Rattle.view_shapes.specs.declared.members.ClassPlace.{ClassPlace}
use Rattle.view_shapes.specs.Found.{is_word, is_sign}
use Rattle.view_shapes.specs.Mentions.{is_named}
use Rattle.view_shapes.specs.Members.{members_of}
use Rattle.view_map.specs.declared.model.ScalarKind.{ScalarKind}
use Rattle.view_map.specs.declared.model.ScalarKind.TheVariants as kinds
use Rattle.view_rules.specs.declared.sight.ClassConstant.{ClassConstant}
use Rattle.view_scope.specs.declared.constants.ConstantPlace.{ConstantPlace}
use Rattle.view_rules.specs.Decisions.{same_kind}
use Rattle.view_rules.specs.Literals.{signed_kind}
use Rattle.view_shapes.specs.Prefixes.{prefix_end, is_plain_name}
use Rattle.view_scope.specs.Obscured.{word_at}

abbrev pub field_modifiers : List (List ℕ)
field_modifiers =
    codes "public" ∷ codes "protected" ∷ codes "private" ∷ codes "static" ∷ codes "final" ∷ codes "transient" ∷ codes "volatile" ∷ []

-- behind annotations and the modifiers that a field may have
unfoldable pub field_prefix_end : List Item → List ℕ → ℕ → Option ℕ
field_prefix_end items closings k = prefix_end field_modifiers (length items) items closings k

-- the types that constants may have
abbrev pub constant_kind : List Item → ℕ → Option ScalarKind
constant_kind items k =
    if is_word (codes "int") items k then Some kinds.Int
    else (if is_word (codes "long") items k then Some kinds.Long
    else (if is_word (codes "boolean") items k then Some kinds.Boolean
    else (if is_word (codes "String") items k then Some kinds.Text else None)))

-- a literal may be the value of a constant: of its type, or an `int` of a `long`
abbrev pub may_be_value : ScalarKind → ScalarKind → Bool
may_be_value kinds.Long kinds.Int = true
may_be_value declared value = same_kind declared value

-- the number of the literal that begins at a number, with a minus sign or not, and whether a semicolon ends the member behind it
abbrev pub value_number : List Item → ℕ → ℕ
value_number items k = if is_sign (codes "-") items k then k + 1 else k

abbrev pub ends_member : List Item → Stretch → ℕ → Bool
ends_member items member v = is_sign (codes ";") items (v + 1) && (v + 2 == member.to)

-- the words `static` and `final` stand between two numbers
abbrev pub is_static_final : List Item → ℕ → ℕ → Bool
is_static_final items from to = is_named items (codes "static") from to && is_named items (codes "final") from to

-- where the constant stands whose type begins at a number, with a value of a type
abbrev pub placed : List Item → ℕ → ScalarKind → ScalarKind → Option ConstantPlace
placed items k kind of =
    if may_be_value kind of then
    Some (record { kind = kind; name = k + 1; negative = is_sign (codes "-") items (k + 3); value = value_number items (k + 3); of = of })
    else None

abbrev pub place_of_kind : List Item → ℕ → ScalarKind → Option ConstantPlace
place_of_kind items k kind =
    if_some (signed_kind (is_sign (codes "-") items (k + 3)) (word_at items (value_number items (k + 3)))) (placed items k kind)

abbrev pub is_constant_from : List Item → Stretch → ℕ → Bool
is_constant_from items member k =
    is_static_final items member.from k && is_plain_name items (k + 1) && is_sign (codes "=") items (k + 2)
    && ends_member items member (value_number items (k + 3))

abbrev pub place_from : List Item → Stretch → ℕ → Option ConstantPlace
place_from items member k =
    if_some (constant_kind items k) (λ kind. if is_constant_from items member k then place_of_kind items k kind else None)

-- where the constant stands that a member is: `static final`, a type, a name, and a literal
abbrev pub constant_place : List Item → List ℕ → Stretch → Option ConstantPlace
constant_place items closings member = if_some (field_prefix_end items closings member.from) (place_from items member)

abbrev pub constant_at : List Item → ConstantPlace → ClassConstant
constant_at items p =
    record { name = word_at items p.name; kind = p.kind; value = record { kind = p.of; negative = p.negative; bytes = word_at items p.value } }

abbrev pub listed : List Item → Option ConstantPlace → List ClassConstant
listed items None = []
listed items (Some p) = constant_at items p ∷ []

abbrev pub constants_in : List Item → List ℕ → Stretch → List ClassConstant
constants_in items closings member = listed items (constant_place items closings member)

-- the constants among members
abbrev pub constants_among : List Item → List ℕ → List Stretch → List ClassConstant
constants_among items closings members = flat_map (constants_in items closings) members

-- the constants of a class
abbrev pub constants_of : List Item → List ℕ → ClassPlace → List ClassConstant
constants_of items closings class = constants_among items closings (members_of items closings class.from)
