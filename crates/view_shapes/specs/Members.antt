-- The class of a file, and the members of its body.
use Rattle.std.specs.Prelude.{ℕ, zero, suc, ◌+◌, Bool, false, ◌||◌, ◌&&◌, not, List, [], ◌∷◌, length, codes, if◌then◌else◌}
use Rattle.std.specs.declared.option.Option.{Option}
use Rattle.std.specs.declared.option.Option.TheVariants.{Some, None}
use Rattle.view_items.specs.declared.item.Item.{Item}
use Rattle.view_shapes.specs.declared.finding.Sought.TheVariants.{Brace, Class}
use Rattle.view_shapes.specs.declared.members.ClassPlace.{ClassPlace}
use Rattle.view_shapes.specs.declared.members.Stretch.{Stretch}
use Rattle.view_items.specs.Brackets.{if_some}
use Rattle.view_shapes.specs.Found.{is_sign, is_name, is_over, closing_at, behind, step_over, found}

abbrev pub class_to : ℕ → ℕ → ℕ → Option ClassPlace
class_to name brace closing = Some (record { name = name; from = brace + 1; to = closing })

-- the class whose word stands at a number: behind it stands a name, and no `<`
abbrev pub class_at : List Item → List ℕ → ℕ → Option ClassPlace
class_at items closings k =
    if is_name items (k + 1) && not (is_sign (codes "<") items (k + 2)) then
    if_some (found Brace items closings (k + 2)) (λ brace. if_some (closing_at items closings brace) (class_to (k + 1) brace))
    else None

-- the first `class` outside of all brackets; its body is the next `{` to its match
unfoldable pub class_of : List Item → List ℕ → Option ClassPlace
class_of items closings = if_some (found Class items closings 0) (class_at items closings)

-- a brace that ends a member with its closing one: not behind `=`
abbrev pub is_body : Bool → List Item → ℕ → Bool
is_body valued items k = is_sign (codes "{") items k && not valued

abbrev pub is_valued : Bool → List Item → ℕ → Bool
is_valued valued items k = valued || is_sign (codes "=") items k

-- where the member ends that begins at a number
unfoldable pub member_end_in : ℕ → Bool → List Item → List ℕ → ℕ → Option ℕ
member_end_in zero valued items closings k = None
member_end_in (suc steps) valued items closings k =
    if is_sign (codes ";") items k then Some (k + 1)
    else (if is_body valued items k then behind items closings k
    else (if is_over items k then None
    else if_some (step_over items closings k) (λ m. member_end_in steps (is_valued valued items k) items closings m)))

abbrev pub member_end : List Item → List ℕ → ℕ → Option ℕ
member_end items closings k = member_end_in (length items) false items closings k

abbrev pub and_then : ℕ → Option ℕ → (ℕ → List Stretch) → List Stretch
and_then k None f = []
and_then k (Some m) f = record { from = k; to = m } ∷ f m

unfoldable pub members_in : ℕ → List Item → List ℕ → ℕ → List Stretch
members_in zero items closings k = []
members_in (suc steps) items closings k = and_then k (member_end items closings k) (λ m. members_in steps items closings m)

-- the members that stand one behind the other from a number on
abbrev pub members_of : List Item → List ℕ → ℕ → List Stretch
members_of items closings k = members_in (length items) items closings k
