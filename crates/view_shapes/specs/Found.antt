-- What stands at a number of a list of items, and the first of what is sought outside of brackets.
use Rattle.std.specs.Prelude.{ℕ, zero, suc, ◌+◌, ◌-◌, Bool, true, false, ◌&&◌, ◌==◌, nat_lt, not, List, length, codes, slice_get, if◌then◌else◌}
use Rattle.std.specs.List.{list_any}
use Rattle.std.specs.Str.{bytes_eq}
use Rattle.std.specs.declared.option.Option.{Option}
use Rattle.std.specs.declared.option.Option.TheVariants.{Some, None}
use Rattle.view_items.specs.declared.item.ItemKind.{ItemKind}
use Rattle.view_items.specs.declared.item.ItemKind.TheVariants as kinds
use Rattle.view_items.specs.declared.item.Item.{Item}
use Rattle.view_shapes.specs.declared.finding.Sought.{Sought}
use Rattle.view_shapes.specs.declared.finding.Sought.TheVariants as soughts
use Rattle.view_items.specs.Brackets.{if_some, sign_of, opens, closes}

abbrev pub same_kind : ItemKind → ItemKind → Bool
same_kind kinds.Block kinds.Block = true
same_kind kinds.Text kinds.Text = true
same_kind kinds.Char kinds.Char = true
same_kind kinds.Name kinds.Name = true
same_kind kinds.Number kinds.Number = true
same_kind kinds.Sign kinds.Sign = true
same_kind _ _ = false

-- an item is there and passes a test
abbrev pub passes : (Item → Bool) → Option Item → Bool
passes test None = false
passes test (Some i) = test i

abbrev pub has_kind : ItemKind → List Item → ℕ → Bool
has_kind kind items k = passes (λ i. same_kind i.kind kind) (slice_get items k)

-- the item is of this kind and has these bytes
abbrev pub is_item : ItemKind → List ℕ → List Item → ℕ → Bool
is_item kind bytes items k = passes (λ i. same_kind i.kind kind && bytes_eq i.bytes bytes) (slice_get items k)

-- the item is this word, or this sign
abbrev pub is_word : List ℕ → List Item → ℕ → Bool
is_word word items k = is_item kinds.Name word items k

abbrev pub is_sign : List ℕ → List Item → ℕ → Bool
is_sign sign items k = is_item kinds.Sign sign items k

abbrev pub is_name : List Item → ℕ → Bool
is_name items k = has_kind kinds.Name items k

-- the item is one of these words, or of these signs
abbrev pub is_one_of_words : List (List ℕ) → List Item → ℕ → Bool
is_one_of_words words items k = list_any (λ w. is_word w items k) words

abbrev pub is_one_of_signs : List (List ℕ) → List Item → ℕ → Bool
is_one_of_signs signs items k = list_any (λ s. is_sign s items k) signs

-- there is an item before, and it passes a test
abbrev pub before : (ℕ → Bool) → ℕ → Bool
before test k = not (k == 0) && test (k - 1)

abbrev pub is_opening : List Item → ℕ → Bool
is_opening items k = passes (λ i. opens (sign_of i)) (slice_get items k)

-- there is no item, or a closing bracket
abbrev pub is_over : List Item → ℕ → Bool
is_over items k = not (passes (λ i. not (closes (sign_of i))) (slice_get items k))

-- the number of the closing bracket, which is that of an item further on
abbrev pub within : ℕ → ℕ → Option ℕ → Option ℕ
within k n None = None
within k n (Some c) = if nat_lt k c && nat_lt c n then Some c else None

abbrev pub closing_at : List Item → List ℕ → ℕ → Option ℕ
closing_at items closings k = within k (length items) (slice_get closings k)

abbrev pub next_number : ℕ → Option ℕ
next_number k = Some (k + 1)

-- the number behind the closing bracket
abbrev pub behind : List Item → List ℕ → ℕ → Option ℕ
behind items closings k = if_some (closing_at items closings k) next_number

-- the number behind an item, or behind the brackets that it opens
abbrev pub step_over : List Item → List ℕ → ℕ → Option ℕ
step_over items closings k = if is_opening items k then behind items closings k else Some (k + 1)

-- a semicolon, `{`, or the word `class` that no dot stands before
abbrev pub is_sought : Sought → List Item → ℕ → Bool
is_sought soughts.Semicolon items k = is_sign (codes ";") items k
is_sought soughts.Brace items k = is_sign (codes "{") items k
is_sought soughts.Class items k = is_word (codes "class") items k && not (before (is_sign (codes ".") items) k)

-- the first of what is sought from a number on, outside of brackets that are opened from there on; none behind so many steps
unfoldable pub found_in : ℕ → Sought → List Item → List ℕ → ℕ → Option ℕ
found_in zero sought items closings k = None
found_in (suc steps) sought items closings k =
    if is_sought sought items k then Some k
    else (if is_over items k then None else if_some (step_over items closings k) (λ m. found_in steps sought items closings m))

abbrev pub found : Sought → List Item → List ℕ → ℕ → Option ℕ
found sought items closings k = found_in (length items) sought items closings k
