-- The names in fetch patterns and templates: which are variables or classes, and which are methods of the object itself.
use Rattle.std.specs.Prelude.{ℕ, zero, suc, ◌+◌, ◌-◌, Bool, false, ◌||◌, ◌&&◌, ◌==◌, not, nat_le, List, [], length, codes, slice_get, if◌then◌else◌}
use Rattle.std.specs.Str.{bytes_eq}
use Rattle.std.specs.declared.option.Option.{Option}
use Rattle.std.specs.declared.option.Option.TheVariants.{Some, None}
use Rattle.view_items.specs.declared.item.ItemKind.TheVariants as kinds
use Rattle.view_shapes.specs.Found.{same_kind}
use Rattle.view_shapes.specs.Uses.{is_keyword_name}
use Rattle.view_map.specs.declared.model.PatternItem.{PatternItem}
use Rattle.view_map.specs.declared.model.Part.{Part}
use Rattle.view_map.specs.declared.model.Part.TheVariants as parts

-- the item is there, and is this sign
abbrev pub is_mark : List ℕ → Option PatternItem → Bool
is_mark sign None = false
is_mark sign (Some i) = same_kind i.kind kinds.Sign && bytes_eq i.bytes sign

-- it is a name, and no word of Java
abbrev pub is_plain : Option PatternItem → Bool
is_plain None = false
is_plain (Some i) = same_kind i.kind kinds.Name && not (is_keyword_name i.bytes)

-- the item is this word
abbrev pub is_spelled : List ℕ → Option PatternItem → Bool
is_spelled word None = false
is_spelled word (Some i) = same_kind i.kind kinds.Name && bytes_eq i.bytes word

abbrev pub is_this : Option PatternItem → Bool
is_this i = is_spelled (codes "this") i

abbrev pub any_name : Option PatternItem → Bool
any_name None = false
any_name (Some i) = same_kind i.kind kinds.Name

abbrev pub bytes_of : Option PatternItem → List ℕ
bytes_of None = []
bytes_of (Some i) = i.bytes

-- a name between two items stands neither behind a dot nor before a parenthesis
unfoldable pub is_loose : Option PatternItem → Option PatternItem → Option PatternItem → Bool
is_loose before i behind = is_plain i && not (is_mark (codes ".") before) && not (is_mark (codes "(") behind)

-- it stands behind no dot but that of `this`
abbrev pub is_own : Option PatternItem → Option PatternItem → Bool
is_own second first = not (is_mark (codes ".") first) || is_this second

-- behind `super`, or behind the name of the class, stands what is the object's own too
abbrev pub is_owner : List ℕ → Option PatternItem → Bool
is_owner class i = is_spelled class i || is_spelled (codes "super") i

abbrev pub is_owned : List ℕ → Option PatternItem → Option PatternItem → Bool
is_owned class second first = is_own second first || is_owner class second

-- the item so far before a number
abbrev pub item_before : List PatternItem → ℕ → ℕ → Option PatternItem
item_before is far k = if nat_le far k then slice_get is (k - far) else None

abbrev pub begins_own : List PatternItem → ℕ → Bool
begins_own is k = is_own (item_before is 2 k) (item_before is 1 k)

abbrev pub is_own_at : List PatternItem → ℕ → Bool
is_own_at is k = is_plain (slice_get is k) && begins_own is k

-- a name of what is the object's own, or of its class
abbrev pub is_owned_at : List ℕ → List PatternItem → ℕ → Bool
is_owned_at class is k = is_plain (slice_get is k) && is_owned class (item_before is 2 k) (item_before is 1 k)

-- a method of the object itself is called there
abbrev pub is_own_call : List ℕ → List PatternItem → ℕ → Bool
is_own_call class is k = is_owned_at class is k && is_mark (codes "(") (slice_get is (k + 1))

-- a variable of the object itself, or a class, is named there
abbrev pub is_variable : List ℕ → List PatternItem → ℕ → Bool
is_variable class is k = is_owned_at class is k && not (is_mark (codes "(") (slice_get is (k + 1)))

abbrev pub is_loose_at : List PatternItem → ℕ → Bool
is_loose_at is k = is_loose (item_before is 1 k) (slice_get is k) (slice_get is (k + 1))

-- `.class` goes on: what stands before is a type, whatever else has its name
abbrev pub is_literal : Option PatternItem → Option PatternItem → Bool
is_literal first second = is_mark (codes ".") first && is_spelled (codes "class") second

-- a name that a variable may take away from a class: neither behind a dot nor before a parenthesis nor before `.class`
abbrev pub may_be_hidden : List PatternItem → ℕ → Bool
may_be_hidden is k = is_loose_at is k && not (is_literal (slice_get is (k + 1)) (slice_get is (k + 2)))

-- how many parentheses are open behind an item
abbrev pub open_behind : ℕ → Option PatternItem → ℕ
open_behind depth i = if is_mark (codes "(") i then depth + 1 else (if is_mark (codes ")") i then depth - 1 else depth)

-- a name outside of parentheses, which is neither `this` nor `new`
abbrev pub is_passed : Option PatternItem → Bool
is_passed i = is_this i || is_spelled (codes "new") i

abbrev pub ends_front : ℕ → Option PatternItem → Bool
ends_front depth i = (depth == 0) && any_name i && not (is_passed i)

-- the number behind the first such name of items that stand at numbers
unfoldable pub front_in : ℕ → ℕ → (ℕ → Option PatternItem) → ℕ → ℕ
front_in zero depth at k = k
front_in (suc steps) depth at k = if ends_front depth (at k) then k + 1 else front_in steps (open_behind depth (at k)) at (k + 1)

-- the number of the first name of a pattern that stands outside of parentheses: casts, `this` and `new` are passed over
abbrev pub front_end : List PatternItem → ℕ
front_end is = front_in (length is) 0 (slice_get is) 0

abbrev pub first_at : List PatternItem → ℕ
first_at is = front_end is - 1

-- ---- Templates

-- the item that a part is
abbrev pub item_in : Option Part → Option PatternItem
item_in (Some (parts.Item i)) = Some i
item_in _ = None

abbrev pub item_of : List Part → ℕ → Option PatternItem
item_of ps k = item_in (slice_get ps k)

abbrev pub part_before : List Part → ℕ → Option PatternItem
part_before ps k = if k == 0 then None else item_of ps (k - 1)

abbrev pub is_loose_part : List Part → ℕ → Bool
is_loose_part ps k = is_loose (part_before ps k) (item_of ps k) (item_of ps (k + 1))

-- in the same way of a template's parts
abbrev pub part_far_before : List Part → ℕ → ℕ → Option PatternItem
part_far_before ps far k = if nat_le far k then item_of ps (k - far) else None

abbrev pub is_owned_part : List ℕ → List Part → ℕ → Bool
is_owned_part class ps k = is_plain (item_of ps k) && is_owned class (part_far_before ps 2 k) (part_far_before ps 1 k)

abbrev pub is_own_part_call : List ℕ → List Part → ℕ → Bool
is_own_part_call class ps k = is_owned_part class ps k && is_mark (codes "(") (item_of ps (k + 1))

abbrev pub is_part_variable : List ℕ → List Part → ℕ → Bool
is_part_variable class ps k = is_owned_part class ps k && not (is_mark (codes "(") (item_of ps (k + 1)))

abbrev pub may_part_be_hidden : List Part → ℕ → Bool
may_part_be_hidden ps k = is_loose_part ps k && not (is_literal (item_of ps (k + 1)) (item_of ps (k + 2)))

-- the first name of a template, in the same way
abbrev pub front_of_parts : List Part → ℕ
front_of_parts ps = front_in (length ps) 0 (item_of ps) 0

abbrev pub first_of_parts : List Part → List ℕ
first_of_parts ps = bytes_of (item_of ps (front_of_parts ps - 1))
