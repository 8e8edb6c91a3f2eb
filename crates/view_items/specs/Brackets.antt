-- Brackets, and where each is closed.
use Rattle.std.specs.Prelude.{ℕ, ◌+◌, ◌-◌, Bool, true, ◌||◌, ◌&&◌, ◌==◌, nat_le, List, [], ◌∷◌, take, drop, if◌then◌else◌}
use Rattle.std.specs.declared.option.Option.{Option}
use Rattle.std.specs.declared.option.Option.TheVariants.{Some, None}
use Rattle.view_items.specs.declared.item.ItemKind.{ItemKind}
use Rattle.view_items.specs.declared.item.ItemKind.TheVariants as kinds
use Rattle.view_items.specs.declared.item.Item.{Item}

-- what comes of something, if it is there
abbrev pub if_some : {A B : Type 0} → Option A → (A → Option B) → Option B
if_some None f = None
if_some (Some x) f = f x

-- the byte of a sign of one byte, else 0
abbrev pub sign_byte : ItemKind → List ℕ → ℕ
sign_byte kinds.Sign (b ∷ []) = b
sign_byte _ _ = 0

abbrev pub sign_of : Item → ℕ
sign_of i = sign_byte i.kind i.bytes

-- `(`, `[` and `{`
abbrev pub opens : ℕ → Bool
opens b = (b == 40) || (b == 91) || (b == 123)

-- `)`, `]` and `}`
abbrev pub closes : ℕ → Bool
closes b = (b == 41) || (b == 93) || (b == 125)

abbrev pub is_pair : ℕ → ℕ → Bool
is_pair b c = ((b == 40) && (c == 41)) || ((b == 91) && (c == 93)) || ((b == 123) && (c == 125))

-- closing brackets that wait for what opens them, each with its number and its byte, and for each item the number of its closing one
abbrev pub Closed : Type 0
Closed = List (ℕ × ℕ) × List ℕ

-- with an opening bracket before: it takes the first one that waits, which has to be of its kind
abbrev pub opened : ℕ → Closed → Option Closed
opened b ([], numbers) = None
opened b (c ∷ waiting, numbers) = if is_pair b c.1 then Some (waiting, c.0 ∷ numbers) else None

-- with an item before
abbrev pub with_item : ℕ → ℕ → Closed → Option Closed
with_item k b (waiting, numbers) =
    if closes b then Some ((k, b) ∷ waiting, k ∷ numbers)
    else (if opens b then opened b (waiting, numbers) else Some (waiting, k ∷ numbers))

-- the items from a number on, from the last one to the first
unfoldable pub closed_from : ℕ → List Item → Option Closed
closed_from k [] = Some ([], [])
closed_from k (i ∷ is) = if_some (closed_from (k + 1) is) (with_item k (sign_of i))

-- nothing waits
abbrev pub all_closed : Closed → Option (List ℕ)
all_closed ([], numbers) = Some numbers
all_closed (c ∷ waiting, numbers) = None

-- for each item the number of its closing bracket, if it opens one, else its own; none where brackets don't match
unfoldable pub closings_of : List Item → Option (List ℕ)
closings_of items = if_some (closed_from 0 items) all_closed

-- the brackets that are open behind an item, the innermost first
abbrev pub without_first : List ℕ → List ℕ
without_first [] = []
without_first (k ∷ ks) = ks

abbrev pub open_after : ℕ → ℕ → List ℕ → List ℕ
open_after k b ks = if opens b then k ∷ ks else (if closes b then without_first ks else ks)

abbrev pub first_or : ℕ → List ℕ → ℕ
first_or k [] = k
first_or k (j ∷ js) = j

-- the items from a number on, where these brackets are open
unfoldable pub rounds_from : List ℕ → ℕ → List Item → List ℕ
rounds_from ks k [] = []
rounds_from ks k (i ∷ is) = first_or k ks ∷ rounds_from (open_after k (sign_of i) ks) (k + 1) is

-- for each item the number of the innermost bracket that is open at it, else its own
unfoldable pub rounds_of : List Item → List ℕ
rounds_of items = rounds_from [] 0 items

-- how many brackets are open behind an item
abbrev pub depth_after : ℕ → ℕ → ℕ
depth_after depth b = if opens b then depth + 1 else (if closes b then depth - 1 else depth)

-- no item has more than 64 brackets open at it
unfoldable pub is_shallow_at : ℕ → List Item → Bool
is_shallow_at depth [] = true
is_shallow_at depth (i ∷ is) = nat_le depth 64 && is_shallow_at (depth_after depth (sign_of i)) is

-- the items from a number up to another
abbrev pub stretch : ℕ → ℕ → List Item → List Item
stretch from to items = take (to - from) (drop from items)

abbrev pub is_shallow : List Item → ℕ → ℕ → Bool
is_shallow items from to = is_shallow_at 0 (stretch from to items)
