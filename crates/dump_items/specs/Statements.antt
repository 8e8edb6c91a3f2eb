-- The statements of items.
use Rattle.std.specs.Prelude.{ℕ, ◌+◌, ◌-◌, Bool, true, false, ◌&&◌, ◌||◌, ◌==◌, not, List, [], ◌∷◌, codes, if◌then◌else◌}
use Rattle.std.specs.List.{filter}
use Rattle.dump_items.specs.declared.item.ItemKind.{ItemKind}
use Rattle.dump_items.specs.declared.item.ItemKind.TheVariants as kinds
use Rattle.dump_items.specs.declared.item.Item.{Item}
use Rattle.dump_items.specs.declared.nest.Nest.{Nest}
use Rattle.dump_items.specs.Bytes.{spells, begins_with}
use Rattle.dump_items.specs.Pieces.{items_of}

-- nothing is open
abbrev pub outside : Nest
outside = record { depth = 0; blocks = 0; routine = false; ended = false }

-- a trigger, a function or the like may have blocks that statements stand in
abbrev pub names_routine : List ℕ → Bool
names_routine w =
    spells (codes "TRIGGER") w || spells (codes "FUNCTION") w || spells (codes "PROCEDURE") w || spells (codes "EVENT") w || spells (codes "PACKAGE") w

-- what END closes besides blocks that BEGIN opens
abbrev pub is_compound : List ℕ → Bool
is_compound w = spells (codes "IF") w || spells (codes "LOOP") w || spells (codes "WHILE") w || spells (codes "REPEAT") w

-- BEGIN and CASE open a block and END closes one, but END IF and the like close none, and END CASE one
abbrev pub blocks_after : Nest → List ℕ → ℕ
blocks_after n w =
    if spells (codes "BEGIN") w then n.blocks + 1
    else (if spells (codes "END") w then n.blocks - 1
    else (if n.ended then (if is_compound w then n.blocks + 1 else n.blocks)
    else (if spells (codes "CASE") w then n.blocks + 1 else n.blocks)))

-- after a word outside of parentheses
abbrev pub after_word : Nest → List ℕ → Nest
after_word n w = record {
  depth = n.depth;
  blocks = if n.routine then blocks_after n w else n.blocks;
  routine = n.routine || names_routine w;
  ended = spells (codes "END") w;
}

abbrev pub deeper : Nest → ℕ → Nest
deeper n depth = record { depth = depth; blocks = n.blocks; routine = n.routine; ended = false }

abbrev pub after_kind : Nest → ItemKind → List ℕ → Nest
after_kind n kinds.Open bs = deeper n (n.depth + 1)
after_kind n kinds.Close bs = deeper n (n.depth - 1)
after_kind n kinds.Word bs = if n.depth == 0 then after_word n bs else n
after_kind n _ bs = deeper n n.depth

abbrev pub is_end : ItemKind → Bool
is_end kinds.End = true
is_end _ = false

-- an end outside of parentheses, and of blocks too where it is a semicolon
abbrev pub ends : Nest → ItemKind → List ℕ → Bool
ends n kind bs = is_end kind && (n.depth == 0) && ((n.blocks == 0) || not (begins_with 59 bs))

-- with an item before the first statement
abbrev pub with_first : Item → List (List Item) → List (List Item)
with_first i [] = (i ∷ []) ∷ []
with_first i (s ∷ ss) = (i ∷ s) ∷ ss

-- the statements of items, the last one without its end, where so much is open
unfoldable pub statements_from : Nest → List Item → List (List Item)
statements_from n [] = [] ∷ []
statements_from n (i ∷ is) =
    if ends n i.kind i.bytes then [] ∷ statements_from outside is else with_first i (statements_from (after_kind n i.kind i.bytes) is)

-- what begins a table or changes one, by the first word: all other statements are passed over
abbrev pub is_heeded_word : List ℕ → Bool
is_heeded_word w = spells (codes "CREATE") w || spells (codes "ALTER") w

abbrev pub is_heeded_by : ItemKind → List ℕ → Bool
is_heeded_by kinds.Word w = is_heeded_word w
is_heeded_by _ w = false

abbrev pub is_heeded : List Item → Bool
is_heeded [] = false
is_heeded (i ∷ is) = is_heeded_by i.kind i.bytes

unfoldable pub heeded : List (List Item) → List (List Item)
heeded ss = filter is_heeded ss

-- the statements of a dump that begin with CREATE or ALTER
unfoldable pub statements_of : List ℕ → List (List Item)
statements_of text = heeded (statements_from outside (items_of text))
