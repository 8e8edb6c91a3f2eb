-- Where in the file what is seen comes from.
use Rattle.std.specs.Prelude.{ℕ, zero, suc, Bool, true, false, ◌&&◌, ◌==◌, nat_le, List, codes, Option, Some, None, slice_get, if◌then◌else◌}
use Rattle.std.specs.Str.{bytes_eq}
use Rattle.text_patches.specs.Patching.{stretch}
use Rattle.view_items.specs.declared.cell.Cell.{Cell}
use Rattle.view_items.specs.declared.item.Item.{Item}
use Rattle.view_rules.specs.Options.{◌>>=◌}
use Rattle.view_statements.specs.Slices.{PlainSlice, PlainGroup, PlainEnding, Open, Grouped, Returned}
use Rattle.view_statements.specs.Tree.{PlainStatement}
use Rattle.view_statements.specs.Tree as plain
use Rattle.view_text.specs.Layout.{cell_at}
use Rattle.view_spell.specs.declared.origins.Origin.{Origin}
use Rattle.view_spell.specs.declared.origins.Taken.{Taken}

-- the token in which a byte of what is seen lies, and the one that ends before it
abbrev pub cell_with : List Cell → ℕ → Option Cell
cell_with cells byte = cell_at cells byte >>= slice_get cells

abbrev pub cell_before : List Cell → ℕ → Option Cell
cell_before cells zero = None
cell_before cells (suc byte) = cell_with cells byte

-- the bytes of the file from which the tokens from one byte of what is seen up to another come
abbrev pub origin_of : List Cell → ℕ → ℕ → Option Origin
origin_of cells from to = cell_with cells from >>= (λ first. cell_before cells to >>= (λ last. Some (record { from = first.from; to = last.to })))

-- those bytes
abbrev pub bytes_in : List ℕ → Origin → List ℕ
bytes_in source at = stretch source at.from at.to

abbrev pub is_brace : Option Cell → Bool
is_brace None = false
is_brace (Some c) = bytes_eq c.bytes (codes "}")

-- Of the statements of a patch those that ask have the place of a loop, which ends with a brace, and those that are kept have no body.
abbrev pub has_body : List Cell → ℕ → Bool
has_body cells to = is_brace (cell_before cells to)

-- the bytes of the items from one number to another, and up to another
abbrev pub origin_through : List Item → ℕ → ℕ → Option Origin
origin_through items from last = slice_get items from >>= (λ a. slice_get items last >>= (λ b. Some (record { from = a.from; to = b.to })))

abbrev pub origin_to : List Item → ℕ → ℕ → Option Origin
origin_to items from zero = None
origin_to items from (suc last) = origin_through items from last

-- ---- Groups

abbrev pub taking : Origin → Bool → Taken
taking at found = record { at = at; found = found }

abbrev pub walk_origin : List Item → PlainStatement → Option Origin
walk_origin items (plain.ForEach at inferred name java walked close braces body end) = origin_through items at end
walk_origin items _ = None

-- a patch before the loop of a group leaves the group alone; any other begins where the loop begins or before it, ends with it, and takes the
-- `return` behind the loop with it
abbrev pub touches_all : Origin → Origin → Bool
touches_all walk at = nat_le at.from walk.from && (at.to == walk.to)

abbrev pub taken_whole : Origin → Option Origin → Option Taken
taken_whole at None = None
taken_whole at (Some all) = Some (taking (record { from = at.from; to = all.to }) true)

abbrev pub taken_by : List Item → PlainSlice → Origin → Origin → Option Taken
taken_by items s at walk =
    if nat_le at.to walk.from then Some (taking at false)
    else if touches_all walk at then taken_whole at (origin_to items s.from s.to)
    else None

abbrev pub taken_with : List Item → PlainSlice → PlainGroup → Origin → Option Taken
taken_with items s g at = walk_origin items g.walk >>= taken_by items s at

abbrev pub taken_in : List Item → PlainSlice → PlainEnding → Origin → Option Taken
taken_in items s (Grouped g) at = taken_with items s g at
taken_in items s Open at = Some (taking at false)
taken_in items s (Returned variable) at = Some (taking at false)

-- the bytes of the file in the place of which a patch of what is seen stands, from one byte up to another, and whether what is found is returned
-- behind its statements: none where the patch can't be spelled
abbrev pub stretch_taken : List Cell → List Item → PlainSlice → ℕ → ℕ → Option Taken
stretch_taken cells items s from to = origin_of cells from to >>= taken_in items s s.ending
