-- The text of cells: each statement on a line, four spaces a level.
use Rattle.std.specs.Prelude.{ℕ, zero, suc, ◌+◌, ◌-◌, List, [], ◌∷◌, ◌++◌, length, Option, Some, None, option_map, Bool, ◌&&◌, nat_le, nat_lt, codes, if◌then◌else◌}
use Rattle.qbs_base.specs.Bytes.{line_feed}
use Rattle.view_items.specs.declared.cell.Cell.{Cell}
use Rattle.view_text.specs.declared.before.Before.{Before}
use Rattle.view_text.specs.declared.role.Gap.{Gap}
use Rattle.view_text.specs.declared.role.Gap.TheVariants as gaps
use Rattle.view_text.specs.declared.role.Role.{Role}
use Rattle.view_text.specs.declared.role.Role.TheVariants.{Start, Brace, BraceEnd}
use Rattle.view_text.specs.declared.stretches.Stretch.{Stretch}
use Rattle.view_text.specs.Roles.{role_of, gap_before}

-- ---- white space

-- how many levels in a line stands that begins with a cell of this role
abbrev pub depth_at : ℕ → Role → ℕ
depth_at depth BraceEnd = depth - 1
depth_at depth _ = depth

-- how many braces are open behind it
abbrev pub depth_behind : ℕ → Role → ℕ
depth_behind depth Brace = depth + 1
depth_behind depth BraceEnd = depth - 1
depth_behind depth _ = depth

abbrev pub margin : ℕ → List ℕ
margin zero = []
margin (suc n) = margin n ++ codes "    "

abbrev pub gap_text : Gap → ℕ → List ℕ
gap_text gaps.None depth = []
gap_text gaps.Space depth = codes " "
gap_text gaps.Line depth = line_feed ∷ margin depth

-- ---- one cell after the other

-- the last of some bytes, or else this one
abbrev pub last_of : ℕ → List ℕ → ℕ
last_of last [] = last
last_of last (b ∷ bs) = last_of b bs

-- the white space before a cell
abbrev pub gap : Before → List ℕ → List ℕ
gap before bytes = gap_text (gap_before before.role before.last (role_of before.role bytes) bytes) (depth_at before.depth (role_of before.role bytes))

-- what stands before the next one
abbrev pub behind : Before → List ℕ → Before
behind before bytes = record {
  depth = depth_behind before.depth (role_of before.role bytes);
  role = role_of before.role bytes;
  last = last_of before.last bytes;
}

-- before the first cell nothing is open
abbrev pub first : Before
first = record { depth = 0; role = Start; last = line_feed }

-- a line feed ends the text
abbrev pub laid_from : Before → List Cell → List ℕ
laid_from before [] = line_feed ∷ []
laid_from before (c ∷ cs) = gap before c.bytes ++ (c.bytes ++ laid_from (behind before c.bytes) cs)

abbrev pub laid_out : List Cell → List ℕ
laid_out cells = laid_from first cells

-- ---- where cells stand

-- from the byte with the number `at` on
abbrev pub stretches_from : Before → ℕ → List Cell → List Stretch
stretches_from before at [] = []
stretches_from before at (c ∷ cs) =
    record { from = at + length (gap before c.bytes); to = at + length (gap before c.bytes) + length c.bytes }
    ∷ stretches_from (behind before c.bytes) (at + length (gap before c.bytes) + length c.bytes) cs

-- the bytes of the text at which each cell begins and ends
abbrev pub stretches_of : List Cell → List Stretch
stretches_of cells = stretches_from first 0 cells

abbrev pub holds : ℕ → Stretch → Bool
holds byte s = nat_le s.from byte && nat_lt byte s.to

abbrev pub has_ended : ℕ → Stretch → Bool
has_ended byte s = nat_le s.to byte

-- the number of the first stretch that holds a byte
abbrev pub stretch_at : List Stretch → ℕ → Option ℕ
stretch_at [] byte = None
stretch_at (s ∷ ss) byte = if holds byte s then Some 0 else option_map suc (stretch_at ss byte)

-- the number of the cell in which a byte of the text lies: of white space none
abbrev pub cell_at : List Cell → ℕ → Option ℕ
cell_at cells byte = stretch_at (stretches_of cells) byte
