-- A text made of a source's own bytes: statements in canonical layout stand in place of some bytes, and all other bytes stay.
use Rattle.std.specs.Prelude.{ℕ, ◌-◌, List, [], ◌∷◌, ◌++◌, length, take, drop, filter, map, Bool, ◌&&◌, nat_le, nat_lt, Option, Some, None, if◌then◌else◌}
use Rattle.std.specs.List.{prefix_len, suffix_len}
use Rattle.java_lex.specs.Bytes.{is_in_line}
use Rattle.java_ast.specs.Path.{statement_at}
use Rattle.java_ast.specs.Reading.{statements}
use Rattle.java_ast.specs.Spans.{place_of}
use Rattle.java_ast.specs.Tree.{Statement, Statements, PlainProgram}
use Rattle.java_stretches.specs.Lines.{is_blank, joined_lines}
use Rattle.java_stretches.specs.Stretch.{sibling}
use Rattle.java_stretches.specs.declared.patch.Patch.{Patch}

-- A text in place of the bytes of a source from one number up to another, in a line with this margin: that of a block, which stands in a
-- program in place of the statements from the number first to the one to which the path leads.
pub record PlainPatch : Type 0 where
  pub from : ℕ
  pub to : ℕ
  pub margin : List ℕ
  pub text : List ℕ
  pub path : List ℕ
  pub first : ℕ
  pub block : Statements

-- a patch as code has it
abbrev pub plain_patch : Patch → PlainPatch
plain_patch p = record { from = p.from; to = p.to; margin = p.margin; text = p.text; path = p.path; first = p.first; block = statements p.block }

abbrev pub plain_patches : List Patch → List PlainPatch
plain_patches ps = map plain_patch ps

-- ---- Bytes

-- the bytes from one number to another
abbrev pub stretch : List ℕ → ℕ → ℕ → List ℕ
stretch bytes from to = take (to - from) (drop from bytes)

-- the bytes behind the last line feed
abbrev pub last_line : List ℕ → List ℕ
last_line bytes = drop (length bytes - suffix_len is_in_line bytes) bytes

-- the spaces and tabs that begin a line
abbrev pub blanks_of : List ℕ → List ℕ
blanks_of line = take (prefix_len is_blank line) line

-- whether these bytes have a line feed
abbrev pub is_broken : List ℕ → Bool
is_broken bytes = nat_lt (suffix_len is_in_line bytes) (length bytes)

-- the margin of the line in which these bytes end, where it began with this margin before them
abbrev pub margin_behind : List ℕ → List ℕ → List ℕ
margin_behind margin bytes = if is_broken bytes then blanks_of (last_line bytes) else margin

-- ---- Patches

abbrev pub is_before : ℕ → PlainPatch → Bool
is_before from p = nat_le p.to from

-- those that end before this byte
abbrev pub earlier : ℕ → List PlainPatch → List PlainPatch
earlier from ps = filter (is_before from) ps

-- Where the bytes of a statement begin that begins at this byte of the source: where the patch does in which it lies.
abbrev pub begins_at : List PlainPatch → ℕ → ℕ
begins_at [] start = start
begins_at (p ∷ ps) start = if nat_le p.from start && nat_lt start p.to then p.from else begins_at ps start

-- with one more, which covers all that don't end before it
abbrev pub patched : List PlainPatch → PlainPatch → List PlainPatch
patched ps p = earlier p.from ps ++ p ∷ []

abbrev pub last_of : List PlainPatch → Option PlainPatch
last_of [] = None
last_of (p ∷ []) = Some p
last_of (p ∷ q ∷ ps) = last_of (q ∷ ps)

-- the margin of the line in which a patch begins, by the last one before it
abbrev pub margin_by : List ℕ → Option PlainPatch → ℕ → List ℕ
margin_by source None from = blanks_of (last_line (take from source))
margin_by source (Some p) from = margin_behind p.margin (stretch source p.to from)

abbrev pub margin_at : List ℕ → List PlainPatch → ℕ → List ℕ
margin_at source ps from = margin_by source (last_of (earlier from ps)) from

-- The source behind the byte `at`, with patches in place.
abbrev pub with_patches : List ℕ → ℕ → List PlainPatch → List ℕ
with_patches source at [] = drop at source
with_patches source at (p ∷ ps) = stretch source at p.from ++ (p.text ++ with_patches source p.to ps)

-- ---- Statements

-- a block in place of the bytes from one number to another, and of the statements of a program from the number first to the one to which a path leads
abbrev pub patch_of : List ℕ → List PlainPatch → ℕ → ℕ → List ℕ → ℕ → Statements → PlainPatch
patch_of source ps from to path first block =
    record { from = from; to = to; margin = margin_at source ps from; text = joined_lines (margin_at source ps from) block; path = path; first = first; block = block }

abbrev pub start_of : Option Statement → ℕ
start_of (Some s) = (place_of s).start
start_of None = 0

abbrev pub end_of : Option Statement → ℕ
end_of (Some s) = (place_of s).end
end_of None = 0

-- a block in place of the statements of a program from the number first to the one to which a path leads
abbrev pub put_patch : List ℕ → List ℕ → ℕ → Statements → PlainProgram → List PlainPatch → List PlainPatch
put_patch source path first block p ps =
    patched ps (patch_of source ps (begins_at ps (start_of (statement_at (sibling path first) p))) (end_of (statement_at path p)) path first block)
