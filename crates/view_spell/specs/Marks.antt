-- Where bytes of a file stand in what is written.
use Rattle.std.specs.Prelude.{ℕ, ◌+◌, ◌-◌, List, [], ◌∷◌, ◌++◌, length}
use Rattle.text_patches.specs.declared.patch.TextPatch.{TextPatch}
use Rattle.text_patches.specs.Patching.{stretch}
use Rattle.view_spell.specs.declared.marks.Mark.{Mark}

-- a byte behind the mark, where no patch lies between them
abbrev pub moved : Mark → ℕ → ℕ
moved m byte = m.written + (byte - m.byte)

abbrev pub past_one : Mark → TextPatch → Mark
past_one m p = record { byte = p.to; written = moved m p.from + length p.text }

abbrev pub past : Mark → List TextPatch → Mark
past m [] = m
past m (p ∷ ps) = past (past_one m p) ps

-- what is written in place of the bytes from one number up to another
abbrev pub written_to : List ℕ → ℕ → ℕ → List TextPatch → List ℕ
written_to source from to [] = stretch source from to
written_to source from to (p ∷ ps) = stretch source from p.from ++ (p.text ++ written_to source p.to to ps)
