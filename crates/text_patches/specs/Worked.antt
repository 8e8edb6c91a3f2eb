-- A source, and texts in place of some of its bytes.
use Rattle.std.specs.Prelude.{ℕ, List, [], ◌∷◌, codes}
use Rattle.text_patches.specs.declared.patch.TextPatch.{TextPatch}

abbrev pub source : List ℕ
source = codes "one two three"

abbrev pub patch : ℕ → ℕ → List ℕ → TextPatch
patch from to text = record { from = from; to = to; text = text }

-- the second word and the third one, up to more than the source has
abbrev pub in_order : List TextPatch
in_order = patch 4 7 (codes "2") ∷ patch 8 99 (codes "3") ∷ []

-- the second word and then the first
abbrev pub out_of_order : List TextPatch
out_of_order = patch 4 7 (codes "2") ∷ patch 0 3 (codes "1") ∷ []
