-- A source in which texts stand in place of some of its bytes. All other bytes stay.
use Rattle.std.specs.Prelude.{ℕ, ◌-◌, List, [], ◌∷◌, ◌++◌, take, drop}
use Rattle.text_patches.specs.declared.patch.TextPatch.{TextPatch}

-- the bytes from one number to another
abbrev pub stretch : List ℕ → ℕ → ℕ → List ℕ
stretch bytes from to = take (to - from) (drop from bytes)

-- the source behind the byte `at`, with these texts in place, each behind the ones before it
abbrev pub with_texts : List ℕ → ℕ → List TextPatch → List ℕ
with_texts source at [] = drop at source
with_texts source at (p ∷ ps) = stretch source at p.from ++ (p.text ++ with_texts source p.to ps)
