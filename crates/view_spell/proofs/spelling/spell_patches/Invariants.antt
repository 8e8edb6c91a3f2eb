use Rattle.std.proofs.Common.{◌≡◌, true, take}
use Rattle.java_stretches.specs.Patches.{plain_patches}
use Rattle.view_statements.specs.Slices.{slice}
use Rattle.view_spell.specs.Placed.{take_each}
use Rattle.view_spell.specs.Reading.{seen_as}
use Rattle.view_spell.proofs.spelling.spell_patches.Given as goal

-- those so far take the bytes of those so far
abbrev pub invariant-loop-patch : goal.invariant-loop-patch
invariant-loop-patch l = take_each (seen_as l.seen) (slice l.slice) (plain_patches (take l.patch-index l.patches)) l.spelled ≡ true
