use Rattle.std.proofs.Common.{◌≡◌, drop}
use Rattle.java_stretches.specs.Patches.{plain_patches}
use Rattle.view_statements.specs.Slices.{slice}
use Rattle.view_spell.specs.Reading.{seen_as}
use Rattle.view_spell.specs.Shared.{any_shared}
use Rattle.view_spell.proofs.shared.any_shared.Given as goal

abbrev pub invariant-loop-patch : goal.invariant-loop-patch
invariant-loop-patch l = any_shared (seen_as l.seen) (slice l.slice) l.fetched (plain_patches (drop l.patch-index l.patches)) ≡ any_shared (seen_as l.seen) (slice l.slice) l.fetched (plain_patches l.patches)
