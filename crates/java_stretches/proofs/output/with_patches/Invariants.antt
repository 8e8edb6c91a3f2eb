use Rattle.std.proofs.Common.{◌≡◌, ◌++◌, drop}
use Rattle.java_stretches.specs.Patches.{plain_patches, with_patches}
use Rattle.java_stretches.proofs.output.with_patches.Given as goal

-- what is written and the source behind it with the patches that are left are all
abbrev pub invariant-loop-patch : goal.invariant-loop-patch
invariant-loop-patch l = l.out.items ++ with_patches l.source l.at (plain_patches (drop l.patch-index l.patches)) ≡ with_patches l.source 0 (plain_patches l.patches)
