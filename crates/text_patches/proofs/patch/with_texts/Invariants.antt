use Rattle.std.proofs.Common.{◌≡◌, ◌++◌, drop}
use Rattle.text_patches.specs.Patching.{with_texts}
use Rattle.text_patches.proofs.patch.with_texts.Given as goal

-- what is written and the source behind it with the patches that are left are all
abbrev pub invariant-loop-patch : goal.invariant-loop-patch
invariant-loop-patch l = l.out.items ++ with_texts l.source l.at (drop l.patch-index l.patches) ≡ with_texts l.source 0 l.patches
