use Rattle.std.proofs.Common.{◌≡◌, ◌++◌, drop}
use Rattle.text_patches.specs.Patching.{with_texts}
use Rattle.view_spell.specs.Placed.{patches_of}
use Rattle.view_spell.proofs.spelled.with_spelled.Given as goal

abbrev pub invariant-loop-one : goal.invariant-loop-one
invariant-loop-one l = l.out.items ++ with_texts l.source l.at (patches_of (drop l.one-index l.spelled)) ≡ with_texts l.source 0 (patches_of l.spelled)
