use Rattle.std.proofs.Common.{◌≡◌, ◌++◌, List, drop}
use Rattle.text_patches.specs.declared.patch.TextPatch.{TextPatch}
use Rattle.text_patches.specs.Patching.{with_texts}
use Rattle.view_spell.proofs.spelled.push_patched.Given as goal

abbrev pub invariant-loop-patch : goal.invariant-loop-patch
invariant-loop-patch l =
    (further : List TextPatch) → l.out.items ++ with_texts l.source l.at (drop l.patch-index l.patches ++ further) ≡ l.fn.out.items ++ with_texts l.source l.fn.at (l.patches ++ further)
