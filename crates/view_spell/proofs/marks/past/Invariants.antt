use Rattle.std.proofs.Common.{◌≡◌, drop}
use Rattle.view_spell.specs.Marks.{past}
use Rattle.view_spell.proofs.marks.past.Given as goal

abbrev pub invariant-loop-patch : goal.invariant-loop-patch
invariant-loop-patch l = past l.mark (drop l.patch-index l.patches) ≡ past l.fn.mark l.patches
