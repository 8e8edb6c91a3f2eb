use Rattle.std.proofs.Common.{◌≡◌, drop}
use Rattle.view_spell.specs.Placed.{are_apart}
use Rattle.view_spell.proofs.spelling.are_apart.Given as goal

abbrev pub invariant-loop-patch : goal.invariant-loop-patch
invariant-loop-patch l = are_apart l.from l.to (drop l.patch-index l.patches) ≡ are_apart l.fn.from l.to l.patches
