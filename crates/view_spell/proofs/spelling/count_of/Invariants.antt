use Rattle.std.proofs.Common.{◌≡◌, ◌+◌, length}
use Rattle.std.specs.List.{prefix_len}
use Rattle.java_stretches.specs.Patches.{plain_patches}
use Rattle.view_spell.specs.Placed.{is_in_method}
use Rattle.view_spell.proofs.spelling.count_of.Given as goal

-- as many were counted as aren't left, and those to be counted yet are at the front of what is left
abbrev pub invariant-loop-rest : goal.invariant-loop-rest
invariant-loop-rest l = record {
  counted : l.count + length l.rest ≡ length l.patches;
  ahead : l.count + prefix_len (is_in_method l.number) (plain_patches l.rest) ≡ prefix_len (is_in_method l.number) (plain_patches l.patches);
}

abbrev pub decreases-loop-rest : goal.decreases-loop-rest
decreases-loop-rest l = length l.rest
