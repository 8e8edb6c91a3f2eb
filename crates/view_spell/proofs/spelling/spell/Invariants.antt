use Rattle.std.proofs.Common.{◌≡◌, ◌≤◌, true, take, length}
use Rattle.java_stretches.specs.Patches.{plain_patches}
use Rattle.view_statements.specs.Slices.{all_sliced}
use Rattle.view_spell.specs.Placed.{are_apart, patches_of, slices_with, AreAnswered}
use Rattle.view_spell.specs.Reading.{seen_as}
use Rattle.view_spell.proofs.spelling.spell.Given as goal

-- the slices of the methods so far have answers
abbrev pub invariant-loop-sliced : goal.invariant-loop-sliced
invariant-loop-sliced l = record {
  within : l.last ≤ length l.seen.source.now;
  apart : are_apart 0 l.last (patches_of l.spelled) ≡ true;
  answers : AreAnswered (seen_as l.seen) (slices_with (all_sliced (take l.sliced-index l.methods))) (plain_patches l.patches) l.spelled (plain_patches l.rest);
}
