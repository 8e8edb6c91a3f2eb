use Rattle.std.proofs.Common.{◌≡◌, ◌≤◌, true, List, ◌++◌, take, length}
use Rattle.java_stretches.specs.Patches.{PlainPatch, plain_patches}
use Rattle.view_shapes.specs.declared.method.Method.{Method}
use Rattle.view_statements.specs.Slices.{PlainSlice}
use Rattle.view_spell.specs.Placed.{are_apart, patches_of, AreAnswered}
use Rattle.view_spell.specs.Reading.{seen_as}
use Rattle.view_spell.proofs.Answered.{slices_of}
use Rattle.view_spell.proofs.spelling.spell_method.Given as goal

-- the slices so far have answers
abbrev pub invariant-loop-slice : goal.invariant-loop-slice
invariant-loop-slice l = record {
  within : l.last ≤ length l.seen.source.now;
  apart : are_apart 0 l.fn.last (patches_of l.fn.spelled) ≡ true → are_apart 0 l.last (patches_of l.spelled) ≡ true;
  answers : (ss : List (Method × PlainSlice)) (ps : List PlainPatch) → AreAnswered (seen_as l.seen) ss ps l.fn.spelled (plain_patches l.patches)
      → AreAnswered (seen_as l.seen) (ss ++ slices_of l.sliced.read.method (take l.slice-index l.sliced.slices)) ps l.spelled (plain_patches l.rest);
}
