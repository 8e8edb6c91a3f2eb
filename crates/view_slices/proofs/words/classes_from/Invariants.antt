use Rattle.std.proofs.Common.{◌≡◌, ◌++◌, drop}
use Rattle.view_slices.specs.Words.{classes_from}
use Rattle.view_slices.proofs.words.classes_from.Given as goal

abbrev pub invariant-loop-c : goal.invariant-loop-c
invariant-loop-c l = l.list ++ classes_from l.class l.number (drop l.c-index l.classes) ≡ classes_from l.class 0 l.classes
