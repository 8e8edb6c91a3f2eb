use Rattle.std.proofs.Common.{◌≡◌, ◌++◌, drop}
use Rattle.view_slices.specs.Words.{clear_among, names_of}
use Rattle.view_slices.proofs.words.add_clear_classes.Given as goal

abbrev pub invariant-loop-class : goal.invariant-loop-class
invariant-loop-class l = l.list ++ clear_among l.items (names_of (drop l.class-index l.classes)) ≡ l.fn.list ++ clear_among l.items (names_of l.classes)
