use Rattle.std.proofs.Common.{◌≡◌, drop}
use Rattle.view_slices.specs.Words.{are_names_among}
use Rattle.view_slices.proofs.words.are_names_among.Given as goal

abbrev pub invariant-loop-other : goal.invariant-loop-other
invariant-loop-other l = are_names_among l.rest (drop l.other-index l.all) ≡ are_names_among l.names l.all
