use Rattle.std.proofs.Common.{◌≡◌, drop}
use Rattle.view_slices.specs.Words.{are_constants_among}
use Rattle.view_slices.proofs.words.are_constants_among.Given as goal

abbrev pub invariant-loop-d : goal.invariant-loop-d
invariant-loop-d l = are_constants_among l.rest (drop l.d-index l.all) ≡ are_constants_among l.constants l.all
