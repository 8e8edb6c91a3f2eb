use Rattle.std.proofs.Common.{◌≡◌, drop}
use Rattle.view_slices.specs.Words.{same_numbers}
use Rattle.view_slices.proofs.words.same_numbers.Given as goal

abbrev pub invariant-loop-m : goal.invariant-loop-m
invariant-loop-m l = same_numbers (drop l.m-index l.numbers) l.rest ≡ same_numbers l.numbers l.others
