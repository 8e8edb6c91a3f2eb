use Rattle.std.proofs.Common.{◌≡◌, map, take}
use Rattle.view_slices.specs.Slices.{file_of}
use Rattle.view_slices.specs.Words.{is_unhidden}
use Rattle.view_slices.proofs.words.all_unhidden.Given as goal

abbrev pub invariant-loop-constant : goal.invariant-loop-constant
invariant-loop-constant l = l.list ≡ map (is_unhidden (file_of l.file)) (take l.constant-index l.constants)
