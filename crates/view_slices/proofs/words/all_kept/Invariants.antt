use Rattle.std.proofs.Common.{◌≡◌, map, take}
use Rattle.view_slices.specs.Slices.{file_of}
use Rattle.view_slices.specs.Words.{is_kept}
use Rattle.view_slices.proofs.words.all_kept.Given as goal

abbrev pub invariant-loop-fetch : goal.invariant-loop-fetch
invariant-loop-fetch l = l.list ≡ map (is_kept l.m (file_of l.file)) (take l.fetch-index l.fetches)
