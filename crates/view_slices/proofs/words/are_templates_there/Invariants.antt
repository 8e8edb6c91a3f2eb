use Rattle.std.proofs.Common.{◌≡◌, drop}
use Rattle.view_slices.specs.Slices.{file_of}
use Rattle.view_slices.specs.Words.{are_templates_there}
use Rattle.view_slices.proofs.words.are_templates_there.Given as goal

abbrev pub invariant-loop-n : goal.invariant-loop-n
invariant-loop-n l =
    are_templates_there l.map (file_of l.file) l.method (drop l.n-index l.numbers) ≡ are_templates_there l.map (file_of l.file) l.method l.numbers
