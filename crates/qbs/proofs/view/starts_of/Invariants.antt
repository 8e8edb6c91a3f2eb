use Rattle.std.proofs.Common.{◌≡◌, ◌++◌, drop}
use Rattle.std.specs.List.{flat_map}
use Rattle.view_slices.specs.Reading.{all_sliced}
use Rattle.view_slices.specs.Slices.{file_of}
use Rattle.qbs.specs.View.{method_starts}
use Rattle.qbs.proofs.view.starts_of.Given as goal

-- the starts so far and those of the methods that are left are all of them
abbrev pub invariant-loop-method : goal.invariant-loop-method
invariant-loop-method l = l.starts ++ flat_map (method_starts (file_of l.file)) (all_sliced (drop l.method-index l.methods)) ≡ flat_map (method_starts (file_of l.file)) (all_sliced l.methods)
