use Rattle.std.proofs.Common.{◌≡◌, ◌++◌, drop, filter}
use Rattle.qbs.specs.View.{is_slice_line, slice_lines}
use Rattle.qbs.proofs.view.lines_of.Given as goal

-- the lines of slices so far and those of the starts that are left are all of them
abbrev pub invariant-loop-start : goal.invariant-loop-start
invariant-loop-start l = filter is_slice_line l.lines ++ slice_lines l.source.bytes.now l.k (drop l.start-index l.starts) ≡ slice_lines l.source.bytes.now 1 l.starts
