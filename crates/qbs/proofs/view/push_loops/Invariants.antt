use Rattle.std.proofs.Common.{◌≡◌, filter}
use Rattle.qbs.specs.View.{is_slice_line}
use Rattle.qbs.proofs.view.push_loops.Given as goal

-- the lines of slices are those that were there
abbrev pub invariant-loop : goal.invariant-loop
invariant-loop l = filter is_slice_line l.lines ≡ filter is_slice_line l.fn.lines
