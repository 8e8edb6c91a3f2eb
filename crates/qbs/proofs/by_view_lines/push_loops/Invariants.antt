use Rattle.std.proofs.Common.{◌≡◌, filter}
use Rattle.qbs.specs.RewriteByView.{is_tried}
use Rattle.qbs.proofs.by_view_lines.push_loops.Given as goal

-- the lines of loops that were tried are those that were there
abbrev pub invariant-loop : goal.invariant-loop
invariant-loop l = filter is_tried l.lines ≡ filter is_tried l.fn.lines
