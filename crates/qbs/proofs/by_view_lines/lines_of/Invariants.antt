use Rattle.std.proofs.Common.{◌≡◌, ◌++◌, drop, filter}
use Rattle.qbs.specs.Fates as specs
use Rattle.qbs.specs.RewriteByView.{is_tried}
use Rattle.qbs.proofs.by_view_lines.lines_of.Given as goal

-- the lines of loops so far and those of the verdicts that are left are all of them
abbrev pub invariant-loop-v : goal.invariant-loop-v
invariant-loop-v l =
    filter is_tried l.lines ++ specs.lines_of l.r.bytes.now l.r.cells.now l.r.fates.now (drop l.v-index l.verdicts)
    ≡ specs.lines_of l.r.bytes.now l.r.cells.now l.r.fates.now l.verdicts
