use Rattle.std.proofs.Common.{◌≡◌, ◌++◌, drop}
use Rattle.std.specs.List.{flat_map}
use Rattle.narrowing.specs.Reports.{walk_line}
use Rattle.narrowing.proofs.lines.push_walks.Given as goal

-- what is written and the lines that are left are all lines
abbrev pub invariant-loop-w : goal.invariant-loop-w
invariant-loop-w l = l.out.items ++ flat_map walk_line (drop l.w-index l.walks) ≡ l.fn.out.items ++ flat_map walk_line l.walks
