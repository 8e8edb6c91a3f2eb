use Rattle.std.proofs.Common.{◌≡◌, ◌++◌, drop}
use Rattle.std.specs.List.{flat_map}
use Rattle.verdicts.specs.Reports.{verdict_line}
use Rattle.verdicts.proofs.lines.push_verdicts.Given as goal

-- what is written and the lines of the verdicts that are left are all lines
abbrev pub invariant-loop-v : goal.invariant-loop-v
invariant-loop-v l = l.out.items ++ flat_map verdict_line (drop l.v-index l.verdicts) ≡ l.fn.out.items ++ flat_map verdict_line l.verdicts
