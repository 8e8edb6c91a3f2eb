use Rattle.std.proofs.Common.{◌≡◌, ◌++◌, drop}
use Rattle.std.specs.List.{flat_map}
use Rattle.verdicts.specs.Lines.{line}
use Rattle.plans.proofs.results.push_lines.Given as goal

-- what is written and the lines that are left are all lines
abbrev pub invariant-loop-text : goal.invariant-loop-text
invariant-loop-text l = l.out.items ++ flat_map line (drop l.text-index l.lines) ≡ l.fn.out.items ++ flat_map line l.lines
