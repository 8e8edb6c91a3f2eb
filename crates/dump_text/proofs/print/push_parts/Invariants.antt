use Rattle.std.proofs.Common.{◌≡◌, ◌++◌, length}
use Rattle.dump_text.specs.Text as specs
use Rattle.dump_text.proofs.print.push_parts.Given as goal

-- what is written and the lines that are left are all lines
abbrev pub invariant-loop-rest : goal.invariant-loop-rest
invariant-loop-rest l = l.out.items ++ specs.parts_text l.rest ≡ l.fn.out.items ++ specs.parts_text l.parts

abbrev pub decreases-loop-rest : goal.decreases-loop-rest
decreases-loop-rest l = length l.rest
