use Rattle.std.proofs.Common.{◌≡◌, ◌++◌, drop}
use Rattle.dump_text.specs.Text as specs
use Rattle.dump_text.proofs.print.push_further.Given as goal

-- what is written and the text of what is left is the text of all
abbrev pub invariant-loop-entry : goal.invariant-loop-entry
invariant-loop-entry l = l.out.items ++ specs.further_text (drop l.entry-index l.entries) ≡ l.fn.out.items ++ specs.further_text l.entries
