use Rattle.std.proofs.Common.{◌≡◌, ◌+◌, drop}
use Rattle.java_ast.specs.Reading.{expression}
use Rattle.java_loops.specs.Lowering.Numbering.{number_where, same_entry}
use Rattle.loop_text.specs.Sites.Reading.{exprs_lent}
use Rattle.lowering.proofs.numbering.named_values.entry_number.Given as goal

abbrev pub invariant-loop-i : goal.invariant-loop-i
invariant-loop-i l = l.i + number_where (same_entry (expression l.e)) (exprs_lent (drop l.i l.entries)) ≡ number_where (same_entry (expression l.e)) (exprs_lent l.entries)
