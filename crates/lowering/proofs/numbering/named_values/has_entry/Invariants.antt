use Rattle.std.proofs.Common.{◌≡◌, drop}
use Rattle.std.specs.List.{list_any}
use Rattle.java_ast.specs.Reading.{expression}
use Rattle.java_loops.specs.Lowering.Numbering.{same_entry}
use Rattle.loop_text.specs.Sites.Reading.{exprs_lent}
use Rattle.lowering.proofs.numbering.named_values.has_entry.Given as goal

abbrev pub invariant-loop-entry : goal.invariant-loop-entry
invariant-loop-entry l = list_any (same_entry (expression l.e)) (exprs_lent (drop l.entry-index l.entries)) ≡ list_any (same_entry (expression l.e)) (exprs_lent l.entries)
