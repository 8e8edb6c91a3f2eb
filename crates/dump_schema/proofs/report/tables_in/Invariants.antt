use Rattle.std.proofs.Common.{◌≡◌, ◌+◌, ◌≤◌, length, drop}
use Rattle.dump_text.specs.Entries.{tables_of}
use Rattle.dump_schema.proofs.report.tables_in.Given as goal

-- those that are passed and those that are left are all
abbrev pub invariant-loop-entry : goal.invariant-loop-entry
invariant-loop-entry l = (l.count + length (tables_of (drop l.entry-index l.entries)) ≡ length (tables_of l.entries)) × (l.count ≤ l.entry-index)
