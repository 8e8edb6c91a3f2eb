use Rattle.std.proofs.Common.{◌≡◌, ◌+◌, drop}
use Rattle.dump_text.specs.Entries.{tables_of}
use Rattle.dump_schema.specs.Report as specs
use Rattle.dump_schema.proofs.report.written_columns.Given as goal

-- those that are passed and those that are left are all
abbrev pub invariant-loop-entry : goal.invariant-loop-entry
invariant-loop-entry l = l.count + specs.written_columns (tables_of (drop l.entry-index l.entries)) ≡ specs.written_columns (tables_of l.entries)
