use Rattle.std.proofs.Common.{◌≡◌, ◌+◌, drop}
use Rattle.dump_schema.specs.Report as specs
use Rattle.dump_schema.proofs.report.declared_columns.Given as goal

-- those that are passed and those that are left are all
abbrev pub invariant-loop-table : goal.invariant-loop-table
invariant-loop-table l = l.count + specs.declared_columns (drop l.table-index l.tables) ≡ specs.declared_columns l.tables
