use Rattle.std.proofs.Common.{◌≡◌, ◌++◌, drop}
use Rattle.plans.specs.Tables.{table_files}
use Rattle.plans.proofs.tables.file_names.Given as goal

-- the files so far and those of the tables that are left are all files
abbrev pub invariant-loop-table : goal.invariant-loop-table
invariant-loop-table l = l.names ++ table_files l.folder (drop l.table-index l.tables) ≡ table_files l.folder l.tables
