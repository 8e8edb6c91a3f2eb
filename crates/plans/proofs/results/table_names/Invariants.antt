use Rattle.std.proofs.Common.{◌≡◌, ◌++◌, drop}
use Rattle.plans.specs.Results.{names_of}
use Rattle.plans.proofs.results.table_names.Given as goal

-- the names so far and those of the tables that are left are all names
abbrev pub invariant-loop-table : goal.invariant-loop-table
invariant-loop-table l = l.names ++ names_of (drop l.table-index l.tables) ≡ names_of l.tables
