use Rattle.std.proofs.Common.{◌≡◌, [], drop}
use Rattle.dump_schema.specs.Entries as specs
use Rattle.dump_schema.specs.Going.{all_entries}
use Rattle.dump_schema.proofs.tables.chosen_entries.Given as goal

-- the entries so far and those of the tables that are left are all
abbrev pub invariant-loop-table : goal.invariant-loop-table
invariant-loop-table l = all_entries l.choice l.drawing (drop l.table-index l.tables) ≡ specs.entries_from l.choice [] l.tables
