use Rattle.std.proofs.Common.{◌≡◌, drop}
use Rattle.dump_schema.specs.Entries as specs
use Rattle.dump_schema.proofs.remarks.has_name.Given as goal

-- no table that is passed has the name
abbrev pub invariant-loop-table : goal.invariant-loop-table
invariant-loop-table l = specs.has_name (drop l.table-index l.tables) l.name ≡ specs.has_name l.tables l.name
