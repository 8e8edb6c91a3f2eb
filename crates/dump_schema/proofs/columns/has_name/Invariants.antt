use Rattle.std.proofs.Common.{◌≡◌, drop}
use Rattle.dump_schema.specs.Columns as specs
use Rattle.dump_schema.proofs.columns.has_name.Given as goal

-- no column that is passed has the name
abbrev pub invariant-loop-column : goal.invariant-loop-column
invariant-loop-column l = specs.has_name (drop l.column-index l.columns) l.name ≡ specs.has_name l.columns l.name
