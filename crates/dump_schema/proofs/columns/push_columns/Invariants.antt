use Rattle.std.proofs.Common.{◌≡◌, ◌++◌, [], drop}
use Rattle.std.specs.Option.{option_copied}
use Rattle.dump_schema.specs.Columns as specs
use Rattle.dump_schema.specs.Going.{all_parts}
use Rattle.dump_schema.proofs.columns.push_columns.Given as goal

-- the lines so far and those of the columns that are left are all
abbrev pub invariant-loop-column : goal.invariant-loop-column
invariant-loop-column l = all_parts (option_copied l.chosen) l.lines (drop l.column-index l.columns) ≡ l.fn.parts ++ specs.parts_from (option_copied l.chosen) [] l.columns
