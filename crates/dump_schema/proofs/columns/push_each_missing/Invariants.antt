use Rattle.std.proofs.Common.{◌≡◌, ◌++◌, drop}
use Rattle.std.specs.List.{flat_map}
use Rattle.dump_schema.specs.Columns as specs
use Rattle.dump_schema.proofs.columns.push_each_missing.Given as goal

-- what is said and what is left to say is all
abbrev pub invariant-loop-name : goal.invariant-loop-name
invariant-loop-name l = l.parts ++ flat_map (specs.missing_part l.columns) (drop l.name-index l.names) ≡ l.fn.parts ++ flat_map (specs.missing_part l.columns) l.names
