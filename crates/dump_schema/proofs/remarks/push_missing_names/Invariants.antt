use Rattle.std.proofs.Common.{◌≡◌, ◌++◌, codes, drop}
use Rattle.std.specs.List.{flat_map}
use Rattle.dump_schema.specs.Entries as specs
use Rattle.dump_schema.proofs.remarks.push_missing_names.Given as goal

-- what is said and what is left to say is all
abbrev pub invariant-loop-name : goal.invariant-loop-name
invariant-loop-name l = l.entries ++ flat_map (specs.missing_entry (codes "--tables") l.tables) (drop l.name-index l.names) ≡ l.fn.entries ++ flat_map (specs.missing_entry (codes "--tables") l.tables) l.names
