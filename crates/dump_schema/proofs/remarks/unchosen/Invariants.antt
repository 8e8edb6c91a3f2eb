use Rattle.std.proofs.Common.{◌≡◌, ◌+◌, ◌≤◌, drop}
use Rattle.std.specs.Option.{option_copied}
use Rattle.dump_schema.specs.Entries as specs
use Rattle.dump_schema.proofs.remarks.unchosen.Given as goal

-- those that are passed and those that are left are all
abbrev pub invariant-loop-table : goal.invariant-loop-table
invariant-loop-table l = (l.count + specs.unchosen (option_copied l.chosen) (drop l.table-index l.tables) ≡ specs.unchosen (option_copied l.chosen) l.tables) × (l.count ≤ l.table-index)
