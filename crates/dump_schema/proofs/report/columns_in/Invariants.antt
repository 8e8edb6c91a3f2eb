use Rattle.std.proofs.Common.{◌≡◌, ◌+◌, ◌≤◌, length, drop}
use Rattle.dump_text.specs.Entries.{columns_of}
use Rattle.dump_schema.proofs.report.columns_in.Given as goal

-- those that are passed and those that are left are all
abbrev pub invariant-loop-part : goal.invariant-loop-part
invariant-loop-part l = (l.count + length (columns_of (drop l.part-index l.parts)) ≡ length (columns_of l.parts)) × (l.count ≤ l.part-index)
