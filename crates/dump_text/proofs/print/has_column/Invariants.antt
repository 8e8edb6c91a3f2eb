use Rattle.std.proofs.Common.{◌≡◌, drop}
use Rattle.dump_text.specs.Text as specs
use Rattle.dump_text.proofs.print.has_column.Given as goal

-- no column is among those that are passed
abbrev pub invariant-loop-part : goal.invariant-loop-part
invariant-loop-part l = specs.has_column (drop l.part-index l.parts) ≡ specs.has_column l.parts
