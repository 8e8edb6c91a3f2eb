use Rattle.std.proofs.Common.{◌≡◌, ◌++◌, drop}
use Rattle.std.specs.List.{flat_map}
use Rattle.std.specs.String.{string_bytes}
use Rattle.store_parts.specs.Texts.{row_text}
use Rattle.store_parts.proofs.print.push_each_row.Given as goal

-- what is written and the text of what is left is the text of all
abbrev pub invariant-loop-row : goal.invariant-loop-row
invariant-loop-row l = string_bytes l.out ++ flat_map row_text (drop l.row-index l.rows) ≡ string_bytes l.fn.out ++ flat_map row_text l.rows
