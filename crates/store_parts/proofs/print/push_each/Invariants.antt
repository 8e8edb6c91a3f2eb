use Rattle.std.proofs.Common.{◌≡◌, ◌++◌, drop}
use Rattle.std.specs.List.{flat_map}
use Rattle.std.specs.String.{string_bytes}
use Rattle.store_parts.specs.Texts.{value_text}
use Rattle.store_parts.proofs.print.push_each.Given as goal

-- what is written and the text of what is left is the text of all
abbrev pub invariant-loop-x : goal.invariant-loop-x
invariant-loop-x l = string_bytes l.out ++ flat_map value_text (drop l.x-index l.values) ≡ string_bytes l.fn.out ++ flat_map value_text l.values
