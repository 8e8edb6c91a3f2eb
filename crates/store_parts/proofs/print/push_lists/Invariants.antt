use Rattle.std.proofs.Common.{◌≡◌, ◌++◌, drop}
use Rattle.std.specs.List.{flat_map}
use Rattle.std.specs.String.{string_bytes}
use Rattle.store_parts.specs.Texts.{list_text}
use Rattle.store_parts.proofs.print.push_lists.Given as goal

-- what is written and the text of what is left is the text of all
abbrev pub invariant-loop-values : goal.invariant-loop-values
invariant-loop-values l = string_bytes l.out ++ flat_map list_text (drop l.values-index l.lists) ≡ string_bytes l.fn.out ++ flat_map list_text l.lists
