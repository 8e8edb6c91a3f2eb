use Rattle.std.proofs.Common.{◌≡◌, ◌++◌, drop}
use Rattle.std.specs.List.{flat_map}
use Rattle.std.specs.String.{string_bytes}
use Rattle.deriv_check.specs.Bundles.{entries_of}
use Rattle.deriv_check.specs.Texts.{entry_text}
use Rattle.deriv_check.proofs.print.push_entries.Given as goal

-- what is written and the text of what is left is the text of all
abbrev pub invariant-loop-entry : goal.invariant-loop-entry
invariant-loop-entry l = string_bytes l.out ++ flat_map entry_text (entries_of (drop l.entry-index l.entries)) ≡ string_bytes l.fn.out ++ flat_map entry_text (entries_of l.entries)
