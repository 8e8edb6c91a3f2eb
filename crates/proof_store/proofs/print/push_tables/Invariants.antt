use Rattle.std.proofs.Common.{◌≡◌, ◌++◌, drop}
use Rattle.std.specs.List.{flat_map}
use Rattle.std.specs.String.{string_bytes}
use Rattle.store_parts.specs.Texts.{table_text}
use Rattle.proof_store.proofs.print.push_tables.Given as goal

-- what is written and the text of what is left is the text of all
abbrev pub invariant-loop-number : goal.invariant-loop-number
invariant-loop-number l = string_bytes l.out ++ flat_map table_text (drop l.number l.db) ≡ string_bytes l.fn.out ++ flat_map table_text l.db
