use Rattle.std.proofs.Common.{◌≡◌, ◌+◌, ◌++◌, string_bytes, drop}
use Rattle.sql_ast.specs.Canonical.{further_items_text}
use Rattle.sql_text.proofs.print.put_further_items.Given as goal

abbrev pub invariant-loop-from : goal.invariant-loop-from
invariant-loop-from l = string_bytes l.out ++ further_items_text (l.number + 1) (drop l.from-index l.froms) ≡ string_bytes l.fn.out ++ further_items_text (l.last + 1) l.froms
