use Rattle.std.proofs.Common.{take}
use Rattle.sql_rows.specs.Firsts.{AreFirsts}
use Rattle.sql_rows.proofs.firsts.first_occurrences.Given as goal

abbrev pub invariant-loop-key : goal.invariant-loop-key
invariant-loop-key g l = AreFirsts g.K.Ord.cmp l.seen l.list.items (take l.key-index l.keys)
