use Rattle.std.proofs.Common.{◌≡◌, ◌≤◌, ◌++◌, drop, take, length}
use Rattle.sql_parse.specs.Types.{froms_of}
use Rattle.sql_parse.proofs.typing.enter.Given as goal

abbrev pub invariant-loop-from : goal.invariant-loop-from
invariant-loop-from l = record {
  added : froms_of l.froms.items ++ drop l.from-index l.own ≡ froms_of l.fn.froms.items ++ l.own;
  room : length l.fn.froms.items ≤ length l.froms.items;
  kept : take (length l.fn.froms.items) l.froms.items ≡ l.fn.froms.items;
}
