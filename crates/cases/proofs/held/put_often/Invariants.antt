use Rattle.std.proofs.Common.{◌≡◌, ◌++◌, ◌-◌}
use Rattle.std.specs.List.{repeat}
use Rattle.cases.proofs.held.put_often.Given as goal

-- what is there and the pieces that are left are all
abbrev pub invariant-loop : goal.invariant-loop
invariant-loop l = l.bytes.items ++ repeat (l.count - l.counter) (l.piece ++ l.end) ≡ l.fn.bytes.items ++ repeat l.count (l.piece ++ l.end)
