use Rattle.std.proofs.Common.{◌≡◌, ◌++◌, drop, map}
use Rattle.std.specs.List.{list_any}
use Rattle.call_rules.specs.Cycles.{calls_it}
use Rattle.call_rules.proofs.cycles.some_call_of.Given as goal

abbrev pub invariant-loop-call : goal.invariant-loop-call
invariant-loop-call l = list_any (calls_it l.j) (drop l.call-index l.list) ≡ list_any (calls_it l.j) l.list
