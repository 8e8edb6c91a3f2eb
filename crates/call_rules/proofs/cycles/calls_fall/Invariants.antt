use Rattle.std.proofs.Common.{◌≡◌, ◌++◌, drop, map}
use Rattle.std.specs.List.{list_all}
use Rattle.call_rules.specs.Cycles.{falls}
use Rattle.call_rules.proofs.cycles.calls_fall.Given as goal

abbrev pub invariant-loop-call : goal.invariant-loop-call
invariant-loop-call l = list_all (falls l.ranks l.rank) (drop l.call-index l.calls) ≡ list_all (falls l.ranks l.rank) l.calls
