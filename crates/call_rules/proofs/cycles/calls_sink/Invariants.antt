use Rattle.std.proofs.Common.{◌≡◌, ◌++◌, drop, map}
use Rattle.std.specs.List.{list_all}
use Rattle.call_rules.specs.Cycles.{sinks}
use Rattle.call_rules.proofs.cycles.calls_sink.Given as goal

abbrev pub invariant-loop-call : goal.invariant-loop-call
invariant-loop-call l = list_all (sinks l.ranks l.rank) (drop l.call-index l.calls) ≡ list_all (sinks l.ranks l.rank) l.calls
