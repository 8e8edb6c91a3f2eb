use Rattle.std.proofs.Common.{◌≡◌, ◌++◌, drop, map}
use Rattle.call_rules.specs.Cycles.{all_sink}
use Rattle.call_rules.proofs.cycles.are_ranks.Given as goal

abbrev pub invariant-loop-i : goal.invariant-loop-i
invariant-loop-i l = all_sink l.ranks l.i (drop l.i l.calls) ≡ all_sink l.ranks 0 l.calls
