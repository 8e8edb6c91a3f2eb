use Rattle.std.proofs.Common.{◌≡◌, ◌++◌, drop, map}
use Rattle.call_rules.specs.Cycles.{leads_round}
use Rattle.call_rules.proofs.cycles.is_way.Given as goal

abbrev pub invariant-loop-j : goal.invariant-loop-j
invariant-loop-j l = leads_round l.calls l.last (drop l.j-index l.way) l.to ≡ leads_round l.calls l.i l.way l.to
