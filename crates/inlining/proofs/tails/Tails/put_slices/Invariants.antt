use Rattle.std.proofs.Common.{◌≡◌, ◌≤◌, ◌-◌, length, take, drop}
use Rattle.java_calls.specs.ProgramNames.{dotted_parts}
use Rattle.inlining.specs.Endings.{all_noted, onto}
use Rattle.inlining.proofs.tails.Tails.put_slices.Given as goal

abbrev pub invariant-loop-i : goal.invariant-loop-i
invariant-loop-i l = (l.start ≤ l.i) × (l.i ≤ length l.dotted) × (all_noted l.self (onto (take (l.i - l.start) (drop l.start l.dotted)) (dotted_parts (drop l.i l.dotted))) ≡ all_noted l.fn.self (dotted_parts l.dotted))
