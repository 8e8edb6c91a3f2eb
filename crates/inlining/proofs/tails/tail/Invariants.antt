use Rattle.std.proofs.Common.{◌≡◌, drop}
use Rattle.inlining.specs.Endings.{tail_from, tail_of}
use Rattle.inlining.proofs.tails.tail.Given as goal

abbrev pub invariant-loop-i : goal.invariant-loop-i
invariant-loop-i l = tail_from l.tail (drop l.i l.name) ≡ tail_of l.name
