use Rattle.std.proofs.Common.{◌≡◌}
use Rattle.templates.specs.Binomial.{binomial}
use Rattle.templates.proofs.numbered.choose.Given as goal

abbrev pub invariant-loop-chosen : goal.invariant-loop-chosen
invariant-loop-chosen l = l.ways ≡ binomial l.n l.chosen
