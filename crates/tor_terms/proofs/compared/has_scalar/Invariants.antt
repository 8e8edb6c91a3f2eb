use Rattle.std.proofs.Common.{◌≡◌, drop}
use Rattle.std.specs.List.{list_any}
use Rattle.qbs_base.specs.Scalar.{scalar_same}
use Rattle.tor_terms.proofs.compared.has_scalar.Given as goal

abbrev pub invariant-loop-y : goal.invariant-loop-y
invariant-loop-y l = list_any (scalar_same l.x) l.xs ≡ list_any (scalar_same l.x) (drop l.y-index l.xs)
