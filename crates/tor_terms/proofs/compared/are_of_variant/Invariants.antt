use Rattle.std.proofs.Common.{◌≡◌, drop}
use Rattle.std.specs.List.{list_all}
use Rattle.tor_terms.specs.Truth as spec
use Rattle.tor_terms.proofs.compared.are_of_variant.Given as goal

abbrev pub invariant-loop-y : goal.invariant-loop-y
invariant-loop-y l = list_all (spec.same_variant l.x) l.xs ≡ list_all (spec.same_variant l.x) (drop l.y-index l.xs)
