use Rattle.std.specs.List.{list_all}
use Rattle.std.proofs.Common.{◌≡◌, drop, map}
use Rattle.kernel_lang.specs.Plain.{accumulator}
use Rattle.tor_terms.specs.Plain.{forms_of}
use Rattle.lowering.specs.InCode.Capped.{has_few}
use Rattle.lowering.proofs.rules.k8_pools.pools_are_small.Given as goal

abbrev pub invariant-loop-a : goal.invariant-loop-a
invariant-loop-a l = list_all (has_few l.atoms (forms_of l.conditions)) (map accumulator (drop l.a-index l.accs)) ≡ list_all (has_few l.atoms (forms_of l.conditions)) (map accumulator l.accs)
