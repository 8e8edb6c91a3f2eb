use Rattle.std.proofs.Common.{drop}
use Rattle.std.specs.List.{filter, flat_map}
use Rattle.tor_terms.specs.Plain.{forms_of}
use Rattle.kernel_lang.specs.Pools.{all_entered, may_enter, conjuncts, pool_of}
use Rattle.lowering.specs.InCode.Capped.{IsCapped}
use Rattle.lowering.proofs.rules.k8_pools.capped_pool.Given as goal

abbrev pub invariant-loop-f : goal.invariant-loop-f
invariant-loop-f l = IsCapped (all_entered (forms_of l.pool) (filter (may_enter l.scope.atoms.now l.scope.chain.now l.scope.base) (flat_map conjuncts (forms_of (drop l.f-index l.conditions))))) (pool_of l.scope.atoms.now (forms_of l.conditions) l.scope.chain.now l.scope.base)
