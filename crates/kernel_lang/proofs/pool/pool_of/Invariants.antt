use Rattle.std.proofs.Common.{◌≡◌, [], drop}
use Rattle.std.specs.List.{filter, flat_map}
use Rattle.tor_terms.specs.Plain.{forms_of}
use Rattle.kernel_lang.specs.Pools.{all_entered, may_enter, conjuncts}
use Rattle.kernel_lang.proofs.pool.pool_of.Given as goal

abbrev pub invariant-loop-f : goal.invariant-loop-f
invariant-loop-f l =
    all_entered (forms_of l.pool) (filter (may_enter l.atoms l.chain l.base) (flat_map conjuncts (forms_of (drop l.f-index l.conditions))))
    ≡ all_entered [] (filter (may_enter l.atoms l.chain l.base) (flat_map conjuncts (forms_of l.conditions)))
