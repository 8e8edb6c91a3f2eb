use Rattle.std.proofs.Common.{◌≡◌, ◌+◌, ◌∷◌, List, ap, drop, subst, sym}
use Rattle.std.specs.List.{filter, flat_map}
use Rattle.tor_terms.specs.Plain.{Form, form_of, forms_of}
use Rattle.tor_terms.specs.declared.term.Formula.{Formula}
use Rattle.kernel_lang.specs.Pools.{all_entered, conjuncts, may_enter, pool_of}
use Rattle.lowering.specs.InCode.Capped.{IsCapped, whole}
use Rattle.lowering.proofs.Ruled.CappedPools.{next_capped}
use Rattle.loop_text.proofs.Trees.Walked.{next_item}
use Rattle.lowering.proofs.rules.k8_pools.capped_pool.Goals as goal

pub loop-f-init : goal.loop-f-init
loop-f-init c =
    let all : List Form = pool_of c.args.scope.atoms.now (forms_of c.args.conditions.now) c.args.scope.chain.now c.args.scope.base in
    subst (λ (p : List Formula). IsCapped (all_entered (forms_of p) (filter (may_enter c.args.scope.atoms.now c.args.scope.chain.now c.args.scope.base) (flat_map conjuncts (forms_of c.args.conditions.now)))) all) (sym c.new-pool.ensures) (whole all)

pub loop-f-preserved : goal.loop-f-preserved
loop-f-preserved c =
    let e : forms_of (drop c.loop-f.f-index c.args.conditions.now) ≡ form_of c.f-item.result ∷ forms_of (drop (c.loop-f.f-index + 1) c.args.conditions.now) =
    ap forms_of (next_item c.args.conditions.now c.loop-f.f-index c.f-item.result c.loop-f-test.true c.f-item.is) in
    next_capped (may_enter c.args.scope.atoms.now c.args.scope.chain.now c.args.scope.base) (forms_of c.loop-f.pool) (forms_of c.enter_conjuncts.new.pool) (form_of c.f-item.result)
    (forms_of (drop (c.loop-f.f-index + 1) c.args.conditions.now)) (forms_of (drop c.loop-f.f-index c.args.conditions.now)) _
    e c.in_ok-enter_conjuncts.ensures c.loop-f.invariant
