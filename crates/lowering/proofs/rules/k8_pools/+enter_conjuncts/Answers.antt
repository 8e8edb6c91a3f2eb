use Rattle.std.proofs.lemmas.Result.{on_ok_weaker}
use Rattle.tor_terms.specs.Plain.{form_of, forms_of}
use Rattle.kernel_lang.specs.Pools.{may_enter}
use Rattle.lowering.proofs.Ruled.CappedPools.{both_capped}
use Rattle.lowering.proofs.rules.k8_pools.+enter_conjuncts.Goals as goal

pub returns-in_ok-enter_conjuncts-in-Both : goal.returns-in_ok-enter_conjuncts-in-Both
returns-in_ok-enter_conjuncts-in-Both t c =
    rw c.in-Both.is
    (on_ok_weaker c.enter_conjuncts-in-Both.result (λ h. both_capped (may_enter c.args.scope.atoms.now c.args.scope.chain.now c.args.scope.base) (forms_of c.args.pool.now) (forms_of c.enter_conjuncts.new.pool) (forms_of c.enter_conjuncts-in-Both.new.pool) (form_of c.in-Both.g.value) (form_of c.in-Both.h.value)
    (rw c.deref.ensures at c.in_ok-enter_conjuncts-in-Both.ensures)
    (rw c.deref-in-Both.ensures at h)) c.enter_conjuncts-in-Both.ensures)
