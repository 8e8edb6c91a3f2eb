use Rattle.std.proofs.Common.{◌≡◌, ◌∷◌, ◌+◌, drop, arith, sym, ap, ◌∙◌}
use Rattle.std.proofs.lemmas.List.{at_drop_more}
use Rattle.tor_terms.specs.declared.term.Formula.{Formula}
use Rattle.tor_terms.specs.Plain.{form_of, forms_of}
use Rattle.kernel_lang.specs.Pools.{may_enter}
use Rattle.kernel_lang.proofs.Entering.{condition_entered}
use Rattle.kernel_lang.proofs.pool.pool_of.Goals as goal

pub loop-f-preserved : goal.loop-f-preserved
loop-f-preserved c =
    let e : forms_of (drop c.loop-f.f-index c.args.conditions.now) ≡ form_of c.f-item.result ∷ forms_of (drop (c.loop-f.f-index + 1) c.args.conditions.now) =
    at_drop_more forms_of c.args.conditions.now c.loop-f.f-index c.f-item.result (omega arith)
    ∙ ap (λ (f : Formula). form_of f ∷ forms_of (drop (c.loop-f.f-index + 1) c.args.conditions.now)) (sym c.f-item.is) in
    condition_entered (may_enter c.args.atoms.now c.args.chain.now c.args.base) (forms_of c.loop-f.pool) (forms_of c.in_ok-pool.pool) (form_of c.f-item.result)
    (forms_of (drop (c.loop-f.f-index + 1) c.args.conditions.now)) (forms_of (drop c.loop-f.f-index c.args.conditions.now)) _
    e c.in_ok-pool.ensures c.loop-f.invariant
