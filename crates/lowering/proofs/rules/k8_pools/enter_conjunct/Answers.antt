use Rattle.std.proofs.Common.{◌≡◌, ◌<◌, ◌∙◌, List, length, ap, arith}
use Rattle.std.specs.List.{filter}
use Rattle.std.proofs.lemmas.List.{length-map}
use Rattle.std.proofs.lemmas.Result.{on_ok_weaker}
use Rattle.tor_terms.specs.declared.term.Formula.{Formula}
use Rattle.tor_terms.specs.Plain.{form_of, forms_of}
use Rattle.kernel_lang.specs.Pools.{conjuncts, may_enter}
use Rattle.lowering.specs.InCode.Capped.{all_in}
use Rattle.lowering.proofs.Ruled.CappedPools.{conjunct_in, more_capped}
use Rattle.lowering.proofs.rules.k8_pools.enter_conjunct.Goals as goal

pub returns-then-len-gt16 : goal.returns-then-len-gt16
returns-then-len-gt16 c =
    let e : length (forms_of c.args.pool.now) ≡ length c.args.pool.now = length-map c.args.pool.now form_of in
    let h : 16 < length (forms_of c.args.pool.now) = omega arith in
    more_capped (forms_of c.args.pool.now) (filter (may_enter c.args.scope.atoms.now c.args.scope.chain.now c.args.scope.base) (conjuncts (form_of c.args.f.now))) h

pub returns : goal.returns
returns c =
    on_ok_weaker c.enter_all.result (λ h. conjunct_in (may_enter c.args.scope.atoms.now c.args.scope.chain.now c.args.scope.base) (forms_of c.args.pool.now) (forms_of c.in_ok-own.own) (forms_of c.enter_all.new.pool) (form_of c.args.f.now)
    c.requires
    c.in_ok-own.ensures
    (h ∙ ap (λ (l : List Formula). all_in (forms_of c.args.pool.now) (forms_of l)) c.as_slice.ensures)) c.enter_all.ensures
