use Rattle.std.proofs.Common.{[], ◌∷◌, length, map, refl, sym, ◌∙◌}
use Rattle.std.proofs.lemmas.Result.{err_from_is_err_and}
use Rattle.std.proofs.lemmas.List.{map-append}
use Rattle.tor_axioms.specs.Accepts.{proof_of}
use Rattle.deriv_parts.specs.Limits.{most_splits}
use Rattle.deriv_check.specs.Reading.{ends_proofs, derivation_at, proofs_at}
use Rattle.readers.proofs.Loops.{many_begin, many_go_on, many_fail, many_stop, many_run_out}
use Rattle.deriv_check.proofs.entries.proofs.Goals as goal
use Rattle.deriv_check.proofs.entries.proofs.Goals.{else-loop-test, then-loop-test+then-ends_proofs}

pub loop-init : goal.loop-init
unfolding proofs_at
loop-init c = rw c.new-proofs.ensures.items (many_begin ends_proofs (derivation_at most_splits) (length c.args.bytes.now) c.args.bytes.now refl)

pub returns-in_err-proof : goal.returns-in_err-proof
returns-in_err-proof c =
    let p = err_from_is_err_and c.from_residual.result c.from_residual.ensures.1 in
    rw (p.1, p.2) (many_fail ends_proofs (derivation_at most_splits) (map proof_of c.loop.proofs.items) (length c.args.bytes.now) c.loop.counter c.loop.rest.now (proofs_at c.args.bytes.now) c.in_err-proof.field-0.0 c.loop-test.true (sym c.ends_proofs.ensures ∙ c.if-ends_proofs.false) c.in_err-proof.ensures c.loop.invariant)

pub loop-preserved : goal.loop-preserved
loop-preserved c =
    rw (c.in_ok-push.ensures.items, map-append proof_of c.loop.proofs.items (c.in_ok-proof.proof ∷ [])) (many_go_on ends_proofs (derivation_at most_splits) (map proof_of c.loop.proofs.items) (length c.args.bytes.now) c.loop.counter c.loop.rest.now (proofs_at c.args.bytes.now) (proof_of c.in_ok-proof.proof) c.in_ok-proof.after.now c.loop-test.true (sym c.ends_proofs.ensures ∙ c.if-ends_proofs.false) c.in_ok-proof.ensures c.loop.invariant)

pub returns : goal.returns
returns c =
    elim c.loop-test.branch [
      | else-loop-test w ↦ many_run_out ends_proofs (derivation_at most_splits) (map proof_of c.loop.proofs.items) (length c.args.bytes.now) c.loop.counter c.loop.rest.now (proofs_at c.args.bytes.now) w.loop-test.false c.loop.invariant
      | then-loop-test+then-ends_proofs w ↦ many_stop ends_proofs (derivation_at most_splits) (map proof_of c.loop.proofs.items) (length c.args.bytes.now) c.loop.counter c.loop.rest.now (proofs_at c.args.bytes.now) w.loop-test.true (sym w.ends_proofs.ensures ∙ w.if-ends_proofs.true) c.loop.invariant
    ]
