use Rattle.std.proofs.Common.{◌≡◌, length, subst, List, rules}
use Rattle.qbs_base.specs.declared.scalar.Scalar.{Scalar}
use Rattle.qbs_base.specs.declared.scalar.Ty.{Ty}
use Rattle.qbs_base.specs.Values.{AreOf}
use Rattle.kernel_lang.specs.Whole.{fragment_of}
use Rattle.kernel_interp.proofs.Fitting.{all_fit}
use Rattle.kernel_interp.proofs.fits.parts_fit.Goals as goal

pub returns : goal.returns
returns c =
    let typed : AreOf c.args.frag.now.entries c.args.entry.now.values =
    subst (λ (ts : List Ty). AreOf ts c.args.entry.now.values) c.as_slice.ensures (subst (λ (xs : List Scalar). AreOf c.as_slice.result.now xs) c.as_slice-2.ensures (c.have_types.ensures.0 c.if-not-have_types.false)) in
    let many : length c.args.entry.now.known ≡ c.args.frag.now.known = search rules in
    all_fit (fragment_of c.args.frag.now) c.args.db.now c.args.entry.now c.rest_fits.result many typed c.rest_fits.ensures
