use Rattle.std.proofs.Common.{rules, w64, sym}
use mir.Val.{SFits}
use Rattle.kernel_interp.proofs.Fitting.{long_fits}
use Rattle.kernel_interp.proofs.fits.is_long.Goals as goal

pub returns : goal.returns
returns c =
    let f : SFits w64 c.args.n = search rules in
    sym (long_fits c.args.n f)
