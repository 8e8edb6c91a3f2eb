use Rattle.std.proofs.Common.{sym, ap, ◌∙◌}
use Rattle.std.specs.declared.option.Option.TheVariants.{Some, None}
use Rattle.kernel_interp.specs.Ends.{end_of}
use Rattle.kernel_lang.specs.Whole.{fragment_of}
use Rattle.small_dbs.proofs.Known.{they_fit, fitting, not_fitting}
use Rattle.small_dbs.proofs.endings.ending.Goals as goal

pub returns-then-not-fits_there : goal.returns-then-not-fits_there
returns-then-not-fits_there c = not_fitting (fragment_of c.args.frag.now) c.args.item.now c.fits_there.result c.fits_there.ensures c.if-not-fits_there.true

pub run_fragment-requires : goal.run_fragment-requires
run_fragment-requires c = they_fit (fragment_of c.args.frag.now) c.args.item.now (sym c.fits_there.ensures ∙ c.if-not-fits_there.false)

pub returns-in-Overflow : goal.returns-in-Overflow
returns-in-Overflow c =
    fitting (fragment_of c.args.frag.now) c.args.item.now c.fits_there.result None c.fits_there.ensures c.if-not-fits_there.false (sym (ap end_of c.in-Overflow.is) ∙ c.in_ok-run_fragment.ensures.exact)

pub returns-in-Store : goal.returns-in-Store
returns-in-Store c =
    fitting (fragment_of c.args.frag.now) c.args.item.now c.fits_there.result (Some c.in-Store.ends) c.fits_there.ensures c.if-not-fits_there.false (sym (ap end_of c.in-Store.is) ∙ c.in_ok-run_fragment.ensures.exact)
