use Rattle.kernel_lang.specs.Whole.{fragment_of}
use Rattle.small_dbs.proofs.Known.{test_is_right}
use Rattle.small_dbs.proofs.endings.fits_there.Goals as goal

pub returns : goal.returns
returns c = test_is_right (fragment_of c.args.frag.now) c.args.item.now c.parts_fit.result c.parts_fit.ensures
