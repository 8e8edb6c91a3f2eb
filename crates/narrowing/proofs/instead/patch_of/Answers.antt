use Rattle.narrowing.proofs.Made.{patch_made}
use Rattle.narrowing.proofs.instead.patch_of.Goals as goal

pub returns : goal.returns
returns c = patch_made c.args.e.now c.in_ok-text.text c.in_ok-text.ensures
