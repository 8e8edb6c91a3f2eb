-- The bundle of what is rewritten can be written.
use Rattle.rewrite_core.proofs.WritableBundles.{bundle_writable}
use Rattle.rewrite_core.proofs.bundled.bundles_of_rewrites_can_be_written.Goals as goal

pub returns : goal.returns
returns c = bundle_writable
