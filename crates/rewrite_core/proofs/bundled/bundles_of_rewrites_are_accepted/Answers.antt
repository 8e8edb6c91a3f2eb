-- The bundle of what is rewritten is accepted.
use Rattle.rewrite_core.proofs.AcceptedBundles.{bundle_accepted}
use Rattle.rewrite_core.proofs.bundled.bundles_of_rewrites_are_accepted.Goals as goal

pub returns : goal.returns
returns c = bundle_accepted
