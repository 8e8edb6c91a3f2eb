use Rattle.std.proofs.Common.{◌∙◌}
use Rattle.narrowing.proofs.Reported.{walk_lined}
use Rattle.narrowing.proofs.lines.walk.Goals as goal

pub returns : goal.returns
returns c = c.in_ok-text.ensures.ok ∙ walk_lined c.args.w _ _ c.in_ok-place.ensures c.in_ok-said.ensures
