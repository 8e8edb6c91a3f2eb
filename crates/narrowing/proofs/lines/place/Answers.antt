use Rattle.std.proofs.Common.{◌∙◌}
use Rattle.narrowing.proofs.Reported.{place_lined}
use Rattle.narrowing.proofs.lines.place.Goals as goal

pub returns : goal.returns
returns c = c.in_ok-text.ensures.ok ∙ place_lined c.args.at
