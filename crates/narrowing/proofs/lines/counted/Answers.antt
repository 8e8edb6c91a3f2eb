use Rattle.std.proofs.Common.{◌∙◌}
use Rattle.narrowing.proofs.Reported.{count_lined}
use Rattle.narrowing.proofs.lines.counted.Goals as goal

pub returns : goal.returns
returns c = c.in_ok-text.ensures.ok ∙ count_lined c.args.n
