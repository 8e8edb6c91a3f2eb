use Rattle.std.proofs.Common.{◌∙◌}
use Rattle.verdicts.proofs.Lined.{unnested_lined}
use Rattle.verdicts.proofs.lines.unnested.Goals as goal

pub returns : goal.returns
returns c = c.in_ok-text.ensures.ok ∙ unnested_lined c.args.n
