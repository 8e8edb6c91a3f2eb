use Rattle.view_text.proofs.Steps.{last_is}
use Rattle.view_text.proofs.before.last_of.Goals as goal

pub returns-in-len1-up : goal.returns-in-len1-up
returns-in-len1-up c = last_is c.args.last 0 c.args.bytes.now c.in-len1-up.len_at_least
