use Rattle.std.proofs.Common.{◌++◌}
use Rattle.method_texts.specs.Alone.{closing}
use Rattle.method_texts.proofs.texts.enclosed.Goals as goal

pub returns : goal.returns
returns c inner e = c.before_closing.ensures inner (c.behind_opening.ensures (inner ++ closing) e)
