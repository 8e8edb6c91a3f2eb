use Rattle.spreads.proofs.Stated.{selects_answer}
use Rattle.spreads.proofs.laws.selects_answer_what_passes.Goals as goal

pub returns : goal.returns
returns c = selects_answer
