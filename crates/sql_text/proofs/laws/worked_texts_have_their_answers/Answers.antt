use Rattle.sql_text.proofs.Computed.{worked}
use Rattle.sql_text.proofs.laws.worked_texts_have_their_answers.Goals as goal

pub returns : goal.returns
returns c = worked
