-- Asks answer for a loop by the whole answers of the known lists' queries.
use Rattle.java_loops.proofs.Meant.AnswersWhole.{answers_suffice}
use Rattle.java_loops.proofs.meaning.asks_may_answer_by_the_whole_answers.Goals as goal

pub returns : goal.returns
returns c = answers_suffice
