-- What is there at a loop is given as emission asks for it.
use Rattle.rewrite_core.proofs.GivenThere.{answers_are_given}
use Rattle.rewrite_core.proofs.laws.whole_answers_are_given.Goals as goal

pub returns : goal.returns
returns c = answers_are_given
