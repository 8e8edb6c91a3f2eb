use Rattle.inlined_grammar.proofs.InGrammar.{in_grammar}
use Rattle.inlined_grammar.proofs.laws.inlined_programs_are_of_the_grammar.Goals as goal

pub returns : goal.returns
returns c = in_grammar
