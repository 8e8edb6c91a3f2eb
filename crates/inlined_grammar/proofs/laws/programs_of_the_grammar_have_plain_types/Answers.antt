use Rattle.inlined_grammar.proofs.Plain.{plain_types}
use Rattle.inlined_grammar.proofs.laws.programs_of_the_grammar_have_plain_types.Goals as goal

pub returns : goal.returns
returns c = plain_types
