use Rattle.inlined_grammar.proofs.InGrammar.{typed_in_grammar}
use Rattle.inlined_grammar.proofs.Plain.{grammar_keeps}
use Rattle.inlined_grammar.proofs.laws.inlined_programs_of_the_grammar_keep.Goals as goal

pub returns : goal.returns
returns c = record { keeps = grammar_keeps; grammar = typed_in_grammar }
