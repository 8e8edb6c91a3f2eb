use Rattle.java_grammar.proofs.Methods.{tokens_have_program}
use Rattle.java_grammar.proofs.printed.canonical_tokens_have_the_program.Goals as goal

pub returns : goal.returns
returns c = tokens_have_program
