use Rattle.java_lex.proofs.Cut.{cuts}
use Rattle.java_lex.proofs.laws.tokens_behind_a_token.Goals as goal

pub returns : goal.returns
returns c = λ front rest before after last h ends. cuts front rest before after last h ends
