use Rattle.java_lex.proofs.Replaced.{replaced}
use Rattle.java_lex.proofs.laws.tokens_of_replaced_bytes.Goals as goal

pub returns : goal.returns
returns c = λ front old rest new before within after given r. replaced front old rest new before within after given r
