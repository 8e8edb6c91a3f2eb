use Rattle.java_lex.proofs.Apart.{same_start, same_token}
use Rattle.java_lex.proofs.laws.places_tell_tokens_apart.Goals as goal

pub returns-clause-starts : goal.returns-clause-starts
returns-clause-starts c = λ text a b h k same. same_start text a b h k same

pub returns-clause-tokens : goal.returns-clause-tokens
returns-clause-tokens c = λ text ts m n a b lexes e f same. same_token text ts m n a b lexes e f same
