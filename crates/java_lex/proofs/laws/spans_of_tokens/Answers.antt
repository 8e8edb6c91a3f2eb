use Rattle.java_lex.proofs.Spanned.{spans, fault_span}
use Rattle.java_lex.proofs.laws.spans_of_tokens.Goals as goal

pub returns-clause-tokens : goal.returns-clause-tokens
returns-clause-tokens c = λ text tokens e. spans text tokens e

pub returns-clause-fault : goal.returns-clause-fault
returns-clause-fault c = λ text fault e. fault_span text fault e
