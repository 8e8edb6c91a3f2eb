use Rattle.java_grammar.proofs.Programs.{program_has_tokens}
use Rattle.java_grammar.proofs.printed.canonical_text_has_tokens.Goals as goal

pub returns : goal.returns
returns c = program_has_tokens
