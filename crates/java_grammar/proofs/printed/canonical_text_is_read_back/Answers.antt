use Rattle.java_grammar.proofs.Methods.{text_is_read_back}
use Rattle.java_grammar.proofs.printed.canonical_text_is_read_back.Goals as goal

pub returns : goal.returns
returns c = text_is_read_back
