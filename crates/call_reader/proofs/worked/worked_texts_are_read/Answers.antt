use Rattle.call_reader.proofs.Computed.{text_lexed, text_is_read}
use Rattle.call_reader.proofs.worked.worked_texts_are_read.Goals as goal

pub returns : goal.returns
returns c = record { tokens = text_lexed; program = text_is_read }
