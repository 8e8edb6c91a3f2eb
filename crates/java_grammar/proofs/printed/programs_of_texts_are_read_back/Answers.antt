use Rattle.java_grammar.proofs.Fitted.{program_of_text_fits, printed_program_is_read_back}
use Rattle.java_grammar.proofs.printed.programs_of_texts_are_read_back.Goals as goal

pub returns : goal.returns
returns c = record { fit = program_of_text_fits; read_back = printed_program_is_read_back }
