use Rattle.inlined_grammar.proofs.Written.{is_written}
use Rattle.inlined_grammar.proofs.laws.inlined_programs_are_written.Goals as goal

pub returns : goal.returns
returns c = is_written
