use Rattle.inlined_grammar.proofs.Computed.{calling_in, replaced_in, calling_written, replaced_written}
use Rattle.inlined_grammar.proofs.worked.worked_classes_are_of_the_grammar.Goals as goal

pub returns : goal.returns
returns c = record { calling = calling_in; inlined = replaced_in; written = calling_written; inlined_written = replaced_written }
