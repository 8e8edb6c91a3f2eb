use Rattle.inlined_grammar.proofs.IllTyped.{asking_in, asking_rules, asking_inlined, asked_out}
use Rattle.inlined_grammar.proofs.worked.worked_ill_typed_classes_leave_the_grammar.Goals as goal

pub returns : goal.returns
returns c = record { calling = asking_in; rules = asking_rules; inlined = asking_inlined; outside = asked_out }
