use Rattle.schema_text.proofs.OneFault.{one_fault, no_fault}
use Rattle.schema_text.proofs.laws.a_text_has_one_fault.Goals as goal

pub returns-clause-one : goal.returns-clause-one
returns-clause-one c text f g a b = one_fault text f g a b

pub returns-clause-none : goal.returns-clause-none
returns-clause-none c text tables f h is b = no_fault text tables f h is b
