use Rattle.std.proofs.Common.{sym, subst}
use Rattle.kernel_lang.specs.Plain.{Fragment}
use Rattle.sql_parts.specs.Given.{IsOutermost}
use Rattle.search_cases.proofs.Outside.{class_A_outside}
use Rattle.search_cases.proofs.worked.emitted_worked.Goals as goal

pub emit-requires-clause-outermost : goal.emit-requires-clause-outermost
emit-requires-clause-outermost c = subst (λ (f : Fragment). IsOutermost f 0) (sym c.requires) class_A_outside
