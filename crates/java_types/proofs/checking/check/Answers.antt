use Rattle.std.proofs.Common.{◌∙◌, sym}
use Rattle.java_ast.specs.Reading.{program}
use Rattle.java_mean.specs.WellTyped.{all_faults}
use Rattle.java_types.specs.Texts.{read_by}
use Rattle.java_types.proofs.First.{kept_some}
use Rattle.java_types.proofs.checking.check.Goals as goal

pub returns-in-Some-clause-fault : goal.returns-in-Some-clause-fault
returns-in-Some-clause-fault c = kept_some c.in-Some.f (all_faults c.args.schema.now (read_by c.args.schema.now) (program c.args.p.now)) (sym c.in-Some.is ∙ c.in_ok-first_fault.ensures)
