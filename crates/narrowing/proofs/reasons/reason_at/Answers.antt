use Rattle.java_ast.specs.Reading.{statements, program}
use Rattle.narrowing.proofs.Reasoned.{reason_inside, reason_there}
use Rattle.narrowing.proofs.reasons.reason_at.Goals as goal

pub returns-in-None : goal.returns-in-None
returns-in-None c = reason_inside c.args.path.now (program c.args.program.now) c.in-None.ensures

pub returns-in-Some : goal.returns-in-Some
returns-in-Some c =
    reason_there c.args.path.now (program c.args.program.now) (statements c.in-Some.block.now) (statements c.behind.result.now) c.last_number-number.result c.is_declared_before-declared.result c.reason_of.result
    c.in-Some.ensures c.last_number-number.ensures c.is_declared_before-declared.ensures c.behind.ensures c.reason_of.ensures
