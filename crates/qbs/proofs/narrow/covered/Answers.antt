use Rattle.java_ast.specs.Reading.{program as plain_program}
use Rattle.qbs.proofs.Narrowing.{covered_found}
use Rattle.qbs.proofs.narrow.covered.Goals as goal

pub returns : goal.returns
returns g c =
    covered_found c.args.schema.now (plain_program c.args.typed.now.program) c.in_ok-rewritten.rewritten.verdicts c.as_slice.result.now c.starts_of.result c.in_ok-rewritten.ensures.verdicts c.as_slice.ensures c.starts_of.ensures
