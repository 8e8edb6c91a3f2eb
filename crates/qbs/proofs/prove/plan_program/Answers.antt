use Rattle.java_ast.specs.Reading.{program as plain_program}
use Rattle.qbs.proofs.Proved.{proves_by}
use Rattle.qbs.proofs.prove.plan_program.Goals as goal

pub returns : goal.returns
returns g c = proves_by _ c.args.schema.now _ _ (plain_program c.args.typed.now.program) c.in_ok-proven.proven _ c.in_ok-proven.ensures c.in_ok-plan_proven.ensures
