use Rattle.java_ast.specs.Reading.{program as plain_program}
use Rattle.qbs.proofs.Made.{no_arguments}
use Rattle.qbs.proofs.make.push_run.Goals as goal

pub run_method-requires-clause-arguments : goal.run_method-requires-clause-arguments
run_method-requires-clause-arguments c = no_arguments c.args.schema.now (plain_program c.args.typed.now.program).methods c.args.number c.args.none.now c.requires.none c.requires.plain
