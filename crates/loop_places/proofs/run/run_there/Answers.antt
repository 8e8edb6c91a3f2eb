use Rattle.java_ast.specs.Reading.{statements, program}
use Rattle.loop_text.specs.Statements.Fragment.{fragment_at}
use Rattle.loop_places.proofs.RunsThere.{found_there, nothing_there}
use Rattle.loop_places.proofs.run.run_there.Goals as goal

pub returns-in-Some : goal.returns-in-Some
returns-in-Some c = found_there (fragment_at c.args.path.now (program c.args.program.now)) (statements c.in-Some.found.now) c.in-Some.ensures

pub returns-in-None : goal.returns-in-None
returns-in-None c = nothing_there (fragment_at c.args.path.now (program c.args.program.now)) c.in-None.ensures
