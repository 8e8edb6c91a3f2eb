use Rattle.std.proofs.Common.{◌∙◌}
use Rattle.java_ast.specs.Reading.{program}
use Rattle.loop_places.proofs.RunsThere.{run_same}
use Rattle.loop_places.proofs.run.run_at.Goals as goal

pub returns : goal.returns
returns c = c.run_found.ensures ∙ run_same c.args.path.now (program c.args.program.now)
