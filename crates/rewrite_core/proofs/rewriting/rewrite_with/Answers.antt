use Rattle.std.proofs.Common.{false}
use Rattle.java_ast.specs.Reading.{program as plain_program}
use Rattle.rewrite_core.proofs.AllTries.{comes_of_all}
use Rattle.rewrite_core.proofs.rewriting.rewrite_with.Goals as goal

pub returns : goal.returns
returns g c =
    comes_of_all _ _ c.args.schema.now c.args.size c.args.budget c.args.source.now (plain_program c.args.typed.now.program) false c.in_ok-all.all c.in_ok-all.ensures c.with_output.result c.with_output.ensures.program c.with_output.ensures.verdicts
    c.with_output.ensures.bundle c.with_output.ensures.dropped c.with_output.ensures.patches c.with_output.ensures.text c.requires.typed c.requires.source
