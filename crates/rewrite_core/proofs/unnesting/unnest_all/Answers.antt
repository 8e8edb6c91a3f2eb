use Rattle.std.proofs.Common.{length, ap, ◌∙◌}
use Rattle.java_ast.specs.declared.tree.Program.{Program}
use Rattle.java_ast.specs.Reading.{program as plain_program}
use Rattle.loop_text.specs.Statements.Loops.{loops_of}
use Rattle.rewrite_core.specs.UnnestingSteps.{unnesting_in}
use Rattle.rewrite_core.proofs.UnnestEnds.{leads_from_start}
use Rattle.rewrite_core.proofs.unnesting.unnest_all.Goals as goal

pub returns : goal.returns
returns g c =
    leads_from_start c.args.schema.now c.args.size c.args.budget c.args.source.now c.in_ok-left.left (plain_program c.args.typed.now.program) c.in_ok-stage.stage.value c.args.given.now c.unnest_further.result (λ s. unnesting_in s.value c.unnest_further.new.given)
    (c.in_ok-left.ensures ∙ ap (λ (q : Program). length (loops_of (plain_program q))) c.program.ensures)
    (ap plain_program (c.in_ok-stage.ensures.program ∙ c.of.ensures) ∙ c.in_ok-copy.ensures ∙ ap plain_program c.program-2.ensures)
    c.in_ok-stage.ensures.standing c.requires.verdicts c.requires.patches c.unnest_further.ensures.leads
