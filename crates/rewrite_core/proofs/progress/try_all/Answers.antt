use Rattle.std.proofs.Common.{length, ap, ◌∙◌}
use Rattle.java_ast.specs.declared.tree.Program.{Program}
use Rattle.java_ast.specs.Reading.{program as plain_program}
use Rattle.loop_text.specs.Statements.Loops.{loops_of}
use Rattle.rewrite_core.specs.Progress.{progress_in}
use Rattle.rewrite_core.proofs.FurtherTries.{at_start, all_lead}
use Rattle.rewrite_core.proofs.progress.try_all.Goals as goal

pub returns : goal.returns
returns g c =
    all_lead _ _ c.args.schema.now c.args.size c.args.budget c.args.source.now (plain_program c.args.typed.now.program) c.args.keep (progress_in c.in_ok-stage.stage.value c.no_report-report.result) (progress_in c.in_ok-stage-2.stage.value c.try_further.new.report)
    c.in_ok-left.left c.in_ok-stage-2.stage.value.standing c.ended.result
    (at_start (plain_program c.args.typed.now.program) c.args.keep c.in_ok-stage.stage.value c.no_report-report.result
    (ap plain_program (c.in_ok-stage.ensures.program ∙ c.of.ensures) ∙ c.in_ok-copy.ensures ∙ ap plain_program c.program-2.ensures) c.in_ok-stage.ensures.standing c.no_report-report.ensures.nothing c.no_report-report.ensures.searches)
    (c.in_ok-left.ensures ∙ ap (λ (q : Program). length (loops_of (plain_program q))) c.program.ensures)
    c.in_ok-stage-2.ensures.leads c.ended.ensures
