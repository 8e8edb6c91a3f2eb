use Rattle.std.proofs.Common.{◌/◌, arith}
use Rattle.rewrite_core.specs.Progress.{progress_in}
use Rattle.rewrite_core.proofs.FurtherTries.{no_try, then_others}
use Rattle.rewrite_core.proofs.progress.+try_further.Goals as goal

pub returns-then-left-eq0-clause-leads : goal.returns-then-left-eq0-clause-leads
returns-then-left-eq0-clause-leads g t c = no_try _ _ c.args.schema.now c.args.size c.args.budget c.args.source.now c.args.left (progress_in c.args.stage.value c.args.report.now) c.if-left-eq0.true

pub returns-clause-leads : goal.returns-clause-leads
returns-clause-leads g t c =
    then_others _ _ c.args.schema.now c.args.size c.args.budget c.args.source.now c.try_further-2.result (λ s. progress_in s.value c.try_further-2.new.report) (progress_in c.args.stage.value c.args.report.now) (progress_in c.in_ok-stage.stage.value c.try_further.new.report)
    c.args.left (c.args.left / 2) (omega arith) c.in_ok-stage.ensures.leads c.try_further-2.ensures.leads
