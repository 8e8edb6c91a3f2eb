use Rattle.std.proofs.Common.{◌/◌, arith}
use Rattle.rewrite_core.specs.UnnestingSteps.{unnesting_in}
use Rattle.rewrite_core.proofs.UnnestSteps.{no_try_leads, then_halves}
use Rattle.rewrite_core.proofs.unnesting.+unnest_further.Goals as goal

pub returns-then-left-eq0-clause-leads : goal.returns-then-left-eq0-clause-leads
returns-then-left-eq0-clause-leads g t c = no_try_leads c.args.schema.now c.args.size c.args.budget c.args.source.now c.args.left (unnesting_in c.args.stage.value c.args.given.now) c.if-left-eq0.true

pub returns-clause-leads : goal.returns-clause-leads
returns-clause-leads g t c =
    then_halves c.args.schema.now c.args.size c.args.budget c.args.source.now c.unnest_further-2.result (λ s. unnesting_in s.value c.unnest_further-2.new.given) c.args.left (c.args.left / 2) (unnesting_in c.args.stage.value c.args.given.now)
    (unnesting_in c.in_ok-stage.stage.value c.unnest_further.new.given) (omega arith) c.in_ok-stage.ensures.leads c.unnest_further-2.ensures.leads
