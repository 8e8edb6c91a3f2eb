use Rattle.narrowing.proofs.Reasoned.{of_one}
use Rattle.narrowing.proofs.reasons.reason_of_body.Goals as goal

pub returns-in-None-split_first : goal.returns-in-None-split_first
returns-in-None-split_first c =
    of_one c.args.body.now c.in-Some.behind.now c.in-Some.s.now c.reason_of_one.result c.in-Some.ensures.cases.0 c.in-None-split_first.ensures.cases c.reason_of_one.ensures
