use Rattle.narrowing.proofs.Reasoned.{fetch_declared}
use Rattle.narrowing.proofs.reasons.declares_fetch.Goals as goal

pub returns-in-Declare : goal.returns-in-Declare
returns-in-Declare c =
    fetch_declared c.args.block.now c.in-Some.behind.now c.in-Some.s.now c.in-Declare.ty c.in-Declare.name c.in-Declare.value c.is_fetched_for.result
    c.in-Some.ensures.cases.0 c.in-Declare.is c.is_fetched_for.ensures
