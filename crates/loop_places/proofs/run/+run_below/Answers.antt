use Rattle.java_ast.specs.Reading.{statement, statements}
use Rattle.loop_places.proofs.RunsThere.{step_run}
use Rattle.loop_places.proofs.run.+run_below.Goals as goal

pub returns : goal.returns
returns t c =
    step_run c.args.path.now c.in-Some.below.now c.in-Some-split_first.rest.now c.in-Some.at.now c.in-Some-split_first.further.now c.args.number (statements c.args.block.now) (statements c.in_Some-inner.inner.now) (statement c.in-Some-numbered.s.now) _
    c.in-Some.ensures.cases.0 c.in-Some-split_first.ensures.cases.0 c.in-Some-numbered.ensures c.in_Some-inner.ensures c.run_below.ensures
