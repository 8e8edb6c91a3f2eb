use Rattle.std.specs.Option.{option_map, option_copied}
use Rattle.java_ast.specs.Reading.{spelled, statement, statements}
use Rattle.rewrite_core.proofs.Declared.{step_spelled}
use Rattle.rewrite_core.proofs.spelling.+spelled_below.Goals as goal

pub returns : goal.returns
returns t c =
    step_spelled c.args.x.now c.args.path.now c.in-Some.below.now c.in-Some-split_first.rest.now c.in-Some.at.now c.in-Some-split_first.further.now c.args.number (statements c.args.block.now) (option_map spelled (option_copied c.args.before))
    c.in-Some.ensures.cases.0 c.in-Some-split_first.ensures.cases.0
    (statement c.in-Some-numbered.s.now) (statements c.in_Some-inner.inner.now) (statements c.before_number.result.now) (option_map spelled (option_copied c.spelled_past-here.result)) (option_map spelled (option_copied c.spelled_inside.result)) (option_map spelled (option_copied c.spelled_below.result))
    c.in-Some-numbered.ensures c.in_Some-inner.ensures c.before_number.ensures c.spelled_past-here.ensures c.spelled_inside.ensures c.spelled_below.ensures
