use Rattle.std.specs.Option.{option_map, option_copied}
use Rattle.java_ast.specs.Reading.{statement, statements}
use Rattle.narrowing.proofs.OuterBlocks.{outer_is, none_there}
use Rattle.narrowing.proofs.blocks.+outer_below.Goals as goal

pub returns-in_default-branch_of_no_loop : goal.returns-in_default-branch_of_no_loop
returns-in_default-branch_of_no_loop t c =
    none_there c.args.path.now c.in-Some.below.now c.in_ok-further.rest.now c.in-Some.at.now c.in_ok-further.further.now c.args.number (statements c.args.block.now) (statement c.in_ok-s.s.now)
    c.in-Some.ensures.cases.0 c.in_ok-further.ensures.cases.0 c.in_ok-s.ensures c.in_default-branch_of_no_loop.ensures

pub returns : goal.returns
returns t c =
    outer_is c.args.path.now c.in-Some.below.now c.in_ok-further.rest.now c.in-Some.at.now c.in_ok-further.further.now c.args.number (statements c.args.block.now) (statements c.in-Some-branch_of_no_loop.inner.now) (statement c.in_ok-s.s.now) (option_map statements (option_copied c.outer_below.result))
    c.in-Some.ensures.cases.0 c.in_ok-further.ensures.cases.0 c.in_ok-s.ensures c.in-Some-branch_of_no_loop.ensures c.outer_below.ensures
