use Rattle.std.specs.Option.{option_map, option_copied}
use Rattle.java_ast.specs.Reading.{statement, statements}
use Rattle.java_ast.proofs.Numbered.{below_is}
use Rattle.java_ast.proofs.path.+statement_below.Goals as goal

pub returns : goal.returns
returns t c =
    below_is c.args.path.now c.in-Some.below.now c.in_ok-further.rest.now c.in-Some.at.now c.in_ok-further.further.now c.args.number (statements c.args.block.now) (statements c.in_ok-inner.inner.now) (statement c.in_ok-s.s.now) (option_map statement (option_copied c.statement_below.result))
    c.in-Some.ensures.cases.0 c.in_ok-further.ensures.cases.0 c.in_ok-s.ensures c.in_ok-inner.ensures c.statement_below.ensures
