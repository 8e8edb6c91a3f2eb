use Rattle.java_ast.specs.Reading.{expression}
use Rattle.narrowing.proofs.Made.{listed_made}
use Rattle.narrowing.proofs.instead.listed.Goals as goal

pub returns-in_ok-all-in-Some : goal.returns-in_ok-all-in-Some
returns-in_ok-all-in-Some c =
    listed_made c.args.block.now c.in-Some.field-0-1.now c.in_ok-all-in-Some.all.items c.in-Some.s.now c.in_ok-copy-in-Some.copy c.with_list.result (expression c.args.list.value)
    c.in-Some.ensures.cases.0 c.in_ok-copy-in-Some.ensures c.with_list.ensures c.in_ok-all-in-Some.ensures
