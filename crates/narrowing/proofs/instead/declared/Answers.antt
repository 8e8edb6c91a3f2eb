use Rattle.java_ast.specs.Reading.{expression}
use Rattle.narrowing.proofs.Made.{declared_made}
use Rattle.narrowing.proofs.instead.declared.Goals as goal

pub returns : goal.returns
returns c =
    declared_made c.args.block.now c.in-Some.behind.now c.in-Some-split_first.field-0-1.now c.in_ok-all.all.items c.in-Some.s.now c.in-Some-split_first.t.now (expression c.args.value.value)
    c.in-Some.ensures.cases.0 c.in-Some-split_first.ensures.cases.0 c.in_ok-all.ensures
