use Rattle.java_ast.specs.Reading.{expression}
use Rattle.narrowing.proofs.Made.{value_put}
use Rattle.narrowing.proofs.instead.with_value.Goals as goal

pub returns-in-Declare : goal.returns-in-Declare
returns-in-Declare c = value_put c.args.s c.declare.result c.in-Declare.ty c.in-Declare.name c.in-Declare.value (expression c.args.value.value) c.in-Declare.is
    (rw (c.in-Declare.ty-is, c.in-Declare.name-is, c.into_inner.ensures) at c.declare.ensures)
