use Rattle.java_ast.specs.Reading.{expression}
use Rattle.narrowing.proofs.Made.{list_put}
use Rattle.narrowing.proofs.instead.with_list.Goals as goal

pub returns-in-ForEach : goal.returns-in-ForEach
returns-in-ForEach c = list_put c.args.s c.for_each.result c.in-ForEach.ty c.in-ForEach.name c.in-ForEach.list (expression c.args.list.value) c.in-ForEach.body c.in-ForEach.is
    (rw (c.in-ForEach.ty-is, c.in-ForEach.name-is, c.in-ForEach.body-is, c.into_inner.ensures) at c.for_each.ensures)
