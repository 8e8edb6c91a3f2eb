use Rattle.std.proofs.Common.{List, ◌∙◌, ap, ◌&&◌, not}
use Rattle.java_ast.specs.declared.tree.Stmt.{Stmt}
use Rattle.java_ast.specs.Names.{is_among}
use Rattle.java_ast.specs.Reading.{expression, statements}
use Rattle.spreads.specs.Alone.{is_variable}
use Rattle.spreads.specs.Beside.{beside}
use Rattle.spreads.proofs.NamedOnce.{walked_alone}
use Rattle.spreads.proofs.alone.walks_alone.Goals as goal

pub returns-in-ForEach : goal.returns-in-ForEach
returns-in-ForEach c =
    walked_alone c.args.x.now c.args.block.now c.in-Some.behind.now c.in-Some.s.now c.in-ForEach.ty c.in-ForEach.name c.in-ForEach.list c.in-ForEach.body c.walks_only.result
    c.in-Some.ensures.cases.0 c.in-ForEach.is
    (c.walks_only.ensures ∙ ap (λ (l : List Stmt). is_variable c.args.x.now (expression c.in-ForEach.list) && not (is_among (beside c.in-ForEach.name (statements l) (statements c.in-Some.behind.now)) c.args.x.now)) c.deref.ensures.value)
