use Rattle.std.proofs.Common.{◌∙◌, sym, ap, List}
use Rattle.java_ast.specs.declared.tree.Stmt.{Stmt}
use Rattle.java_ast.specs.Reading.{statements}
use Rattle.java_ast.specs.Names.{is_among, updated_among}
use Rattle.loop_text.proofs.Trees.Mentions.{in_first_updated}
use Rattle.loop_text.proofs.conditions.operands.+updates.Goals as goal

pub updates-returns-then-block_updates : goal.updates-returns-then-block_updates
updates-returns-then-block_updates t c =
    c.if-block_updates.true
    ∙ sym (in_first_updated c.args.s.now c.in-If.cond c.in-If.yes c.in-Some.other c.in-If.other c.args.x.now c.in-If.is c.in-Some.is
    (sym (c.block_updates-in-Some.ensures ∙ ap (λ (l : List Stmt). is_among (updated_among (statements l)) c.args.x.now) c.deref-in-Some.ensures.value) ∙ c.if-block_updates.true))
