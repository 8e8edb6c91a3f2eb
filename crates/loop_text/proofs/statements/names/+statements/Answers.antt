use Rattle.std.proofs.Common.{◌∙◌, sym, ap, List}
use Rattle.java_ast.specs.declared.tree.Stmt.{Stmt}
use Rattle.java_ast.specs.Reading.{statements}
use Rattle.java_ast.specs.Names.{is_among, mentioned_among}
use Rattle.loop_text.proofs.Trees.Mentions.{in_first_branch}
use Rattle.loop_text.proofs.statements.names.+statements.Goals as goal

pub statement_mentions-returns-then-block_mentions : goal.statement_mentions-returns-then-block_mentions
statement_mentions-returns-then-block_mentions t c =
    sym (in_first_branch c.args.s.now c.in-If.cond c.in-If.yes c.in-Some.other c.in-If.other c.args.x.now c.in-If.is c.in-Some.is
    (sym (c.block_mentions-in-Some.ensures ∙ ap (λ (l : List Stmt). is_among (mentioned_among (statements l)) c.args.x.now) c.deref-in-Some.ensures.value) ∙ c.if-block_mentions.true))
