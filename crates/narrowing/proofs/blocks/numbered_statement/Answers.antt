use Rattle.java_ast.proofs.Numbered.{statement_some, statement_none}
use Rattle.narrowing.proofs.blocks.numbered_statement.Goals as goal

pub returns-in-Some : goal.returns-in-Some
returns-in-Some c = statement_some c.args.block.now c.args.number c.in-Some.s.now c.in-Some.s.now c.in-Some.ensures.lookup.3.0 c.in-Some.ensures.lookup.1

pub returns-in-None : goal.returns-in-None
returns-in-None c = statement_none c.args.block.now c.args.number c.in-None.ensures.lookup.3
