use Rattle.loop_text.proofs.Trees.Locations.{statements_first, statements_all}
use Rattle.loop_text.proofs.statements.block_parts.before_number.Goals as goal

pub returns-then-number-block : goal.returns-then-number-block
returns-then-number-block c = statements_first c.args.number c.args.block.now

pub returns-else-number-block : goal.returns-else-number-block
returns-else-number-block c = statements_all c.args.number c.args.block.now c.if-number-block.false
