use Rattle.std.proofs.Common.{arith}
use Rattle.narrowing.proofs.OuterBlocks.{none_behind, rest_is}
use Rattle.narrowing.proofs.blocks.behind.Goals as goal

pub returns-else-number-block : goal.returns-else-number-block
returns-else-number-block c = none_behind c.args.number c.args.block.now (omega arith)

pub returns-then-number-block : goal.returns-then-number-block
returns-then-number-block c = rest_is c.args.number c.args.block.now
