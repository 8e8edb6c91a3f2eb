use Rattle.std.proofs.Common.{arith}
use Rattle.java_ast.specs.Reading.{expression}
use Rattle.narrowing.proofs.Items.{lent_full}
use Rattle.narrowing.proofs.arguments.Arguments.put.Goals as goal

pub returns-then-len-ge10 : goal.returns-then-len-ge10
returns-then-len-ge10 c = lent_full 10 c.args.self.now.items.items (expression c.args.e.now) c.args.self.now.within (omega arith)
