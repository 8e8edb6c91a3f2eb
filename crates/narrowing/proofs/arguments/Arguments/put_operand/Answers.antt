use Rattle.std.proofs.Common.{sym, ◌∙◌}
use Rattle.java_ast.specs.Reading.{expression}
use Rattle.narrowing.proofs.Items.{lent_operand}
use Rattle.narrowing.proofs.arguments.Arguments.put_operand.Goals as goal

pub returns-then-is_column : goal.returns-then-is_column
returns-then-is_column c = lent_operand 10 c.args.x.now (expression c.args.e.now) c.args.self.now.items.items c.args.self.now.within (sym c.is_column.ensures ∙ c.if-is_column.true)
