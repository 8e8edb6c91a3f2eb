use Rattle.std.proofs.lemmas.Result.{on_ok_weaker}
use Rattle.java_ast.specs.Reading.{expression}
use Rattle.narrowing.specs.Lent.{expressions_lent}
use Rattle.narrowing.proofs.Firsts.{two_operands}
use Rattle.narrowing.proofs.arguments.Arguments.put_operands.Goals as goal

pub returns : goal.returns
returns c =
    on_ok_weaker c.put_operand-2.result
    (two_operands 10 c.args.x.now (expression c.args.a.now) (expression c.args.b.now) (expressions_lent c.args.self.now.items.items) (expressions_lent c.put_operand.new.self.items.items) (expressions_lent c.put_operand-2.new.self.items.items) c.in_ok-put_operand.ensures)
    c.put_operand-2.ensures
