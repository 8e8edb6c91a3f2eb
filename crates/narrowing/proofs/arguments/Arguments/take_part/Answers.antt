use Rattle.std.proofs.Common.{◌≡◌, length, arith}
use Rattle.java_ast.specs.Reading.{expression}
use Rattle.narrowing.proofs.Items.{lent_back}
use Rattle.narrowing.proofs.arguments.Arguments.take_part.Goals as goal

pub returns-clause-arguments : goal.returns-clause-arguments
returns-clause-arguments c =
    let len : c.len-len.result ≡ length c.args.self.now.items.items = omega arith in
    lent_back 10 c.len-len.result c.args.x.now (expression c.args.e.now) c.args.self.now.items.items c.put_part.new.self.items.items c.truncate.new.self.items
    c.args.self.now.within len c.in_ok-put_part.ensures c.truncate.ensures.items
