use Rattle.std.proofs.Common.{rules}
use Rattle.std.proofs.lemmas.Result.{on_ok_weaker}
use Rattle.java_ast.specs.Reading.{expression}
use Rattle.narrowing.specs.Lent.{expressions_lent}
use Rattle.narrowing.proofs.Firsts.{both_put}
use Rattle.narrowing.proofs.Items.{lent_part}
use Rattle.narrowing.proofs.arguments.Arguments.+put_part.Goals as goal

pub returns-in_ok-put_part-in-And : goal.returns-in_ok-put_part-in-And
returns-in_ok-put_part-in-And t c =
    on_ok_weaker c.put_part-in-And.result
    (both_put 10 c.args.x.now c.args.e.now c.in-Binary.op c.in-Binary.a c.in-Binary.b c.deref-in-And.result.now c.deref-in-And-2.result.now (expressions_lent c.args.self.now.items.items) (expressions_lent c.put_part.new.self.items.items) (expressions_lent c.put_part-in-And.new.self.items.items)
    c.in-Binary.is c.in-And.is c.deref-in-And.ensures c.deref-in-And-2.ensures c.in_ok-put_part-in-And.ensures) c.put_part-in-And.ensures

pub returns-in-Lit : goal.returns-in-Lit
returns-in-Lit t c = lent_part 10 c.args.x.now (expression c.args.e.now) c.args.self.now.items.items c.args.self.now.within (search rules)
