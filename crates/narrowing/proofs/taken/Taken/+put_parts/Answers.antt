use Rattle.std.proofs.lemmas.Result.{on_ok_weaker}
use Rattle.java_mean.specs.Visible.{names_seen}
use Rattle.narrowing.specs.Lent.{expressions_lent}
use Rattle.narrowing.proofs.Parts.{and_taken, and_read}
use Rattle.narrowing.proofs.taken.Taken.+put_parts.Goals as goal

pub returns-in_ok-put_parts-in-And-clause-parts : goal.returns-in_ok-put_parts-in-And-clause-parts
returns-in_ok-put_parts-in-And-clause-parts t c =
    on_ok_weaker c.put_parts-in-And.result
    (and_taken (names_seen c.args.assigned.now) c.args.x.now c.args.e.now c.in-Binary.op c.in-Binary.a c.in-Binary.b c.deref.result.now c.deref-in-And.result.now
    (expressions_lent c.args.self.now.arguments.items.items) (expressions_lent c.put_parts.new.self.arguments.items.items)
    (expressions_lent c.args.self.now.parts.items) (expressions_lent c.put_parts.new.self.parts.items) (expressions_lent c.put_parts-in-And.new.self.parts.items)
    c.in-Binary.is c.in-And.is c.deref.ensures c.deref-in-And.ensures c.in_ok-put_parts-in-And.ensures.parts c.in_ok-put_parts-in-And.ensures.arguments) c.put_parts-in-And.ensures.parts

pub returns-in_ok-put_parts-in-And-clause-arguments : goal.returns-in_ok-put_parts-in-And-clause-arguments
returns-in_ok-put_parts-in-And-clause-arguments t c =
    on_ok_weaker c.put_parts-in-And.result
    (and_read (names_seen c.args.assigned.now) c.args.x.now c.args.e.now c.in-Binary.op c.in-Binary.a c.in-Binary.b c.deref.result.now c.deref-in-And.result.now
    (expressions_lent c.args.self.now.arguments.items.items) (expressions_lent c.put_parts.new.self.arguments.items.items) (expressions_lent c.put_parts-in-And.new.self.arguments.items.items)
    c.in-Binary.is c.in-And.is c.deref.ensures c.deref-in-And.ensures c.in_ok-put_parts-in-And.ensures.arguments) c.put_parts-in-And.ensures.arguments
