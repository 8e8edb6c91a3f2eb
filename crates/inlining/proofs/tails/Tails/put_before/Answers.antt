use Rattle.inlining.proofs.Parts.{at_dot, at_byte}
use Rattle.inlining.proofs.tails.Tails.put_before.Goals as goal

pub returns-then-dotted-i-ne46-clause-noted : goal.returns-then-dotted-i-ne46-clause-noted
returns-then-dotted-i-ne46-clause-noted c = at_byte c.args.dotted.now c.args.start c.args.i c.args.self.now c.requires.low c.requires.within c.if-dotted-i-ne46.true

pub returns-clause-noted : goal.returns-clause-noted
returns-clause-noted c = at_dot c.args.dotted.now c.args.start c.args.i c.args.self.now c.put_part.new.self c.requires.within c.if-dotted-i-ne46.false c.in_ok-put_part.ensures
