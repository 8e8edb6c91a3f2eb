use Rattle.dump_items.proofs.Splits.{took_end, took_other}
use Rattle.dump_items.proofs.splitting.Splitter.take.Goals as goal

pub returns-then-ends-clause-total : goal.returns-then-ends-clause-total
returns-then-ends-clause-total c =
    took_end c.finish.result c.args.self.now.done c.finish.new.self.done c.args.self.now.current c.finish.new.self.current c.args.self.now.nest c.finish.new.self.nest c.args.kind c.in-Some.kind c.args.bytes.now
    c.in-Some.is c.if-ends.ensures c.finish.ensures.done c.finish.ensures.current c.finish.ensures.nest

pub returns-else-ends-clause-total : goal.returns-else-ends-clause-total
returns-else-ends-clause-total c =
    took_other c.add.result c.args.self.now.done c.add.new.self.done c.args.self.now.current c.add.new.self.current c.args.self.now.nest c.add.new.self.nest c.args.kind c.in-Some.kind c.args.bytes.now
    c.in-Some.is c.if-ends.ensures c.add.ensures.current c.add.ensures.done c.add.ensures.nest
