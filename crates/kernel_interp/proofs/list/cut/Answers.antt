use Rattle.kernel_interp.proofs.Lists.{cut_seen}
use Rattle.kernel_interp.proofs.list.cut.Goals as goal

pub returns-in-Some : goal.returns-in-Some
returns-in-Some c = cut_seen c.in-Some.n c.args.limit c.args.rows.now.items c.truncate.new.self.items c.in-Some.is c.truncate.ensures.items
