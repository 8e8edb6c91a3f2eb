use Rattle.dump_tables.proofs.Found.{under_put}
use Rattle.dump_tables.proofs.numbers.Numbers.put.Goals as goal

pub returns-in-Ok : goal.returns-in-Ok
returns-in-Ok c = under_put c.args.name.now c.args.number c.args.self.now.numbers.entries c.insert.new.self.entries c.in-Ok.ensures.updates.0
