use Rattle.loop_setting.proofs.Grouped.{under_given}
use Rattle.loop_setting.proofs.kept.setters.Setters.give.Goals as goal

pub returns-in-Ok : goal.returns-in-Ok
returns-in-Ok c = under_given c.args.x.now c.args.group c.args.self.now.groups.entries c.insert.new.self.entries c.in-Ok.ensures.updates.0
