use Rattle.loop_setting.proofs.Grouped.{under_taken}
use Rattle.loop_setting.proofs.kept.setters.Setters.take.Goals as goal

pub returns-in-Some-clause-others : goal.returns-in-Some-clause-others
returns-in-Some-clause-others c = under_taken c.args.x.now c.args.self.now.groups.entries c.swap_remove.new.self.entries c.swap_remove.ensures.updates.0
