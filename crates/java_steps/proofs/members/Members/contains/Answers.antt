use Rattle.java_steps.proofs.Seen.{met_within}
use Rattle.java_steps.proofs.members.Members.contains.Goals as goal

pub returns : goal.returns
returns c = met_within c.was_met.result c.self.inside.met c.args.cells.now c.self.inside.rows.items c.args.self.now c.self.invariant c.self.view_is c.was_met.ensures
