use Rattle.java_steps.proofs.Seen.{met_new}
use Rattle.java_steps.proofs.members.Members.with_last.Goals as goal

pub invariant_of-result : goal.invariant_of-result
invariant_of-result c = met_new c.self.inside.met c.meet.new.met c.args.row c.in_ok-meet.field-0 c.in_ok-meet.ensures c.self.inside.rows.items c.push.new.self.items c.self.invariant c.in_ok-push.ensures.items
