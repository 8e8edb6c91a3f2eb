use Rattle.inlining.proofs.Ones.{one_by}
use Rattle.inlining.proofs.leaves.push_returned.Goals as goal

pub returns-in_ok-push-in-Pushed : goal.returns-in_ok-push-in-Pushed
returns-in_ok-push-in-Pushed c = one_by c.args.counts.now c.spend.new.counts c.args.out.now.items c.push.new.self.items c.in_ok-s-in-Pushed.s _ c.in_ok-push-in-Pushed.ensures.items c.in_ok-s-in-Pushed.ensures c.in-Pushed.ensures
