use Rattle.std.proofs.Common.{[], ◌∷◌, ◌++◌, ap, ◌∙◌}
use Rattle.qbs_base.specs.declared.scalar.Row.{Row}
use Rattle.java_steps.proofs.Seen.{takes_new, takes_again}
use Rattle.java_steps.proofs.firsts.take.Goals as goal

pub returns-in_ok-push : goal.returns-in_ok-push
returns-in_ok-push c = takes_new c.args.met.now c.meet.new.met c.args.row.now c.in_ok-meet.field-0 c.in_ok-meet.ensures c.args.list.now.items c.push.new.self.items c.if-branch.true (c.in_ok-push.ensures.items ∙ ap (λ (r : Row). c.args.list.now.items ++ r ∷ []) c.in_ok-copy_row.ensures)

pub returns-else-branch : goal.returns-else-branch
returns-else-branch c = takes_again c.args.met.now c.meet.new.met c.args.row.now c.in_ok-meet.field-0 c.in_ok-meet.ensures c.args.list.now.items c.if-branch.false
