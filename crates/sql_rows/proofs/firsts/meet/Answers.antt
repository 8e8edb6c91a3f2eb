use Rattle.sql_rows.proofs.Meeting.{meets_new, meets_again}
use Rattle.sql_rows.proofs.firsts.meet.Goals as goal

pub returns-in_ok-push : goal.returns-in_ok-push
returns-in_ok-push g c =
    meets_new g.K.Ord.cmp c.args.seen.now c.insert.new.self c.args.key c.args.list.now.items c.push.new.self.items c.in_ok-insert.field-0
    c.in_ok-insert.ensures.added c.if-branch.true c.in_ok-insert.ensures.updates c.in_ok-push.ensures.items

pub returns-else-branch : goal.returns-else-branch
returns-else-branch g c =
    meets_again g.K.Ord.cmp c.args.seen.now c.insert.new.self c.args.key c.args.list.now.items c.in_ok-insert.field-0
    c.in_ok-insert.ensures.added c.if-branch.false c.in_ok-insert.ensures.updates
