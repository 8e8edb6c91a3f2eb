use Rattle.dump_items.proofs.Splits.{done_with, done_without}
use Rattle.dump_items.proofs.splitting.Splitter.finish.Goals as goal

pub returns-in_ok-push-clause-done : goal.returns-in_ok-push-clause-done
returns-in_ok-push-clause-done c =
    done_with c.args.self.now.done _ c.args.self.now.current _ _ _ c.as_slice.ensures c.is_heeded-wanted.ensures c.if-wanted.true c.replace-statement.ensures.value c.in_ok-push.ensures.ok

pub returns-else-wanted-clause-done : goal.returns-else-wanted-clause-done
returns-else-wanted-clause-done c = done_without c.args.self.now.done c.args.self.now.current _ _ c.as_slice.ensures c.is_heeded-wanted.ensures c.if-wanted.false
