use Rattle.std.proofs.Common.{rules}
use Rattle.std.proofs.lemmas.Fn.{always_returns_same}
use Rattle.java_mean.specs.Statement.{in_order}
use Rattle.java_steps.proofs.Sorted.{sort_ok, order_of_keys}
use Rattle.java_steps.proofs.sorting.sort.Goals as goal

pub returns : goal.returns
returns c =
    sort_ok c.args.schema.now c.args.keys.now c.args.down.now c.args.rows.now.items c.sort_by.new.self.items c.sort_by.result
    c.sort_by.ensures.sorted
    (λ s. s (in_order c.args.schema.now c.args.keys.now c.args.down.now) (order_of_keys c.args.schema.now c.args.keys.now c.args.down.now) (always_returns_same _ _ _ (λ a r q k. search rules)))
    (c.sort_by.ensures.stable (in_order c.args.schema.now c.args.keys.now c.args.down.now) (order_of_keys c.args.schema.now c.args.keys.now c.args.down.now) (always_returns_same _ _ _ (λ a r q k. search rules)))
