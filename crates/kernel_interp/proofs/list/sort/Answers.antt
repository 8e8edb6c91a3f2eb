use Rattle.std.proofs.Common.{rules}
use Rattle.std.proofs.lemmas.Fn.{always_returns_same}
use Rattle.kernel_interp.proofs.Ordered.{sort_ok, lent_before, lent_order}
use Rattle.kernel_interp.proofs.list.sort.Goals as goal

pub returns : goal.returns
returns c =
    sort_ok c.args.keys.now c.args.rows.now.items c.sort_by.new.self.items c.sort_by.result
    c.sort_by.ensures.sorted
    (λ s. s (lent_before c.args.keys.now) (lent_order c.args.keys.now) (always_returns_same _ _ _ (λ a r q k. search rules)))
    (c.sort_by.ensures.stable (lent_before c.args.keys.now) (lent_order c.args.keys.now) (always_returns_same _ _ _ (λ a r q k. search rules)))
