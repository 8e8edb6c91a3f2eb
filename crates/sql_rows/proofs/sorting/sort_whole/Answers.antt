use Rattle.std.proofs.Common.{rules}
use Rattle.std.proofs.lemmas.Fn.{always_returns_same}
use Rattle.sql_rows.proofs.Sorted.{sort_whole_ok, whole_before, whole_order}
use Rattle.sql_rows.proofs.sorting.sort_whole.Goals as goal

pub returns : goal.returns
returns c =
    sort_whole_ok c.args.keys.now c.args.all.now.items c.sort_by.new.self.items c.sort_by.result
    c.sort_by.ensures.sorted
    (λ s. s (whole_before c.args.keys.now) (whole_order c.args.keys.now) (always_returns_same _ _ _ (λ a r q k. search rules)))
    (c.sort_by.ensures.stable (whole_before c.args.keys.now) (whole_order c.args.keys.now) (always_returns_same _ _ _ (λ a r q k. search rules)))
