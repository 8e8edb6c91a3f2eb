use Rattle.std.proofs.Common.{◌≡◌, ◌∷◌, rules}
use Rattle.std.specs.Vec.Iter.{into_iter_items}
use Rattle.plans.proofs.Loading.{rows_on}
use Rattle.plans.proofs.tables.put_rows.Goals as goal

pub loop-row-preserved : goal.loop-row-preserved
loop-row-preserved c =
    let is : into_iter_items c.loop-row.row-iterator ≡ c.in-Some.row ∷ into_iter_items c.next.new.self = search rules in
    rows_on c.args.db.now c.loop-row.db c.put_row.new.self c.args.table c.args.rows (into_iter_items c.loop-row.row-iterator) (into_iter_items c.next.new.self) c.in-Some.row is c.in_ok-put_row.ensures.ok c.loop-row.invariant
