use Rattle.std.proofs.Common.{◌≡◌, drop}
use Rattle.std.specs.Option.{option_map}
use Rattle.narrowing.specs.Lent.{expressions_lent}
use Rattle.narrowing.specs.Rows.{columns_of, condition_boxed}
use Rattle.spreads.specs.Narrowed.{conditions_of, taken_condition}
use Rattle.narrowing.proofs.condition.taken_condition.Given as goal

abbrev pub invariant-loop-e : goal.invariant-loop-e
invariant-loop-e l =
    conditions_of (columns_of l.row) l.row.variable.now (expressions_lent l.args.items.items) (option_map condition_boxed l.all) (expressions_lent (drop l.e-index l.rest))
    ≡ taken_condition (columns_of l.row) l.row.variable.now (expressions_lent l.args.items.items) (expressions_lent l.parts)
