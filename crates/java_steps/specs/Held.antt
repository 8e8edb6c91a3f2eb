-- The values that the interpreter's values stand for.
use Rattle.std.specs.Prelude.{ℕ, List as Items, Result, Ok, Err, map}
use Rattle.std.specs.Borrow.{Bor}
use Rattle.qbs_base.specs.declared.scalar.Row.{Row}
use Rattle.qbs_base.specs.declared.scalar.Scalar.{Scalar}
use Rattle.qbs_base.specs.declared.scalar.Value.{Value}
use Rattle.qbs_base.specs.declared.scalar.Value.TheVariants as values
use Rattle.java_mean.specs.Store as meant
use Rattle.java_steps.specs.declared.held.List.{List}
use Rattle.java_steps.specs.declared.held.List.TheVariants.{Lent, Shared, Indexed}
use Rattle.java_steps.specs.declared.held.Held.{Held}
use Rattle.java_steps.specs.declared.held.Held.TheVariants as held
use Rattle.java_steps.specs.declared.held.Held.TheVariants.{One, Whole, Many}
use Rattle.java_steps.specs.declared.held.Variable.{Variable}
use Rattle.java_steps.specs.declared.stop.Stop.{Stop}

abbrev pub rows_in : List → Items Row
rows_in (Lent rows) = rows.now
rows_in (Shared rows) = rows.value
rows_in (Indexed members) = members.value

abbrev pub value_in : Held → Value
value_in (One x) = values.One x
value_in (Whole row) = values.Whole row
value_in (held.Lent row) = values.Whole row.now
value_in (Many list) = values.Many (rows_in list)

abbrev pub variable_in : Variable → meant.Variable
variable_in v = record { value = value_in v.held; is_set = v.is_set }

-- variables under their names, as the store that they are
abbrev pub seen : Items (Bor (Items ℕ) × Variable) → meant.Store
seen es = map (λ p. (p.0.now, variable_in p.1)) es

-- a scalar as a value, where there is one
abbrev pub one_held : Result Scalar Stop → Result Held Stop
one_held (Ok x) = Ok (One x)
one_held (Err stop) = Err stop
