-- What is written of values.
use Rattle.std.specs.Prelude.{ℕ, List, [], ◌++◌, codes, map}
use Rattle.std.specs.List.{flat_map}
use Rattle.std.specs.declared.option.Option.{Option}
use Rattle.std.specs.declared.option.Option.TheVariants.{Some, None}
use Rattle.qbs_base.specs.declared.columns.Table.{Table}
use Rattle.qbs_base.specs.declared.scalar.Value.{Value}
use Rattle.qbs_base.specs.declared.status.Status.{Status}
use Rattle.qbs_base.specs.Printed.{value_text}
use Rattle.verdicts.specs.Lines.{line}
use Rattle.deliveries.specs.declared.plan.Plan.{Plan}

-- the tables' names by their numbers
abbrev pub names_of : List Table → List (List ℕ)
names_of tables = map (λ t. t.name) tables

-- `return` and the value; nothing where there is none
abbrev pub result_text : List Table → Option Value → List ℕ
result_text tables None = []
result_text tables (Some value) = codes "return " ++ value_text (names_of tables) value

-- printed lines and then the result
abbrev pub output : List Table → List (List ℕ) → Option Value → Plan
output tables lines value = record { status = Status.Ok; out = flat_map line lines ++ result_text tables value; rep = [] }
