-- What is remembered of the fragment that was asked about last.
use Rattle.std.specs.Prelude.{ℕ, Bool, true, false, List, []}
use Rattle.std.specs.declared.option.Option.{Option}
use Rattle.std.specs.declared.option.Option.TheVariants.{Some, None}
use Rattle.qbs_base.specs.declared.scalar.Value.{Value}
use Rattle.qbs_base.specs.Values.{Schema}
use Rattle.kernel_lang.specs.Plain.{Fragment}
use Rattle.kernel_lang.specs.Typed.{is_typed}
use Rattle.small_dbs.specs.declared.small.SmallDb.{SmallDb}
use Rattle.small_dbs.specs.Endings.{first_endings}
use Rattle.small_dbs.specs.Small.{smalls}

abbrev pub where_typed : Bool → List SmallDb → List SmallDb
where_typed true items = items
where_typed false items = []

-- the small databases of a fragment that fits the schema
abbrev pub smalls_for : Schema → Option Fragment → List SmallDb
smalls_for schema None = []
smalls_for schema (Some f) = where_typed (is_typed schema f) (smalls schema f)

-- what the fragment ends with on the first of them, so many
abbrev pub endings_for : Option Fragment → List SmallDb → ℕ → List (Option (List Value))
endings_for None items n = []
endings_for (Some f) items n = first_endings f items n
