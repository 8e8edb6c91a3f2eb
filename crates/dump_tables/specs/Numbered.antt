-- Tables that are found by their names.
use Rattle.std.specs.Prelude.{◌≡◌, ℕ, List, Option}
use Rattle.std.specs.Str.{bytes_eq}
use Rattle.std.specs.Map.{lookup}
use Rattle.dump_tables.specs.declared.numbers.Numbers.{Numbers}
use Rattle.dump_tables.specs.declared.table.DumpTable.{DumpTable}
use Rattle.dump_tables.specs.Tables.{number_of}

abbrev pub number_under : Numbers → List ℕ → Option ℕ
number_under numbers x = lookup (λ k. bytes_eq x k.now) numbers.numbers.entries

-- the number under a name is that of the last table of the name
abbrev pub AreNumbered : Numbers → List DumpTable → Type 0
AreNumbered numbers ts = (x : List ℕ) → number_under numbers x ≡ number_of x ts
