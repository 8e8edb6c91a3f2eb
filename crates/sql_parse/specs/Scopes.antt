-- Tables by their names, and FROM items in sight.
use Rattle.std.specs.Prelude.{ℕ, List, map, take, drop, slice_get}
use Rattle.std.specs.declared.option.Option.{Option}
use Rattle.std.specs.declared.option.Option.TheVariants.{Some}
use Rattle.qbs_base.specs.declared.columns.Table.{Table}
use Rattle.qbs_base.specs.Columns.{table_number}
use Rattle.qbs_base.specs.Values.{Schema}
use Rattle.sql_ast.specs.Names.{◌>>=◌, Scope}
use Rattle.sql_ast.specs.Names as names

-- the first table of this name, with its number
abbrev pub table_named : Schema → List ℕ → Option (ℕ × Table)
table_named schema name = table_number schema name >>= λ number. slice_get schema number >>= λ table. Some (number, table)

abbrev pub aliases_of : List names.Known → List (List ℕ)
aliases_of ks = map (λ known. known.alias) ks

-- the first items in sight are those of the SELECTs around
abbrev pub scope_of : ℕ → List names.Known → Scope
scope_of around ks = record { outer = take around ks; own = drop around ks }
