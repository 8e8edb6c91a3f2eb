-- FROM items in sight, as plain ones.
use Rattle.std.specs.Prelude.{ℕ, suc, List, map, length, take, drop}
use Rattle.std.specs.declared.option.Option.{Option}
use Rattle.sql_ast.specs.declared.known.Known.{Known}
use Rattle.sql_ast.specs.Names.{only_item}
use Rattle.sql_ast.specs.Names as names

abbrev pub known_of : Known → names.Known
known_of k = record { alias = k.alias.now; columns = k.columns.now; from = k.from }

abbrev pub knowns_of : List Known → List names.Known
knowns_of ks = map known_of ks

-- the only item behind so many, with its number
unfoldable pub own_of : ℕ → List names.Known → Option (ℕ × names.Known)
own_of around ks = only_item (suc (length (take around ks))) (drop around ks)
