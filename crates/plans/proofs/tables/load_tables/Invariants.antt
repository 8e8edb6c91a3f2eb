use Rattle.std.proofs.Common.{◌≡◌, drop, take}
use Rattle.qbs_base.specs.Values.{AreTables}
use Rattle.plans.specs.Tables.{loaded_from, loaded}
use Rattle.plans.proofs.Loading.{joined}
use Rattle.plans.proofs.tables.load_tables.Given as goal

-- the tables so far and those of the texts that are left are all tables, and those so far are the first of the schema
abbrev pub invariant-loop-number : goal.invariant-loop-number
invariant-loop-number l =
    (joined l.db (loaded_from l.schema l.number (drop l.number l.schema) (drop l.number l.texts)) ≡ loaded l.schema l.texts)
    × AreTables 0 (take l.number l.schema) l.db
