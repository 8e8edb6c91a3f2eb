-- The small databases of a fragment.
use Rattle.std.specs.Prelude.{ℕ, List, [], ◌∷◌, map}
use Rattle.qbs_base.specs.Values.{Schema}
use Rattle.kernel_lang.specs.Plain.{Fragment}
use Rattle.small_dbs.specs.declared.small.SmallDb.{SmallDb}
use Rattle.small_dbs.specs.Chosen.{tables, entries, known}
use Rattle.small_dbs.specs.Literals.{values}

-- number d
abbrev pub small : Schema → Fragment → ℕ → SmallDb
small schema f d =
    record {
      db = tables (values f) d 0 schema;
      entry = record { values = entries (values f) d f.entries; known = known schema f (values f) d 0 f.known };
    }

-- all eight
abbrev pub smalls : Schema → Fragment → List SmallDb
smalls schema f = map (small schema f) (0 ∷ 1 ∷ 2 ∷ 3 ∷ 4 ∷ 5 ∷ 6 ∷ 7 ∷ [])
