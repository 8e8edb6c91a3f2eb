-- What a fragment is given: the lists of its loops over a database, its entry values and known lists.
use Rattle.std.specs.Prelude.{ℕ, Bool, false, List, [], ◌∷◌, take, get_or, slice_get}
use Rattle.std.specs.declared.option.Option.{Option}
use Rattle.std.specs.declared.option.Option.TheVariants.{Some, None}
use Rattle.qbs_base.specs.declared.scalar.Row.{Row}
use Rattle.qbs_base.specs.Scalar.{value_before}
use Rattle.qbs_base.specs.Sort.{stable_sort, then_by, turned}
use Rattle.qbs_base.specs.Tables.{rows_of}
use Rattle.qbs_base.specs.Values.{Database}
use Rattle.tor_terms.specs.Truth.{World}
use Rattle.tor_terms.specs.Value.{plain_row}
use Rattle.kernel_lang.specs.declared.parts.Col.{Col}
use Rattle.kernel_lang.specs.declared.parts.Entry.{Entry}
use Rattle.kernel_lang.specs.declared.parts.ListDef.{ListDef}
use Rattle.kernel_lang.specs.Plain.{Fragment}

-- the order of one key, in the other direction where it is down
abbrev pub key_before : Col → Row → Row → Bool
key_before key = turned key.down (λ r s. value_before (slice_get r.cells key.column) (slice_get s.cells key.column))

-- the order of keys, the first one first
abbrev pub before : List Col → Row → Row → Bool
before [] = λ r s. false
before (key ∷ keys) = then_by (key_before key) (before keys)

abbrev pub cut : Option ℕ → List Row → List Row
cut None rows = rows
cut (Some n) rows = take n rows

-- the rows of the table, sorted stably by the keys, cut to the limit
abbrev pub listed : Database → ListDef → List Row
listed db d = cut d.limit (stable_sort (before d.keys) (rows_of db d.table))

abbrev pub list_at : Database → Option ListDef → List Row
list_at db None = []
list_at db (Some d) = listed db d

-- the world of lists, entry values and known lists in which no turn is done, and no flag is set
abbrev pub world_over : (ℕ → List Row) → Entry → World
world_over lists entry =
    record {
      lists = lists;
      turns = λ j. 0;
      current = λ j. plain_row None;
      entries = λ k. slice_get entry.values k;
      known = λ q. get_or entry.known q [];
      held = λ n. [];
      flags = λ k rows. false;
    }

-- the world in which a fragment begins
abbrev pub world_given : Fragment → Database → Entry → World
world_given f db entry = world_over (λ j. list_at db (slice_get f.lists j)) entry
