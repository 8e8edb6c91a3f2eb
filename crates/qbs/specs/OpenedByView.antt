-- What commands by a view begin with: the files of a map, a schema, a source and a store that words may name, and what is seen by them.
use Rattle.std.specs.Prelude.{ℕ, List, codes}
use Rattle.std.specs.declared.option.Option.{Option}
use Rattle.qbs_base.specs.Values.{Schema}
use Rattle.small_dbs.specs.declared.small.SmallDb.{SmallDb}
use Rattle.view_map.specs.declared.model.ViewMap.{ViewMap}
use Rattle.deliveries.specs.Limits.{most_map}
use Rattle.deliveries.specs.Plan.{Given}
use Rattle.deliveries.specs.Steps.{Ends, reads}
use Rattle.plans.specs.Opening.{has_schema, has_map}
use Rattle.qbs.specs.Opened.{reads_all}
use Rattle.qbs.specs.Store.{has_store}
use Rattle.qbs.specs.View.{Seen, sees}

-- they are read in this order
abbrev pub reads_by_view : Given → List ℕ → List ℕ → List ℕ → Option (List ℕ) → (List ℕ → List ℕ → List ℕ → Option (List ℕ) → Ends) → Ends
reads_by_view files words schema source store next =
    reads files words most_map (codes "map") (λ w. reads_all files schema source store (λ s t b. next w s t b))

-- what is seen of a source, by the bytes of a map and a schema
abbrev pub sees_by : List ℕ → List ℕ → List ℕ → (Schema → ViewMap → Seen → Ends) → Ends
sees_by w s t next = has_schema s (λ tables. has_map tables w (λ m. sees m tables t (λ seen. next tables m seen)))

-- and the bank of a store behind it, where there is one
abbrev pub sees_all : List ℕ → List ℕ → List ℕ → Option (List ℕ) → (Schema → ViewMap → Seen → Option (List SmallDb) → Ends) → Ends
sees_all w s t b next = sees_by w s t (λ tables m seen. has_store tables b (λ bank. next tables m seen bank))
