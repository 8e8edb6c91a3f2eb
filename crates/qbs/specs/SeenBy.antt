-- The plain form of what the code sees of a source by a map.
use Rattle.std.specs.Prelude.{ℕ, List}
use Rattle.qbs_base.specs.Values.{Schema}
use Rattle.view_map.specs.declared.model.ViewMap.{ViewMap}
use Rattle.deliveries.specs.Steps.{Ends}
use Rattle.plans.specs.Opening.{IsSchemaOf, IsMapOf}
use Rattle.qbs.specs.declared.opened_by_view.SeenBy.{SeenBy}
use Rattle.qbs.specs.Seen.{HasSeen}
use Rattle.qbs.specs.View.{Seen}

-- the bytes of a map, a schema and a source have these
pub record IsSeenBy (w s t : List ℕ) (o : SeenBy) : Type 0 where
  pub is_schema : IsSchemaOf s o.schema
  pub is_map : IsMapOf o.schema w o.map
  pub has : HasSeen o.map o.schema t o.seen

-- no plan is due behind what is seen
abbrev pub none_seen : Schema → ViewMap → Seen → Ends
none_seen tables m seen plan = ⊥
