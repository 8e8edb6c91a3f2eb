-- Where rows are fetched.
use Rattle.std.specs.Prelude.{ℕ, ◌-◌, Bool, true, false, ◌&&◌, ◌||◌, ◌==◌, nat_le, nat_lt, List, [], ◌∷◌, ◌++◌, take, drop, Option, Some, None, slice_get, if◌then◌else◌}
use Rattle.std.specs.List.{list_any}
use Rattle.std.specs.Str.{bytes_eq}
use Rattle.view_items.specs.declared.item.Item.{Item}
use Rattle.view_map.specs.declared.model.FetchPattern.{FetchPattern}
use Rattle.view_map.specs.declared.model.PatternItem.{PatternItem}
use Rattle.view_map.specs.declared.model.RowClass.{RowClass}
use Rattle.view_map.specs.declared.model.ViewMap.{ViewMap}
use Rattle.view_shapes.specs.declared.method.Method.{Method}
use Rattle.view_spell.specs.declared.origins.Origin.{Origin}
use Rattle.view_spell.specs.declared.fetched.Fetched.{Fetched}

-- the number of the table of which a class of the map is
abbrev pub table_in : Option RowClass → Option ℕ
table_in None = None
table_in (Some c) = Some c.table

abbrev pub table_of : ViewMap → ℕ → Option ℕ
table_of m class = table_in (slice_get m.classes class)

-- items begin with those of a pattern
abbrev pub begin : List Item → List PatternItem → Bool
begin items [] = true
begin [] (p ∷ ps) = false
begin (i ∷ items) (p ∷ ps) = bytes_eq i.bytes p.bytes && begin items ps

abbrev pub fetched_from : ℕ → Option ℕ → List Fetched
fetched_from byte None = []
fetched_from byte (Some table) = record { byte = byte; table = table } ∷ []

-- what a pattern fetches that stands where these items begin
abbrev pub fetched_by : ViewMap → ℕ → List Item → FetchPattern → List Fetched
fetched_by m byte items f = if begin items f.items then fetched_from byte (table_of m f.table) else []

abbrev pub fetched_by_all : ViewMap → ℕ → List Item → List FetchPattern → List Fetched
fetched_by_all m byte items [] = []
fetched_by_all m byte items (f ∷ fs) = fetched_by m byte items f ++ fetched_by_all m byte items fs

-- each pattern of the map that stands among some items, with the byte of the file at which it begins
abbrev pub fetched_among : ViewMap → List Item → List Fetched
fetched_among m [] = []
fetched_among m (i ∷ items) = fetched_by_all m i.from (i ∷ items) m.fetches ++ fetched_among m items

-- those of a method's body
abbrev pub fetched_in : ViewMap → List Item → Method → List Fetched
fetched_in m items method = fetched_among m (take (method.to - method.from) (drop method.from items))

abbrev pub is_outside : Origin → ℕ → Bool
is_outside at byte = nat_lt byte at.from || nat_le at.to byte

abbrev pub fetches_outside : ℕ → Origin → Fetched → Bool
fetches_outside table at f = (f.table == table) && is_outside at f.byte

-- rows of a table are fetched elsewhere than in a stretch
abbrev pub is_fetched_elsewhere : List Fetched → ℕ → Origin → Bool
is_fetched_elsewhere fs table at = list_any (fetches_outside table at) fs
