-- What is fixed while one slice is looked at, and its items one by one.
use Rattle.std.specs.Prelude.{ℕ, List, [], ◌∷◌, Bool, false, ◌==◌, ◌+◌, nat_eq, Option, Some, None, slice_get, if◌then◌else◌}
use Rattle.std.specs.List.{list_any}
use Rattle.std.specs.Str.{bytes_eq}
use Rattle.qbs_base.specs.declared.columns.Table.{Table}
use Rattle.view_items.specs.declared.item.Item.{Item}
use Rattle.view_map.specs.declared.model.ViewMap.{ViewMap}
use Rattle.view_rules.specs.declared.sight.ClassConstant.{ClassConstant}
use Rattle.view_rules.specs.declared.sight.Param.{Param}
use Rattle.view_rules.specs.declared.within.Within as code
use Rattle.view_rules.specs.Options.{◌>>=◌}

pub record Within : Type 0 where
  pub map : ViewMap
  pub tables : List Table
  pub items : List Item
  -- by their numbers in the map: the classes that are there in the file, and what may be read in the method
  pub classes : List ℕ
  pub fetches : List ℕ
  pub templates : List ℕ
  pub map_constants : List ℕ
  pub constants : List ClassConstant
  pub params : List Param
  -- names from outside that are tested for null and unguarded
  pub tested : List (List ℕ)
  -- names of classes that nothing obscures in the file
  pub clear : List (List ℕ)
  -- `get` may be read
  pub gets : Bool

abbrev pub within_of : code.Within → Within
within_of w =
    record {
      map = w.map.now;
      tables = w.tables.now;
      items = w.items.now;
      classes = w.classes.now;
      fetches = w.fetches.now;
      templates = w.templates.now;
      map_constants = w.map_constants.now;
      constants = w.constants.now;
      params = w.params.now;
      tested = w.tested.now;
      clear = w.clear.now;
      gets = w.gets;
    }

-- ---- Items

abbrev pub is_spelled : Option Item → List ℕ → Bool
is_spelled None word = false
is_spelled (Some item) word = bytes_eq item.bytes word

-- the item of this number is this word or sign
abbrev pub is_at : Within → ℕ → List ℕ → Bool
is_at w i word = is_spelled (slice_get w.items i) word

-- the number behind it, where it is
abbrev pub past : Within → List ℕ → ℕ → Option ℕ
past w word i = if is_at w i word then Some (i + 1) else None

abbrev pub past_all : Within → List (List ℕ) → ℕ → Option ℕ
past_all w [] i = Some i
past_all w (word ∷ words) i = past w word i >>= λ j. past_all w words j

-- the number behind any item
abbrev pub next_behind : Option Item → ℕ → Option ℕ
next_behind None i = None
next_behind (Some item) i = Some (i + 1)

abbrev pub next : Within → ℕ → Option ℕ
next w i = next_behind (slice_get w.items i) i

-- the number that a tree names is the one that was come to
abbrev pub here : ℕ → ℕ → Option ℕ
here at i = if nat_eq at i then Some i else None

abbrev pub is_number_among : ℕ → List ℕ → Bool
is_number_among n ns = list_any (λ m. n == m) ns

abbrev pub is_name_among : List ℕ → List (List ℕ) → Bool
is_name_among name names = list_any (λ other. bytes_eq name other) names

-- a class of this name is Java's own, or the map's
abbrev pub is_clear : Within → List ℕ → Bool
is_clear w name = is_name_among name w.clear
