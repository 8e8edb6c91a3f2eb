-- Fetches, and queries by the map's templates.
use Rattle.std.specs.Prelude.{ℕ, List, [], ◌∷◌, Bool, true, false, ◌&&◌, ◌||◌, not, ◌+◌, ◌-◌, nat_le, Option, Some, None, is_some, slice_get, codes, if◌then◌else◌}
use Rattle.view_map.specs.declared.model.FetchPattern.{FetchPattern}
use Rattle.view_map.specs.declared.model.Part.{Part}
use Rattle.view_map.specs.declared.model.Part.TheVariants as parts
use Rattle.view_map.specs.declared.model.PatternItem.{PatternItem}
use Rattle.view_map.specs.declared.model.QueryKind.{QueryKind}
use Rattle.view_map.specs.declared.model.QueryKind.TheVariants as queries
use Rattle.view_map.specs.declared.model.RowClass.{RowClass}
use Rattle.view_map.specs.declared.model.ScalarKind.TheVariants as kinds
use Rattle.view_map.specs.declared.model.Template.{Template}
use Rattle.view_rules.specs.declared.java_type.JavaType.{JavaType}
use Rattle.view_rules.specs.declared.java_type.JavaType.TheVariants as types
use Rattle.view_rules.specs.Decisions.{unboxed_type, boxed_type, is_scalar}
use Rattle.view_rules.specs.Lists.{is_list}
use Rattle.view_rules.specs.Literals.{is_text}
use Rattle.view_rules.specs.Names.{Seen}
use Rattle.view_rules.specs.Options.{◌>>=◌, where_so}
use Rattle.view_rules.specs.Setting.{Within, is_at, past, past_all, next, here, is_number_among, is_clear}
use Rattle.view_rules.specs.Spelled.{element_word, bytes_at}

-- ---- Fetches

abbrev pub past_items : Within → List PatternItem → ℕ → Option ℕ
past_items w [] i = Some i
past_items w (item ∷ items) i = past w item.bytes i >>= λ j. past_items w items j

-- none of `.` `(` `[` `::` goes on behind
abbrev pub ends : Within → ℕ → Bool
ends w i = not (is_at w i (codes ".") || (is_at w i (codes "(") || (is_at w i (codes "[") || is_at w i (codes "::"))))

-- all rows of a class that is there in the file
abbrev pub fetched : Within → Option FetchPattern → ℕ → Option Seen
fetched w (Some f) i = past_items w f.items i >>= λ j. where_so (ends w j && is_number_among f.table w.classes) (j, types.Rows f.table)
fetched w None i = None

-- a fetch pattern, whole
abbrev pub fetch_at : Within → ℕ → ℕ → ℕ → Option Seen
fetch_at w number at i = here at i >>= λ h. (if is_number_among number w.fetches then fetched w (slice_get w.map.fetches number) h else None)

-- ---- Templates

-- one that may be read in the method
abbrev pub template_of : Within → ℕ → Option Template
template_of w number = if is_number_among number w.templates then slice_get w.map.templates number else None

abbrev pub is_long_kind : QueryKind → Bool
is_long_kind queries.Long = true
is_long_kind _ = false

-- `(int)` stands before a query for a whole number alone
abbrev pub past_cast : Within → QueryKind → Bool → ℕ → ℕ → Option ℕ
past_cast w kind false at i = here at i
past_cast w kind true at i =
    here at i >>= λ h. (if is_long_kind kind then past_all w (codes "(" ∷ codes "int" ∷ codes ")" ∷ []) h else None)

abbrev pub class_word : Option RowClass → List ℕ
class_word (Some c) = c.class
class_word None = []

-- Java's class of what a list holds
abbrev pub class_of_elements : Within → JavaType → List ℕ
class_of_elements w (types.Rows c) = class_word (slice_get w.map.classes c)
class_of_elements w (types.Scalars k) = element_word k
class_of_elements w _ = []

abbrev pub may_be_elements : Within → JavaType → Bool
may_be_elements w (types.Rows c) = is_number_among c w.classes
may_be_elements w (types.Scalars k) = true
may_be_elements w _ = false

-- a text literal at this very item
abbrev pub past_text : Within → ℕ → ℕ → Option ℕ
past_text w text i = here text i >>= λ h. (if is_text (bytes_at w h) then next w h else None)

-- a class is named before `.class`, where it is a type whatever else has its name, or nothing obscures it in the file
abbrev pub is_class_name : Within → List ℕ → ℕ → Bool
is_class_name w word i = is_some (past_all w (codes "." ∷ codes "class" ∷ []) i) || is_clear w word

abbrev pub past_class : Within → List ℕ → ℕ → Option ℕ
past_class w word i = past w word i >>= λ j. where_so (is_class_name w word j) j

-- a part of a template outside of its arguments
abbrev pub past_part : Within → ℕ → JavaType → Part → ℕ → Option ℕ
past_part w text java (parts.Item item) i = past w item.bytes i
past_part w text java parts.Sql i = past_text w text i
past_part w text java parts.Type i = if may_be_elements w java then past_class w (class_of_elements w java) i else None
past_part w text java parts.Number i = None
past_part w text java parts.Argument i = None

abbrev pub past_parts : Within → ℕ → JavaType → List Part → ℕ → Option ℕ
past_parts w text java [] i = Some i
past_parts w text java (p ∷ ps) i = past_part w text java p i >>= λ j. past_parts w text java ps j

-- the number of an argument
abbrev pub number_word : ℕ → List ℕ
number_word n = (48 + n) ∷ []

-- a part of a template beside its argument
abbrev pub past_numbered : Within → ℕ → Part → ℕ → Option ℕ
past_numbered w n (parts.Item item) i = past w item.bytes i
past_numbered w n parts.Number i = past w (number_word n) i
past_numbered w n _ i = None

-- the parts before the argument
abbrev pub past_front : Within → ℕ → List Part → ℕ → Option ℕ
past_front w n [] i = None
past_front w n (parts.Argument ∷ ps) i = Some i
past_front w n (p ∷ ps) i = past_numbered w n p i >>= λ j. past_front w n ps j

-- the parts behind it
abbrev pub past_back : Within → ℕ → List Part → ℕ → Option ℕ
past_back w n [] i = Some i
past_back w n (p ∷ ps) i = past_numbered w n p i >>= λ j. past_back w n ps j

abbrev pub behind_argument : List Part → List Part
behind_argument [] = []
behind_argument (parts.Argument ∷ ps) = ps
behind_argument (p ∷ ps) = behind_argument ps

-- What a query gives. One for a truth value may give an object, so it isn't taken for a primitive one.
abbrev pub query_type : QueryKind → Bool → JavaType → Option JavaType
query_type queries.List cast java = where_so (is_list java) java
query_type queries.Long true java = Some (unboxed_type kinds.Int)
query_type queries.Long false java = Some (unboxed_type kinds.Long)
query_type queries.Boolean cast java = Some (boxed_type kinds.Boolean)

-- up to the arguments
abbrev pub past_query : Within → Template → Bool → ℕ → JavaType → ℕ → ℕ → Option ℕ
past_query w t cast text java at i = past_cast w t.kind cast at i >>= λ j. past_parts w text java t.front j

-- from the arguments on
abbrev pub queried : Within → Template → Bool → ℕ → JavaType → ℕ → Option Seen
queried w t cast text java i =
    past_parts w text java t.back i >>= λ j. (if ends w j then (query_type t.kind cast java >>= λ type. Some (j, type)) else None)

-- an argument stands between commas or parentheses
abbrev pub is_apart : Within → ℕ → ℕ → Bool
is_apart w from to =
    (is_at w (from - 1) (codes ",") || is_at w (from - 1) (codes "(")) && (is_at w to (codes ",") || is_at w to (codes ")"))

-- Arguments have the numbers 1 to 9.
abbrev pub before_argument : Within → ℕ → List Part → ℕ → Option ℕ
before_argument w n each i = if nat_le n 9 then past_front w n each i else None

-- one value, which stands between commas or parentheses, or binds as tightly as what stands alone
abbrev pub passed : Within → ℕ → List Part → ℕ → ℕ → Seen → Option ℕ
passed w n each from level e = if is_scalar e.1 && (nat_le 8 level || is_apart w from e.0) then past_back w n (behind_argument each) e.0 else None
