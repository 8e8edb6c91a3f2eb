-- Types as they are spelled in the file, and in what is seen.
use Rattle.std.specs.Prelude.{ℕ, List, [], ◌∷◌, Bool, true, false, ◌&&◌, ◌||◌, not, Option, Some, None, slice_get, codes, if◌then◌else◌}
use Rattle.std.specs.Str.{bytes_eq}
use Rattle.qbs_base.specs.declared.columns.Table.{Table}
use Rattle.view_items.specs.declared.item.Item.{Item}
use Rattle.view_map.specs.declared.model.RowClass.{RowClass}
use Rattle.view_map.specs.declared.model.ScalarKind.{ScalarKind}
use Rattle.view_map.specs.declared.model.ScalarKind.TheVariants as kinds
use Rattle.view_map.specs.declared.model.ScalarType.{ScalarType}
use Rattle.view_rules.specs.declared.java_type.JavaType.{JavaType}
use Rattle.view_rules.specs.declared.java_type.JavaType.TheVariants as types
use Rattle.view_rules.specs.declared.spelled.Spelled.{Spelled}
use Rattle.view_rules.specs.Decisions.{is_text_kind}
use Rattle.view_rules.specs.Options.{◌>>=◌}
use Rattle.view_rules.specs.Setting.{Within, is_at, past, next}

abbrev pub scalar_type : ScalarKind → Bool → ScalarType
scalar_type kind boxed = record { kind = kind; boxed = boxed }

-- a type of one value
abbrev pub scalar_of_word : List ℕ → Option ScalarType
scalar_of_word word =
    if bytes_eq word (codes "int") then Some (scalar_type kinds.Int false)
    else (if bytes_eq word (codes "long") then Some (scalar_type kinds.Long false)
    else (if bytes_eq word (codes "boolean") then Some (scalar_type kinds.Boolean false)
    else (if bytes_eq word (codes "String") then Some (scalar_type kinds.Text true)
    else (if bytes_eq word (codes "Integer") then Some (scalar_type kinds.Int true)
    else (if bytes_eq word (codes "Long") then Some (scalar_type kinds.Long true)
    else (if bytes_eq word (codes "Boolean") then Some (scalar_type kinds.Boolean true)
    else None))))))

abbrev pub is_class : Option RowClass → List ℕ → Bool
is_class (Some c) word = bytes_eq c.class word
is_class None word = false

abbrev pub names_class : Within → ℕ → List ℕ → Bool
names_class w n word = is_class (slice_get w.map.classes n) word

-- the first class of the map with this name, of those that are there in the file
abbrev pub class_among : Within → List ℕ → List ℕ → Option ℕ
class_among w [] word = None
class_among w (n ∷ ns) word = if names_class w n word then Some n else class_among w ns word

abbrev pub class_of_word : Within → List ℕ → Option ℕ
class_of_word w word = class_among w w.classes word

abbrev pub one_of : Within → Option ScalarType → List ℕ → Option JavaType
one_of w (Some t) word = Some (types.Scalar t)
one_of w None word = class_of_word w word >>= λ c. Some (types.Row c)

-- a scalar or a row
abbrev pub plain_of_word : Within → List ℕ → Option JavaType
plain_of_word w word = one_of w (scalar_of_word word) word

-- a list holds rows, or boxed values or texts
abbrev pub list_of : JavaType → Option JavaType
list_of (types.Row c) = Some (types.Rows c)
list_of (types.Scalar t) = if t.boxed then Some (types.Scalars t.kind) else None
list_of _ = None

-- a set holds boxed values, and texts where the database compares them by their bytes
abbrev pub set_of : Bool → JavaType → Option JavaType
set_of binary (types.Scalar t) = if t.boxed && (binary || not (is_text_kind t.kind)) then Some (types.Distinct t.kind) else None
set_of binary _ = None

abbrev pub word_of : Option Item → List ℕ
word_of (Some item) = item.bytes
word_of None = []

-- the bytes of an item
abbrev pub bytes_at : Within → ℕ → List ℕ
bytes_at w i = word_of (slice_get w.items i)

-- a type, and the number of the item behind it
abbrev pub spelled_to : JavaType → ℕ → Spelled
spelled_to java to = record { java = java; to = to }

-- what stands between `<` and `>`
abbrev pub argument_at : Within → ℕ → Option Spelled
argument_at w i =
    past w (codes "<") i >>= λ j. plain_of_word w (bytes_at w j) >>= λ element. next w j >>= λ k. past w (codes ">") k >>= λ l. Some (spelled_to element l)

abbrev pub listed : Option Spelled → Option Spelled
listed (Some e) = list_of e.java >>= λ java. Some (spelled_to java e.to)
listed None = None

abbrev pub distinct : Bool → Option Spelled → Option Spelled
distinct binary (Some e) = set_of binary e.java >>= λ java. Some (spelled_to java e.to)
distinct binary None = None

-- The type that the items from one on spell, as far as it is seen: `int` `long` `boolean` `String` `Integer` `Long` `Boolean`, a class of the
-- map, and `List` and `Set` of such. Arrays, names with dots and other arguments go on behind it, where nothing that is read goes on.
abbrev pub type_at : Within → ℕ → Option Spelled
type_at w i =
    next w i >>= λ j.
    (if is_at w i (codes "List") then listed (argument_at w j)
    else (if is_at w i (codes "Set") then distinct w.map.texts_binary (argument_at w j)
    else (plain_of_word w (bytes_at w i) >>= λ java. Some (spelled_to java j))))

-- ---- In what is seen

abbrev pub table_name : Option Table → List ℕ
table_name (Some t) = t.name
table_name None = []

abbrev pub table_of_class : Within → Option RowClass → List ℕ
table_of_class w (Some c) = table_name (slice_get w.tables c.table)
table_of_class w None = []

-- a class is seen as its table
abbrev pub table_of : Within → ℕ → List ℕ
table_of w class = table_of_class w (slice_get w.map.classes class)

-- boxed types are seen as the primitive ones
abbrev pub kind_word : ScalarKind → List ℕ
kind_word kinds.Int = codes "int"
kind_word kinds.Long = codes "long"
kind_word kinds.Boolean = codes "boolean"
kind_word kinds.Text = codes "String"

-- but as elements of lists and sets
abbrev pub element_word : ScalarKind → List ℕ
element_word kinds.Int = codes "Integer"
element_word kinds.Long = codes "Long"
element_word kinds.Boolean = codes "Boolean"
element_word kinds.Text = codes "String"

-- the words of a type
abbrev pub type_words : Within → JavaType → List (List ℕ)
type_words w (types.Scalar t) = kind_word t.kind ∷ []
type_words w (types.Row c) = table_of w c ∷ []
type_words w (types.Rows c) = codes "List" ∷ codes "<" ∷ table_of w c ∷ codes ">" ∷ []
type_words w (types.Scalars k) = codes "List" ∷ codes "<" ∷ element_word k ∷ codes ">" ∷ []
type_words w (types.Distinct k) = codes "Set" ∷ codes "<" ∷ element_word k ∷ codes ">" ∷ []

-- the word of what a list or set holds
abbrev pub element_of_type : Within → JavaType → List ℕ
element_of_type w (types.Rows c) = table_of w c
element_of_type w (types.Scalars k) = element_word k
element_of_type w (types.Distinct k) = element_word k
element_of_type w _ = []
