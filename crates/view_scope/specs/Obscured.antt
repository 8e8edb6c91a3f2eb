-- Names that must mean in the file what Java or the map means by them.
use Rattle.std.specs.Prelude.{ℕ, zero, suc, ◌+◌, ◌-◌, Bool, true, false, ◌||◌, ◌&&◌, ◌==◌, not, nat_le, List, [], ◌∷◌, length, codes, slice_get, if◌then◌else◌}
use Rattle.std.specs.List.{list_any}
use Rattle.std.specs.Str.{bytes_eq}
use Rattle.std.specs.declared.option.Option.{Option}
use Rattle.std.specs.declared.option.Option.TheVariants.{Some, None}
use Rattle.view_items.specs.declared.item.Item.{Item}
use Rattle.view_shapes.specs.Found.{is_word, is_sign, is_name, is_one_of_words, is_one_of_signs, before}
use Rattle.view_shapes.specs.Uses.{is_called}
use Rattle.view_shapes.specs.Mentions.{numbers}
use Rattle.view_map.specs.declared.model.ViewMap.{ViewMap}
use Rattle.view_map.specs.declared.model.RowClass.{RowClass}
use Rattle.view_map.specs.declared.model.FetchPattern.{FetchPattern}
use Rattle.view_map.specs.declared.model.PatternItem.{PatternItem}
use Rattle.view_map.specs.declared.model.Constant.{Constant}
use Rattle.view_map.specs.declared.model.Template.{Template}
use Rattle.view_scope.specs.Patterns.{bytes_of, is_own_at, first_at, first_of_parts}

-- the classes of Java whose meaning is used
abbrev pub java_classes : List (List ℕ)
java_classes =
    codes "List" ∷ codes "Set" ∷ codes "ArrayList" ∷ codes "LinkedHashSet" ∷ codes "HashSet" ∷ codes "Iterator" ∷ codes "Collections"
    ∷ codes "Comparator" ∷ codes "Math" ∷ codes "Objects" ∷ codes "String" ∷ codes "Integer" ∷ codes "Long" ∷ codes "Boolean" ∷ []

unfoldable pub is_java_class : List ℕ → Bool
is_java_class name = list_any (λ n. bytes_eq n name) java_classes

abbrev pub word_of : Option Item → List ℕ
word_of (Some i) = i.bytes
word_of None = []

abbrev pub word_at : List Item → ℕ → List ℕ
word_at items k = word_of (slice_get items k)

-- ---- Names of the map

-- a class or a pattern is there in the files of one class alone, or in all
abbrev pub is_there : List ℕ → Option (List ℕ) → Bool
is_there class None = true
is_there class (Some c) = bytes_eq c class

-- a constant, a template and a fetch pattern begin with a name, casts and `this` aside
abbrev pub is_first_of : List ℕ → List (List ℕ) → Bool
is_first_of name [] = false
is_first_of name (n ∷ ns) = bytes_eq n name

abbrev pub begins_constant : List ℕ → Constant → Bool
begins_constant name c = is_first_of name c.names

abbrev pub begins_template : List ℕ → Template → Bool
begins_template name t = bytes_eq (first_of_parts t.front) name

abbrev pub is_own_name : List PatternItem → ℕ → List ℕ → Bool
is_own_name is k name = is_own_at is k && bytes_eq (bytes_of (slice_get is k)) name

abbrev pub begins_fetch : List ℕ → FetchPattern → Bool
begins_fetch name f = is_own_name f.items (first_at f.items) name

-- it is that of a class of the map
abbrev pub is_class_name : ViewMap → List ℕ → Bool
is_class_name map name = list_any (λ c. bytes_eq c.class name) map.classes

-- a capital letter, with which by custom a class begins and no field
abbrev pub is_capital : List ℕ → Bool
is_capital [] = false
is_capital (b ∷ bs) = nat_le 65 b && nat_le b 90

-- ---- Types of the file

-- a type of this name is declared at a number
abbrev pub is_type_word : List Item → ℕ → Bool
is_type_word items k = is_one_of_words (codes "class" ∷ codes "interface" ∷ codes "enum" ∷ codes "record" ∷ []) items k

abbrev pub declares_type : List Item → List ℕ → ℕ → Bool
declares_type items name k = is_type_word items k && is_word name items (k + 1)

abbrev pub is_declared_in : List Item → List ℕ → ℕ → ℕ → Bool
is_declared_in items name from to = list_any (declares_type items name) (numbers from (to - from))

-- a class of the map may be declared once in the class for which the map has it; where it isn't there at all, no more is asked of its name
abbrev pub may_be_nested : List Item → List ℕ → ℕ → List ℕ → Option (List ℕ) → Bool
may_be_nested items class k name None = false
may_be_nested items class k name (Some c) = not (bytes_eq c class) || not (is_declared_in items name (k + 1) (length items))

-- the type of this name that is declared at a number hides a class of the map
abbrev pub hides_class : List Item → List ℕ → ℕ → List ℕ → RowClass → Bool
hides_class items class k name c = bytes_eq c.class name && not (may_be_nested items class k name c.within)

-- another type than the class itself hides what constants or fetch patterns begin with
abbrev pub hides_first : ViewMap → List ℕ → List ℕ → Bool
hides_first m class name =
    not (bytes_eq name class) && (list_any (begins_constant name) m.constants || list_any (begins_fetch name) m.fetches)

-- the type of this name that is declared at a number hides them, what templates begin with, or a class of Java or of the map
unfoldable pub hides_name : ViewMap → List Item → List ℕ → ℕ → List ℕ → Bool
hides_name m items class k name =
    is_java_class name || list_any (begins_template name) m.templates || hides_first m class name
    || list_any (hides_class items class k name) m.classes

abbrev pub hides_by_type : ViewMap → List Item → List ℕ → ℕ → Bool
hides_by_type m items class k = is_type_word items k && is_name items (k + 1) && hides_name m items class k (word_at items (k + 1))

-- ---- Imports

-- names from a number on are those of a class of `java.util` or `java.lang`
abbrev pub is_from_java : List Item → ℕ → Bool
is_from_java items k =
    is_word (codes "java") items k && is_sign (codes ".") items (k + 1)
    && is_one_of_words (codes "util" ∷ codes "lang" ∷ []) items (k + 2) && is_sign (codes ".") items (k + 3)

abbrev pub is_java_name : List Item → ℕ → ℕ → Bool
is_java_name items from last = is_from_java items from && (from + 4 == last)

-- the number of the last of names with dots between them that begin at a number
abbrev pub goes_on : List Item → ℕ → Bool
goes_on items k = is_sign (codes ".") items (k + 1) && is_name items (k + 2)

unfoldable pub last_of_names : ℕ → List Item → ℕ → ℕ
last_of_names zero items k = k
last_of_names (suc steps) items k = if goes_on items k then last_of_names steps items (k + 2) else k

-- the import may be one of a field
abbrev pub is_static : List Item → ℕ → Bool
is_static items k = is_word (codes "static") items (k + 1)

-- where the names of an import begin
abbrev pub import_from : List Item → ℕ → ℕ
import_from items k = if is_static items k then k + 2 else k + 1

-- a constant of several names begins with this one: a constant of one name may be imported
abbrev pub begins_longer : List ℕ → Constant → Bool
begins_longer name c = nat_le 2 (length c.names) && begins_constant name c

abbrev pub begins_by_class : List ℕ → Template → Bool
begins_by_class name t = is_capital name && begins_template name t

-- a field of this name hides a class of the map, or a class that constants and templates begin with
abbrev pub hides_as_field : ViewMap → List ℕ → Bool
hides_as_field m name =
    is_class_name m name || list_any (begins_longer name) m.constants || list_any (begins_by_class name) m.templates

-- an imported name, that of a field or not, hides a class of Java, what a fetch pattern begins with, or what a field may hide
abbrev pub hides_imported : ViewMap → List ℕ → Bool → Bool
hides_imported m name field =
    is_java_class name || list_any (begins_fetch name) m.fetches || (field && hides_as_field m name)

-- the last of imported names does, from elsewhere than `java.util` and `java.lang`
unfoldable pub hides_last : ViewMap → List Item → Bool → ℕ → ℕ → Bool
hides_last m items field from last =
    is_name items last && hides_imported m (word_at items last) field && not (is_java_name items from last)

abbrev pub hides_from : ViewMap → List Item → Bool → ℕ → Bool
hides_from m items field from = hides_last m items field from (last_of_names (length items) items from)

abbrev pub hides_by_import : ViewMap → List Item → ℕ → Bool
hides_by_import m items k = is_word (codes "import") items k && hides_from m items (is_static items k) (import_from items k)

-- ---- All of them

abbrev pub hides : ViewMap → List Item → List ℕ → ℕ → Bool
hides m items class k = hides_by_type m items class k || hides_by_import m items k

abbrev pub hides_in : ViewMap → List Item → List ℕ → ℕ → ℕ → Bool
hides_in m items class from to = list_any (hides m items class) (numbers from (to - from))

-- What the names of Java and of the map mean is what the file means by them: no type of the file hides one, and no import. A class of the map may
-- be nested in the class for which the map has it.
abbrev pub means_the_same : ViewMap → List Item → List ℕ → Bool
means_the_same m items class = not (hides_in m items class 0 (length items))

-- ---- Variables of the file

-- the item may end a type
abbrev pub primitive_words : List (List ℕ)
primitive_words =
    codes "int" ∷ codes "long" ∷ codes "boolean" ∷ codes "char" ∷ codes "byte" ∷ codes "short" ∷ codes "float" ∷ codes "double" ∷ codes "void" ∷ []

abbrev pub ends_type : List Item → ℕ → Bool
ends_type items k =
    (is_called items k && not (is_word (codes "yield") items k)) || is_one_of_words primitive_words items k
    || is_one_of_signs (codes ">" ∷ codes "]" ∷ []) items k

-- a type stands before the item
unfoldable pub is_typed : List Item → ℕ → Bool
is_typed items k = before (ends_type items) k

-- What may stand behind a class that is named and never behind the name of a variable where that is declared, be it a field, a local variable, a
-- parameter, or one of a pattern: these signs, and names other than those that go on behind a pattern.
abbrev pub signs_behind_class : List (List ℕ)
signs_behind_class =
    codes "." ∷ codes "::" ∷ codes "(" ∷ codes "<" ∷ codes ">" ∷ codes "[" ∷ codes "{" ∷ codes "..." ∷ codes "*" ∷ []

abbrev pub is_behind_class : List Item → ℕ → Bool
is_behind_class items k = is_one_of_signs signs_behind_class items k || is_name items k

abbrev pub goes_on_behind_pattern : List Item → ℕ → Bool
goes_on_behind_pattern items k = is_one_of_words (codes "when" ∷ codes "instanceof" ∷ []) items k

-- brackets stand behind an array's name too: a type stands before that, or the comma behind another variable
abbrev pub is_array_name : List Item → ℕ → Bool
is_array_name items k = is_sign (codes "[") items (k + 1) && (is_typed items k || before (is_sign (codes ",") items) k)

-- an item of an import: a name, a dot or `*`
abbrev pub may_be_imported : List Item → ℕ → Bool
may_be_imported items k = is_name items k || is_sign (codes ".") items k || is_sign (codes "*") items k

-- the item is in an import: behind the word, names and dots
unfoldable pub is_in_import : ℕ → List Item → ℕ → Bool
is_in_import zero items k = false
is_in_import (suc steps) items k =
    if is_word (codes "import") items k then true
    else (if not (may_be_imported items k) || (k == 0) then false else is_in_import steps items (k - 1))

-- a variable or a field of the name may be declared there, imports aside
abbrev pub declares_variable : List Item → ℕ → Bool
declares_variable items k =
    goes_on_behind_pattern items (k + 1) || is_array_name items k
    || (not (is_behind_class items (k + 1)) && not (is_in_import (length items) items k))

abbrev pub may_declare : List Item → List ℕ → ℕ → Bool
may_declare items name k = is_word name items k && declares_variable items k

abbrev pub may_be_declared_in : List Item → List ℕ → ℕ → ℕ → Bool
may_be_declared_in items name from to = list_any (may_declare items name) (numbers from (to - from))

-- a class may be named by itself: nothing may declare a variable of its name
abbrev pub is_clear : List Item → List ℕ → Bool
is_clear items name = not (may_be_declared_in items name 0 (length items))
