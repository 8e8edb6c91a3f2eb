-- What may be read in a method: all that means there what the map and Java say.
use Rattle.std.specs.Prelude.{ℕ, ◌+◌, Bool, true, false, ◌&&◌, ◌||◌, ◌==◌, not, List, [], ◌∷◌, ◌++◌, map, codes, Option, Some, None, slice_get, if◌then◌else◌}
use Rattle.std.specs.List.{list_all, flat_map}
use Rattle.std.specs.Str.{bytes_eq}
use Rattle.view_items.specs.declared.item.Item.{Item}
use Rattle.view_map.specs.declared.model.Constant.{Constant}
use Rattle.view_map.specs.declared.model.FetchPattern.{FetchPattern}
use Rattle.view_map.specs.declared.model.RowClass.{RowClass}
use Rattle.view_map.specs.declared.model.Template.{Template}
use Rattle.view_map.specs.declared.model.ViewMap.{ViewMap}
use Rattle.view_shapes.specs.declared.members.Stretch.{Stretch}
use Rattle.view_shapes.specs.Members.{members_of}
use Rattle.view_rules.specs.declared.sight.ClassConstant.{ClassConstant}
use Rattle.view_rules.specs.Decisions.{same_kind}
use Rattle.view_shapes.specs.declared.method.Method.{Method}
use Rattle.view_scope.specs.Allowed.{keeps_meaning, keeps_template, is_no_field, is_fetch_read, is_template_read, is_constant_read, is_free_in}
use Rattle.view_scope.specs.Constants.{constants_among}
use Rattle.view_scope.specs.Obscured.{is_there, is_clear, word_at}
use Rattle.view_statements.specs.declared.slice.Words.{Words}
use Rattle.view_slices.specs.declared.words.Known.{Known}
use Rattle.view_slices.specs.Slices.{File}

-- ---- Of the class, whatever the method

abbrev pub class_name : File → List ℕ
class_name file = word_at file.items file.class.name

abbrev pub members : File → List Stretch
members file = members_of file.items file.closings file.class.from

-- a fetch pattern means in the class what the map says, and so does a template
abbrev pub is_kept : ViewMap → File → FetchPattern → Bool
is_kept m file f = keeps_meaning m file.items file.closings file.rounds file.class (members file) f

abbrev pub is_template_kept : ViewMap → File → Template → Bool
is_template_kept m file t = keeps_template m file.items file.closings file.rounds file.class (members file) t

-- no field hides a constant of the map
abbrev pub is_unhidden : File → Constant → Bool
is_unhidden file c = is_no_field file.items file.closings file.rounds c.names

abbrev pub class_constants : File → List ClassConstant
class_constants file = constants_among file.items file.closings (members file)

-- classes that are named by themselves: those of Java whose methods are read, and those of the map
abbrev pub java_names : List (List ℕ)
java_names = codes "Objects" ∷ codes "Math" ∷ codes "Collections" ∷ codes "Comparator" ∷ codes "Iterator" ∷ []

abbrev pub names_of : List RowClass → List (List ℕ)
names_of cs = map (λ c. c.class) cs

-- those of them that nothing obscures
abbrev pub clear_one : List Item → List ℕ → List (List ℕ)
clear_one items name = if is_clear items name then name ∷ [] else []

abbrev pub clear_among : List Item → List (List ℕ) → List (List ℕ)
clear_among items names = flat_map (clear_one items) names

abbrev pub clear_names : ViewMap → File → List (List ℕ)
clear_names m file = clear_among file.items java_names ++ clear_among file.items (names_of m.classes)

-- the numbers of all classes that are there in a file of a class, from a number on
abbrev pub class_at : List ℕ → ℕ → RowClass → List ℕ
class_at class n c = if is_there class c.within then n ∷ [] else []

abbrev pub classes_from : List ℕ → ℕ → List RowClass → List ℕ
classes_from class n [] = []
classes_from class n (c ∷ cs) = class_at class n c ++ classes_from class (n + 1) cs

abbrev pub classes_there : ViewMap → File → List ℕ
classes_there m file = classes_from (class_name file) 0 m.classes

-- what is asked once for a file
abbrev pub known_in : ViewMap → File → Known
known_in m file =
    record {
      classes = classes_there m file;
      kept = map (is_kept m file) m.fetches;
      templates = map (is_template_kept m file) m.templates;
      free = map (is_unhidden file) m.constants;
      constants = class_constants file;
      clear = clear_names m file;
    }

-- ---- In a method

abbrev pub is_fetch_there : ViewMap → File → Method → Option FetchPattern → Bool
is_fetch_there m file method None = false
is_fetch_there m file method (Some f) = is_fetch_read m file.items file.closings file.rounds file.class method f

abbrev pub is_template_there : ViewMap → File → Method → Option Template → Bool
is_template_there m file method None = false
is_template_there m file method (Some t) = is_template_kept m file t && is_template_read m file.items file.closings file.rounds method t

abbrev pub is_constant_there : File → Method → Option Constant → Bool
is_constant_there file method None = false
is_constant_there file method (Some c) = is_constant_read file.items file.closings file.rounds method c

abbrev pub is_constant_free : File → Method → ClassConstant → Bool
is_constant_free file method c = is_free_in file.items file.closings file.rounds method c.name

-- the fetch patterns, templates and constants of these numbers
abbrev pub is_fetch_of : ViewMap → File → Method → ℕ → Bool
is_fetch_of m file method n = is_fetch_there m file method (slice_get m.fetches n)

abbrev pub is_template_of : ViewMap → File → Method → ℕ → Bool
is_template_of m file method n = is_template_there m file method (slice_get m.templates n)

abbrev pub is_constant_of : ViewMap → File → Method → ℕ → Bool
is_constant_of m file method n = is_constant_there file method (slice_get m.constants n)

abbrev pub are_fetches_there : ViewMap → File → Method → List ℕ → Bool
are_fetches_there m file method ns = list_all (is_fetch_of m file method) ns

abbrev pub are_templates_there : ViewMap → File → Method → List ℕ → Bool
are_templates_there m file method ns = list_all (is_template_of m file method) ns

abbrev pub are_constants_there : ViewMap → File → Method → List ℕ → Bool
are_constants_there m file method ns = list_all (is_constant_of m file method) ns

abbrev pub are_constants_free : File → Method → List ClassConstant → Bool
are_constants_free file method cs = list_all (is_constant_free file method) cs

abbrev pub same_sign : Bool → Bool → Bool
same_sign a b = (a && b) || (not a && not b)

abbrev pub same_constant : ClassConstant → ClassConstant → Bool
same_constant c d =
    bytes_eq c.name d.name && (same_kind c.kind d.kind && (bytes_eq c.value.bytes d.value.bytes
    && (same_kind c.value.kind d.value.kind && same_sign c.value.negative d.value.negative)))

-- constants are some of others, in their order; so are names
abbrev pub is_no_constant : List ClassConstant → Bool
is_no_constant [] = true
is_no_constant (c ∷ cs) = false

abbrev pub are_constants_among : List ClassConstant → List ClassConstant → Bool
are_constants_among cs [] = is_no_constant cs
are_constants_among [] (d ∷ ds) = true
are_constants_among (c ∷ cs) (d ∷ ds) = if same_constant c d then are_constants_among cs ds else are_constants_among (c ∷ cs) ds

abbrev pub is_no_name : List (List ℕ) → Bool
is_no_name [] = true
is_no_name (n ∷ ns) = false

abbrev pub are_names_among : List (List ℕ) → List (List ℕ) → Bool
are_names_among ns [] = is_no_name ns
are_names_among [] (o ∷ os) = true
are_names_among (n ∷ ns) (o ∷ os) = if bytes_eq n o then are_names_among ns os else are_names_among (n ∷ ns) os

abbrev pub same_numbers : List ℕ → List ℕ → Bool
same_numbers [] [] = true
same_numbers (m ∷ ms) (n ∷ ns) = (m == n) && same_numbers ms ns
same_numbers _ _ = false

-- All that is listed may be read in the method: the classes that are there in the file, each of them, so that no row in sight is passed over; fetch
-- patterns, templates and constants of the map that mean there what it says; constants of the class that are free; and names of classes that nothing
-- obscures.
abbrev pub are_words : ViewMap → File → Method → Words → Bool
are_words m file method words =
    same_numbers words.classes (classes_there m file)
    && (are_fetches_there m file method words.fetches
    && (are_templates_there m file method words.templates
    && (are_constants_there m file method words.map_constants
    && (are_constants_free file method words.constants
    && (are_constants_among words.constants (class_constants file)
    && are_names_among words.clear (clear_names m file))))))
