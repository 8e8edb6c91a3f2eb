-- Which fetch patterns, templates and constants may be read in a method.
use Rattle.std.specs.Prelude.{ℕ, ◌+◌, ◌-◌, Bool, true, false, ◌||◌, ◌&&◌, ◌==◌, not, nat_le, List, [], ◌∷◌, length, codes, slice_get, if◌then◌else◌}
use Rattle.std.specs.List.{list_any, list_all}
use Rattle.std.specs.Str.{bytes_eq}
use Rattle.std.specs.declared.option.Option.{Option}
use Rattle.std.specs.declared.option.Option.TheVariants.{Some, None}
use Rattle.view_items.specs.declared.item.Item.{Item}
use Rattle.view_shapes.specs.declared.members.Stretch.{Stretch}
use Rattle.view_shapes.specs.declared.members.ClassPlace.{ClassPlace}
use Rattle.view_shapes.specs.Members.{members_of}
use Rattle.view_shapes.specs.Found.{is_word, is_sign, is_name, is_one_of_words, is_one_of_signs, before}
use Rattle.view_shapes.specs.Mentions.{numbers, is_set_at}
use Rattle.view_shapes.specs.Uses.{is_called, is_free}
use Rattle.view_map.specs.declared.model.ViewMap.{ViewMap}
use Rattle.view_map.specs.declared.model.FetchPattern.{FetchPattern}
use Rattle.view_map.specs.declared.model.PatternItem.{PatternItem}
use Rattle.view_map.specs.declared.model.Constant.{Constant}
use Rattle.view_map.specs.declared.model.Template.{Template}
use Rattle.view_map.specs.declared.model.Part.{Part}
use Rattle.view_shapes.specs.declared.method.Method.{Method}
use Rattle.view_shapes.specs.declared.method.Parameter.{Parameter}
use Rattle.view_scope.specs.Methods.{method_prefix_end, parameter_at}
use Rattle.view_scope.specs.Obscured.{word_at, is_there, is_class_name, is_capital, is_typed, is_clear}
use Rattle.view_scope.specs.Patterns.{bytes_of, is_own_call, is_variable, is_loose_at, may_be_hidden, is_own_part_call, is_part_variable, is_loose_part, may_part_be_hidden, item_of, begins_own, first_at, first_of_parts}

-- ---- Free names

abbrev pub is_no_parameter : List Item → List ℕ → List Parameter → Bool
is_no_parameter items name ps = list_all (λ p. not (is_word name items p.name)) ps

-- a name is that of no parameter, and stands nowhere in the body where it may be declared
abbrev pub is_free_in : List Item → List ℕ → List ℕ → Method → List ℕ → Bool
is_free_in items closings rounds m name = is_no_parameter items name m.parameters && is_free items closings rounds name m.from m.to

-- of a class of the map no more is asked in a method: that nothing obscures it is asked once for a file
abbrev pub may_be_read : ViewMap → List Item → List ℕ → List ℕ → Method → List ℕ → Bool
may_be_read map items closings rounds m name = is_class_name map name || is_free_in items closings rounds m name

-- an item of a pattern is no name that stands neither behind a dot nor before a parenthesis, or may be read
abbrev pub is_item_free : ViewMap → List Item → List ℕ → List ℕ → Method → List PatternItem → ℕ → Bool
is_item_free map items closings rounds m is k = not (is_loose_at is k) || may_be_read map items closings rounds m (bytes_of (slice_get is k))

abbrev pub are_items_free : ViewMap → List Item → List ℕ → List ℕ → Method → List PatternItem → ℕ → ℕ → Bool
are_items_free map items closings rounds m is from to = list_all (is_item_free map items closings rounds m is) (numbers from (to - from))

abbrev pub is_pattern_free : ViewMap → List Item → List ℕ → List ℕ → Method → List PatternItem → Bool
is_pattern_free map items closings rounds m is = are_items_free map items closings rounds m is 0 (length is)

-- so are parts of a template
abbrev pub is_part_free : ViewMap → List Item → List ℕ → List ℕ → Method → List Part → ℕ → Bool
is_part_free map items closings rounds m ps k = not (is_loose_part ps k) || may_be_read map items closings rounds m (bytes_of (item_of ps k))

abbrev pub are_parts_free : ViewMap → List Item → List ℕ → List ℕ → Method → List Part → ℕ → ℕ → Bool
are_parts_free map items closings rounds m ps from to = list_all (is_part_free map items closings rounds m ps) (numbers from (to - from))

-- ---- The class's own methods and fields

-- the item stands directly in the braces of the class
abbrev pub same_number : Option ℕ → ℕ → Bool
same_number None k = false
same_number (Some j) k = j == k

abbrev pub is_in_class : List ℕ → ClassPlace → ℕ → Bool
is_in_class rounds class k = same_number (slice_get rounds k) (class.from - 1)

abbrev pub is_typed_name : List Item → List ℕ → ClassPlace → List ℕ → ℕ → Bool
is_typed_name items rounds class name k = is_word name items k && is_in_class rounds class k && is_typed items k

-- the class declares a method of this name
abbrev pub declares_method_at : List Item → List ℕ → ClassPlace → List ℕ → ℕ → Bool
declares_method_at items rounds class name k = is_typed_name items rounds class name k && is_sign (codes "(") items (k + 1)

abbrev pub declares_method_in : List Item → List ℕ → ClassPlace → List ℕ → ℕ → ℕ → Bool
declares_method_in items rounds class name from to = list_any (declares_method_at items rounds class name) (numbers from (to - from))

-- the class declares a field of this name
abbrev pub declares_field_at : List Item → List ℕ → ClassPlace → List ℕ → ℕ → Bool
declares_field_at items rounds class name k =
    is_typed_name items rounds class name k && is_one_of_signs (codes "=" ∷ codes ";" ∷ codes "," ∷ []) items (k + 1)

abbrev pub declares_field_in : List Item → List ℕ → ClassPlace → List ℕ → ℕ → ℕ → Bool
declares_field_in items rounds class name from to = list_any (declares_field_at items rounds class name) (numbers from (to - from))

-- a member's first item behind its modifiers is the name of the class and begins a constructor
abbrev pub begins_constructor : List Item → List ℕ → ℕ → Bool
begins_constructor items name k = is_word name items k && is_sign (codes "(") items (k + 1)

-- the body of a setter, up to the end of the member: `f = p;` or `this.f = p;`
abbrev pub sets_from : List Item → List ℕ → List ℕ → ℕ → ℕ → Bool
sets_from items field parameter to k =
    is_word field items k && is_sign (codes "=") items (k + 1) && is_word parameter items (k + 2) && is_sign (codes ";") items (k + 3)
    && is_sign (codes "}") items (k + 4) && (k + 5 == to)

abbrev pub sets_alone : List Item → List ℕ → List ℕ → ℕ → ℕ → Bool
sets_alone items field parameter to k =
    if is_word (codes "this") items k && is_sign (codes ".") items (k + 1) then sets_from items field parameter to (k + 2) else sets_from items field parameter to k

-- behind the one parameter, which is all that the parentheses hold
abbrev pub sets_to : List Item → List ℕ → ℕ → Option Parameter → Bool
sets_to items field to None = false
sets_to items field to (Some p) =
    is_sign (codes ")") items (p.name + 1) && is_sign (codes "{") items (p.name + 2) && sets_alone items field (word_at items p.name) to (p.name + 3)

abbrev pub begins_with_set : List ℕ → Bool
begins_with_set (a ∷ b ∷ c ∷ rest) = (a == 115) && (b == 101) && (c == 116)
begins_with_set name = false

-- a method without a result, with one parameter, whose only statement sets the field to it
abbrev pub begins_setter : List Item → List ℕ → List ℕ → ℕ → ℕ → Bool
begins_setter items closings field to k =
    is_word (codes "void") items k && is_name items (k + 1) && begins_with_set (word_at items (k + 1)) && is_sign (codes "(") items (k + 2)
    && sets_to items field to (parameter_at items closings (k + 3))

abbrev pub may_set_from : List Item → List ℕ → ClassPlace → List ℕ → ℕ → Option ℕ → Bool
may_set_from items closings class field to None = false
may_set_from items closings class field to (Some k) =
    begins_constructor items (word_at items class.name) k || begins_setter items closings field to k

-- a constructor, or a setter of the field
abbrev pub may_set_field : List Item → List ℕ → ClassPlace → List ℕ → Stretch → Bool
may_set_field items closings class field member =
    may_set_from items closings class field member.to (method_prefix_end items closings member.from)

-- the field is set at a number; where a type stands before the name a variable or the field is declared
abbrev pub sets_field : List Item → List ℕ → ℕ → Bool
sets_field items field k = is_word field items k && is_set_at items k && not (is_typed items k)

abbrev pub is_set_between : List Item → List ℕ → ℕ → ℕ → Bool
is_set_between items field from to = list_any (sets_field items field) (numbers from (to - from))

-- of these members none but constructors and setters sets the field
abbrev pub is_kept_by : List Item → List ℕ → ClassPlace → List ℕ → Stretch → Bool
is_kept_by items closings class field s = not (is_set_between items field s.from s.to) || may_set_field items closings class field s

abbrev pub is_kept : List Item → List ℕ → ClassPlace → List Stretch → List ℕ → Bool
is_kept items closings class members field = list_all (is_kept_by items closings class field) members

-- ---- Fetches

abbrev pub is_said_here : List ℕ → Option (List ℕ) → Bool
is_said_here class None = false
is_said_here class (Some c) = bytes_eq c class

-- the pattern calls on the object itself a method that the class declares
abbrev pub calls_own : List Item → List ℕ → ClassPlace → List PatternItem → ℕ → Bool
calls_own items rounds class is k =
    is_own_call (word_at items class.name) is k && declares_method_in items rounds class (bytes_of (slice_get is k)) class.from class.to

abbrev pub calls_own_in : List Item → List ℕ → ClassPlace → List PatternItem → ℕ → ℕ → Bool
calls_own_in items rounds class is from to = list_any (calls_own items rounds class is) (numbers from (to - from))

-- the variable of the object itself that the pattern names there is kept
abbrev pub is_variable_kept : List Item → List ℕ → ClassPlace → List Stretch → List PatternItem → ℕ → Bool
is_variable_kept items closings class members is k =
    not (is_variable (word_at items class.name) is k) || is_kept items closings class members (bytes_of (slice_get is k))

-- a name is that of no class of the map, or nothing obscures it
abbrev pub is_meant : ViewMap → List Item → List ℕ → Bool
is_meant map items name = not (is_class_name map name) || is_clear items name

-- so it is, and no variable hides a class of the map
abbrev pub is_kept_at : ViewMap → List Item → List ℕ → ClassPlace → List Stretch → List PatternItem → ℕ → Bool
is_kept_at map items closings class members is k =
    is_variable_kept items closings class members is k && (not (may_be_hidden is k) || is_meant map items (bytes_of (slice_get is k)))

abbrev pub are_kept : ViewMap → List Item → List ℕ → ClassPlace → List Stretch → List PatternItem → ℕ → ℕ → Bool
are_kept map items closings class members is from to = list_all (is_kept_at map items closings class members is) (numbers from (to - from))

-- the first name is that of a field of the class, or nothing may declare a variable of it
abbrev pub is_field_or_clear : List Item → List ℕ → ClassPlace → List ℕ → Bool
is_field_or_clear items rounds class name = (not (is_capital name) && declares_field_in items rounds class name class.from class.to) || is_clear items name

-- no parenthesis that is dotted stands before the first name
abbrev pub is_first_clear : List Item → List ℕ → ClassPlace → List PatternItem → ℕ → Bool
is_first_clear items rounds class is k =
    begins_own is k
    && (not (is_variable (word_at items class.name) is k) || is_field_or_clear items rounds class (bytes_of (slice_get is k)))

-- A fetch pattern means in the class what the map says: it calls no method that the class declares, unless the map has it for this class; the
-- fields that it names are set by constructors and setters alone; no field or variable has the name of a class of the map that it names
-- elsewhere than before `.class`; and where it begins with a class, none has its name.
abbrev pub keeps_meaning : ViewMap → List Item → List ℕ → List ℕ → ClassPlace → List Stretch → FetchPattern → Bool
keeps_meaning map items closings rounds class members f =
    is_there (word_at items class.name) f.within
    && (is_said_here (word_at items class.name) f.within || not (calls_own_in items rounds class f.items 0 (length f.items)))
    && are_kept map items closings class members f.items 0 (length f.items)
    && is_first_clear items rounds class f.items (first_at f.items)

-- it may be read in the method
abbrev pub is_fetch_read : ViewMap → List Item → List ℕ → List ℕ → ClassPlace → Method → FetchPattern → Bool
is_fetch_read map items closings rounds class m f =
    keeps_meaning map items closings rounds class (members_of items closings class.from) f && is_pattern_free map items closings rounds m f.items

-- ---- Templates

-- a template calls on the object itself a method that the class declares
abbrev pub calls_own_part : List Item → List ℕ → ClassPlace → List Part → ℕ → Bool
calls_own_part items rounds class ps k =
    is_own_part_call (word_at items class.name) ps k && declares_method_in items rounds class (bytes_of (item_of ps k)) class.from class.to

-- the variable of the object itself that it names there is kept
abbrev pub is_part_variable_kept : List Item → List ℕ → ClassPlace → List Stretch → List Part → ℕ → Bool
is_part_variable_kept items closings class members ps k =
    not (is_part_variable (word_at items class.name) ps k) || is_kept items closings class members (bytes_of (item_of ps k))

abbrev pub is_part_kept : ViewMap → List Item → List ℕ → List ℕ → ClassPlace → List Stretch → List Part → ℕ → Bool
is_part_kept map items closings rounds class members ps k =
    not (calls_own_part items rounds class ps k) && is_part_variable_kept items closings class members ps k
    && (not (may_part_be_hidden ps k) || is_meant map items (bytes_of (item_of ps k)))

abbrev pub are_parts_kept : ViewMap → List Item → List ℕ → List ℕ → ClassPlace → List Stretch → List Part → ℕ → ℕ → Bool
are_parts_kept map items closings rounds class members ps from to =
    list_all (is_part_kept map items closings rounds class members ps) (numbers from (to - from))

abbrev pub is_no_class_or_clear : List Item → List ℕ → Bool
is_no_class_or_clear items name = not (is_capital name) || is_clear items name

-- A template means in the class what the map says: it calls no method that the class declares; the fields that it names are set by constructors
-- and setters alone; and no field or variable has the name of a class of the map that it names elsewhere than before `.class`, or of a class
-- that it begins with.
abbrev pub keeps_template : ViewMap → List Item → List ℕ → List ℕ → ClassPlace → List Stretch → Template → Bool
keeps_template map items closings rounds class members t =
    is_no_class_or_clear items (first_of_parts t.front) && are_parts_kept map items closings rounds class members t.front 0 (length t.front)
    && are_parts_kept map items closings rounds class members t.each 0 (length t.each)
    && are_parts_kept map items closings rounds class members t.back 0 (length t.back)

-- its names are free in the method
abbrev pub is_template_read : ViewMap → List Item → List ℕ → List ℕ → Method → Template → Bool
is_template_read map items closings rounds m t =
    are_parts_free map items closings rounds m t.front 0 (length t.front) && are_parts_free map items closings rounds m t.each 0 (length t.each)
    && are_parts_free map items closings rounds m t.back 0 (length t.back)

-- ---- Constants

-- the item isn't the name, or stands beside a dot
abbrev pub is_beside_dot : List Item → List ℕ → ℕ → Bool
is_beside_dot items name k = not (is_word name items k) || before (is_sign (codes ".") items) k || is_sign (codes ".") items (k + 1)

abbrev pub are_beside_dots : List Item → List ℕ → ℕ → ℕ → Bool
are_beside_dots items name from to = list_all (is_beside_dot items name) (numbers from (to - from))

-- No field has the first name of a constant: of several it stands nowhere in the file but beside a dot, and a lone one nowhere where it may be
-- declared.
abbrev pub is_no_field : List Item → List ℕ → List ℕ → List (List ℕ) → Bool
is_no_field items closings rounds (n ∷ o ∷ ns) = are_beside_dots items n 0 (length items)
is_no_field items closings rounds (n ∷ []) = is_free items closings rounds n 0 (length items)
is_no_field items closings rounds [] = true

abbrev pub first_is_free : List Item → List ℕ → List ℕ → Method → List (List ℕ) → Bool
first_is_free items closings rounds m [] = false
first_is_free items closings rounds m (n ∷ ns) = is_free_in items closings rounds m n

abbrev pub is_constant_read : List Item → List ℕ → List ℕ → Method → Constant → Bool
is_constant_read items closings rounds m c = is_no_field items closings rounds c.names && first_is_free items closings rounds m c.names
