-- Which variables are in sight at a place of a method's body, and with what types.
use Rattle.std.specs.Prelude.{ℕ, ◌+◌, ◌-◌, Bool, true, false, ◌||◌, ◌&&◌, ◌==◌, not, nat_lt, List, [], ◌∷◌, length, codes}
use Rattle.std.specs.List.{list_any, list_all}
use Rattle.std.specs.declared.option.Option.{Option}
use Rattle.std.specs.declared.option.Option.TheVariants.{Some, None}
use Rattle.view_items.specs.declared.item.Item.{Item}
use Rattle.view_shapes.specs.declared.members.Stretch.{Stretch}
use Rattle.view_shapes.specs.Found.{is_word, is_sign, is_name, is_one_of_signs, closing_at}
use Rattle.view_shapes.specs.Mentions.{numbers}
use Rattle.view_rules.specs.declared.java_type.JavaType.{JavaType}
use Rattle.view_rules.specs.declared.java_type.JavaType.TheVariants as types
use Rattle.view_rules.specs.declared.sight.Sighted.{Sighted}
use Rattle.view_rules.specs.declared.spelled.Spelled.{Spelled}
use Rattle.view_rules.specs.Decisions.{same_type, is_element}
use Rattle.view_rules.specs.Names.{Seen}
use Rattle.view_rules.specs.Queries.{fetch_at}
use Rattle.view_rules.specs.Setting.{Within}
use Rattle.view_rules.specs.Sights.{in_sight}
use Rattle.view_rules.specs.Spelled.{bytes_at, type_at}
use Rattle.view_shapes.specs.declared.method.Method.{Method}
use Rattle.view_shapes.specs.declared.method.Parameter.{Parameter}
use Rattle.view_shapes.specs.Prefixes.{variable_prefix_end}
use Rattle.view_scope.specs.declared.standing.Standing.{Standing}
use Rattle.view_scope.specs.Guards.{is_before_end_of, is_in_body, stands_before}
use Rattle.view_scope.specs.Standing.{standing_of}

-- the type stands at a number, and directly behind it the name that stands at another
abbrev pub spells : Option Spelled → JavaType → ℕ → Bool
spells None java name = false
spells (Some s) java name = same_type s.java java && (s.to == name)

abbrev pub is_typed : Within → JavaType → ℕ → ℕ → Bool
is_typed w java k name = spells (type_at w k) java name

-- a parameter of the method
abbrev pub is_parameter_at : Within → JavaType → ℕ → Parameter → Bool
is_parameter_at w java at p = (p.name == at) && is_typed w java p.ty at

abbrev pub is_parameter : Within → List Parameter → JavaType → ℕ → Bool
is_parameter w ps java at = list_any (is_parameter_at w java at) ps

-- a variable is declared from a number on, with the name at another; the head of a `for` may go on with a colon
abbrev pub may_follow : List Item → Bool → ℕ → Bool
may_follow items head k = is_one_of_signs (codes "=" ∷ codes ";" ∷ codes "," ∷ []) items k || (head && is_sign (codes ":") items k)

abbrev pub is_typed_from : Within → JavaType → ℕ → Option ℕ → Bool
is_typed_from w java at None = false
is_typed_from w java at (Some t) = is_typed w java t at

abbrev pub declares_at : Within → List ℕ → Bool → JavaType → ℕ → ℕ → Bool
declares_at w closings head java at k =
    nat_lt at (length w.items) && may_follow w.items head (at + 1) && is_typed_from w java at (variable_prefix_end w.items closings k)

-- a statement before the place in the same block, or in one round it, declares the variable, the first one if it declares several
abbrev pub is_declared_by : Within → List ℕ → ℕ → JavaType → ℕ → Standing → Bool
is_declared_by w closings place java at s = stands_before place s && declares_at w closings false java at s.statement.from

abbrev pub is_declared_before : Within → List ℕ → List Standing → ℕ → JavaType → ℕ → Bool
is_declared_before w closings standing place java at = list_any (is_declared_by w closings place java at) standing

-- the place is in the statement behind the parentheses that are opening at a number
abbrev pub is_behind_head : List Item → List ℕ → ℕ → Option ℕ → Bool
is_behind_head items closings place None = false
is_behind_head items closings place (Some c) = is_in_body items closings place c

abbrev pub is_in_headed : List Item → List ℕ → ℕ → ℕ → Bool
is_in_headed items closings place opening = is_behind_head items closings place (closing_at items closings opening)

-- what is seen up to a parenthesis is a list of what has this type
abbrev pub is_list_of : JavaType → ℕ → Option Seen → Bool
is_list_of java close None = false
is_list_of java close (Some s) = (s.0 == close) && is_element s.1 java

abbrev pub is_fetched_by : Within → JavaType → ℕ → ℕ → ℕ → Bool
is_fetched_by w java from close n = is_list_of java close (fetch_at w n from from)

abbrev pub is_fetched_among : Within → JavaType → ℕ → ℕ → List ℕ → Bool
is_fetched_among w java from close ns = list_any (is_fetched_by w java from close) ns

-- `var`, the name, and behind the colon a fetch pattern, whole, up to the parenthesis that closes the head
abbrev pub is_fetched_up_to : Within → JavaType → ℕ → Option ℕ → Bool
is_fetched_up_to w java from None = false
is_fetched_up_to w java from (Some c) = is_fetched_among w java from c w.fetches

abbrev pub walks_fetch : Within → List ℕ → JavaType → ℕ → ℕ → Option ℕ → Bool
walks_fetch w closings java at opening None = false
walks_fetch w closings java at opening (Some t) =
    is_word (codes "var") w.items t && ((t + 1) == at) && is_sign (codes ":") w.items (t + 2)
    && is_fetched_up_to w java (t + 3) (closing_at w.items closings opening)

-- the head of a `for`, whose parenthesis is opening at a number, declares it
abbrev pub declares_in_head : Within → List ℕ → JavaType → ℕ → ℕ → Bool
declares_in_head w closings java at opening =
    declares_at w closings true java at (opening + 1)
    || walks_fetch w closings java at opening (variable_prefix_end w.items closings (opening + 1))

-- so does the head of one round the place
abbrev pub is_headed_by : Within → List ℕ → ℕ → JavaType → ℕ → ℕ → Bool
is_headed_by w closings place java at k =
    is_word (codes "for") w.items k && is_sign (codes "(") w.items (k + 1) && declares_in_head w closings java at (k + 1)
    && is_in_headed w.items closings place (k + 1)

abbrev pub is_in_head : Within → List ℕ → ℕ → JavaType → ℕ → ℕ → Bool
is_in_head w closings place java at from = list_any (is_headed_by w closings place java at) (numbers from (place - from))

-- The variable whose name stands at a number is in sight at a place with this type. Java lets no local variable hide another one, so what is
-- named there by its name is this one.
abbrev pub is_in_sight_by : Within → List ℕ → List Standing → Method → ℕ → JavaType → ℕ → Bool
is_in_sight_by w closings standing m place java at =
    is_parameter w m.parameters java at || is_declared_before w closings standing place java at || is_in_head w closings place java at m.from

-- ---- Rows in sight

-- a row, or a list of rows
abbrev pub is_of_rows : JavaType → Bool
is_of_rows (types.Row c) = true
is_of_rows (types.Rows c) = true
is_of_rows java = false

abbrev pub has_type : JavaType → Option Sighted → Bool
has_type java None = false
has_type java (Some v) = same_type v.java java

-- the variable is among these with its type, if it is one of rows
abbrev pub is_known : Within → List Sighted → Spelled → Bool
is_known w vs s = not (is_of_rows s.java) || has_type s.java (in_sight vs (bytes_at w s.to))

-- a parameter whose type is read up to its name
abbrev pub is_parameter_of : Within → List Sighted → ℕ → Option Spelled → Bool
is_parameter_of w vs name None = true
is_parameter_of w vs name (Some s) = not (s.to == name) || is_known w vs s

abbrev pub is_parameter_known : Within → List Sighted → Parameter → Bool
is_parameter_known w vs p = is_parameter_of w vs p.name (type_at w p.ty)

abbrev pub are_parameters_known : Within → List Sighted → List Parameter → Bool
are_parameters_known w vs ps = list_all (is_parameter_known w vs) ps

-- what is declared from a number on, where a type stands there, a name behind it, and behind that what may follow
abbrev pub is_followed : Within → Bool → ℕ → Bool
is_followed w head k = is_name w.items k && may_follow w.items head (k + 1)

abbrev pub is_spelled_known : Within → List Sighted → Bool → Option Spelled → Bool
is_spelled_known w vs head None = true
is_spelled_known w vs head (Some s) = not (is_followed w head s.to) || is_known w vs s

abbrev pub is_typed_known : Within → List Sighted → Bool → Option ℕ → Bool
is_typed_known w vs head None = true
is_typed_known w vs head (Some t) = is_spelled_known w vs head (type_at w t)

abbrev pub is_declared_known : Within → List ℕ → List Sighted → Bool → ℕ → Bool
is_declared_known w closings vs head k = is_typed_known w vs head (variable_prefix_end w.items closings k)

-- a statement before the place in the same block, or in one round it
abbrev pub is_standing_known : Within → List ℕ → List Sighted → ℕ → Standing → Bool
is_standing_known w closings vs place s = not (stands_before place s) || is_declared_known w closings vs false s.statement.from

abbrev pub are_standing_known : Within → List ℕ → List Sighted → ℕ → List Standing → Bool
are_standing_known w closings vs place standing = list_all (is_standing_known w closings vs place) standing

-- the head of a `for` round it; one that walks a fetch by `var` has the fetch in it, which is seen there
abbrev pub begins_for : List Item → ℕ → Bool
begins_for items k = is_word (codes "for") items k && is_sign (codes "(") items (k + 1)

abbrev pub is_head_known : Within → List ℕ → List Sighted → ℕ → ℕ → Bool
is_head_known w closings vs place k =
    not (begins_for w.items k && is_in_headed w.items closings place (k + 1)) || is_declared_known w closings vs true (k + 2)

abbrev pub are_heads_known : Within → List ℕ → List Sighted → ℕ → ℕ → Bool
are_heads_known w closings vs from place = list_all (is_head_known w closings vs place) (numbers from (place - from))

-- Each variable of a row or of a list of rows that is in sight at a place, of several in one declaration the first, is among these.
abbrev pub are_rows_known : Within → List ℕ → List Standing → Method → ℕ → List Sighted → Bool
are_rows_known w closings standing m place vs =
    are_parameters_known w vs m.parameters
    && (are_standing_known w closings vs place standing && are_heads_known w closings vs m.from place)

abbrev pub body_of : Method → Stretch
body_of m = record { from = m.from; to = m.to }

abbrev pub is_in_sight_at : Within → List ℕ → Method → ℕ → JavaType → ℕ → Bool
is_in_sight_at w closings m place java at = is_in_sight_by w closings (standing_of w.items closings (body_of m)) m place java at

-- a `try` stands round the place, whose `catch` may see a fault
abbrev pub is_tried_by : List Item → List ℕ → ℕ → ℕ → Bool
is_tried_by items closings place k = is_word (codes "try") items k && is_before_end_of items closings place k

abbrev pub is_tried_from : List Item → List ℕ → ℕ → ℕ → Bool
is_tried_from items closings from place = list_any (is_tried_by items closings place) (numbers from (place - from))

abbrev pub is_inside_try : List Item → List ℕ → Method → ℕ → Bool
is_inside_try items closings m place = is_tried_from items closings m.from place
