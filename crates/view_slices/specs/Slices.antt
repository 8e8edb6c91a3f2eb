-- Which sequences of statements are seen as methods, and what has to be so round them.
use Rattle.std.specs.Prelude.{ℕ, ◌-◌, Bool, true, false, ◌&&◌, ◌||◌, ◌==◌, not, List, [], ◌∷◌, ◌++◌, codes, Option, Some, None, slice_get, is_some, if◌then◌else◌}
use Rattle.std.specs.List.{list_any, list_all}
use Rattle.std.specs.Str.{bytes_eq}
use Rattle.qbs_base.specs.declared.columns.Table.{Table}
use Rattle.view_items.specs.declared.item.Item.{Item}
use Rattle.view_map.specs.declared.model.FetchPattern.{FetchPattern}
use Rattle.view_map.specs.declared.model.Member.{Member}
use Rattle.view_map.specs.declared.model.Part.{Part}
use Rattle.view_map.specs.declared.model.Part.TheVariants as parts
use Rattle.view_map.specs.declared.model.PatternItem.{PatternItem}
use Rattle.view_map.specs.declared.model.RowClass.{RowClass}
use Rattle.view_map.specs.declared.model.ScalarKind.{ScalarKind}
use Rattle.view_map.specs.declared.model.Template.{Template}
use Rattle.view_map.specs.declared.model.ViewMap.{ViewMap}
use Rattle.view_shapes.specs.declared.members.ClassPlace.{ClassPlace}
use Rattle.view_shapes.specs.declared.members.Stretch.{Stretch}
use Rattle.view_shapes.specs.Found.{is_word, is_one_of_words, is_one_of_signs}
use Rattle.view_shapes.specs.Mentions.{numbers, is_named, may_be_set}
use Rattle.view_rules.specs.declared.java_type.JavaType.{JavaType}
use Rattle.view_rules.specs.declared.java_type.JavaType.TheVariants as types
use Rattle.view_rules.specs.declared.sight.Param.{Param}
use Rattle.view_rules.specs.declared.sight.Sighted.{Sighted}
use Rattle.view_rules.specs.Decisions.{same_type, same_kind, truth, is_scalar}
use Rattle.view_rules.specs.Gets.{holds_get}
use Rattle.view_rules.specs.Options.{◌>>=◌, where_so}
use Rattle.view_rules.specs.Setting.{Within, past_all, is_name_among}
use Rattle.view_rules.specs.Sights.{in_sight}
use Rattle.view_rules.specs.Spelled.{bytes_at}
use Rattle.view_shapes.specs.declared.method.Method.{Method}
use Rattle.view_scope.specs.declared.standing.Standing.{Standing}
use Rattle.view_scope.specs.Guards.{is_guarded_by}
use Rattle.view_scope.specs.Nulls.{is_tested_by, tested_in}
use Rattle.view_scope.specs.Outside.{is_in_sight_by, are_rows_known, is_inside_try, body_of}
use Rattle.view_scope.specs.Standing.{standing_of}
use Rattle.view_shapes.specs.declared.file.File as code
use Rattle.view_statements.specs.declared.slice.Printed.{Printed}
use Rattle.view_statements.specs.declared.slice.Words.{Words}
use Rattle.view_statements.specs.declared.frame.Place.{Place}
pub use Rattle.view_statements.specs.Slices.{PlainSlice, PlainGroup, PlainEnding, Open, Grouped, Returned}
use Rattle.view_statements.specs.Places.{Frame, at_top, own, is_no_word, is_seen_name}
use Rattle.view_statements.specs.Statements.{Passed, with_sight, statement_of, statements_of, truth_word}
use Rattle.view_statements.specs.Steps.{is_handed}
use Rattle.view_statements.specs.Tree.{PlainStatement, PlainStatements, Nothing, Then}
use Rattle.view_statements.specs.Tree as plain

-- ---- What is looked at

-- a file: its items, the closing bracket of each and the bracket round each, and its class
pub record File : Type 0 where
  pub items : List Item
  pub closings : List ℕ
  pub rounds : List ℕ
  pub class : ClassPlace

abbrev pub file_of : code.File → File
file_of f = record { items = f.items.now; closings = f.closings.now; rounds = f.rounds.now; class = f.class }

-- what is fixed while the slice is looked at
abbrev pub within : ViewMap → List Table → File → Words → PlainSlice → Within
within m tables file words s =
    record {
      map = m;
      tables = tables;
      items = file.items;
      classes = words.classes;
      fetches = words.fetches;
      templates = words.templates;
      map_constants = words.map_constants;
      constants = words.constants;
      params = s.params;
      tested = s.tested;
      clear = words.clear;
      gets = s.gets;
    }

abbrev pub frame : ViewMap → List Table → File → Words → Method → PlainSlice → Frame
frame m tables file words method s = record { within = within m tables file words s; closings = file.closings; end = method.to }

-- ---- Where it stands

abbrev pub same_stretch : Stretch → Stretch → Bool
same_stretch a b = (a.from == b.from) && (a.to == b.to)

abbrev pub begins_slice : PlainSlice → Standing → Bool
begins_slice s st = same_stretch st.block s.block && (st.statement.from == s.from)

abbrev pub ends_slice : PlainSlice → Standing → Bool
ends_slice s st = same_stretch st.block s.block && (st.statement.to == s.to)

abbrev pub begins_some : List Standing → PlainSlice → Bool
begins_some standing s = list_any (begins_slice s) standing

abbrev pub ends_some : List Standing → PlainSlice → Bool
ends_some standing s = list_any (ends_slice s) standing

-- it begins and ends with statements of a block in which statements run where they stand
abbrev pub stands : List Standing → PlainSlice → Bool
stands standing s = begins_some standing s && ends_some standing s

-- each variable from outside is declared with its type where it is in sight before the slice, by a name that both languages take for one
abbrev pub is_outer : Sighted → Bool
is_outer v = v.outside && not (is_some v.column)

abbrev pub is_declared : Frame → List Standing → Method → ℕ → Sighted → ℕ → Bool
is_declared f standing method from v k =
    is_outer v && (is_seen_name f.within k && (is_word v.name f.within.items k && is_in_sight_by f.within f.closings standing method from v.java k))

abbrev pub are_declared : Frame → List Standing → Method → ℕ → List Sighted → List ℕ → Bool
are_declared f standing method from [] [] = true
are_declared f standing method from (v ∷ vs) (k ∷ ks) = is_declared f standing method from v k && are_declared f standing method from vs ks
are_declared f standing method from vs ks = false

-- a variable is primitive, is tested for null nowhere in the method, stands behind a guard, or isn't read
abbrev pub is_primitive : JavaType → Bool
is_primitive (types.Scalar t) = not t.boxed
is_primitive java = false

abbrev pub is_safe : File → List Standing → List Stretch → Method → PlainSlice → Sighted → ℕ → Bool
is_safe file standing tested method s v k =
    is_primitive v.java || (not (is_tested_by file.items tested v.name)
    || (is_guarded_by file.items file.closings file.rounds standing (body_of method) s.from v.name k || is_name_among v.name s.tested))

abbrev pub are_safe : File → List Standing → List Stretch → Method → PlainSlice → List Sighted → List ℕ → Bool
are_safe file standing tested method s (v ∷ vs) (k ∷ ks) =
    is_safe file standing tested method s v k && are_safe file standing tested method s vs ks
are_safe file standing tested method s vs ks = true

-- ---- Its parameters

abbrev pub is_in_pattern : List ℕ → List PatternItem → Bool
is_in_pattern name is = list_any (λ i. bytes_eq i.bytes name) is

abbrev pub is_in_fetch : List ℕ → FetchPattern → Bool
is_in_fetch name f = is_in_pattern name f.items

abbrev pub is_part_of : List ℕ → Part → Bool
is_part_of name (parts.Item i) = bytes_eq i.bytes name
is_part_of name part = false

abbrev pub is_in_parts : List ℕ → List Part → Bool
is_in_parts name ps = list_any (is_part_of name) ps

abbrev pub is_in_template : List ℕ → Template → Bool
is_in_template name t = is_in_parts name t.front || (is_in_parts name t.each || is_in_parts name t.back)

abbrev pub is_in_fetches : List ℕ → List FetchPattern → Bool
is_in_fetches name fs = list_any (is_in_fetch name) fs

abbrev pub is_in_templates : List ℕ → List Template → Bool
is_in_templates name ts = list_any (is_in_template name) ts

abbrev pub is_word_in : File → List ℕ → ℕ → ℕ → Bool
is_word_in file name from to = list_any (λ k. is_word name file.items k) (numbers from (to - from))

-- neither the method nor a pattern or template of the map has the name
abbrev pub is_fresh : ViewMap → File → Method → List ℕ → Bool
is_fresh m file method name =
    is_no_word name && (not (is_word_in file name method.name method.to)
    && (not (is_in_fetches name m.fetches) && not (is_in_templates name m.templates)))

abbrev pub gives_column : ℕ → ScalarKind → Member → Bool
gives_column column kind member = (member.column == column) && same_kind member.java.kind kind

abbrev pub has_column : ℕ → ScalarKind → List Member → Bool
has_column column kind ms = list_any (gives_column column kind) ms

abbrev pub class_gives : ℕ → ScalarKind → Option RowClass → Bool
class_gives column kind None = false
class_gives column kind (Some c) = has_column column kind c.members

abbrev pub is_column_handed : ViewMap → File → Method → List ℕ → ScalarKind → ℕ → Option ℕ → Bool
is_column_handed m file method name kind class None = false
is_column_handed m file method name kind class (Some column) = class_gives column kind (slice_get m.classes class) && is_fresh m file method name

-- a parameter for a variable: a scalar by its own name, or a column of a row by a fresh one
abbrev pub is_handed_of : ViewMap → File → Method → Param → ScalarKind → JavaType → Bool
is_handed_of m file method p kind (types.Scalar t) = not (is_some p.column) && (bytes_eq p.name p.variable && same_kind t.kind kind)
is_handed_of m file method p kind (types.Row c) = is_column_handed m file method p.name kind c p.column
is_handed_of m file method p kind java = false

abbrev pub is_param_for : ViewMap → File → Method → Param → ScalarKind → Option Sighted → Bool
is_param_for m file method p kind None = false
is_param_for m file method p kind (Some v) = is_handed_of m file method p kind v.java

abbrev pub is_parameter : ViewMap → File → Method → PlainSlice → Param → ScalarKind → Bool
is_parameter m file method s p kind = is_param_for m file method p kind (in_sight s.outside p.variable)

abbrev pub has_param_name : List ℕ → List Param → Bool
has_param_name name ps = list_any (λ p. bytes_eq p.name name) ps

abbrev pub are_parameters : ViewMap → File → Method → PlainSlice → List Param → List ScalarKind → Bool
are_parameters m file method s [] [] = true
are_parameters m file method s (p ∷ ps) (kind ∷ kinds) =
    is_parameter m file method s p kind && (not (has_param_name p.name ps) && are_parameters m file method s ps kinds)
are_parameters m file method s ps kinds = false

-- ---- Its statements

abbrev pub is_walk : PlainStatement → Bool
is_walk (plain.ForEach at by_var name java walked close braces body end) = true
is_walk st = false

-- ---- A group

-- words and signs of effects that its for-each has none of
abbrev pub is_effect : List Item → ℕ → Bool
is_effect items k =
    is_one_of_signs (codes "=" ∷ codes "+=" ∷ codes "-=" ∷ codes "++" ∷ codes "--" ∷ codes "+" ∷ codes "-" ∷ codes "*" ∷ []) items k
    || is_one_of_words (codes "get" ∷ codes "add" ∷ codes "sort" ∷ codes "break" ∷ codes "while" ∷ codes "do" ∷ []) items k

abbrev pub has_effects : List Item → ℕ → ℕ → Bool
has_effects items from to = list_any (is_effect items) (numbers from (to - from))

abbrev pub is_return : List Item → ℕ → Bool
is_return items k = is_word (codes "return") items k

abbrev pub has_return : List Item → List ℕ → Bool
has_return items ks = list_any (is_return items) ks

-- there is one `return` at these numbers
unfoldable pub once : List Item → List ℕ → Bool
once items [] = false
once items (k ∷ ks) = if is_return items k then not (has_return items ks) else once items ks

abbrev pub returns_once : List Item → ℕ → ℕ → Bool
returns_once items from to = once items (numbers from (to - from))

abbrev pub in_group : Bool → Place
in_group value = record { looped = false; top = false; direct = false; found = Some value }

-- the variable of a group
abbrev pub found_in : List ℕ → Sighted
found_in name = own name truth None

-- the for-each of a group, which has no effect and returns once
abbrev pub past_walk : File → ℕ → ℕ → Option ℕ
past_walk file from to = where_so (not (has_effects file.items from to) && returns_once file.items from to) to

-- the `return` behind it
abbrev pub past_return : Frame → Bool → ℕ → Option ℕ
past_return f value i = past_all f.within (codes "return" ∷ truth_word (not value) ∷ codes ";" ∷ []) i

abbrev pub past_group : Frame → File → Bool → ℕ → ℕ → Option ℕ
past_group f file value from to = past_walk file from to >>= λ i. past_return f value i

abbrev pub group_found : Frame → File → List ℕ → Bool → ℕ → Option Passed → Option Passed
group_found f file variable value from None = None
group_found f file variable value from (Some e) = with_sight (e.1 ++ found_in variable ∷ []) (past_group f file value from e.0)

abbrev pub group_of : Frame → File → List Sighted → PlainGroup → ℕ → Option Passed
group_of f file s g i =
    if is_walk g.walk then group_found f file g.variable g.value i (statement_of f (in_group g.value) s g.walk i) else None

-- ---- The `return` of a variable

-- a truth value of the slice's own
abbrev pub is_own_truth : Option Sighted → Bool
is_own_truth None = false
is_own_truth (Some v) = same_type v.java truth && (not v.outside && not (is_some v.column))

abbrev pub past_returned : Frame → List Sighted → List ℕ → ℕ → Option ℕ
past_returned f s variable i =
    where_so (is_own_truth (in_sight s variable)) i >>= λ h. past_all f.within (codes "return" ∷ variable ∷ codes ";" ∷ []) h

-- ---- All of them

abbrev pub ended_by : Frame → File → PlainEnding → List Sighted → ℕ → Option Passed
ended_by f file Open s i = Some (i, s)
ended_by f file (Grouped g) s i = group_of f file s g i
ended_by f file (Returned variable) s i = with_sight s (past_returned f s variable i)

abbrev pub seen_behind : Frame → File → PlainEnding → Option Passed → Option Passed
seen_behind f file ending None = None
seen_behind f file ending (Some e) = ended_by f file ending e.1 e.0

abbrev pub seen_from : Frame → File → List Sighted → PlainSlice → Option Passed
seen_from f file sight s = seen_behind f file s.ending (statements_of f at_top sight s.statements s.from)

-- the items of the slice are seen as its statements, and these variables are in sight behind
abbrev pub seen_to : Frame → File → PlainSlice → Option Passed
seen_to f file s = seen_from f file s.outside s

-- it ends its block, in a method whose result is one truth value
abbrev pub is_last : Method → PlainSlice → Bool
is_last method s = method.gives_truth && (s.to == s.block.to)

-- the slice has no such name: what is seen of it has its items, its parameters and words of the language
abbrev pub is_unnamed : File → PlainSlice → List ℕ → Bool
is_unnamed file s name = is_no_word name && (not (is_word_in file name s.from s.to) && not (has_param_name name s.params))

-- the variable of a group is none of the slice's names; that another slice of the method declares it where its group gave way is no obstacle
abbrev pub is_ending_there : File → Method → PlainSlice → PlainEnding → Bool
is_ending_there file method s Open = true
is_ending_there file method s (Grouped g) = is_last method s && is_unnamed file s g.variable
is_ending_there file method s (Returned variable) = is_last method s

-- ---- What is printed

abbrev pub is_print_of : List ℕ → JavaType → Printed → Bool
is_print_of name java p = bytes_eq p.name name && same_type p.java java

-- what may be printed: a variable of the slice's own, or a scalar from outside
abbrev pub is_shown : Within → JavaType → Option Sighted → Bool
is_shown w java None = false
is_shown w java (Some v) = same_type v.java java && (not (is_some v.column) && (not v.outside || (is_scalar v.java && is_handed w v)))

abbrev pub may_be_printed : Within → List Sighted → Printed → Bool
may_be_printed w after p = is_shown w p.java (in_sight after p.name)

-- the value of the variable of this name holds `get`, which may fault
abbrev pub is_got : Within → List ℕ → ℕ → Bool → Bool
is_got w x name got = got && bytes_eq (bytes_at w name) x

abbrev mutual
  pub got_by : Within → List ℕ → PlainStatement → Bool
  got_by w x (plain.Declaration at name java value end) = is_got w x name (holds_get value)
  got_by w x (plain.Inferred at name java value end) = is_got w x name (holds_get value)
  got_by w x (plain.FirstSet name java value end) = is_got w x name (holds_get value)
  got_by w x (plain.Assignment name value end) = is_got w x name (holds_get value)
  got_by w x (plain.Added name value end) = is_got w x name (holds_get value)
  got_by w x (plain.Lessened name value end) = is_got w x name (holds_get value)
  got_by w x (plain.Extreme name greatest variable_first value end) = is_got w x name (holds_get value)
  got_by w x (plain.Add name value close end) = is_got w x name (holds_get value)
  got_by w x (plain.If at condition close braces body end) = got_by_some w x body
  got_by w x (plain.IfElse at condition close braces body other_at other_braces other end) = got_by_some w x body || got_by_some w x other
  got_by w x (plain.ForEach at by_var name java walked close braces body end) = got_by_some w x body
  got_by w x (plain.ForIndex at list first name java body close end) = got_by_some w x body
  got_by w x (plain.ForIterator at list name java body close end) = got_by_some w x body
  got_by w x (plain.While at condition close braces body end) = got_by_some w x body
  got_by w x (plain.Skip at condition close braces rest end) = got_by_some w x rest
  got_by w x st = false

  pub got_by_some : Within → List ℕ → PlainStatements → Bool
  got_by_some w x Nothing = false
  got_by_some w x (Then st sts) = got_by w x st || got_by_some w x sts

-- An item names the variable where it can be read later: behind the slice in its block one that the slice declares, anywhere else in the method one from outside. A
-- scalar from outside that the slice may set is always printed, since there may be a loop round the slice.
abbrev pub is_named_elsewhere : List Item → Method → PlainSlice → List ℕ → Bool
is_named_elsewhere items method s name = is_named items name method.from s.from || is_named items name s.to method.to

abbrev pub is_read_own : Within → Method → PlainSlice → List ℕ → Option Sighted → Bool
is_read_own w method s name (Some v) = is_named_elsewhere w.items method s name
is_read_own w method s name None = is_named w.items name s.to s.block.to

abbrev pub is_read_later : Within → Method → PlainSlice → Sighted → Bool
is_read_later w method s v =
    if v.outside then may_be_set w.items v.name s.from s.to
    else (is_read_own w method s v.name (in_sight s.outside v.name) || got_by_some w v.name s.statements)

abbrev pub is_printed : List Printed → List ℕ → JavaType → Bool
is_printed prints name java = list_any (is_print_of name java) prints

abbrev pub is_live_printed : Within → Method → PlainSlice → Sighted → Bool
is_live_printed w method s v = is_some v.column || (not (is_read_later w method s v) || is_printed s.prints v.name v.java)

-- what the method returns: the variable of a group, or that of a `return`
abbrev pub returned : PlainEnding → Option (List ℕ)
returned Open = None
returned (Grouped g) = Some g.variable
returned (Returned variable) = Some variable

abbrev pub is_found_printed : List Printed → Option (List ℕ) → Bool
is_found_printed prints None = true
is_found_printed prints (Some variable) = is_printed prints variable truth

abbrev pub may_all_be_printed : Within → List Sighted → List Printed → Bool
may_all_be_printed w after prints = list_all (may_be_printed w after) prints

abbrev pub are_live_printed : Within → Method → PlainSlice → List Sighted → Bool
are_live_printed w method s after = list_all (is_live_printed w method s) after

abbrev pub are_prints_of : Within → Method → PlainSlice → List Sighted → Bool
are_prints_of w method s after = may_all_be_printed w after s.prints && (are_live_printed w method s after && is_found_printed s.prints (returned s.ending))

abbrev pub are_prints : Within → Method → PlainSlice → Option Passed → Bool
are_prints w method s None = false
are_prints w method s (Some e) = (e.0 == s.to) && are_prints_of w method s e.1

-- what goes through a list that is printed has a fresh name
abbrev pub is_each_fresh : ViewMap → File → Method → PlainSlice → Bool
is_each_fresh m file method s = is_fresh m file method s.each && not (has_param_name s.each s.params)

-- ---- All of it

-- what is so round the slice: what is from outside is declared, and of rows in sight it names all, so that what meets them is told
abbrev pub is_placed : Frame → File → List Standing → List Stretch → Method → PlainSlice → Bool
is_placed f file standing tested method s =
    stands standing s && (are_declared f standing method s.from s.outside s.declared
    && (are_rows_known f.within f.closings standing method s.from s.outside && (are_safe file standing tested method s s.outside s.declared
    && (not s.gets || not (is_inside_try file.items file.closings method s.from)))))

-- the names that it has in what is seen
abbrev pub is_named_well : ViewMap → File → Method → PlainSlice → Bool
is_named_well m file method s =
    are_parameters m file method s s.params s.kinds && (is_ending_there file method s s.ending && is_each_fresh m file method s)

abbrev pub is_seen_and_printed : Frame → File → Method → PlainSlice → Bool
is_seen_and_printed f file method s = are_prints f.within method s (seen_to f file s)

abbrev pub is_slice_within : Frame → File → Method → List Standing → List Stretch → PlainSlice → Bool
is_slice_within f file method standing tested s =
    (is_placed f file standing tested method s && is_named_well f.within.map file method s) && is_seen_and_printed f file method s

-- with the statements of the method's blocks, and where its body tests variables for null
abbrev pub is_slice_by : ViewMap → List Table → File → Words → Method → List Standing → List Stretch → PlainSlice → Bool
is_slice_by m tables file words method standing tested s = is_slice_within (frame m tables file words method s) file method standing tested s

-- The statements from one item up to another are seen as a method, with what comes from outside as its parameters and what is read later as its prints.
abbrev pub is_slice : ViewMap → List Table → File → Words → Method → PlainSlice → Bool
is_slice m tables file words method s =
    is_slice_by m tables file words method (standing_of file.items file.closings (body_of method))
    (tested_in file.items file.closings file.rounds method.from method.to) s
