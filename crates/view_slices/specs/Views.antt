-- What is seen of a file: its methods with their slices, and the class that these are seen as.
use Rattle.std.specs.Prelude.{◌≡◌, ℕ, ◌+◌, Bool, true, false, ◌&&◌, not, ◌==◌, nat_le, List, [], ◌∷◌, ◌++◌, length, codes, Option, Some, None, is_some, if◌then◌else◌}
use Rattle.std.specs.Fmt.{decimal}
use Rattle.std.specs.List.{list_all}
use Rattle.std.specs.Str.{bytes_eq}
use Rattle.qbs_base.specs.declared.columns.Table.{Table}
use Rattle.view_items.specs.declared.cell.Cell.{Cell}
use Rattle.view_items.specs.declared.item.Item.{Item}
use Rattle.view_items.specs.Brackets.{if_some, closings_of, rounds_of}
use Rattle.view_items.specs.Items.{items_of}
use Rattle.view_items.specs.Plain.{is_plain}
use Rattle.view_map.specs.declared.model.ScalarKind.{ScalarKind}
use Rattle.view_map.specs.declared.model.ViewMap.{ViewMap}
use Rattle.view_shapes.specs.declared.members.ClassPlace.{ClassPlace}
use Rattle.view_shapes.specs.declared.members.Stretch.{Stretch}
use Rattle.view_shapes.specs.Members.{class_of}
use Rattle.view_shapes.specs.Mentions.{is_named}
use Rattle.view_shapes.specs.Prefixes.{is_plain_name}
use Rattle.view_rules.specs.declared.sight.Param.{Param}
use Rattle.view_rules.specs.declared.sight.Sighted.{Sighted}
use Rattle.view_rules.specs.Cells.{all_made}
use Rattle.view_rules.specs.Decisions.{same_kind, same_type}
use Rattle.view_rules.specs.Setting.{Within}
use Rattle.view_rules.specs.Sights.{in_sight}
use Rattle.view_shapes.specs.declared.method.Method.{Method}
use Rattle.view_shapes.specs.declared.method.Parameter.{Parameter}
use Rattle.view_scope.specs.declared.standing.Standing.{Standing}
use Rattle.view_scope.specs.Methods.{method_of}
use Rattle.view_scope.specs.Nulls.{tested_in}
use Rattle.view_scope.specs.Obscured.{means_the_same, word_at}
use Rattle.view_scope.specs.Outside.{body_of}
use Rattle.view_scope.specs.Standing.{standing_of}
use Rattle.view_statements.specs.declared.slice.Printed.{Printed}
use Rattle.view_statements.specs.declared.slice.Read.{Read}
use Rattle.view_statements.specs.declared.slice.Words.{Words}
use Rattle.view_slices.specs.Bounds.{is_bounded}
use Rattle.view_slices.specs.Kept.{keeps_statements}
use Rattle.view_slices.specs.Shown.{method_cells}
pub use Rattle.view_statements.specs.Slices.{PlainSliced}
use Rattle.view_slices.specs.Slices.{File, PlainSlice, PlainEnding, Grouped, within, is_fresh, is_slice_by, is_print_of, returned}
use Rattle.view_slices.specs.Words.{class_name, members, are_words, same_sign}

pub record View : Type 0 where
  pub file : File
  pub methods : List PlainSliced

-- ---- Files of which something is seen

-- the class has a plain name, and what the names of Java and of the map mean is what the file means by them
abbrev pub is_class_plain : ViewMap → List Item → ClassPlace → Bool
is_class_plain m items class = is_plain_name items class.name && means_the_same m items (word_at items class.name)

abbrev pub file_with : ViewMap → List Item → List ℕ → ClassPlace → Option File
file_with m items closings class =
    if is_class_plain m items class then Some (record { items = items; closings = closings; rounds = rounds_of items; class = class }) else None

abbrev pub file_closed : ViewMap → List Item → List ℕ → Option File
file_closed m items closings = if_some (class_of items closings) (file_with m items closings)

abbrev pub file_of_items : ViewMap → List ℕ → List Item → Option File
file_of_items m source items = if is_plain source items then if_some (closings_of items) (file_closed m items) else None

-- Its items say all that Java reads, its brackets match, and it has a class.
abbrev pub file_in : ViewMap → List ℕ → Option File
file_in m source = file_of_items m source (items_of source)

-- ---- Its methods

abbrev pub same_truth : Bool → Bool → Bool
same_truth true b = b
same_truth false b = not b

abbrev pub same_parameters : List Parameter → List Parameter → Bool
same_parameters [] [] = true
same_parameters (p ∷ ps) (q ∷ qs) = ((p.ty == q.ty) && (p.name == q.name)) && same_parameters ps qs
same_parameters _ _ = false

abbrev pub same_method : Method → Method → Bool
same_method a b =
    (a.name == b.name) && ((a.from == b.from) && ((a.to == b.to) && (same_truth a.gives_truth b.gives_truth && same_parameters a.parameters b.parameters)))

abbrev pub is_this_method : Method → Option Method → Bool
is_this_method method None = false
is_this_method method (Some found) = same_method method found

-- a member of the class is this method
abbrev pub is_member : File → Stretch → Method → Bool
is_member file member method = is_this_method method (method_of file.items file.closings member)

-- slices that stand one behind the other, the first one not before a number
abbrev pub are_apart : ℕ → List PlainSlice → Bool
are_apart from [] = true
are_apart from (s ∷ ss) = nat_le from s.from && are_apart s.to ss

-- The slice names each of its parameters: what it doesn't name may be null, and nothing may read it in its place.
abbrev pub is_param_named : List Item → PlainSlice → Param → Bool
is_param_named items s p = is_named items p.variable s.from s.to

abbrev pub are_params_named : List Item → PlainSlice → Bool
are_params_named items s = list_all (is_param_named items s) s.params

-- The variable of a group has a name that neither the method nor the map has, since it is declared where the loop gives way.
abbrev pub is_ending_fresh : ViewMap → File → Method → PlainEnding → Bool
is_ending_fresh m file method (Grouped g) = is_fresh m file method g.variable
is_ending_fresh m file method ending = true

-- what is asked of a slice of the source alone
abbrev pub is_of_source : ViewMap → File → Method → PlainSlice → Bool
is_of_source m file method s = are_params_named file.items s && (is_ending_fresh m file method s.ending && is_bounded s)

abbrev pub is_one : ViewMap → List Table → File → Read → List Standing → List Stretch → PlainSlice → Bool
is_one m tables file read standing tested s =
    is_of_source m file read.method s && is_slice_by m tables file read.words read.method standing tested s

-- with the statements of the method's blocks, and where its body tests variables for null
abbrev pub are_slices_by : ViewMap → List Table → File → Read → List Standing → List Stretch → List PlainSlice → Bool
are_slices_by m tables file read standing tested ss = list_all (is_one m tables file read standing tested) ss

abbrev pub are_slices : ViewMap → List Table → File → Read → List PlainSlice → Bool
are_slices m tables file read ss =
    are_slices_by m tables file read (standing_of file.items file.closings (body_of read.method))
    (tested_in file.items file.closings file.rounds read.method.from read.method.to) ss

abbrev pub is_sliced : ViewMap → List Table → File → PlainSliced → Bool
is_sliced m tables file s =
    are_words m file s.read.method s.read.words && (are_apart 0 s.slices && are_slices m tables file s.read s.slices)

abbrev pub is_no_method : List PlainSliced → Bool
is_no_method [] = true
is_no_method (s ∷ ss) = false

-- methods of the class, each of them one of these members, in their order
abbrev pub are_sliced : ViewMap → List Table → File → List Stretch → List PlainSliced → Bool
are_sliced m tables file [] ss = is_no_method ss
are_sliced m tables file (b ∷ bs) [] = true
are_sliced m tables file (b ∷ bs) (s ∷ ss) =
    if is_member file b s.read.method then is_sliced m tables file s && are_sliced m tables file bs ss else are_sliced m tables file bs (s ∷ ss)

abbrev pub is_view : ViewMap → List Table → File → List PlainSliced → Bool
is_view m tables file ss = are_sliced m tables file (members file) ss

-- What is seen of a source: methods of its class, in each of which slices stand one behind the other.
pub record IsView (m : ViewMap) (tables : List Table) (source : List ℕ) (v : View) : Type 0 where
  pub is_file : file_in m source ≡ Some v.file
  pub is_view : is_view m tables v.file v.methods ≡ true

-- ---- The class that it is seen as

-- `s3`
abbrev pub slice_name : ℕ → List ℕ
slice_name k = codes "s" ++ decimal k

abbrev pub slice_cells : ViewMap → List Table → File → Words → ℕ → PlainSlice → List Cell
slice_cells m tables file words k s = method_cells (within m tables file words s) (slice_name k) s

-- of slices, the first of which has a number
abbrev pub slices_cells : ViewMap → List Table → File → Words → ℕ → List PlainSlice → List Cell
slices_cells m tables file words k [] = []
slices_cells m tables file words k (s ∷ ss) = slice_cells m tables file words k s ++ slices_cells m tables file words (k + 1) ss

abbrev pub methods_cells : ViewMap → List Table → File → ℕ → List PlainSliced → List Cell
methods_cells m tables file k [] = []
methods_cells m tables file k (s ∷ ss) =
    slices_cells m tables file s.read.words k s.slices ++ methods_cells m tables file (k + length s.slices) ss

-- outside of all slices nothing is read
abbrev pub outside_all : ViewMap → List Table → File → Within
outside_all m tables file =
    record {
      map = m;
      tables = tables;
      items = file.items;
      classes = [];
      fetches = [];
      templates = [];
      map_constants = [];
      constants = [];
      params = [];
      tested = [];
      clear = [];
      gets = false;
    }

-- `class T { void s1 ( .. ) { .. } .. }`: its head comes from its name, and its end from its closing brace
abbrev pub class_cells : ViewMap → List Table → File → List PlainSliced → List Cell
class_cells m tables file ss =
    all_made (outside_all m tables file) file.class.name (codes "class" ∷ class_name file ∷ codes "{" ∷ [])
    ++ (methods_cells m tables file 1 ss ++ all_made (outside_all m tables file) file.class.to (codes "}" ∷ []))

-- ---- Where a slice stood

abbrev pub same_column : Option ℕ → Option ℕ → Bool
same_column None None = true
same_column (Some a) (Some b) = a == b
same_column _ _ = false

abbrev pub same_param : Param → Param → Bool
same_param p q = bytes_eq p.variable q.variable && (same_column p.column q.column && bytes_eq p.name q.name)

abbrev pub same_params : List Param → List Param → Bool
same_params [] [] = true
same_params (p ∷ ps) (q ∷ qs) = same_param p q && same_params ps qs
same_params _ _ = false

abbrev pub same_kinds : List ScalarKind → List ScalarKind → Bool
same_kinds [] [] = true
same_kinds (k ∷ ks) (l ∷ ls) = same_kind k l && same_kinds ks ls
same_kinds _ _ = false

abbrev pub same_prints : List Printed → List Printed → Bool
same_prints [] [] = true
same_prints (p ∷ ps) (q ∷ qs) = is_print_of p.name p.java q && same_prints ps qs
same_prints _ _ = false

abbrev pub same_name : Option (List ℕ) → Option (List ℕ) → Bool
same_name None None = true
same_name (Some a) (Some b) = bytes_eq a b
same_name _ _ = false

-- a variable from outside is in sight there too, with the same type
abbrev pub has_type : Sighted → Option Sighted → Bool
has_type v None = false
has_type v (Some u) = same_type u.java v.java

abbrev pub is_sighted_in : List Sighted → Sighted → Bool
is_sighted_in outside v = has_type v (in_sight outside v.name)

abbrev pub are_sighted_in : List Sighted → List Sighted → Bool
are_sighted_in outside vs = list_all (is_sighted_in outside) vs

-- what it prints is from outside in both, or its own in both: a list that the source sets isn't declared anew
abbrev pub is_outside_alike : PlainSlice → PlainSlice → Printed → Bool
is_outside_alike s t p = same_sign (is_some (in_sight s.outside p.name)) (is_some (in_sight t.outside p.name))

abbrev pub are_outside_alike : PlainSlice → PlainSlice → List Printed → Bool
are_outside_alike s t ps = list_all (is_outside_alike s t) ps

-- it is handed the same, prints the same and returns the same, and the variables in sight before it were so before
abbrev pub has_same_ends : PlainSlice → PlainSlice → Bool
has_same_ends s t =
    same_params s.params t.params && (same_kinds s.kinds t.kinds && (same_prints s.prints t.prints && (bytes_eq s.each t.each
    && (same_name (returned s.ending) (returned t.ending) && (are_sighted_in s.outside t.outside && are_outside_alike s t s.prints)))))

-- A slice of another file, with these items, is one again: what comes in and goes out is the same, and it is made of statements of the first one and
-- of ones that ask.
abbrev pub is_again : List Item → PlainSlice → List Item → PlainSlice → Bool
is_again items s written t = has_same_ends s t && keeps_statements items s written t
