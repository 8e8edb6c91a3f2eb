-- The lowered fragment of a loop of the kernel form.
use Rattle.std.specs.Prelude.{ℕ, suc, Bool, true, false, not, List, [], ◌∷◌, ◌++◌, length, map, nat_eq, slice_get, if◌then◌else◌}
use Rattle.std.specs.List.{filter, flat_map}
use Rattle.std.specs.declared.option.Option.{Option}
use Rattle.std.specs.declared.option.Option.TheVariants.{Some, None}
use Rattle.qbs_base.specs.Values.{Schema}
use Rattle.qbs_base.specs.declared.columns.Column.{Column}
use Rattle.qbs_base.specs.declared.scalar.Scalar.{Scalar}
use Rattle.qbs_base.specs.declared.scalar.Scalar.TheVariants as scalars
use Rattle.qbs_base.specs.declared.scalar.Ty.{Ty}
use Rattle.qbs_base.specs.declared.scalar.Ty.TheVariants as tys
use Rattle.qbs_base.specs.Columns.{column_number, columns_at}
use Rattle.java_ast.specs.Tree.{Expression, Statement, Statements, Nothing, Then}
use Rattle.java_ast.specs.Tree as plain
use Rattle.java_mean.specs.declared.types.JavaType.{JavaType}
use Rattle.java_mean.specs.declared.types.JavaType.TheVariants.{Of}
use Rattle.java_mean.specs.declared.types.Single.TheVariants.{ScalarOf, RowOf}
use Rattle.java_mean.specs.Types.{Types}
use Rattle.kernel_lang.specs.declared.parts.Col.{Col}
use Rattle.kernel_lang.specs.declared.parts.ListDef.{ListDef}
use Rattle.kernel_lang.specs.declared.parts.Update.{Update}
use Rattle.kernel_lang.specs.declared.parts.Update.TheVariants as updates
use Rattle.kernel_lang.specs.Plain.{Accumulator}
use Rattle.kernel_lang.specs.Plain as kernel
use Rattle.kernel_lang.specs.Pools.{pool_of}
use Rattle.sql_ast.specs.Tree.{PlainQuery}
use Rattle.tor_terms.specs.declared.term.Elem.{Elem}
use Rattle.tor_terms.specs.declared.term.Elem.TheVariants as elems
use Rattle.tor_terms.specs.declared.term.Way.{Way}
use Rattle.tor_terms.specs.declared.term.Way.TheVariants as ways
use Rattle.tor_terms.specs.Plain.{Form}
use Rattle.loop_text.specs.Statements.Fragment.{needed_of, set_by}
use Rattle.loop_text.specs.Kernel.KernelConditions.{Asked, asked_for, condition_of}
use Rattle.loop_text.specs.Kernel.KernelForms.{Taken, whole, column, adds, counts, sums, takes, marks, other, best_way}
use Rattle.java_loops.specs.Kernel.KernelForms.{is_distinct}
use Rattle.loop_text.specs.Kernel.KernelForms as forms
use Rattle.loop_text.specs.Kernel.KernelLists.{Source, source_in}
use Rattle.loop_text.specs.Kernel.KernelLoop.{counting_in, limit_of}
use Rattle.loop_text.specs.Kernel.KernelStarts.{Numbered, update_of, update_of_flag, form_found}
use Rattle.loop_text.specs.Statements.Loops.{is_loop}
use Rattle.java_ast.specs.Names.{Names, is_among, names_in}
use Rattle.java_loops.specs.Lowering.Numbering.{Numbers, loop_number, table_of_loop, found_number, column_of, arguments_asked, entry_number, both_of, form_of_condition}
use Rattle.java_loops.specs.Kernel.Setting.{Setting}
use Rattle.loop_text.specs.Statements.Setting.{first_touching, given_by}
use Rattle.loop_text.specs.Sites.Sites.{Test, Round, Site, RowColumn, declared_name}

-- ---- Lists

abbrev pub keys_of : List Column → List (List ℕ) → List Bool → List Col
keys_of columns (k ∷ ks) (down ∷ downs) = record { column = found_number (column_number columns k); down = down } ∷ keys_of columns ks downs
keys_of columns _ _ = []

abbrev pub keys_found : List Column → Option Source → List Col
keys_found columns (Some s) = keys_of columns s.keys s.downs
keys_found columns None = []

abbrev pub list_of_table : Setting → Statement → ℕ → ListDef
list_of_table w loop table =
    record { table = table; keys = keys_found (columns_at w.schema table) (source_in w.fragment.run loop); limit = limit_of (counting_in loop) }

-- the list of a loop: the rows of its table, sorted by keys where the run sorts it, and cut to the limit
abbrev pub list_of : Setting → Statement → ListDef
list_of w loop = list_of_table w loop (table_of_loop w.schema loop)

abbrev pub lists_of : Setting → List Site → List ListDef
lists_of w [] = []
lists_of w (s ∷ ss) = if is_loop s.statement then list_of w s.statement ∷ lists_of w ss else lists_of w ss

-- ---- Guards

abbrev pub guard_joined : Setting → Numbers → Option Form → List Test → Option Form
guard_joined w t g [] = g
guard_joined w t g (c ∷ cs) = guard_joined w t (both_of g (form_of_condition w t c.number c.holds c.condition)) cs

-- the conditions between the loop of this level and the next one, joined from left to right
abbrev pub guard_at : Setting → Numbers → Round → ℕ → Option Form
guard_at w t r level = guard_joined w t None (filter (λ (c : Test). nat_eq c.level level) r.tests)

-- a guard for each loop, the first one at this level
abbrev pub guards_from : Setting → Numbers → Round → ℕ → List ℕ → List (Option Form)
guards_from w t r level [] = []
guards_from w t r level (j ∷ js) = guard_at w t r level ∷ guards_from w t r (suc level) js

-- ---- Pools

abbrev pub found_form : Option Form → List Form
found_form (Some f) = f ∷ []
found_form None = []

abbrev pub form_written : Setting → Numbers → ℕ → Option Expression → List Form
form_written w t n (Some c) = found_form (form_of_condition w t n true c)
form_written w t n None = []

abbrev pub forms_from : Setting → Numbers → ℕ → List Site → List Form
forms_from w t n [] = []
forms_from w t n (s ∷ ss) = form_written w t n (condition_of s.statement) ++ forms_from w t (suc n) ss

-- the conditions of all `if`s in text order as they are written, without the conjuncts that mention accumulators
abbrev pub conditions_of : Setting → Numbers → List Form
conditions_of w t = forms_from w t 0 w.sites

-- ---- Accumulators

abbrev pub element_of_column : Setting → RowColumn → Elem
element_of_column w c = elems.Field (loop_number w.sites c.loop) (column_of w c)

abbrev pub element_of : Setting → Taken → Elem
element_of w (whole j) = elems.Whole (loop_number w.sites j)
element_of w (column c) = element_of_column w c

abbrev pub way_found : Option Way → Way
way_found (Some way) = way
way_found None = ways.Max

abbrev pub added : Bool → Elem → Update
added true e = updates.PushNew e
added false e = updates.Push e

-- the update of a variable that has this form
abbrev pub update_with : Setting → List ℕ → Round → forms.Form → Update
update_with w x r (adds t) = added (is_distinct (w.types x)) (element_of w t)
update_with w x r counts = updates.Tick
update_with w x r (sums c) = updates.Plus (element_of_column w c)
update_with w x r (takes c) = updates.Best (way_found (best_way w.sites x c r)) (element_of_column w c)
update_with w x r (marks b) = updates.Mark
update_with w x r other = updates.Mark

abbrev pub literal_given : Option Expression → Option Scalar
literal_given (Some (plain.Lit at value)) = Some value
literal_given _ = None

abbrev pub literal_by : List ℕ → Option Statement → Option Scalar
literal_by x (Some s) = literal_given (given_by x s)
literal_by x None = None

-- what an accumulator with this update starts with
abbrev pub start_with : Setting → List ℕ → Update → Option Scalar
start_with w x (updates.Push e) = None
start_with w x (updates.PushNew e) = None
start_with w x updates.Mark = Some (scalars.Bool false)
start_with w x u = literal_by x (first_touching x w.fragment.run)

-- a variable that is set to false is kept by its opposite
abbrev pub is_opposite : forms.Form → Bool
is_opposite (marks b) = not b
is_opposite _ = false

abbrev pub accumulator_in : Setting → Numbers → List Form → List ℕ → ℕ → Round → List ℕ → forms.Form → Update → Accumulator
accumulator_in w t conditions x base r chain form u =
    record {
      chain = chain;
      base = base;
      guards = guards_from w t r 1 r.loops;
      update = u;
      start = start_with w x u;
      opposite = is_opposite form;
      pool = pool_of t.atoms conditions chain base;
    }

abbrev pub accumulator_with : Setting → Numbers → List Form → List ℕ → ℕ → Round → forms.Form → Accumulator
accumulator_with w t conditions x base r form =
    accumulator_in w t conditions x base r (map (loop_number w.sites) r.loops) form (update_with w x r form)

-- the accumulator of a variable with this update, whose declaration stands in so many loops
abbrev pub accumulator_of : Setting → Numbers → List Form → List ℕ → ℕ → Option Numbered → List Accumulator
accumulator_of w t conditions x base (Some u) = accumulator_with w t conditions x base u.site.round (form_found w.sites (Some u)) ∷ []
accumulator_of w t conditions x base None = []

abbrev pub outer_accumulators : Setting → Numbers → List Form → Names → List Accumulator
outer_accumulators w t conditions [] = []
outer_accumulators w t conditions (x ∷ xs) = accumulator_of w t conditions x 0 (update_of w.sites x) ++ outer_accumulators w t conditions xs

abbrev pub flag_here : Setting → Numbers → List Form → ℕ → Round → Option (List ℕ) → List Accumulator
flag_here w t conditions d r (Some x) = accumulator_of w t conditions x (length r.loops) (update_of_flag w.sites d)
flag_here w t conditions d r None = []

abbrev pub flags_from : Setting → Numbers → List Form → ℕ → List Site → List Accumulator
flags_from w t conditions d [] = []
flags_from w t conditions d (s ∷ ss) = flag_here w t conditions d s.round (declared_name s.statement) ++ flags_from w t conditions (suc d) ss

-- accumulators by name, and behind them all flags
abbrev pub accumulators_of : Setting → Numbers → List Form → Names → List Accumulator
accumulators_of w t conditions xs = outer_accumulators w t conditions xs ++ flags_from w t conditions 0 w.sites

-- the needed accumulators in the order of the statements that start them
abbrev pub set_in_order : Names → Statements → Names
set_in_order xs Nothing = []
set_in_order xs (Then s ss) = if is_among xs (set_by s) then set_by s ∷ set_in_order xs ss else set_in_order xs ss

abbrev pub needed_in_order : Setting → Names
needed_in_order w = set_in_order (needed_of w.fragment) w.fragment.run

-- ---- The fragment

abbrev pub type_of_column : Option Column → Ty
type_of_column (Some c) = c.ty
type_of_column None = tys.Long

abbrev pub column_type : Schema → Option JavaType → List ℕ → Ty
column_type schema (Some (Of (RowOf t))) f = type_of_column (slice_get (columns_at schema t) (found_number (column_number (columns_at schema t) f)))
column_type schema _ f = tys.Long

abbrev pub type_of_scalar : Option JavaType → Ty
type_of_scalar (Some (Of (ScalarOf ty))) = ty
type_of_scalar _ = tys.Long

-- the type of an entry value
abbrev pub type_of_entry : Schema → Types → Expression → Ty
type_of_entry schema types (plain.Var at x) = type_of_scalar (types x)
type_of_entry schema types (plain.Field at (plain.Var at' x) f) = column_type schema (types x) f
type_of_entry schema types _ = tys.Long

abbrev pub fragment_with : Setting → Numbers → Names → kernel.Fragment
fragment_with w t xs =
    record {
      lists = lists_of w w.sites;
      atoms = t.atoms;
      accs = accumulators_of w t (conditions_of w t) xs;
      entries = map (type_of_entry w.schema w.types) t.entries;
      known = length t.known;
    }

-- ---- What stands beside it

abbrev pub found_name : Option (List ℕ) → Names
found_name (Some x) = x ∷ []
found_name None = []

abbrev pub names_of_flags : List Site → Names
names_of_flags [] = []
names_of_flags (s ∷ ss) = found_name (declared_name s.statement) ++ names_of_flags ss

abbrev pub query_asked : (List ℕ → Option PlainQuery) → Option Asked → Option PlainQuery
query_asked read (Some a) = read a.text
query_asked read None = None

abbrev pub numbers_of_arguments : List Expression → List Expression → List ℕ
numbers_of_arguments entries es = map (entry_number entries) es

-- A lowered fragment. Beside it: the variables of its accumulators, the expressions of its entry values, the queries of
-- its known lists with the entry numbers of their arguments.
pub record Lowering : Type 0 where
  pub fragment : kernel.Fragment
  pub names : Names
  pub entries : List Expression
  pub known : List (Option PlainQuery)
  pub arguments : List (List ℕ)

abbrev pub lowering_with : Setting → Numbers → Names → Lowering
lowering_with w t xs =
    record {
      fragment = fragment_with w t xs;
      names = xs ++ names_of_flags w.sites;
      entries = t.entries;
      known = map (λ x. query_asked w.read (asked_for w.fragment.run x)) t.known;
      arguments = map (λ x. numbers_of_arguments t.entries (arguments_asked (asked_for w.fragment.run x))) t.known;
    }
