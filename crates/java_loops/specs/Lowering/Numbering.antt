-- The numbers that a lowered fragment uses: of loops, columns, entry values, known lists and atoms.
use Rattle.std.specs.Prelude.{ℕ, suc, Bool, true, false, not, ◌&&◌, ◌||◌, ◌+◌, List, [], ◌∷◌, ◌++◌, length, take, map, nat_eq, nat_lt, slice_get, if◌then◌else◌}
use Rattle.std.specs.List.{filter, list_any}
use Rattle.std.specs.Str.{bytes_eq}
use Rattle.std.specs.declared.option.Option.{Option}
use Rattle.std.specs.declared.option.Option.TheVariants.{Some, None}
use Rattle.qbs_base.specs.Scalar.{scalar_before}
use Rattle.qbs_base.specs.Values.{Schema}
use Rattle.qbs_base.specs.Columns.{table_number, column_number, columns_at}
use Rattle.java_ast.specs.declared.tree.Op.{Op}
use Rattle.java_ast.specs.declared.tree.Op.TheVariants as ops
use Rattle.java_ast.specs.Tree.{Spelled, Expression, Expressions, NoMore, And, Statement, Statements, Nothing, Then}
use Rattle.java_ast.specs.Tree as plain
use Rattle.tor_terms.specs.declared.term.Atom.{Atom}
use Rattle.tor_terms.specs.declared.term.Atom.TheVariants as atoms
use Rattle.tor_terms.specs.declared.term.Operand.{Operand}
use Rattle.tor_terms.specs.declared.term.Operand.TheVariants as operands
use Rattle.tor_terms.specs.Same.{same_flag, same_numbers}
use Rattle.tor_terms.specs.Truth.{same_operand}
use Rattle.tor_terms.specs.Plain.{Form, Is, Both, Either}
use Rattle.loop_text.specs.Kernel.Counting.{is_and}
use Rattle.loop_text.specs.Statements.Fragment.{needed_of}
use Rattle.loop_text.specs.Kernel.KernelConditions.{Asked, asked_for, leaves, is_excepted, is_literal, is_row_column, condition_of}
use Rattle.loop_text.specs.Kernel.KernelForms.{is_or, is_joined}
use Rattle.loop_text.specs.Kernel.KernelLists.{count_loops}
use Rattle.loop_text.specs.Kernel.KernelStarts.{is_truth_of}
use Rattle.loop_text.specs.Kernel.KernelStatements.{is_declaration}
use Rattle.java_ast.specs.Names.{Names, with_name}
use Rattle.java_loops.specs.Kernel.Setting.{Setting}
use Rattle.loop_text.specs.declared.sites.bindings.Binding.{Binding}
use Rattle.loop_text.specs.declared.sites.bindings.Binding.TheVariants.{Local}
use Rattle.loop_text.specs.Sites.Sites.{Site, binding_at, RowColumn, row_column_at}

-- ---- Lists without repetition

-- a member behind others, where none of them is the same
abbrev pub with_new : {A : Type 0} → (A → A → Bool) → List A → A → List A
with_new same xs x = if list_any (same x) xs then xs else xs ++ x ∷ []

abbrev pub with_all_new : {A : Type 0} → (A → A → Bool) → List A → List A → List A
with_all_new same xs [] = xs
with_all_new same xs (y ∷ ys) = with_all_new same (with_new same xs y) ys

-- the number of the first member that passes, and their count where none does
abbrev pub number_where : {A : Type 0} → (A → Bool) → List A → ℕ
number_where test [] = 0
number_where test (x ∷ xs) = if test x then 0 else suc (number_where test xs)

-- ---- Loops and columns

-- the number of a loop among the loops
abbrev pub loop_number : List Site → ℕ → ℕ
loop_number sites n = count_loops (take n sites)

abbrev pub found_number : Option ℕ → ℕ
found_number (Some n) = n
found_number None = 0

abbrev pub table_spelled : Schema → Spelled → ℕ
table_spelled schema (plain.Table name) = found_number (table_number schema name)
table_spelled schema _ = 0

abbrev pub table_declared : Schema → Statements → ℕ
table_declared schema Nothing = 0
table_declared schema (Then (plain.Declare at ty x e) ss) = table_spelled schema ty
table_declared schema (Then s ss) = 0

-- the table whose rows a loop goes over
abbrev pub table_of_loop : Schema → Statement → ℕ
table_of_loop schema (plain.ForEach at ty x e b) = table_spelled schema ty
table_of_loop schema (plain.While at c b) = table_declared schema b
table_of_loop schema _ = 0

abbrev pub table_of_site : Schema → Option Site → ℕ
table_of_site schema (Some s) = table_of_loop schema s.statement
table_of_site schema None = 0

abbrev pub column_of : Setting → RowColumn → ℕ
column_of w c = found_number (column_number (columns_at w.schema (table_of_site w.schema (slice_get w.sites c.loop))) c.column)

-- ---- Leaves of all conditions

-- a leaf of the `if` with this number
pub record Leaf : Type 0 where
  pub number : ℕ
  pub expression : Expression

abbrev pub leaves_kept : List Site → ℕ → List Expression → List Leaf
leaves_kept sites n [] = []
leaves_kept sites n (e ∷ es) = if is_excepted sites n e then leaves_kept sites n es else record { number = n; expression = e } ∷ leaves_kept sites n es

abbrev pub leaves_of : List Site → ℕ → Option Expression → List Leaf
leaves_of sites n (Some c) = leaves_kept sites n (leaves c)
leaves_of sites n None = []

abbrev pub leaves_from : List Site → ℕ → List Site → List Leaf
leaves_from sites n [] = []
leaves_from sites n (s ∷ ss) = leaves_of sites n (condition_of s.statement) ++ leaves_from sites (suc n) ss

-- the leaves of all conditions in text order, but for the conjuncts of best values
abbrev pub all_leaves : List Site → List Leaf
all_leaves sites = leaves_from sites 0 sites

-- ---- Entry values and known lists

-- one expression, wherever it stands
abbrev pub same_entry : Expression → Expression → Bool
same_entry (plain.Var at x) (plain.Var at' y) = bytes_eq x y
same_entry (plain.Field at a f) (plain.Field at' b g) = bytes_eq f g && same_entry a b
same_entry _ _ = false

-- an operand that is an entry value
abbrev pub entry_operand : List Site → ℕ → Expression → List Expression
entry_operand sites n e = if is_row_column sites n e || is_literal e then [] else e ∷ []

abbrev pub entries_in : List Site → ℕ → Expression → List Expression
entries_in sites n (plain.Binary at op a b) = entry_operand sites n a ++ entry_operand sites n b
entries_in sites n (plain.Equals at a b) = entry_operand sites n a ++ entry_operand sites n b
entries_in sites n _ = []

abbrev pub entries_among : List Site → List Expression → List Leaf → List Expression
entries_among sites es [] = es
entries_among sites es (l ∷ ls) = entries_among sites (with_all_new same_entry es (entries_in sites l.number l.expression)) ls

abbrev pub known_with : Names → Expression → Names
known_with ids (plain.Contains at x e) = with_name ids x
known_with ids _ = ids

-- the variables of known lists, each once
abbrev pub known_among : Names → List Leaf → Names
known_among ids [] = ids
known_among ids (l ∷ ls) = known_among (known_with ids l.expression) ls

abbrev pub arguments : Expressions → List Expression
arguments NoMore = []
arguments (And e es) = e ∷ arguments es

abbrev pub arguments_asked : Option Asked → List Expression
arguments_asked (Some a) = arguments a.arguments
arguments_asked None = []

abbrev pub with_arguments : Statements → List Expression → Names → List Expression
with_arguments run es [] = es
with_arguments run es (x ∷ xs) = with_arguments run (with_all_new same_entry es (arguments_asked (asked_for run x))) xs

abbrev pub known_of : Setting → Names
known_of w = known_among [] (all_leaves w.sites)

-- the entry values of the conditions, and behind them the arguments of the known queries, each once
abbrev pub entries_of : Setting → List Expression
entries_of w = with_arguments w.fragment.run (entries_among w.sites [] (all_leaves w.sites)) (known_of w)

abbrev pub entry_number : List Expression → Expression → ℕ
entry_number entries e = number_where (same_entry e) entries

-- ---- Atoms

abbrev pub operand_of_literal : List Expression → Expression → Operand
operand_of_literal entries (plain.Lit at value) = operands.Lit value
operand_of_literal entries e = operands.Entry (entry_number entries e)

abbrev pub operand_of_column : Setting → List Expression → Expression → Option RowColumn → Operand
operand_of_column w entries e (Some c) = operands.Field (loop_number w.sites c.loop) (column_of w c)
operand_of_column w entries e None = operand_of_literal entries e

abbrev pub operand_of : Setting → List Expression → ℕ → Expression → Operand
operand_of w entries n e = operand_of_column w entries e (row_column_at w.sites n e)

-- fields before entries before literals; fields by loop and column, entries by number, literals in their order
abbrev pub operand_before : Operand → Operand → Bool
operand_before (operands.Field j c) (operands.Field k d) = nat_lt j k || (nat_eq j k && nat_lt c d)
operand_before (operands.Field j c) (operands.Entry k) = true
operand_before (operands.Field j c) (operands.Lit x) = true
operand_before (operands.Entry j) (operands.Entry k) = nat_lt j k
operand_before (operands.Entry j) (operands.Lit x) = true
operand_before (operands.Lit x) (operands.Lit y) = scalar_before x y
operand_before _ _ = false

abbrev pub same_of : Operand → Operand → Atom
same_of a b = if operand_before b a then atoms.Same b a else atoms.Same a b

-- an atom, and the truth of it that a leaf says
pub record Reading : Type 0 where
  pub atom : Atom
  pub holds : Bool

abbrev pub reading : Atom → Bool → Reading
reading a holds = record { atom = a; holds = holds }

-- `a > b` is `b < a`, `a <= b` is that `b < a` fails, `a != b` that they are the same fails
abbrev pub compared : Op → Operand → Operand → Reading
compared ops.Lt a b = reading (atoms.Less a b) true
compared ops.Gt a b = reading (atoms.Less b a) true
compared ops.Le a b = reading (atoms.Less b a) false
compared ops.Ge a b = reading (atoms.Less a b) false
compared ops.Ne a b = reading (same_of a b) false
compared op a b = reading (same_of a b) true

abbrev pub starts_true : Statement → Bool
starts_true (plain.Declare at ty x e) = is_truth_of true e
starts_true _ = false

-- how many flags are declared among sites
abbrev pub count_flags : List Site → ℕ
count_flags sites = length (filter (λ (s : Site). is_declaration s.statement) sites)

-- the number of a flag among the accumulators: the needed ones come first
abbrev pub flag_number : Setting → ℕ → ℕ
flag_number w d = length (needed_of w.fragment) + count_flags (take d w.sites)

-- a flag that starts true is kept by its opposite
abbrev pub flag_reading : Setting → ℕ → Option Site → Reading
flag_reading w d (Some s) = reading (atoms.Flag (flag_number w d) (map (loop_number w.sites) s.round.loops)) (not (starts_true s.statement))
flag_reading w d None = reading (atoms.Flag (flag_number w d) []) true

abbrev pub bound_reading : Setting → Binding → Reading
bound_reading w (Local d) = flag_reading w d (slice_get w.sites d)
bound_reading w _ = reading (atoms.Flag 0 []) true

-- the atom of a leaf of the `if` with this number
abbrev pub reading_of : Setting → List Expression → Names → ℕ → Expression → Reading
reading_of w entries known n (plain.Binary at op a b) = compared op (operand_of w entries n a) (operand_of w entries n b)
reading_of w entries known n (plain.Equals at a b) = reading (same_of (operand_of w entries n a) (operand_of w entries n b)) true
reading_of w entries known n (plain.Var at x) = bound_reading w (binding_at w.sites n x)
reading_of w entries known n (plain.Contains at x e) = reading (atoms.Member (operand_of w entries n e) (number_where (bytes_eq x) known)) true
reading_of w entries known n e = reading (atoms.Truth (operand_of w entries n e)) true

abbrev pub same_atom : Atom → Atom → Bool
same_atom (atoms.Less a b) (atoms.Less c d) = same_operand a c && same_operand b d
same_atom (atoms.Same a b) (atoms.Same c d) = same_operand a c && same_operand b d
same_atom (atoms.Truth a) (atoms.Truth b) = same_operand a b
same_atom (atoms.Member a q) (atoms.Member b r) = same_operand a b && nat_eq q r
same_atom (atoms.Flag k loops) (atoms.Flag j others) = nat_eq k j && same_numbers loops others
same_atom _ _ = false

abbrev pub atoms_among : Setting → List Expression → Names → List Atom → List Leaf → List Atom
atoms_among w entries known all [] = all
atoms_among w entries known all (l ∷ ls) = atoms_among w entries known (with_new same_atom all (reading_of w entries known l.number l.expression).atom) ls

-- The numbers of a fragment: its entry values, the variables of its known lists, and its atoms, each in text order.
pub record Numbers : Type 0 where
  pub entries : List Expression
  pub known : Names
  pub atoms : List Atom

abbrev pub numbers_with : Setting → List Expression → Names → Numbers
numbers_with w entries known = record { entries = entries; known = known; atoms = atoms_among w entries known [] (all_leaves w.sites) }

abbrev pub numbers_of : Setting → Numbers
numbers_of w = numbers_with w (entries_of w) (known_of w)

-- ---- Formulas

abbrev pub said : List Atom → Bool → Reading → Form
said all holds r = Is (number_where (same_atom r.atom) all) (same_flag holds r.holds)

-- what is left out of a conjunction leaves the rest, what is left out of a disjunction leaves nothing
abbrev pub both_of : Option Form → Option Form → Option Form
both_of (Some f) (Some g) = Some (Both f g)
both_of (Some f) None = Some f
both_of None o = o

abbrev pub either_of : Option Form → Option Form → Option Form
either_of (Some f) (Some g) = Some (Either f g)
either_of _ _ = None

abbrev pub joined_of : Bool → Option Form → Option Form → Option Form
joined_of true f g = both_of f g
joined_of false f g = either_of f g

abbrev pub leaf_form : Setting → Numbers → ℕ → Bool → Expression → Option Form
leaf_form w t n holds e = if is_excepted w.sites n e then None else Some (said t.atoms holds (reading_of w t.entries t.known n e))

-- The formula that the condition of the `if` with this number holds, or fails, without the conjunct of a best value.
abbrev pub form_of_condition : Setting → Numbers → ℕ → Bool → Expression → Option Form
form_of_condition w t n holds (plain.Binary at op a b) =
    if is_and op || is_or op then joined_of (is_joined op holds) (form_of_condition w t n holds a) (form_of_condition w t n holds b) else leaf_form w t n holds (plain.Binary at op a b)
form_of_condition w t n holds (plain.Not at e) = form_of_condition w t n (not holds) e
form_of_condition w t n holds e = leaf_form w t n holds e
