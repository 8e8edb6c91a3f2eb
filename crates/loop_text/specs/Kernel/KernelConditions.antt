-- K7: what conditions are built of.
use Rattle.std.specs.Prelude.{ℕ, suc, Bool, true, false, not, ◌&&◌, ◌||◌, List, [], ◌∷◌, ◌++◌, nat_eq, nat_lt, slice_get, if◌then◌else◌}
use Rattle.std.specs.List.{list_any}
use Rattle.std.specs.Str.{bytes_eq}
use Rattle.std.specs.declared.option.Option.{Option}
use Rattle.std.specs.declared.option.Option.TheVariants.{Some, None}
use Rattle.java_ast.specs.declared.tree.Op.{Op}
use Rattle.java_ast.specs.declared.tree.Op.TheVariants as ops
use Rattle.java_ast.specs.Tree.{Expression, Expressions, Statement, Statements, Nothing, Then}
use Rattle.java_ast.specs.Tree as plain
use Rattle.tor_terms.specs.Same.{same_numbers}
use Rattle.loop_text.specs.Kernel.Counting.{is_and}
use Rattle.loop_text.specs.Statements.Fragment.{set_by}
use Rattle.loop_text.specs.Kernel.KernelForms.{Form, takes, form_of, is_or}
use Rattle.loop_text.specs.Kernel.KernelStatements.{updates_local, target_bound}
use Rattle.java_ast.specs.Names.{Names, is_among, names_in}
use Rattle.loop_text.specs.Statements.Setting.{is_found}
use Rattle.loop_text.specs.Sites.Sites.{Test, Site, Binding, Local, Outer, row_column_at, any_site, is_under, inner_tests, target_of, is_update}

-- ---- Leaves

-- the parts of a condition that aren't built by `&&`, `||` and `!`, in text order
abbrev pub leaves : Expression → List Expression
leaves (plain.Binary at op a b) = if is_and op || is_or op then leaves a ++ leaves b else plain.Binary at op a b ∷ []
leaves (plain.Not at e) = leaves e
leaves e = e ∷ []

-- ---- The conjunct of a best value

abbrev pub name_where : Bool → Option (List ℕ) → Names
name_where true (Some m) = m ∷ []
name_where true None = []
name_where false o = []

abbrev pub is_taking : Form → Bool
is_taking (takes c) = true
is_taking _ = false

-- the variable that a site sets by `m = x.f`, where this `if` stands round it inside its innermost loop
abbrev pub best_under : List Site → ℕ → ℕ → Site → Names
best_under sites i n s = name_where (list_any (λ (t : Test). nat_eq i t.number) (inner_tests s.round) && is_taking (form_of sites n s.statement)) (target_of s.statement)

abbrev pub all_best_under : List Site → ℕ → ℕ → List Site → Names
all_best_under sites i n [] = []
all_best_under sites i n (s ∷ ss) = best_under sites i n s ++ all_best_under sites i (suc n) ss

abbrev pub is_comparing : Op → Bool
is_comparing ops.Lt = true
is_comparing ops.Le = true
is_comparing ops.Gt = true
is_comparing ops.Ge = true
is_comparing _ = false

abbrev pub compares : Expression → Bool
compares (plain.Binary at op a b) = is_comparing op
compares _ = false

-- a leaf of the `if` with this number is the conjunct of a best value
abbrev pub is_excepted : List Site → ℕ → Expression → Bool
is_excepted sites i e = compares e && list_any (λ m. is_among (names_in e) m) (all_best_under sites i 0 sites)

abbrev pub is_outer : Binding → Bool
is_outer Outer = true
is_outer _ = false

abbrev pub is_literal : Expression → Bool
is_literal (plain.Lit at value) = true
is_literal _ = false

-- a field of a loop variable
abbrev pub is_row_column : List Site → ℕ → Expression → Bool
is_row_column sites n e = is_found (row_column_at sites n e)

-- the text and the arguments of a query
pub record Asked : Type 0 where
  pub text : List ℕ
  pub arguments : Expressions

abbrev pub asked_by_query : Expression → Option Asked
asked_by_query (plain.Query at element text arguments) = Some (record { text = text; arguments = arguments })
asked_by_query _ = None

-- `db.query(..)`, also in a `LinkedHashSet`
abbrev pub asked_by : Expression → Option Asked
asked_by (plain.NewSetOf at e) = asked_by_query e
asked_by (plain.Query at element text arguments) = asked_by_query (plain.Query at element text arguments)
asked_by _ = None

abbrev pub asked_in : Statement → Option Asked
asked_in (plain.Declare at ty x e) = asked_by e
asked_in (plain.Assign at x e) = asked_by e
asked_in _ = None

-- the first statement of a run that sets a variable, and what stands behind it
abbrev pub first_setting : List ℕ → Statements → Option Statement
first_setting x Nothing = None
first_setting x (Then s ss) = if bytes_eq (set_by s) x then Some s else first_setting x ss

abbrev pub behind_setting : List ℕ → Statements → Statements
behind_setting x Nothing = Nothing
behind_setting x (Then s ss) = if bytes_eq (set_by s) x then ss else behind_setting x ss

abbrev pub sets_one : Names → Statement → Bool
sets_one names (plain.Declare at ty x e) = is_among names x
sets_one names (plain.Assign at x e) = is_among names x
sets_one names (plain.Sort at x keys downs) = is_among names x
sets_one names _ = false

-- a statement of a run sets one of these variables
abbrev pub sets_some : Names → Statements → Bool
sets_some names Nothing = false
sets_some names (Then s ss) = sets_one names s || sets_some names ss

abbrev pub asked_in_found : Option Statement → Option Asked
asked_in_found (Some s) = asked_in s
asked_in_found None = None

-- the query that the run gives to a variable
abbrev pub asked_for : Statements → List ℕ → Option Asked
asked_for run ids = asked_in_found (first_setting ids run)

-- ---- Flags

abbrev pub is_local : Binding → Bool
is_local (Local d) = true
is_local _ = false

-- the update of a flag stands under this `if`
abbrev pub updates_flag_under : List Site → ℕ → ℕ → Site → Bool
updates_flag_under sites i n s = is_update s.statement && (is_local (target_bound sites n (target_of s.statement)) && is_under i s)

-- in the loops of the flag's declaration alone
abbrev pub is_in_its_loops : List Site → ℕ → Option Site → Option Site → Bool
is_in_its_loops sites n (Some s) (Some d) = same_numbers s.round.loops d.round.loops
is_in_its_loops sites n _ _ = false

-- The `if` with this number may read the flag that is declared at the number d: it stands behind the loop with the
-- flag's update, in no further loop, and round no flag's update.
abbrev pub may_read : List Site → ℕ → ℕ → Bool
may_read sites n d =
    any_site (λ i s. nat_lt i n && updates_local sites d i s) 0 sites
    && (is_in_its_loops sites n (slice_get sites n) (slice_get sites d) && not (any_site (updates_flag_under sites n) 0 sites))

abbrev pub reads_flag : List Site → ℕ → Binding → Bool
reads_flag sites n (Local d) = may_read sites n d
reads_flag sites n _ = false

-- ---- The rule

abbrev pub is_compared : Op → Bool
is_compared ops.Eq = true
is_compared ops.Ne = true
is_compared op = is_comparing op

-- the condition of an `if`
abbrev pub condition_of : Statement → Option Expression
condition_of (plain.If at c a) = Some c
condition_of (plain.IfElse at c a b) = Some c
condition_of _ = None
