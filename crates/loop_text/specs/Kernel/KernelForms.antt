-- K6: the forms of updates.
use Rattle.std.specs.Prelude.{ℕ, Bool, true, false, not, ◌&&◌, List, [], ◌∷◌, ◌++◌, length, nat_eq, nat_lt, nat_le, slice_get, if◌then◌else◌}
use Rattle.std.specs.List.{filter, flat_map}
use Rattle.std.specs.declared.option.Option.{Option}
use Rattle.std.specs.declared.option.Option.TheVariants.{Some, None}
use Rattle.qbs_base.specs.declared.scalar.Scalar.{Scalar}
use Rattle.qbs_base.specs.declared.scalar.Scalar.TheVariants as scalars
use Rattle.java_ast.specs.declared.tree.Op.{Op}
use Rattle.java_ast.specs.declared.tree.Op.TheVariants as ops
use Rattle.java_ast.specs.Tree.{Expression, Statement}
use Rattle.java_ast.specs.Tree as plain
use Rattle.tor_terms.specs.declared.term.Way.{Way}
use Rattle.tor_terms.specs.declared.term.Way.TheVariants as ways
use Rattle.loop_text.specs.Kernel.Counting.{is_and}
use Rattle.java_ast.specs.Names.{is_among, names_in}
use Rattle.loop_text.specs.Statements.Setting.{is_add, is_variable, is_literal_number}
use Rattle.loop_text.specs.Sites.Sites.{Test, Round, Site, RowColumn, row_at, row_column_at, same_row_column, any_site, depth, is_under, inner_tests, is_update}

-- ---- Forms

-- what is taken of rows: the row of a loop, or a column of it
pub data Taken : Type 0 where
  whole : ℕ → Taken
  column : RowColumn → Taken

-- `add`, `n = n + 1`, `s = s + x.f`, `m = x.f`, `b = true` or `b = false`, and anything else
pub data Form : Type 0 where
  adds : Taken → Form
  counts : Form
  sums : RowColumn → Form
  takes : RowColumn → Form
  marks : Bool → Form
  other : Form

abbrev pub adds_row : Option ℕ → Form
adds_row (Some j) = adds (whole j)
adds_row None = other

abbrev pub adds_taken : Option ℕ → Option RowColumn → Form
adds_taken row (Some c) = adds (column c)
adds_taken row None = adds_row row

abbrev pub sums_column : Option RowColumn → Form
sums_column (Some c) = sums c
sums_column None = other

abbrev pub takes_column : Option RowColumn → Form
takes_column (Some c) = takes c
takes_column None = other

abbrev pub literal_form : Scalar → Form
literal_form (scalars.Bool b) = marks b
literal_form _ = other

-- a sum with the variable on either side
abbrev pub sum_form : List Site → ℕ → List ℕ → Expression → Expression → Form
sum_form sites n x a b =
    if is_variable x a then (if is_literal_number 1 b then counts else sums_column (row_column_at sites n b)) else
    (if is_variable x b then (if is_literal_number 1 a then counts else sums_column (row_column_at sites n a)) else other)

abbrev pub assigned_form : List Site → ℕ → List ℕ → Expression → Form
assigned_form sites n x (plain.Lit at value) = literal_form value
assigned_form sites n x (plain.Field at e f) = takes_column (row_column_at sites n (plain.Field at e f))
assigned_form sites n x (plain.Binary at op a b) = if is_add op then sum_form sites n x a b else other
assigned_form sites n x _ = other

-- the form of a statement that stands at this number
abbrev pub form_of : List Site → ℕ → Statement → Form
form_of sites n (plain.Assign at x e) = assigned_form sites n x e
form_of sites n (plain.Add at x e) = adds_taken (row_at sites n e) (row_column_at sites n e)
form_of sites n _ = other

-- ---- Conditions with `!` pushed inwards

-- a condition that holds, or that fails
pub record Claim : Type 0 where
  pub condition : Expression
  pub holds : Bool

abbrev pub claim : Expression → Bool → Claim
claim c holds = record { condition = c; holds = holds }

abbrev pub is_or : Op → Bool
is_or ops.Or = true
is_or _ = false

-- a disjunction that fails is a conjunction
abbrev pub is_joined : Op → Bool → Bool
is_joined op true = is_and op
is_joined op false = is_or op

-- the conjuncts of a condition that holds or fails
abbrev pub claims : Bool → Expression → List Claim
claims holds (plain.Binary at op a b) = if is_joined op holds then claims holds a ++ claims holds b else claim (plain.Binary at op a b) holds ∷ []
claims holds (plain.Not at e) = claims (not holds) e
claims holds e = claim e holds ∷ []

abbrev pub mentions : List ℕ → Claim → Bool
mentions m c = is_among (names_in c.condition) m

-- ---- The best value

-- a conjunct and the number of its `if`
pub record Found : Type 0 where
  pub number : ℕ
  pub claim : Claim

abbrev pub found_at : ℕ → List Claim → List Found
found_at n [] = []
found_at n (c ∷ cs) = record { number = n; claim = c } ∷ found_at n cs

abbrev pub mentioning : List ℕ → Test → List Found
mentioning m t = found_at t.number (filter (mentions m) (claims t.holds t.condition))

-- the conjuncts that mention a variable, of the conditions round a place inside its innermost loop
abbrev pub best_claims : List ℕ → Round → List Found
best_claims m r = flat_map (mentioning m) (inner_tests r)

abbrev pub turned : Way → Way
turned ways.Max = ways.Min
turned ways.Min = ways.Max

-- `m < x.f` raises m, `m > x.f` lowers it
abbrev pub way_of : Op → Option Way
way_of ops.Lt = Some ways.Max
way_of ops.Le = Some ways.Max
way_of ops.Gt = Some ways.Min
way_of ops.Ge = Some ways.Min
way_of _ = None

abbrev pub turned_where : Bool → Option Way → Option Way
turned_where true (Some w) = Some (turned w)
turned_where false o = o
turned_where true None = None

-- how a comparison of m with the column moves m
abbrev pub way_between : List Site → ℕ → List ℕ → RowColumn → Op → Expression → Expression → Option Way
way_between sites n m c op a b =
    if is_variable m a && same_row_column (row_column_at sites n b) (Some c) then way_of op else
    (if is_variable m b && same_row_column (row_column_at sites n a) (Some c) then turned_where true (way_of op) else None)

abbrev pub way_in : List Site → ℕ → List ℕ → RowColumn → Expression → Option Way
way_in sites n m c (plain.Binary at op a b) = way_between sites n m c op a b
way_in sites n m c _ = None

abbrev pub way_found : List Site → List ℕ → RowColumn → Found → Option Way
way_found sites m c f = turned_where (not f.claim.holds) (way_in sites f.number m c f.claim.condition)

-- the only one, where there is exactly one
abbrev pub only_found : List Found → Option Found
only_found [] = None
only_found (f ∷ []) = Some f
only_found (f ∷ g ∷ fs) = None

abbrev pub way_of_found : List Site → List ℕ → RowColumn → Option Found → Option Way
way_of_found sites m c (Some f) = way_found sites m c f
way_of_found sites m c None = None

abbrev pub only_way : List Site → List ℕ → RowColumn → List Found → Option Way
only_way sites m c fs = way_of_found sites m c (only_found fs)

-- the way in which the update at a site moves m, where exactly one conjunct mentions m and compares it with the column
abbrev pub best_way : List Site → List ℕ → RowColumn → Round → Option Way
best_way sites m c r = only_way sites m c (best_claims m r)

-- another update stands in a branch of the `if` of that conjunct
abbrev pub has_update_under : List Site → ℕ → Option Found → Bool
has_update_under sites n (Some f) = any_site (λ i s. is_update s.statement && (not (nat_eq i n) && is_under f.number s)) 0 sites
has_update_under sites n None = false

abbrev pub has_other_update : List Site → ℕ → List Found → Bool
has_other_update sites n fs = has_update_under sites n (only_found fs)

abbrev pub is_way : Option Way → Bool
is_way (Some w) = true
is_way None = false

abbrev pub takes_best : List Site → ℕ → Site → List ℕ → RowColumn → Bool
takes_best sites n s m c = is_way (best_way sites m c s.round) && not (has_other_update sites n (best_claims m s.round))

-- ---- The rule

-- the update stands in exactly one loop
abbrev pub is_once : Site → Bool
is_once s = nat_eq (depth s) 1

-- how many `if`s stand round a place outside of its loops behind the first ones
abbrev pub tests_within : ℕ → Round → ℕ
tests_within level r = length (filter (λ (t : Test). nat_le t.level level) r.tests)

-- The update stands in a loop that stands directly in the block of the declaration.
abbrev pub is_in_own_loop : Site → Option Site → Bool
is_in_own_loop s None = false
is_in_own_loop s (Some d) = nat_lt (depth d) (depth s) && nat_eq (tests_within (depth d) s.round) (length d.round.tests)

abbrev pub fits_local : List Site → Site → ℕ → Form → Bool
fits_local sites s d (marks b) = is_in_own_loop s (slice_get sites d)
fits_local sites s d _ = false
