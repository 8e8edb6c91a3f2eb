-- The statements of a loop in text order, each with what stands round it in the loop.
use Rattle.std.specs.Prelude.{ℕ, suc, Bool, true, false, ◌&&◌, ◌||◌, List, [], ◌∷◌, ◌++◌, length, take, nat_eq, if◌then◌else◌}
use Rattle.std.specs.List.{filter, list_any}
use Rattle.std.specs.Str.{bytes_eq}
use Rattle.std.specs.declared.option.Option.{Option}
use Rattle.std.specs.declared.option.Option.TheVariants.{Some, None}
use Rattle.qbs_base.specs.declared.span.Span.{Span}
use Rattle.java_ast.specs.Tree.{Expression, Statement, Statements, Nothing, Then}
use Rattle.java_ast.specs.Tree as plain
pub use Rattle.java_ast.specs.Spans.{place_of}
use Rattle.loop_text.specs.Statements.Fragment.{is_name}
pub use Rattle.loop_text.specs.declared.sites.bindings.Binding.{Binding}
pub use Rattle.loop_text.specs.declared.sites.bindings.Binding.TheVariants.{Row, Local, Outer}

-- ---- Sites

-- An `if` round a place: its number among the sites, how many loops stand round it, its condition, and
-- whether the place is in the branch where that holds.
pub record Test : Type 0 where
  pub number : ℕ
  pub level : ℕ
  pub condition : Expression
  pub holds : Bool

-- what stands round a place: the loops by their numbers among the sites, and the `if`s, the outermost first
pub record Round : Type 0 where
  pub loops : List ℕ
  pub tests : List Test

-- a statement in a loop, what stands round it, and the statement before it in its block
pub record Site : Type 0 where
  pub statement : Statement
  pub round : Round
  pub previous : Option Statement

abbrev pub in_loop : Round → ℕ → Round
in_loop r n = record { loops = r.loops ++ n ∷ []; tests = r.tests }

abbrev pub in_branch : Round → ℕ → Expression → Bool → Round
in_branch r n c holds = record { loops = r.loops; tests = r.tests ++ record { number = n; level = length r.loops; condition = c; holds = holds } ∷ [] }

abbrev pub with_site : List Site → Round → Option Statement → Statement → List Site
with_site met r previous s = met ++ record { statement = s; round = r; previous = previous } ∷ []

-- The sites that were met, and behind them those of a statement, or of the statements of a block behind one.
abbrev mutual
  pub walk : Round → Option Statement → Statement → List Site → List Site
  walk r previous (plain.Declare at ty x e) met = with_site met r previous (plain.Declare at ty x e)
  walk r previous (plain.Assign at x e) met = with_site met r previous (plain.Assign at x e)
  walk r previous (plain.Add at x e) met = with_site met r previous (plain.Add at x e)
  walk r previous (plain.Sort at x keys downs) met = with_site met r previous (plain.Sort at x keys downs)
  walk r previous (plain.If at c a) met = walk_all (in_branch r (length met) c true) None a (with_site met r previous (plain.If at c a))
  walk r previous (plain.IfElse at c a b) met =
      walk_all (in_branch r (length met) c false) None b
      (walk_all (in_branch r (length met) c true) None a (with_site met r previous (plain.IfElse at c a b)))
  walk r previous (plain.ForEach at ty x e b) met = walk_all (in_loop r (length met)) None b (with_site met r previous (plain.ForEach at ty x e b))
  walk r previous (plain.While at c b) met = walk_all (in_loop r (length met)) None b (with_site met r previous (plain.While at c b))
  walk r previous (plain.Print at e) met = with_site met r previous (plain.Print at e)
  walk r previous (plain.Return at e) met = with_site met r previous (plain.Return at e)
  walk r previous (plain.Break at) met = with_site met r previous (plain.Break at)

  pub walk_all : Round → Option Statement → Statements → List Site → List Site
  walk_all r previous Nothing met = met
  walk_all r previous (Then s ss) met = walk_all r (Some s) ss (walk r previous s met)

-- the statements without the first, and without the last
abbrev pub without_first : Statements → Statements
without_first Nothing = Nothing
without_first (Then s ss) = ss

abbrev pub before_last : Statement → Statements → Statements
before_last s Nothing = Nothing
before_last s (Then t ss) = Then s (before_last t ss)

abbrev pub without_last : Statements → Statements
without_last Nothing = Nothing
without_last (Then s ss) = before_last s ss

-- the body of a loop, of one that counts without the statements that take the row and go on
abbrev pub kernel_body : Statement → Statements
kernel_body (plain.ForEach at ty x e b) = b
kernel_body (plain.While at c b) = without_last (without_first b)
kernel_body _ = Nothing

abbrev pub outside : Round
outside = record { loops = []; tests = [] }

-- the sites of a loop, itself the first
abbrev pub sites_of : Statement → List Site
sites_of loop = walk_all (in_loop outside 0) None (kernel_body loop) (with_site [] outside None loop)

-- ---- Sites one by one

abbrev pub first_place : Option Span → Option Span → Option Span
first_place (Some at) other = Some at
first_place None other = other

abbrev pub place_where : Bool → Span → Option Span
place_where true at = Some at
place_where false at = None

-- the first place that a test of sites with their numbers gives, for sites from a number on
abbrev pub first_broken : (ℕ → Site → Option Span) → ℕ → List Site → Option Span
first_broken test n [] = None
first_broken test n (s ∷ ss) = first_place (test n s) (first_broken test (suc n) ss)

-- whether some site passes a test
abbrev pub any_site : (ℕ → Site → Bool) → ℕ → List Site → Bool
any_site test n [] = false
any_site test n (s ∷ ss) = test n s || any_site test (suc n) ss

abbrev pub has_number : List ℕ → ℕ → Bool
has_number numbers n = list_any (nat_eq n) numbers

-- how many loops stand round a site
abbrev pub depth : Site → ℕ
depth s = length s.round.loops

-- the innermost of some loops
abbrev pub innermost : List ℕ → Option ℕ
innermost [] = None
innermost (n ∷ []) = Some n
innermost (n ∷ m ∷ ns) = innermost (m ∷ ns)

-- the site is a branch of this `if`, or further down in one
abbrev pub is_under : ℕ → Site → Bool
is_under n s = list_any (λ (t : Test). nat_eq n t.number) s.round.tests

-- the `if`s between the innermost loop round a site and the site
abbrev pub inner_tests : Round → List Test
inner_tests r = filter (λ (t : Test). nat_eq t.level (length r.loops)) r.tests

-- the variable that an update sets
abbrev pub target_of : Statement → Option (List ℕ)
target_of (plain.Assign at x e) = Some x
target_of (plain.Add at x e) = Some x
target_of _ = None

abbrev pub is_some : {A : Type 0} → Option A → Bool
is_some (Some x) = true
is_some None = false

abbrev pub is_update : Statement → Bool
is_update s = is_some (target_of s)

-- ---- What a name is bound to

abbrev pub declared_name : Statement → Option (List ℕ)
declared_name (plain.Declare at ty x e) = Some x
declared_name _ = None

-- the row variable of a loop that counts
abbrev pub counted_row : Statements → Option (List ℕ)
counted_row Nothing = None
counted_row (Then s ss) = declared_name s

-- what a name is bound to behind a statement with this number
abbrev pub bound_by : List ℕ → ℕ → Statement → Binding → Binding
bound_by x n (plain.Declare at ty y e) b = if bytes_eq y x then Local n else b
bound_by x n (plain.ForEach at ty y e body) b = if bytes_eq y x then Row n else b
bound_by x n (plain.While at c body) b = if is_name (counted_row body) x then Row n else b
bound_by x n _ b = b

abbrev pub bound_after : List ℕ → ℕ → Binding → List Site → Binding
bound_after x n b [] = b
bound_after x n b (s ∷ ss) = bound_after x (suc n) (bound_by x n s.statement b) ss

-- What a name is bound to at a site: the last one before it that declares this name, if there is one. No
-- name is declared where it is visible, so the last one is the visible one.
abbrev pub binding_at : List Site → ℕ → List ℕ → Binding
binding_at sites n x = bound_after x 0 Outer (take n sites)

abbrev pub same_binding : Binding → Binding → Bool
same_binding (Row n) (Row m) = nat_eq n m
same_binding (Local n) (Local m) = nat_eq n m
same_binding Outer Outer = true
same_binding _ _ = false

-- a column of a loop's row
pub record RowColumn : Type 0 where
  pub loop : ℕ
  pub column : List ℕ

abbrev pub row_bound : Binding → Option ℕ
row_bound (Row n) = Some n
row_bound _ = None

-- the loop whose row an expression is
abbrev pub row_at : List Site → ℕ → Expression → Option ℕ
row_at sites n (plain.Var at x) = row_bound (binding_at sites n x)
row_at sites n _ = None

abbrev pub column_of_row : List ℕ → Option ℕ → Option RowColumn
column_of_row f (Some j) = Some (record { loop = j; column = f })
column_of_row f None = None

-- the column of a loop's row that an expression is
abbrev pub row_column_at : List Site → ℕ → Expression → Option RowColumn
row_column_at sites n (plain.Field at e f) = column_of_row f (row_at sites n e)
row_column_at sites n _ = None

abbrev pub same_row_column : Option RowColumn → Option RowColumn → Bool
same_row_column (Some a) (Some b) = nat_eq a.loop b.loop && bytes_eq a.column b.column
same_row_column _ _ = false
