-- What statements bind names to, listed by name.
use Rattle.std.specs.Prelude.{◌≡◌, ◌≤◌, ℕ, suc, Bool, true, false, List, [], ◌∷◌, ◌++◌, nat_lt, if◌then◌else◌}
use Rattle.std.specs.declared.option.Option.{Option}
use Rattle.std.specs.declared.option.Option.TheVariants.{Some, None}
use Rattle.java_ast.specs.Tree.{Statement}
use Rattle.java_ast.specs.Tree as plain
use Rattle.loop_text.specs.Statements.Fragment.{is_name}
use Rattle.loop_text.specs.Sites.Groups.{under_name}
use Rattle.loop_text.specs.Sites.Sites.{Site, counted_row}
pub use Rattle.loop_text.specs.Sites.Sites.{Binding, Row, Local, Outer}

-- ---- By statements

-- the variable that a statement binds in what stands behind it or in it
abbrev pub bound_name : Statement → Option (List ℕ)
bound_name (plain.Declare at ty y e) = Some y
bound_name (plain.ForEach at ty y e b) = Some y
bound_name (plain.While at c b) = counted_row b
bound_name _ = None

-- what it binds that variable to, where it has this number
abbrev pub bound_as : ℕ → Statement → Binding
bound_as n (plain.Declare at ty y e) = Local n
bound_as n _ = Row n

abbrev pub with_bound : Bool → Binding → List Binding → List Binding
with_bound true b bs = b ∷ bs
with_bound false b bs = bs

-- what sites from a number on bind a name to, in their order
abbrev pub bindings_of : List ℕ → ℕ → List Site → List Binding
bindings_of x n [] = []
bindings_of x n (s ∷ ss) = with_bound (is_name (bound_name s.statement) x) (bound_as n s.statement) (bindings_of x (suc n) ss)

-- ---- By names

-- the bindings of each name
abbrev pub Lists : Type 0
Lists = List (List ℕ × List Binding)

-- the new lists have what a statement with this number binds
abbrev pub AddsBound : Lists → ℕ → Statement → Lists → Type 0
AddsBound old n s new = (x : List ℕ) → under_name new x ≡ under_name old x ++ with_bound (is_name (bound_name s) x) (bound_as n s) []

-- the lists are those of all sites
abbrev pub AreBound : Lists → List Site → Type 0
AreBound ls sites = (x : List ℕ) → under_name ls x ≡ bindings_of x 0 sites

-- ---- By numbers

abbrev pub number_of : Binding → ℕ
number_of (Row n) = n
number_of (Local n) = n
number_of Outer = 0

-- the last of some bindings whose number is below n
abbrev pub last_below : ℕ → Binding → List Binding → Binding
last_below n b [] = b
last_below n b (c ∷ cs) = last_below n (if nat_lt (number_of c) n then c else b) cs

-- the numbers don't fall, from n on
abbrev pub IsRising : ℕ → List Binding → Type 0
IsRising n [] = Unit {0}
IsRising n (b ∷ bs) = (n ≤ number_of b) × IsRising (number_of b) bs

abbrev pub AreRising : Lists → Type 0
AreRising ls = (x : List ℕ) → IsRising 0 (under_name ls x)
