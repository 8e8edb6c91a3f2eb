-- Loops that count through a list, and states that are the same but for some variables.
use Rattle.std.specs.Prelude.{◌≡◌, ℕ, pos, false, List, Ok}
use Rattle.std.specs.Str.{bytes_eq}
use Rattle.std.specs.declared.option.Option.{Option}
use Rattle.std.specs.declared.option.Option.TheVariants.{Some, None}
use Rattle.qbs_base.specs.declared.span.Span.{Span}
use Rattle.qbs_base.specs.declared.scalar.Scalar.TheVariants as scalars
use Rattle.qbs_base.specs.Named.{at_name}
use Rattle.java_ast.specs.declared.tree.Op.TheVariants as ops
use Rattle.java_ast.specs.Tree.{Spelled, Expression, Lit, Var, Binary, Size, Get, Statement, Declare, Assign, While, Statements, Nothing, Then}
use Rattle.java_mean.specs.Refines.{Exits, Simulates, followed_by}
use Rattle.java_mean.specs.Statement.{State, GoesOn, is_set_type, meanings}
use Rattle.java_mean.specs.World.{World}
use Rattle.java_loops.specs.Walks.Reads.{Set, AllWithin, all_touch, SameOn, other_than}

-- ---- The same but for some variables

-- the states have the same at each name of the set, the same lines, and as many turns
pub record SameState (f : Set) (s t : State) : Type 0 where
  pub store : SameOn f s.store t.store
  pub lines : s.lines ≡ t.lines
  pub turns : s.turns ≡ t.turns

-- a loop is left in such states, and nothing is owed where the first run is stuck
abbrev pub same_ways : Set → Exits
same_ways f = record { leaves = SameState f; returns = λ v. Unit {0}; stuck = Unit {0} }

-- ---- Loops that count

-- `i < xs.size()`
abbrev pub below_size : Span → Span → Span → List ℕ → List ℕ → Expression
below_size at at_counter at_size i xs = Binary at ops.Lt (Var at_counter i) (Size at_size xs)

-- `i < n`
abbrev pub below_count : Span → Span → Span → List ℕ → ℕ → Expression
below_count at at_counter at_count i n = Binary at ops.Lt (Var at_counter i) (Lit at_count (scalars.Long (pos n)))

-- the condition holds while the counter is below the size, and below a limit where there is one
pub data Counts (i xs : List ℕ) : Option ℕ → Expression → Type 0 where
  by_size : (at at_counter at_size : Span) → Counts i xs None (below_size at at_counter at_size i xs)
  size_first : (at at_left at_counter at_size at_right at_again at_count : Span) (n : ℕ) → Counts i xs (Some n) (Binary at ops.And (below_size at_left at_counter at_size i xs) (below_count at_right at_again at_count i n))
  count_first : (at at_left at_counter at_count at_right at_again at_size : Span) (n : ℕ) → Counts i xs (Some n) (Binary at ops.And (below_count at_left at_counter at_count i n) (below_size at_right at_again at_size i xs))

-- where the parts of such a loop stand
pub record CountPlaces : Type 0 where
  pub loop : Span
  pub row : Span
  pub get : Span
  pub index : Span
  pub step : Span
  pub sum : Span
  pub counter : Span
  pub one : Span

-- `i = i + 1;`
abbrev pub counting_step : CountPlaces → List ℕ → Statement
counting_step at i = Assign at.step i (Binary at.sum ops.Add (Var at.counter i) (Lit at.one (scalars.Long (pos 1))))

-- `T x = xs.get(i);`, the body, and the step
abbrev pub counting_body : CountPlaces → Spelled → List ℕ → List ℕ → List ℕ → Statements → Statements
counting_body at ty i xs x b = Then (Declare at.row ty x (Get at.get xs (Var at.index i))) (followed_by b (Then (counting_step at i) Nothing))

abbrev pub counting_loop : CountPlaces → Spelled → List ℕ → List ℕ → List ℕ → Expression → Statements → Statement
counting_loop at ty i xs x c b = While at.loop c (counting_body at ty i xs x b)

-- The loop counts with i through the list xs, up to the limit, and its body leaves both. The variable i doesn't
-- matter to the body.
pub record IsCounting (w : World) (ty : Spelled) (i xs x : List ℕ) (limit : Option ℕ) (c : Expression) (b : Statements) : Type 0 where
  pub condition : Counts i xs limit c
  pub no_set : is_set_type ty ≡ false
  pub row_apart : bytes_eq x i ≡ false
  pub list_apart : bytes_eq x xs ≡ false
  pub counter_apart : bytes_eq i xs ≡ false
  pub leaves : (s t : State) → meanings b w s ≡ Ok (GoesOn t) → (at_name t.store i ≡ at_name s.store i) × (at_name t.store xs ≡ at_name s.store xs)
  pub same : Simulates (SameState (other_than i)) (SameState (other_than i)) (same_ways (other_than i)) (meanings b w) (meanings b w)

-- The same said of the loop's text: the body mentions i nowhere, and touches neither i nor the list.
pub record IsCountingText (ty : Spelled) (i xs x : List ℕ) (limit : Option ℕ) (c : Expression) (b : Statements) : Type 0 where
  pub condition : Counts i xs limit c
  pub no_set : is_set_type ty ≡ false
  pub row_apart : bytes_eq x i ≡ false
  pub list_apart : bytes_eq x xs ≡ false
  pub counter_apart : bytes_eq i xs ≡ false
  pub counter_untouched : all_touch b i ≡ false
  pub list_untouched : all_touch b xs ≡ false
  pub unmentioned : AllWithin (other_than i) b
