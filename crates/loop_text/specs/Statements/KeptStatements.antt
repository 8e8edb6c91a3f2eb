-- The statements of a run that a rewrite keeps, by their numbers in the block.
use Rattle.std.specs.Prelude.{ℕ, zero, suc, List, [], ◌∷◌, slice_get, if◌then◌else◌}
use Rattle.std.specs.declared.option.Option.{Option}
use Rattle.std.specs.declared.option.Option.TheVariants.{Some, None}
use Rattle.java_ast.specs.Tree.{Statement, Statements, Nothing, Then, PlainProgram}
use Rattle.java_ast.specs.Path.{found_in, numbered, branch_of, first_of}
use Rattle.loop_text.specs.Statements.Fragment.{Fragment, IsKept, before_run}
use Rattle.java_ast.specs.Names.{Names}
use Rattle.loop_text.specs.Sites.Sites.{has_number}

-- how many statements a block has
abbrev pub how_many : Statements → ℕ
how_many Nothing = zero
how_many (Then s ss) = suc (how_many ss)

-- The number of the first statement of the run before the loop to which a path leads behind the number n of a statement
-- of this block; that of the loop, where the run is empty.
abbrev pub first_in : List ℕ → ℕ → Statements → Option ℕ
first_in [] n block = Some (how_many (before_run (first_of n block)))
first_in (b ∷ []) n block = None
first_in (b ∷ m ∷ path) n block = found_in (λ s. found_in (first_in path m) (branch_of b s)) (numbered n block)

-- the same in a program
abbrev pub first_at : List ℕ → PlainProgram → Option ℕ
first_at (m ∷ n ∷ path) p = found_in (λ method. first_in path n method.body) (slice_get p.methods m)
first_at _ p = None

-- The numbers of the kept ones of the statements of a run, of which the first one has this number.
pub data AreKept (f : Fragment) (further : Names) : ℕ → Statements → List ℕ → Type 0 where
  none : (n : ℕ) → AreKept f further n Nothing []
  keeps : (n : ℕ) (s : Statement) (ss : Statements) (numbers : List ℕ) → IsKept f further s → AreKept f further (suc n) ss numbers → AreKept f further n (Then s ss) (n ∷ numbers)
  drops : (n : ℕ) (s : Statement) (ss : Statements) (numbers : List ℕ) → (IsKept f further s → ⊥) → AreKept f further (suc n) ss numbers → AreKept f further n (Then s ss) numbers

-- the statements with these numbers, of a run whose first one has this number
abbrev pub with_numbers : List ℕ → ℕ → Statements → Statements
with_numbers numbers n Nothing = Nothing
with_numbers numbers n (Then s ss) = if has_number numbers n then Then s (with_numbers numbers (suc n) ss) else with_numbers numbers (suc n) ss
