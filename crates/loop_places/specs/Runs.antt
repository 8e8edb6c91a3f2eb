-- The run before the loop to which a path leads, as the code finds it.
use Rattle.std.specs.Prelude.{ℕ, Bool, true, false, List, [], ◌∷◌, slice_get}
use Rattle.std.specs.declared.option.Option.{Option}
use Rattle.std.specs.declared.option.Option.TheVariants.{Some, None}
use Rattle.java_ast.specs.Path.{found_in, numbered, branch_of, first_of, behind_of}
use Rattle.java_ast.specs.Tree.{Statements, Nothing, Then, PlainProgram}
use Rattle.loop_text.specs.Statements.Fragment.{run_of}
use Rattle.loop_text.specs.Statements.Loops.{is_loop}

abbrev pub run_where : Bool → Statements → Option Statements
run_where true run = Some run
run_where false run = None

-- what stands behind these statements begins with a loop
abbrev pub run_here : Statements → Statements → Option Statements
run_here before Nothing = None
run_here before (Then s ss) = run_where (is_loop s) (run_of before)

-- the run before the loop to which a path leads behind the number n of a statement of this block
abbrev pub run_in : List ℕ → ℕ → Statements → Option Statements
run_in [] n block = run_here (first_of n block) (behind_of n block)
run_in (b ∷ []) n block = None
run_in (b ∷ m ∷ path) n block = found_in (λ s. found_in (run_in path m) (branch_of b s)) (numbered n block)

-- the same in a program
abbrev pub run_at : List ℕ → PlainProgram → Option Statements
run_at (m ∷ n ∷ path) p = found_in (λ method. run_in path n method.body) (slice_get p.methods m)
run_at _ p = None
