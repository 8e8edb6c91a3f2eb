-- Where the loop of a setting stands, as a replacement asks for it.
use Rattle.std.specs.Prelude.{◌≡◌, ℕ, ◌≤◌, true, List}
use Rattle.std.specs.declared.option.Option.TheVariants.{Some}
use Rattle.java_ast.specs.Path.{last_of, statement_at}
use Rattle.java_ast.specs.Tree.{PlainProgram}
use Rattle.loop_text.specs.Statements.Fragment.{Fragment, are_simple}

-- The path leads to the loop, and its run, which has simple statements alone, begins with the statement of this number in its
-- block, or with the loop itself.
pub record LoopStands (p : PlainProgram) (path : List ℕ) (f : Fragment) (first : ℕ) : Type 0 where
  pub there : statement_at path p ≡ Some f.loop
  pub before : first ≤ last_of path
  pub simple : are_simple f.run ≡ true
