-- A loop with its run in a block, and in one whose statements stand for those of the block.
use Rattle.std.specs.Prelude.{◌≡◌, ℕ, ◌≤◌, ◌<◌, false}
use Rattle.java_ast.specs.Spans.{place_of}
use Rattle.java_ast.specs.Tree.{Statement, Statements, Nothing, Then}
use Rattle.java_stretches.specs.Fit.{SameStart, FitBlock}

-- statements begin one behind the other, from the byte lo on and up to hi, each in a line, counted from 1
abbrev pub Chain : ℕ → ℕ → Statements → Type 0
Chain lo hi Nothing = lo ≤ hi
Chain lo hi (Then s ss) = (lo ≤ (place_of s).start) × ((place_of s).line ≡ 0 → ⊥) × Chain (place_of s).start hi ss

-- The loop and the first statement of its run, which is in a block that both blocks have at the same path: what comes in their place in the one block
-- and stands for what comes in it in the other fits.
pub record Focus (one_in : Statement → Type 0) (one_for : Statement → Type 0) (loop_for : Statement → Type 0) (run : Statements) (loop : Statement) (Fits : Statements → Statements → Type 0) : Type 0 where
  pub loop' : Statement
  pub one : Statement
  pub one' : Statement
  pub to_loop : loop_for loop'
  pub to_one : one_in one
  pub to_other : one_for one'
  pub ends : (place_of loop').end ≡ (place_of loop).end
  pub grows : (place_of loop).start < (place_of loop).end
  pub same : SameStart (place_of one') (place_of one)
  pub lined : (place_of one).line ≡ 0 → ⊥
  pub loop_lined : (place_of loop).line ≡ 0 → ⊥
  pub chain : Chain (place_of one).start (place_of loop).start run
  pub replaced : (others' others : Statements) → FitBlock (place_of one).start (place_of loop).end false others' others → Fits others' others
