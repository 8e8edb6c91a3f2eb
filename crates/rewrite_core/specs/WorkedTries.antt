-- Programs whose loops are tried one after the other.
use Rattle.std.specs.Prelude.{◌≡◌, ℕ, List, [], ◌∷◌}
use Rattle.sql_ast.specs.Worked.{staff_schema}
use Rattle.java_ast.specs.Tree.{PlainProgram}
use Rattle.java_mean.specs.Asked.{class_A_asking, class_J_asking}
use Rattle.java_mean.specs.Keeps.{Keeps}
use Rattle.java_mean.specs.Worked.{users, class_A, class_J}
use Rattle.java_loops.specs.Kernel.Worked.{program_of}
use Rattle.rewrite_core.specs.TriedAsking.{AllMayBeAsked, standing_paths}
use Rattle.rewrite_core.specs.Trying.{Tried, all_tried, rewritten}
use Rattle.rewrite_core.specs.Worked.{giving}

abbrev pub tries_of : PlainProgram → List Tried
tries_of p = all_tried staff_schema 2 10 p

-- Each loop of the program that gives way may be asked for. After all tries these loops stand, and this is the program, which keeps
-- what the first one does.
pub record ComesTo (p q : PlainProgram) (standing : List (List ℕ)) : Type 0 where
  pub may : AllMayBeAsked staff_schema (tries_of p)
  pub stand : standing_paths (tries_of p) ≡ standing
  pub becomes : rewritten staff_schema 2 10 p ≡ q
  pub keeps : Keeps p q staff_schema

pub record WorkedTries : Type 0 where
  -- the only loop gives way
  pub selection : ComesTo (giving users class_A) (giving users class_A_asking) []
  -- a loop stands in which another counts, which gives way
  pub count : ComesTo (program_of class_J) (program_of class_J_asking) ((0 ∷ 0 ∷ []) ∷ [])
