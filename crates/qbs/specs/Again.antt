-- What a command writes is read again.
use Rattle.std.specs.Prelude.{◌≡◌, ℕ, List}
use Rattle.qbs_base.specs.Values.{Schema}
use Rattle.java_ast.specs.Tree.{PlainProgram}
use Rattle.java_ast.specs.Unplaced.{unplaced_program}
use Rattle.plans.specs.Opening.{IsProgramOf}

-- the text is a source of a well-typed program, of which none is too deep, and it is this one but for places
pub record IsReadAgain (tables : Schema) (text : List ℕ) (p : PlainProgram) : Type 0 where
  pub program : PlainProgram
  pub is_program : IsProgramOf tables text program
  pub same : unplaced_program program ≡ unplaced_program p
