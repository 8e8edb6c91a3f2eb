-- A text that keeps what it can of a source, where it is one of a program.
use Rattle.std.specs.Prelude.{◌≡◌, ◌⊎◌, ℕ, List}
use Rattle.java_ast.specs.Tree.{PlainProgram}
use Rattle.java_grammar.specs.ReadBack.{IsReadBack}
use Rattle.java_text.specs.Canonical.{canonical}

-- What is written is read back as the program. It is the text wherever that is read back so, and else the program's canonical text.
pub record IsTextFor (text : List ℕ) (p : PlainProgram) (written : List ℕ) : Type 0 where
  pub back : IsReadBack written p
  pub is : (written ≡ text) ⊎ ((IsReadBack text p → ⊥) × (written ≡ canonical p))
