-- A source in which patches stand, with the program of the tokens that it has then.
use Rattle.std.specs.Prelude.{◌≡◌, ℕ, true, List}
use Rattle.java_ast.specs.Spans.{place_of}
use Rattle.java_ast.specs.Tree.{Statement, Statements, Then, PlainProgram}
use Rattle.java_ast.specs.Unplaced.{unplaced_program}
use Rattle.java_lex.specs.declared.token.Token.{Token}
use Rattle.java_grammar.specs.Grammar.{IsProgram}
use Rattle.loop_text.specs.Statements.Fragment.{Fragment, are_simple}
use Rattle.qbs_base.specs.Places.{first_place}
use Rattle.java_stretches.specs.Fit.{FitMethods}
use Rattle.java_stretches.specs.Focus.{Chain}
use Rattle.java_stretches.specs.Laid.{Patched, Laid}

-- The tokens of the source, with those of the patches' texts in place, have a program that is this one, but for places.
pub record Carries (source : List ℕ) (ps : List Patched) (p : PlainProgram) : Type 0 where
  pub tokens : List Token
  pub program : PlainProgram
  pub has : IsProgram tokens program
  pub same : unplaced_program program ≡ unplaced_program p
  pub fits : FitMethods 0 program.methods p.methods
  pub laid : Laid first_place source ps tokens

-- Statements that may come in place of a run and its loop: such as a run may have, one at least. They begin one behind the other where those of the
-- run do, no later than the loop.
pub record MayComeFor (f : Fragment) (block : Statements) : Type 0 where
  pub first : Statement
  pub others : Statements
  pub is : block ≡ Then first others
  pub simple : are_simple block ≡ true
  pub chain : (lo : ℕ) → ((place_of f.loop).line ≡ 0 → ⊥) → Chain lo (place_of f.loop).start f.run → Chain lo (place_of f.loop).start block
