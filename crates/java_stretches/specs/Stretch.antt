-- The tokens of the statements of one block from a number on, and those around them.
use Rattle.std.specs.Prelude.{◌≡◌, ℕ, ◌+◌, List, [], ◌∷◌, ◌++◌, length}
use Rattle.std.specs.declared.option.Option.TheVariants.{Some}
use Rattle.qbs_base.specs.declared.span.Span.{Span}
use Rattle.java_lex.specs.declared.token.Token.{Token}
use Rattle.java_lex.specs.Cutting.{EndsAt, EndsStatement}
use Rattle.java_lex.specs.Spans.{SamePlace}
use Rattle.java_ast.specs.Path.{statement_at, replaced_at}
use Rattle.java_ast.specs.Spans.{place_of}
use Rattle.java_ast.specs.Tree.{Statement, Statements, PlainProgram}
use Rattle.java_grammar.specs.Marks.{all_free}
use Rattle.java_grammar.specs.Statements.{HasStatements}
use Rattle.java_grammar.specs.Grammar.{IsProgram}

-- the path to the statement with this number in the block of the statement to which a path leads
abbrev pub sibling : List ℕ → ℕ → List ℕ
sibling [] n = []
sibling (m ∷ []) n = n ∷ []
sibling (m ∷ k ∷ path) n = m ∷ sibling (k ∷ path) n

-- a stretch starts where the first of these tokens does
abbrev pub StartsWith : Span → List Token → Type 0
StartsWith at [] = ⊥
StartsWith at (t ∷ ts) = SamePlace at t.span × (at.start ≡ t.span.start)

-- The tokens of the program p before, within and behind the statements of one block from the number `first` to the one,
-- s, that the path leads to. Before these a statement or a block ends, or a block is opened. In the block so many more
-- things may be open, as the grammar counts them, and that says nothing of tokens that are free of the limits of depth.
pub record Stretch (ts : List Token) (p : PlainProgram) (path : List ℕ) (first : ℕ) (s : Statement) : Type 0 where
  pub before : List Token
  pub within : List Token
  pub after : List Token
  pub parts : ts ≡ before ++ (within ++ after)
  pub one : Statement
  pub is_first : statement_at (sibling path first) p ≡ Some one
  pub starts : StartsWith (place_of one) within
  pub ends : EndsAt (place_of s).end within
  pub closed : EndsStatement before
  pub room : ℕ
  pub replaced : (given : List Token) (new : Statements) → HasStatements room (all_free given) new → IsProgram (before ++ (given ++ after)) (replaced_at path first new p)

-- In a text that has the program p, the bytes old behind front are those from the statement with the number `first` to the
-- one that the path leads to.
pub record GoesFrom (p : PlainProgram) (path : List ℕ) (first : ℕ) (front old : List ℕ) : Type 0 where
  pub one : Statement
  pub last : Statement
  pub to_first : statement_at (sibling path first) p ≡ Some one
  pub to_last : statement_at path p ≡ Some last
  pub starts : (place_of one).start ≡ length front
  pub ends : (place_of last).end ≡ length front + length old
