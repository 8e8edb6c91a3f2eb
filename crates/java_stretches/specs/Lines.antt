-- The lines of statements in canonical layout, and texts that can stand for statements.
use Rattle.std.specs.Prelude.{◌≡◌, ℕ, ◌-◌, List, length, take, drop, Bool, true, ◌||◌, ◌==◌, Ok}
use Rattle.std.specs.List.{All}
use Rattle.qbs_base.specs.Bytes.{tab}
use Rattle.java_lex.specs.Cutting.{EndsAt, EndsStatement}
use Rattle.java_lex.specs.Lexing.{lexed}
use Rattle.java_lex.specs.declared.token.Token.{Token}
use Rattle.java_lex.specs.declared.token.Tokens.{Tokens}
use Rattle.java_ast.specs.Tree.{Statement, Declare, Assign, Add, Sort, If, IfElse, ForEach, While, Print, Return, Break, Statements, Nothing, Then}
use Rattle.java_ast.specs.Unplaced.{unplaced_block}
use Rattle.java_text.specs.Canonical.{canonical_statements}
use Rattle.java_grammar.specs.InGrammar.{InStatements}
use Rattle.java_grammar.specs.Marks.{all_free}
use Rattle.java_grammar.specs.Statements.{HasStatements}
use Rattle.java_grammar.specs.Written.{WrittenStatements}

-- ---- margins

abbrev pub is_blank : ℕ → Bool
is_blank b = (b == 32) || (b == tab)

-- spaces and tabs
abbrev pub IsMargin : List ℕ → Type 0
IsMargin margin = All (λ b. is_blank b ≡ true) margin

-- the lines of statements but for the margin of the first and the line end of the last
abbrev pub joined_lines : List ℕ → Statements → List ℕ
joined_lines margin block = drop (length margin) (take (length (canonical_statements margin block) - 1) (canonical_statements margin block))

-- ---- statements that can be written

-- a statement without a body
abbrev pub IsSimple : Statement → Type 0
IsSimple (Declare at ty name value) = Unit {0}
IsSimple (Assign at name value) = Unit {0}
IsSimple (Add at name value) = Unit {0}
IsSimple (Sort at name keys downs) = Unit {0}
IsSimple (If at cond first) = ⊥
IsSimple (IfElse at cond first other) = ⊥
IsSimple (ForEach at ty name list body) = ⊥
IsSimple (While at cond body) = ⊥
IsSimple (Print at value) = Unit {0}
IsSimple (Return at value) = Unit {0}
IsSimple (Break at) = Unit {0}

abbrev pub AreSimple : Statements → Type 0
AreSimple Nothing = Unit {0}
AreSimple (Then s ss) = IsSimple s × AreSimple ss

-- one statement or more, without bodies
abbrev pub AreLines : Statements → Type 0
AreLines Nothing = ⊥
AreLines (Then s ss) = AreSimple (Then s ss)

pub record CanBeWritten (block : Statements) : Type 0 where
  pub in_grammar : InStatements block
  pub written : WrittenStatements block

-- ---- texts of statements

-- the tokens have these statements, but for places, where so many more things may be open
pub record SameStatements (room : ℕ) (ts : List Token) (block : Statements) : Type 0 where
  pub others : Statements
  pub has : HasStatements room (all_free ts) others
  pub same : unplaced_block others ≡ unplaced_block block

-- the text has these statements, but for places, wherever they stand
pub record HasLines (text : List ℕ) (block : Statements) : Type 0 where
  pub tokens : Tokens
  pub lexed_as : lexed text ≡ Ok tokens
  pub statements : (room : ℕ) → SameStatements room tokens.list block

-- and its last byte is that of the last token, which is one of the signs { } ;
pub record CanStandFor (text : List ℕ) (block : Statements) : Type 0 where
  pub lines : HasLines text block
  pub closed : EndsStatement lines.tokens.list
  pub ends : EndsAt (length text) lines.tokens.list
