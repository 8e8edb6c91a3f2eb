-- Texts whose tokens are cells.
use Rattle.std.specs.Prelude.{◌≡◌, ℕ, ◌-◌, List, [], ◌∷◌, length, take, drop, map, Bool, true, false, ◌&&◌, ◌==◌, Result, Ok, Err}
use Rattle.qbs_base.specs.declared.span.Span.{Span}
use Rattle.java_lex.specs.declared.token.LexFault.{LexFault}
use Rattle.java_lex.specs.declared.token.Token.{Token}
use Rattle.java_lex.specs.declared.token.Tokens.{Tokens}
use Rattle.java_lex.specs.Cutting.{HasNodes}
use Rattle.java_lex.specs.Lexing.{lexed}
use Rattle.view_items.specs.declared.cell.Cell.{Cell}
use Rattle.view_text.specs.declared.stretches.Stretch.{Stretch}

-- ---- cells that are tokens

-- one token, from the first of so many bytes to the last
abbrev pub fills : ℕ → List Token → Bool
fills len [] = false
fills len (t ∷ []) = (t.span.start == 0) && (t.span.end == len)
fills len (t ∷ u ∷ us) = false

abbrev pub fills_by : ℕ → Result Tokens LexFault → Bool
fills_by len (Ok tokens) = fills len tokens.list
fills_by len (Err e) = false

-- the bytes are one token
abbrev pub is_token : List ℕ → Bool
is_token bytes = fills_by (length bytes) (lexed bytes)

abbrev pub are_tokens : List Cell → Bool
are_tokens [] = true
are_tokens (c ∷ cs) = is_token c.bytes && are_tokens cs

-- ---- texts with these tokens

abbrev pub bytes_at : List ℕ → Span → List ℕ
bytes_at text span = take (span.end - span.start) (drop span.start text)

abbrev pub stretch_of : Span → Stretch
stretch_of span = record { from = span.start; to = span.end }

-- the token has the cell's bytes, and is what they are alone
pub record IsCell (text : List ℕ) (t : Token) (c : Cell) : Type 0 where
  pub bytes : bytes_at text t.span ≡ c.bytes
  pub node : HasNodes c.bytes (t.node ∷ [])

abbrev pub AreCells : List ℕ → List Token → List Cell → Type 0
AreCells text [] [] = Unit {0}
AreCells text [] (c ∷ cs) = ⊥
AreCells text (t ∷ ts) [] = ⊥
AreCells text (t ∷ ts) (c ∷ cs) = IsCell text t c × AreCells text ts cs

-- The text has tokens, which are the cells one by one, and stand where the cells do.
pub record HasCells (text : List ℕ) (cells : List Cell) (stretches : List Stretch) : Type 0 where
  pub tokens : Tokens
  pub lexed_as : lexed text ≡ Ok tokens
  pub are_cells : AreCells text tokens.list cells
  pub places : map (λ t. stretch_of t.span) tokens.list ≡ stretches
