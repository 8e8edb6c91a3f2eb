-- Where texts may be cut and joined.
use Rattle.std.specs.Prelude.{◌≡◌, ℕ, ◌+◌, List, [], ◌∷◌, ◌++◌, length, map, Ok, ◌⊎◌}
use Rattle.java_lex.specs.declared.token.Token.{Token}
use Rattle.java_lex.specs.declared.token.TokenNode.{TokenNode}
use Rattle.java_lex.specs.declared.token.TokenNode.TheVariants.{Sign}
use Rattle.java_lex.specs.declared.token.Tokens.{Tokens}
use Rattle.qbs_base.specs.Places.{place_after, first_place}
use Rattle.java_lex.specs.Lexing.{tokens_from, lexed}

-- tokens without their spans
abbrev pub nodes_of : List Token → List TokenNode
nodes_of ts = map (λ t. t.node) ts

-- the text has these tokens, spans aside
pub record HasNodes (text : List ℕ) (nodes : List TokenNode) : Type 0 where
  pub tokens : Tokens
  pub read : lexed text ≡ Ok tokens
  pub same : nodes_of tokens.list ≡ nodes

-- the text has these tokens
abbrev pub HasTokens : List ℕ → List Token → Type 0
HasTokens text ts = (tokens : Tokens) × (lexed text ≡ Ok tokens) × (tokens.list ≡ ts)

-- Where a token of front ++ rest ends with front, those behind it depend on rest alone: they are those of rest, counted on
-- from the place there, and, spans aside, those of rest as a text of its own.
pub record CutsAt (front rest : List ℕ) (after : List Token) : Type 0 where
  pub counted_on : tokens_from (place_after first_place front) 0 rest ≡ Ok after
  pub alone : HasNodes rest (nodes_of after)

-- the first of these tokens starts at the byte q
abbrev pub StartsAt : ℕ → List Token → Type 0
StartsAt q [] = ⊥
StartsAt q (t ∷ ts) = t.span.start ≡ q

-- the last of these tokens ends before the byte q
abbrev pub EndsAt : ℕ → List Token → Type 0
EndsAt q [] = ⊥
EndsAt q (t ∷ []) = t.span.end ≡ q
EndsAt q (t ∷ u ∷ us) = EndsAt q (u ∷ us)

-- the bytes of the signs { } ;
abbrev pub Closes : ℕ → Type 0
Closes b = (b ≡ 123) ⊎ (b ≡ 125) ⊎ (b ≡ 59)

-- the last of these tokens is one of the signs { } ;
abbrev pub EndsStatement : List Token → Type 0
EndsStatement [] = ⊥
EndsStatement (t ∷ []) = (b : ℕ) × Closes b × (t.node ≡ Sign (b ∷ []))
EndsStatement (t ∷ u ∷ us) = EndsStatement (u ∷ us)

-- In the text front ++ old ++ rest, the bytes old go from the start of a token, before which a statement, a block or its
-- opening brace ends, to the end of a token. The bytes new have tokens, and end with the end of a statement or a block.
pub record Replaces (front old rest new : List ℕ) (before within after given : List Token) : Type 0 where
  pub text : HasTokens (front ++ (old ++ rest)) (before ++ (within ++ after))
  pub statement : EndsStatement before
  pub starts : StartsAt (length front) within
  pub ends : EndsAt (length front + length old) within
  pub replacement : HasTokens new given
  pub new_statement : EndsStatement given
  pub new_ends : EndsAt (length new) given
