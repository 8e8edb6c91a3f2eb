-- Tokens, each with a mark whether the limits of depth hold at it, and the places of parts of a text.
use Rattle.std.specs.Prelude.{◌≡◌, ◌<◌, ◌-◌, ℕ, List, length, slice_get, map, Bool, true, false, Option, Some}
use Rattle.qbs_base.specs.declared.span.Span.{Span}
use Rattle.java_lex.specs.declared.token.Token.{Token}
pub use Rattle.java_ast.specs.Unplaced.{nowhere}

-- Where only the grammar is asked for, the limits hold at no token.
pub record Tok : Type 0 where
  pub strict : Bool
  pub token : Token

abbrev pub strictly : Token → Tok
strictly t = record { strict = true; token = t }

abbrev pub freely : Token → Tok
freely t = record { strict = false; token = t }

abbrev pub all_strict : List Token → List Tok
all_strict ts = map strictly ts

abbrev pub all_free : List Token → List Tok
all_free ts = map freely ts

-- the same token, where the limits do not hold
abbrev pub freed : Tok → Tok
freed t = freely t.token

-- Something may open at a token, or a chain go on with it, where so many more may: at a strict token one at least.
abbrev pub Allows : ℕ → Tok → Type 0
Allows room t = t.strict ≡ true → 0 < room

-- ---- places

-- from the start of the one to the end of the other
abbrev pub bounds : Option Token → Option Token → Span
bounds (Some a) (Some b) = record { line = a.span.line; column = a.span.column; start = a.span.start; end = b.span.end }
bounds _ _ = nowhere

abbrev pub tokens_of : List Tok → List Token
tokens_of ts = map (λ t. t.token) ts

-- from the first token to the last one
abbrev pub between : List Token → Span
between ts = bounds (slice_get ts 0) (slice_get ts (length ts - 1))

abbrev pub extent : List Tok → Span
extent ts = between (tokens_of ts)
