-- What the spans of a text's tokens say.
use Rattle.std.specs.Prelude.{◌≡◌, ℕ, ◌+◌, ◌<◌, ◌≤◌, List, [], ◌∷◌, length, take, count_by, ◌==◌, slice_get, Some}
use Rattle.std.specs.List.{suffix_len}
use Rattle.qbs_base.specs.declared.span.Span.{Span}
use Rattle.java_lex.specs.declared.token.Token.{Token}
use Rattle.java_lex.specs.declared.token.Tokens.{Tokens}
use Rattle.java_lex.specs.Bytes.{is_in_line}
use Rattle.qbs_base.specs.Bytes.{line_feed}

-- a stretch of the text, with its line and its column, counted from 1: how many lines are before it, and how many bytes of
-- its line
pub record StandsIn (text : List ℕ) (span : Span) : Type 0 where
  pub line : span.line ≡ 1 + count_by (λ b. b == line_feed) (take span.start text)
  pub column : span.column ≡ 1 + suffix_len is_in_line (take span.start text)
  pub forward : span.start ≤ span.end
  pub within : span.end ≤ length text

-- from the byte q on one behind the other, none of them empty
abbrev pub StandInOrder : List ℕ → ℕ → List Token → Type 0
StandInOrder text q [] = Unit {0}
StandInOrder text q (t ∷ ts) = (q ≤ t.span.start) × (t.span.start < t.span.end) × StandsIn text t.span × StandInOrder text t.span.end ts

-- the empty stretch at the end of the text
pub record EndsText (text : List ℕ) (span : Span) : Type 0 where
  pub stands : StandsIn text span
  pub start : span.start ≡ length text
  pub end : span.end ≡ length text

-- one byte of the text
pub record IsByteOf (text : List ℕ) (span : Span) : Type 0 where
  pub stands : StandsIn text span
  pub one : span.end ≡ span.start + 1

-- two stretches begin at the same line and column
abbrev pub SamePlace : Span → Span → Type 0
SamePlace a b = (a.line ≡ b.line) × (a.column ≡ b.column)

-- this is the token with the number n, counted from 0
abbrev pub IsToken : Tokens → ℕ → Token → Type 0
IsToken tokens n t = slice_get tokens.list n ≡ Some t
