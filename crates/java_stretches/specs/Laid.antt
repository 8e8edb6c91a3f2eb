-- Tokens of a source in which other tokens stand in place of some bytes.
use Rattle.std.specs.Prelude.{◌≡◌, ℕ, ◌+◌, ◌-◌, ◌≤◌, ◌<◌, List, [], ◌∷◌, ◌++◌, length, take, drop, filter, ◌&&◌, nat_le, nat_lt, if◌then◌else◌, Ok}
use Rattle.std.specs.List.{AllByRecursion}
use Rattle.qbs_base.specs.declared.place.Place.{Place}
use Rattle.qbs_base.specs.Places.{place_after}
use Rattle.java_lex.specs.Cutting.{nodes_of, HasTokens, StartsAt, EndsAt, EndsStatement}
use Rattle.java_lex.specs.Lexing.{tokens_from}
use Rattle.java_lex.specs.declared.token.Token.{Token}

-- a text in place of the bytes of a source from one number up to another
pub record Patched : Type 0 where
  pub from : ℕ
  pub to : ℕ
  pub text : List ℕ

-- ---- Bytes

-- the source behind the byte `at`, with these in place
abbrev pub with_texts : List ℕ → ℕ → List Patched → List ℕ
with_texts source at [] = drop at source
with_texts source at (p ∷ ps) = take (p.from - at) (drop at source) ++ (p.text ++ with_texts source p.to ps)

-- those that end before this byte
abbrev pub ended_before : ℕ → List Patched → List Patched
ended_before from ps = filter (λ p. nat_le p.to from) ps

-- where the bytes of what begins at this byte begin: where those do in which it lies
abbrev pub begun_at : List Patched → ℕ → ℕ
begun_at [] start = start
begun_at (p ∷ ps) start = if nat_le p.from start && nat_lt start p.to then p.from else begun_at ps start

-- with one more, for what begins at this byte and ends before another: it covers all that don't end before it
abbrev pub with_one : List Patched → ℕ → ℕ → List ℕ → List Patched
with_one ps start to text = ended_before (begun_at ps start) ps ++ (record { from = begun_at ps start; to = to; text = text } ∷ [])

-- ---- Tokens

-- from the byte q on one behind the other, none of them empty
abbrev pub FollowFrom : ℕ → List Token → Type 0
FollowFrom q [] = Unit {0}
FollowFrom q (t ∷ ts) = (q ≤ t.span.start) × (t.span.start < t.span.end) × FollowFrom t.span.end ts

-- none, or the last one is one of the signs { } ;
abbrev pub AreClosed : List Token → Type 0
AreClosed [] = Unit {0}
AreClosed (t ∷ ts) = EndsStatement (t ∷ ts)

-- it stands nowhere
abbrev pub IsMarked : Token → Type 0
IsMarked t = (t.span.line ≡ 0) × (t.span.end ≡ 0)

-- Of bytes at a place, those of the source in front of a patch, those that it stands for, and those behind. Of tokens, those of the source in front of
-- it, those of its text, of which the first begins within what it stands for, and those behind.
pub record Covered (p : Place) (bytes : List ℕ) (x : Patched) (ts : List Token) : Type 0 where
  pub front : List ℕ
  pub old : List ℕ
  pub rest : List ℕ
  pub bytes_are : bytes ≡ front ++ (old ++ rest)
  pub from : x.from ≡ p.index + length front
  pub to : x.to ≡ x.from + length old
  pub long : x.from < x.to
  pub mid : List Token
  pub others : List Token
  pub read : tokens_from p 0 bytes ≡ Ok (mid ++ others)
  pub order : FollowFrom p.index (mid ++ others)
  pub starts : StartsAt x.from others
  pub closed : AreClosed mid
  pub head : Token
  pub tail : List Token
  pub later : List Token
  pub tokens_are : ts ≡ mid ++ (head ∷ (tail ++ later))
  pub given : List Token
  pub text : HasTokens x.text given
  pub text_closed : EndsStatement given
  pub text_ends : EndsAt (length x.text) given
  pub same : nodes_of (head ∷ tail) ≡ nodes_of given
  pub behind : x.from ≤ head.span.start
  pub before : head.span.start < x.to
  pub short : head.span.end ≡ 0
  pub marked : AllByRecursion IsMarked tail

-- The tokens of bytes at a place of the source, with those of the patches' texts in place.
abbrev pub Laid : Place → List ℕ → List Patched → List Token → Type 0
Laid p bytes [] ts = (tokens_from p 0 bytes ≡ Ok ts) × FollowFrom p.index ts
Laid p bytes (x ∷ xs) ts = (c : Covered p bytes x ts) × Laid (place_after p (c.front ++ c.old)) c.rest xs c.later
