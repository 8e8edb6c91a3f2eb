-- Where the bytes of a text stand.
use Rattle.std.specs.Prelude.{ℕ, ◌+◌, ◌<◌, ◌≤◌, ◌^◌, List, [], ◌∷◌, ◌==◌, if◌then◌else◌}
use Rattle.qbs_base.specs.declared.place.Place.{Place}
use Rattle.qbs_base.specs.declared.span.Span.{Span}
use Rattle.qbs_base.specs.Bytes.{line_feed}

abbrev pub first_place : Place
first_place = record { line = 1; column = 1; index = 0 }

-- the place after a byte: a line feed alone ends a line
abbrev pub next_place : Place → ℕ → Place
next_place p b =
    if b == line_feed then record { line = p.line + 1; column = 1; index = p.index + 1 }
    else record { line = p.line; column = p.column + 1; index = p.index + 1 }

abbrev pub place_after : Place → List ℕ → Place
place_after p [] = p
place_after p (b ∷ bs) = place_after (next_place p b) bs

-- the stretch from one place to another
abbrev pub between : Place → Place → Span
between p q = record { line = p.line; column = p.column; start = p.index; end = q.index }

-- the span of the byte there
abbrev pub byte_at : Place → Span
byte_at p = record { line = p.line; column = p.column; start = p.index; end = p.index + 1 }

-- n more bytes can be counted in 64 bits
pub record HasRoom (p : Place) (n : ℕ) : Type 0 where
  pub index : p.index + n + 1 < 2 ^ 64
  pub line : p.line ≤ p.index + 1
  pub column : p.column ≤ p.index + 1
