-- Lines and columns of bytes: both are counted from 1, the columns in bytes.
use Rattle.std.specs.Prelude.{◌≡◌, ℕ, ◌+◌, ◌*◌, ◌==◌, List, [], ◌∷◌, take, slice_get, Some, if◌then◌else◌}
use Rattle.qbs_base.specs.Bytes.{line_feed}
use Rattle.qbs_base.specs.declared.span.Span.{Span}
use Rattle.text_places.specs.declared.places.Place.{Place}

-- the place behind a byte: a line feed ends a line
abbrev pub behind : Place → ℕ → Place
behind p b = if b == line_feed then record { line = p.line + 1; column = 1 } else record { line = p.line; column = p.column + 1 }

-- the place behind bytes
unfoldable pub moved : Place → List ℕ → Place
moved p [] = p
moved p (b ∷ bs) = moved (behind p b) bs

abbrev pub first : Place
first = record { line = 1; column = 1 }

-- the place of the byte with this number, counted from 0
abbrev pub place_in : List ℕ → ℕ → Place
place_in bytes at = moved first (take at bytes)

abbrev pub span_of : Place → ℕ → Span
span_of p at = record { line = p.line; column = p.column; start = at; end = at }

-- the empty stretch before that byte
abbrev pub span_in : List ℕ → ℕ → Span
span_in bytes at = span_of (place_in bytes at) at

-- these are the places of every 4096th byte, as far as they go
abbrev pub AreMarks : List ℕ → List Place → Type 0
AreMarks bytes marks = (k : ℕ) (p : Place) → slice_get marks k ≡ Some p → p ≡ place_in bytes (k * 4096)
