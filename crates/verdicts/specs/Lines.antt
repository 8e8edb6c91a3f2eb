-- How lines end, and places as texts.
use Rattle.std.specs.Prelude.{ℕ, List, [], ◌∷◌, ◌++◌, codes}
use Rattle.std.specs.Fmt.{decimal}
use Rattle.qbs_base.specs.declared.span.Span.{Span}

-- a line of text
abbrev pub line : List ℕ → List ℕ
line text = text ++ 10 ∷ []

-- a place as line and column
abbrev pub place_text : Span → List ℕ
place_text at = decimal at.line ++ codes ":" ++ decimal at.column
