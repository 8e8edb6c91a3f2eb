-- Kinds of bytes, and names.
use Rattle.std.specs.Prelude.{ℕ, Bool, ◌&&◌, ◌==◌, not, List, [], ◌∷◌, false}
use Rattle.std.specs.List.{list_all}
use Rattle.qbs_base.specs.Bytes.{line_feed, is_name_start, is_name_part}

-- a letter or `_`, and then letters, digits and `_`
abbrev pub is_name : List ℕ → Bool
is_name [] = false
is_name (b ∷ bs) = is_name_start b && list_all is_name_part bs

-- no line feed
abbrev pub is_in_line : ℕ → Bool
is_in_line b = not (b == line_feed)

abbrev pub begins_with : ℕ → List ℕ → Bool
begins_with b [] = false
begins_with b (c ∷ cs) = c == b
