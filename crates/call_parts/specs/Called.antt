-- The names of called methods.
use Rattle.std.specs.Prelude.{ℕ, List, [], ◌∷◌, Bool, false, ◌&&◌}
use Rattle.std.specs.List.{list_all}
use Rattle.qbs_base.specs.Bytes.{is_name_start, is_name_part}

-- an ASCII letter or `_`, and behind it letters, digits and `_`: no query is a single name
abbrev pub is_single_name : List ℕ → Bool
is_single_name [] = false
is_single_name (b ∷ bs) = is_name_start b && list_all is_name_part bs
