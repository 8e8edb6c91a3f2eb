-- Kinds of bytes, and keywords.
use Rattle.std.specs.Prelude.{ℕ, Bool, false, ◌||◌, ◌==◌, not, nat_le, List, [], ◌∷◌, length, drop}
use Rattle.std.specs.List.{prefix_len}
use Rattle.std.specs.Str.{str_eq_ignore_ascii_case}
use Rattle.qbs_base.specs.Bytes.{line_feed, carriage_return, tab, is_name_start, is_digit}

-- a letter, `_`, a digit or a byte past ASCII
abbrev pub begins_word : ℕ → Bool
begins_word b = is_name_start b || is_digit b || nat_le 128 b

-- the same, and `$` and `#`
abbrev pub is_in_word : ℕ → Bool
is_in_word b = begins_word b || (b == 36) || (b == 35)

abbrev pub is_in_line : ℕ → Bool
is_in_line b = not (b == line_feed)

abbrev pub is_blank : ℕ → Bool
is_blank b = (b == 32) || (b == tab) || (b == carriage_return)

-- a word is a keyword in any letter case
abbrev pub spells : List ℕ → List ℕ → Bool
spells keyword word = str_eq_ignore_ascii_case keyword word

abbrev pub begins_with : ℕ → List ℕ → Bool
begins_with b [] = false
begins_with b (c ∷ cs) = c == b

abbrev pub is_empty : List ℕ → Bool
is_empty bs = length bs == 0

-- nothing but blanks stands up to the end of the line
abbrev pub is_line_over : List ℕ → Bool
is_line_over bs = is_empty (drop (prefix_len is_blank bs) bs) || begins_with line_feed (drop (prefix_len is_blank bs) bs)
