-- The words, the numbers and the ends of lines.
use Rattle.std.specs.Prelude.{ℕ, ◌-◌, ◌^◌, ◌==◌, nat_lt, nat_eq, Bool, true, false, not, ◌&&◌, List, [], ◌∷◌, length, take, if◌then◌else◌}
use Rattle.std.specs.List.{before_first, after_first, ends_with, slice_split}
use Rattle.std.specs.Str.{all_ascii_digits}
use Rattle.std.specs.Str.Parse.{digits_value, without_leading_plus}
use Rattle.std.specs.declared.option.Option.{Option}
use Rattle.std.specs.declared.option.Option.TheVariants.{Some, None}

abbrev pub is_blank : ℕ → Bool
is_blank b = b == 32

abbrev pub is_line_feed : ℕ → Bool
is_line_feed b = b == 10

-- what stands before the first blank, and what stands behind it
abbrev pub first_word : List ℕ → List ℕ
first_word line = before_first is_blank line

abbrev pub rest_of : List ℕ → List ℕ
rest_of line = after_first is_blank line

abbrev pub is_empty : List ℕ → Bool
is_empty [] = true
is_empty (b ∷ bs) = false

-- the words between a line's blanks, none where it is empty, and one word more, where that isn't empty
abbrev pub words_in : List ℕ → List (List ℕ)
words_in line = if is_empty line then [] else slice_split is_blank line

abbrev pub one_more : List ℕ → List (List ℕ)
one_more last = if is_empty last then [] else last ∷ []

-- digits of a number of 64 bits
abbrev pub is_number : List ℕ → Bool
is_number digits = not (is_empty digits) && all_ascii_digits digits && nat_lt (digits_value 10 digits) (2 ^ 64)

-- the number that a word writes, where a plus may stand first, and 0 where it writes none
abbrev pub number_in : List ℕ → ℕ
number_in word = if is_number (without_leading_plus word) then digits_value 10 (without_leading_plus word) else 0

-- what stands before this end of a text, where it has that end
abbrev pub before_end : List ℕ → List ℕ → Option (List ℕ)
before_end end text = if ends_with nat_eq text end then Some (take (length text - length end) text) else None
