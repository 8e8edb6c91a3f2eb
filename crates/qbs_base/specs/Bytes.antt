-- Kinds of bytes that several languages have in common.
use Rattle.std.specs.Prelude.{ℕ, Bool, ◌||◌, ◌&&◌, ◌==◌, nat_le}

abbrev pub line_feed : ℕ
line_feed = 10

abbrev pub carriage_return : ℕ
carriage_return = 13

abbrev pub tab : ℕ
tab = 9

-- white space: space, tab, carriage return, line feed
abbrev pub is_white : ℕ → Bool
is_white b = (b == 32) || (b == tab) || (b == carriage_return) || (b == line_feed)

abbrev pub is_digit : ℕ → Bool
is_digit b = nat_le 48 b && nat_le b 57

-- A to Z, a to z, and the underscore
abbrev pub is_name_start : ℕ → Bool
is_name_start b = (nat_le 65 b && nat_le b 90) || (nat_le 97 b && nat_le b 122) || (b == 95)

abbrev pub is_name_part : ℕ → Bool
is_name_part b = is_name_start b || is_digit b
