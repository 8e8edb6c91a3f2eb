-- Kinds of bytes of a Java file.
use Rattle.std.specs.Prelude.{ℕ, Bool, ◌||◌, ◌&&◌, ◌==◌, nat_le, if◌then◌else◌}
use Rattle.qbs_base.specs.Bytes.{line_feed, carriage_return, is_white, is_name_start, is_name_part, is_digit}

-- space, tab, carriage return, line feed or form feed
abbrev pub is_space : ℕ → Bool
is_space b = is_white b || (b == 12)

-- what ends a line
abbrev pub ends_line : ℕ → Bool
ends_line b = (b == line_feed) || (b == carriage_return)

-- a letter, `_`, `$` or a byte past ASCII
abbrev pub begins_name : ℕ → Bool
begins_name b = is_name_start b || (b == 36) || nat_le 128 b

abbrev pub is_in_name : ℕ → Bool
is_in_name b = begins_name b || is_digit b

-- a letter, a digit, `_` or a dot
abbrev pub is_in_number : ℕ → Bool
is_in_number b = is_name_part b || (b == 46)

-- `+` or `-`
abbrev pub is_plus_or_minus : ℕ → Bool
is_plus_or_minus b = (b == 43) || (b == 45)

-- what an exponent begins with: `p` in a hexadecimal number, else `e`
abbrev pub begins_exponent : Bool → ℕ → Bool
begins_exponent hexadecimal b = if hexadecimal then (b == 112) || (b == 80) else (b == 101) || (b == 69)

-- what Java passes over in names, or is no character of a program
abbrev pub is_control : ℕ → Bool
is_control b = nat_le b 8 || (nat_le 14 b && nat_le b 27) || (b == 127)
