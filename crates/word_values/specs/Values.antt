-- Values in words.
use Rattle.std.specs.Prelude.{ℕ, nat_le, List, ◌&&◌, if◌then◌else◌, length, take, drop}
use Rattle.std.specs.Fmt.{decimal}
use Rattle.std.specs.Str.{bytes_eq}
use Rattle.std.specs.Str.Parse.{digits_value}
use Rattle.std.specs.declared.option.Option.{Option}
use Rattle.std.specs.declared.option.Option.TheVariants.{Some, None}

-- what stands behind a prefix
abbrev pub behind : List ℕ → List ℕ → Option (List ℕ)
behind prefix w = if bytes_eq (take (length prefix) w) prefix then Some (drop (length prefix) w) else None

-- the number that a word is the decimal digits of, within a range
abbrev pub within : ℕ → ℕ → ℕ → List ℕ → Option ℕ
within n low high w = if nat_le low n && nat_le n high && bytes_eq w (decimal n) then Some n else None

abbrev pub number_within : ℕ → ℕ → List ℕ → Option ℕ
number_within low high w = within (digits_value 10 w) low high w
