-- The tokens of the code as plain ones, and what its functions give.
use Rattle.std.specs.Prelude.{◌≡◌, ◌^◌, ℕ, List, [], ◌∷◌, map, nat_lt, if◌then◌else◌, Result, Ok, Err}
use Rattle.std.specs.Str.Parse.{digits_value}
use Rattle.std.specs.declared.option.Option.{Option}
use Rattle.std.specs.declared.option.Option.TheVariants.{Some, None}
use Rattle.sql_ast.specs.Tokens as plain
use Rattle.sql_parse.specs.declared.fault.Stop.{Stop}
use Rattle.sql_parse.specs.declared.fault.Stop.TheVariants as errors
use Rattle.sql_parse.specs.declared.token.Token.{Token}
use Rattle.sql_parse.specs.declared.token.Token.TheVariants as tokens

abbrev pub token_of : Token → plain.Token
token_of (tokens.Word name) = plain.Word name
token_of (tokens.Digits digits) = plain.Digits digits
token_of (tokens.Negative digits) = plain.Negative digits
token_of (tokens.Quoted text) = plain.Quoted text
token_of (tokens.Param n) = plain.Param n
token_of (tokens.Test cmp) = plain.Test cmp
token_of tokens.Open = plain.Open
token_of tokens.Close = plain.Close
token_of tokens.Comma = plain.Comma
token_of tokens.Dot = plain.Dot
token_of tokens.Star = plain.Star

abbrev pub tokens_of : List Token → List plain.Token
tokens_of ts = map token_of ts

-- what a function returned, seen by view, is what reading gives, unless memory ran out
abbrev pub Fails : {Y : Type 0} → Stop → Option Y → Type 0
Fails errors.NoMemory read = Unit {0}
Fails errors.Broken read = read ≡ None

abbrev pub Gives : {X Y : Type 0} → (X → Y) → Result X Stop → Option Y → Type 0
Gives view (Ok x) read = read ≡ Some (view x)
Gives view (Err e) read = Fails e read

-- the first byte and the rest, where the first byte is ASCII
abbrev pub ascii_front : List ℕ → Option (ℕ × List ℕ)
ascii_front [] = None
ascii_front (b ∷ bs) = if nat_lt b 128 then Some (b, bs) else None

-- the number that digits write, below 2^64
abbrev pub number_below : List ℕ → Option ℕ
number_below digits = if nat_lt (digits_value 10 digits) (2 ^ 64) then Some (digits_value 10 digits) else None
