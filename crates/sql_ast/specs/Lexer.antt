-- The tokens of bytes, read from left to right. The grammar doesn't stand on this: laws say that both
-- give the same.
use Rattle.std.specs.Prelude.{ℕ, zero, suc, ◌-◌, ◌&&◌, if◌then◌else◌, nat_eq, nat_le, List, [], ◌∷◌, take, drop}
use Rattle.std.specs.Char.{is_ascii_digit}
use Rattle.std.specs.List.{prefix_len}
use Rattle.std.specs.declared.option.Option.{Option}
use Rattle.std.specs.declared.option.Option.TheVariants.{Some, None}
use Rattle.sql_ast.specs.declared.tree.Cmp.TheVariants as tests
use Rattle.sql_ast.specs.Names.{◌>>=◌}
use Rattle.qbs_base.specs.Bytes.{is_white, is_name_start, is_name_part}
use Rattle.sql_ast.specs.Tokens.{Token, Word, Digits, Negative, Quoted, Param, Test, Open, Close, Comma, Dot, Star}

-- a byte before what was read
abbrev pub onto : ℕ → Option (List ℕ × List ℕ) → Option (List ℕ × List ℕ)
onto b read = read >>= λ x. Some (b ∷ x.0, x.1)

-- a text after its opening quote
abbrev pub quoted_at : List ℕ → Option (List ℕ × List ℕ)
quoted_at [] = None
quoted_at (b ∷ []) = if nat_eq b 39 then Some ([], []) else None
quoted_at (b ∷ c ∷ bs) = if nat_eq b 39 then (if nat_eq c 39 then onto 39 (quoted_at bs) else Some ([], c ∷ bs)) else onto b (quoted_at (c ∷ bs))

abbrev pub word_at : ℕ → List ℕ → Option (Token × List ℕ)
word_at b bs = Some (Word (b ∷ take (prefix_len is_name_part bs) bs), drop (prefix_len is_name_part bs) bs)

abbrev pub digits_at : ℕ → List ℕ → Option (Token × List ℕ)
digits_at b bs = Some (Digits (b ∷ take (prefix_len is_ascii_digit bs) bs), drop (prefix_len is_ascii_digit bs) bs)

-- digits after a minus
abbrev pub negative_at : List ℕ → Option (Token × List ℕ)
negative_at [] = None
negative_at (b ∷ bs) = if is_ascii_digit b then Some (Negative (b ∷ take (prefix_len is_ascii_digit bs) bs), drop (prefix_len is_ascii_digit bs) bs) else None

-- a digit from 1 to 9 after a question mark
abbrev pub param_at : List ℕ → Option (Token × List ℕ)
param_at [] = None
param_at (b ∷ bs) = if nat_le 49 b && nat_le b 57 then Some (Param (b - 48), bs) else None

abbrev pub after_less : List ℕ → Token × List ℕ
after_less [] = (Test tests.Lt, [])
after_less (b ∷ bs) = if nat_eq b 61 then (Test tests.Le, bs) else (if nat_eq b 62 then (Test tests.Ne, bs) else (Test tests.Lt, b ∷ bs))

abbrev pub after_greater : List ℕ → Token × List ℕ
after_greater [] = (Test tests.Gt, [])
after_greater (b ∷ bs) = if nat_eq b 61 then (Test tests.Ge, bs) else (Test tests.Gt, b ∷ bs)

-- `!=`
abbrev pub after_mark : List ℕ → Option (Token × List ℕ)
after_mark [] = None
after_mark (b ∷ bs) = if nat_eq b 61 then Some (Test tests.Ne, bs) else None

abbrev pub sign_at : ℕ → List ℕ → Option (Token × List ℕ)
sign_at b bs =
    if nat_eq b 61
    then Some (Test tests.Eq, bs)
    else (if nat_eq b 60
    then Some (after_less bs)
    else (if nat_eq b 62
    then Some (after_greater bs)
    else (if nat_eq b 33
    then after_mark bs
    else (if nat_eq b 40
    then Some (Open, bs)
    else (if nat_eq b 41
    then Some (Close, bs)
    else (if nat_eq b 44
    then Some (Comma, bs)
    else (if nat_eq b 46 then Some (Dot, bs) else (if nat_eq b 42 then Some (Star, bs) else None))))))))

-- the token that begins with this byte, and what follows it
abbrev pub token_at : ℕ → List ℕ → Option (Token × List ℕ)
token_at b bs =
    if is_name_start b
    then word_at b bs
    else (if is_ascii_digit b
    then digits_at b bs
    else (if nat_eq b 45
    then negative_at bs
    else (if nat_eq b 39
    then (quoted_at bs >>= λ x. Some (Quoted x.0, x.1))
    else (if nat_eq b 63 then param_at bs else sign_at b bs))))

-- the tokens of all bytes; each token or white space takes a byte at least
unfoldable pub tokens_in : ℕ → List ℕ → Option (List Token)
tokens_in n [] = Some []
tokens_in zero (b ∷ bs) = None
tokens_in (suc n) (b ∷ bs) = if is_white b then tokens_in n bs else (token_at b bs >>= λ x. tokens_in n x.1 >>= λ ts. Some (x.0 ∷ ts))
