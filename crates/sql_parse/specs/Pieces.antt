-- What stands at the front of a text: white space or a token.
use Rattle.std.specs.Prelude.{ℕ, nat_eq, if◌then◌else◌, List, [], ◌∷◌}
use Rattle.std.specs.declared.option.Option.{Option}
use Rattle.std.specs.declared.option.Option.TheVariants.{Some, None}
use Rattle.sql_ast.specs.Lexer.{quoted_at, negative_at, param_at, sign_at, token_at}
use Rattle.sql_ast.specs.Names.{◌>>=◌}
use Rattle.qbs_base.specs.Bytes.{is_white}
use Rattle.sql_ast.specs.Tokens.{Token, Quoted}

-- what is no word and no number without a sign, behind its first byte
abbrev pub other_at : ℕ → List ℕ → Option (Token × List ℕ)
other_at b bs =
    if nat_eq b 45
    then negative_at bs
    else (if nat_eq b 39 then (quoted_at bs >>= λ x. Some (Quoted x.0, x.1)) else (if nat_eq b 63 then param_at bs else sign_at b bs))

-- white space, which is no token, or a token
unfoldable pub piece_at : ℕ → List ℕ → Option (Option Token × List ℕ)
piece_at b bs = if is_white b then Some (None, bs) else (token_at b bs >>= λ x. Some (Some x.0, x.1))

abbrev pub kept : Option Token → List Token
kept None = []
kept (Some token) = token ∷ []

-- what stands behind a quote
abbrev pub quote_behind : List ℕ → Option (List ℕ)
quote_behind [] = None
quote_behind (b ∷ bs) = if nat_eq b 39 then Some bs else None

-- the tokens, where nothing is left of the text
abbrev pub all_read : List Token → List ℕ → Option (List Token)
all_read ts [] = Some ts
all_read ts (b ∷ bs) = None
