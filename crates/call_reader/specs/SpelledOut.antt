-- Tokens in which calls of a class's own methods are spelled out. A call is the whole value of a declaration or an assignment,
-- `= f ( .. ) ;`, and in its place stands the number query that a program keeps it as, `= db . queryLong ( "f" , .. ) ;`.
use Rattle.std.specs.Prelude.{ℕ, zero, suc, ◌-◌, List, [], ◌∷◌, ◌++◌, length, Bool, true, false, ◌&&◌, ◌||◌, is_some, nat_lt, Option, Some, None, codes, if◌then◌else◌}
use Rattle.qbs_base.specs.declared.span.Span.{Span}
use Rattle.java_lex.specs.declared.token.Token.{Token}
use Rattle.java_lex.specs.declared.token.TokenNode.{TokenNode}
use Rattle.java_lex.specs.declared.token.TokenNode.TheVariants.{Word, Text, Sign}
use Rattle.java_grammar.specs.Reading.{is_sign}
use Rattle.java_grammar.specs.Words.{variable_in}

-- what a token stands behind
pub data Spot : Type 0 where
  -- `=`
  BehindEquals : Spot
  -- the name of a call, whose parenthesis it is
  BehindName : List ℕ → Spot
  -- a part of a call, in whose parentheses so many more are open
  InCall : ℕ → Spot
  -- the parenthesis that ends a call
  BehindCall : Spot
  Elsewhere : Spot

abbrev pub begins_with : List ℕ → List Token → Bool
begins_with text [] = false
begins_with text (t ∷ ts) = is_sign text t.node

abbrev pub if_opened : Bool → TokenNode → Option (List ℕ)
if_opened true node = variable_in node
if_opened false node = None

-- the name of the call that begins with this token: behind `=` and before a parenthesis, a name that an expression may have
abbrev pub called : Spot → TokenNode → List Token → Option (List ℕ)
called BehindEquals node rest = if_opened (begins_with (codes "(") rest) node
called _ node rest = None

-- ---- where the next token stands

abbrev pub behind_other : TokenNode → Spot
behind_other node = if is_sign (codes "=") node then BehindEquals else Elsewhere

abbrev pub behind_name : Option (List ℕ) → TokenNode → Spot
behind_name (Some name) node = BehindName name
behind_name None node = behind_other node

abbrev pub behind_closing : ℕ → Spot
behind_closing zero = BehindCall
behind_closing (suc more) = InCall more

abbrev pub behind_part : ℕ → TokenNode → Spot
behind_part more node = if is_sign (codes "(") node then InCall (suc more) else (if is_sign (codes ")") node then behind_closing more else InCall more)

-- behind this token, which stands here
abbrev pub behind : Spot → TokenNode → List Token → Spot
behind (BehindName name) node rest = InCall 0
behind (InCall more) node rest = behind_part more node
behind spot node rest = behind_name (called spot node rest) node

-- ---- what stands in its place

abbrev pub token_at : Span → TokenNode → Token
token_at at node = record { span = at; node = node }

-- a comma, unless there are no arguments
abbrev pub comma_unless : Bool → Span → List Token
comma_unless true at = []
comma_unless false at = token_at at (Sign (codes ",")) ∷ []

-- Nothing but `;` may follow a call. A brace goes on no value.
abbrev pub ending : Token → List Token
ending t = if is_sign (codes ";") t.node then t ∷ [] else token_at t.span (Sign (codes "{")) ∷ []

-- db . queryLong
abbrev pub query_at : Span → List Token
query_at at = token_at at (Word (codes "db")) ∷ token_at at (Sign (codes ".")) ∷ token_at at (Word (codes "queryLong")) ∷ []

-- ( "f" , where t is the parenthesis
abbrev pub opened : List ℕ → Token → List Token → List Token
opened name t rest = t ∷ token_at t.span (Text name) ∷ comma_unless (begins_with (codes ")") rest) t.span

abbrev pub query_or_token : Option (List ℕ) → Token → List Token
query_or_token (Some name) t = query_at t.span
query_or_token None t = t ∷ []

-- the tokens in place of this one, which stands here; each has its place
abbrev pub in_place : Spot → Token → List Token → List Token
in_place (BehindName name) t rest = opened name t rest
in_place (InCall more) t rest = t ∷ []
in_place BehindCall t rest = ending t
in_place spot t rest = query_or_token (called spot t.node rest) t

abbrev pub spelled_from : Spot → List Token → List Token
spelled_from spot [] = []
spelled_from spot (t ∷ ts) = in_place spot t ts ++ spelled_from (behind spot t.node ts) ts

abbrev pub spelled_out : List Token → List Token
spelled_out ts = spelled_from Elsewhere ts

-- ---- tokens without calls

abbrev pub begins_call : List Token → Bool
begins_call [] = false
begins_call (t ∷ ts) = is_some (if_opened (begins_with (codes "(") ts) t.node)

-- somewhere a name stands between `=` and a parenthesis
abbrev pub has_call : List Token → Bool
has_call [] = false
has_call (t ∷ ts) = (is_sign (codes "=") t.node && begins_call ts) || has_call ts

-- ---- numbers of tokens

abbrev pub number_from : Spot → List Token → ℕ → ℕ
number_from spot [] n = 0
number_from spot (t ∷ ts) n =
    if nat_lt n (length (in_place spot t ts)) then 0
    else suc (number_from (behind spot t.node ts) ts (n - length (in_place spot t ts)))

-- the number of the token in whose place the one with this number stands among those that are spelled out
abbrev pub number_of : List Token → ℕ → ℕ
number_of ts n = number_from Elsewhere ts n
