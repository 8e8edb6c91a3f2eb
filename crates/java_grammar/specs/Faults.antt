-- Where tokens stop being those of a rule, and which of the two faults is kept. Tokens are numbered from 0.
use Rattle.std.specs.Prelude.{◌≡◌, ℕ, List, [], ◌∷◌, ◌++◌, length}
use Rattle.java_lex.specs.declared.token.Token.{Token}
use Rattle.java_grammar.specs.Marks.{Tok, strictly, freely, all_strict}
use Rattle.java_grammar.specs.Rules.{Rule}

-- Something of the rule begins with these tokens. The tokens that it goes on with may be such that the limits do not hold
-- at them.
abbrev pub Begins : {A : Type 0} → Rule A → List Tok → Type 0
Begins G us = (more : List Tok) × (x : _) × G (us ++ more) x

-- Something begins with the first n tokens, none of them too deep, and nothing goes on with the next one, its depth left
-- aside; or there is no next one, and the tokens are not all of something.
pub record IsUnexpected {A : Type 0} (G : Rule A) (ts : List Token) (n : ℕ) : Type 0 where
  pub front : List Token
  pub rest : List Token
  pub parts : ts ≡ front ++ rest
  pub number : length front ≡ n
  pub begins : Begins G (all_strict front)
  pub none_goes_on : (t : Token) (us : List Token) → rest ≡ t ∷ us → Begins G (all_strict front ++ freely t ∷ []) → ⊥
  pub is_none : (x : A) → G (all_strict ts) x → ⊥

-- Something begins with the first n tokens, none of them too deep, and goes on with the next one if its depth is left
-- aside, and not if the limits hold at it: at that token more is open than may be, or a chain is too long.
pub record IsTooDeep {A : Type 0} (G : Rule A) (ts : List Token) (n : ℕ) : Type 0 where
  pub front : List Token
  pub token : Token
  pub rest : List Token
  pub parts : ts ≡ front ++ token ∷ rest
  pub number : length front ≡ n
  pub begins : Begins G (all_strict front ++ freely token ∷ [])
  pub none_goes_on : Begins G (all_strict front ++ strictly token ∷ []) → ⊥
