-- The place of tokens that are read is that of the tokens without their marks.
use Rattle.std.proofs.Common.{◌≡◌, ℕ, zero, suc, ◌-◌, List, [], ◌∷◌, length, take, refl, ap}
use Rattle.java_lex.specs.declared.token.Token.{Token}
use Rattle.java_grammar.specs.Marks.{all_strict, tokens_of, between, extent}
use Rattle.java_grammar.specs.Reading.{consumed}

taken : (n : ℕ) (ts : List Token) → tokens_of (take n (all_strict ts)) ≡ take n ts
taken zero [] = refl
taken zero (t ∷ ts) = refl
taken (suc n) [] = refl
taken (suc n) (t ∷ ts) = ap (λ (us : List Token). t ∷ us) (taken n ts)

strict_length : (ts : List Token) → length (all_strict ts) ≡ length ts
strict_length [] = refl
strict_length (t ∷ ts) = ap suc (strict_length ts)

pub extent_read : (ts rest : List Token) → extent (consumed (all_strict ts) (all_strict rest)) ≡ between (take (length ts - length rest) ts)
extent_read ts rest = rw (strict_length ts, strict_length rest) (ap between (taken (length ts - length rest) ts))

pub ruleset extents = (extent_read)
