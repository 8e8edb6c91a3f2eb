-- Numbers of loops, as the code finds them.
use Rattle.std.proofs.Common.{◌≡◌, ℕ, suc, cond, List, [], ◌∷◌, ◌++◌, length, refl, ap, ◌∙◌, nat_eq}
use Rattle.sql_parts.specs.Reading.{scope_by, number_or}
use Rattle.sql_parts.specs.Scopes.{numbered, number_in}

or_in : (n : ℕ) (js : List ℕ) (j : ℕ) (others : List (ℕ × ℕ)) → number_or n js j (number_in others j) ≡ number_in (numbered n js ++ others) j
or_in n [] j others = refl
or_in n (k ∷ js) j others = ap (λ m. cond (nat_eq k j) (suc n) m) (or_in (suc n) js j others)

or_none : (n : ℕ) (js : List ℕ) (j : ℕ) → number_or n js j 0 ≡ number_in (numbered n js) j
or_none n [] j = refl
or_none n (k ∷ js) j = ap (λ m. cond (nat_eq k j) (suc n) m) (or_none (suc n) js j)

pub number_is : (own outer : List ℕ) (j : ℕ) → number_or (length outer) own j (number_or 0 outer j 0) ≡ number_in (scope_by own outer).loops j
number_is own [] j = or_none 0 own j
number_is own (k ∷ outer) j = ap (λ m. number_or (length (k ∷ outer)) own j m) (or_none 0 (k ∷ outer) j) ∙ or_in (length (k ∷ outer)) own j (numbered 0 (k ∷ outer))
