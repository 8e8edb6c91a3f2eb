-- Numbers of arguments.
use Rattle.std.proofs.Common.{◌≡◌, ℕ, suc, ◌+◌, Option, Some, None, refl, ap, arith}
use Rattle.std.specs.Option.{option_map}

-- a number counted on behind others
abbrev pub raised : ℕ → Option ℕ → Option ℕ
raised n o = option_map (λ k. n + k) o

pub raised_none : (o : Option ℕ) → raised 0 o ≡ o
raised_none None = refl
raised_none (Some k) = let e : 0 + k ≡ k = omega arith in ap (λ (n : ℕ). Some n) e

pub raised_more : (n : ℕ) (o : Option ℕ) → raised n (option_map (λ k. suc k) o) ≡ raised (n + 1) o
raised_more n None = refl
raised_more n (Some k) = let e : n + suc k ≡ (n + 1) + k = omega arith in ap (λ (n : ℕ). Some n) e

pub ruleset numbers = (raised_none, raised_more)
