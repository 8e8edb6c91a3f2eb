-- Rules by their numbers.
use Rattle.std.proofs.Common.{◌≡◌, ℕ, zero, suc, ◌<◌, List, length, refl, sym, ap, arith}
use Rattle.std.specs.declared.option.Option.TheVariants.{None}
use Rattle.std.proofs.lemmas.Option.{slice_get_past}
use Rattle.tor_terms.specs.Plain.{Tree}
use Rattle.tor_axioms.specs.Rules.{Rule, by_rule, nth_rule}

-- there is no rule of a number past the last
pub none_past : (fs : List Rule) (n : ℕ) (t : Tree) → (0 < n → length fs < n) → None ≡ by_rule (nth_rule fs n) t
none_past fs zero t h = refl
none_past fs (suc n) t h =
    let past : length fs < suc n = h (omega arith) in
    sym (ap (λ o. by_rule o t) (slice_get_past fs n (omega (arith, past))))
