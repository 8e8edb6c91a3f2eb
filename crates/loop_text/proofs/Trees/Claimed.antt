-- Conjuncts that are found one behind the other.
use Rattle.std.specs.Prelude.{ℕ, List, [], ◌∷◌, ◌++◌}
use Rattle.std.specs.List.{filter}
use Rattle.std.proofs.Common.{◌≡◌, refl, ap, ◌∙◌, append_assoc}
use Rattle.std.proofs.lemmas.List.{map-append}
use Rattle.std.proofs.lemmas.List.Elements.{filter-append}
use Rattle.loop_text.specs.Kernel.KernelForms.{Claim, Found, found_at, mentions}

pub found_both : (n : ℕ) (xs ys : List Claim) → found_at n (xs ++ ys) ≡ found_at n xs ++ found_at n ys
found_both n [] ys = refl
found_both n (x ∷ xs) ys = ap (λ (fs : List Found). record { number = n; claim = x } ∷ fs) (found_both n xs ys)

pub mentioned_both : (m : List ℕ) (n : ℕ) (xs ys : List Claim) → found_at n (filter (mentions m) (xs ++ ys)) ≡ found_at n (filter (mentions m) xs) ++ found_at n (filter (mentions m) ys)
mentioned_both m n xs ys = ap (found_at n) (filter-append (mentions m) xs ys) ∙ found_both n (filter (mentions m) xs) (filter (mentions m) ys)

pub ruleset claimed = (mentioned_both, map-append, append_assoc)

pub ruleset lent = (map-append, append_assoc)
