-- Candidates of a smaller size come first among those of a larger one.
use Rattle.std.proofs.Common.{◌≡◌, ℕ, zero, suc, ◌+◌, ◌-◌, ◌≤◌, ◌<◌, List, [], ◌∷◌, ◌++◌, length, take, refl, sym, ap, ◌∙◌, arith, append_assoc, append-nil}
use Rattle.std.specs.Prelude.{slice_get}
use Rattle.std.proofs.lemmas.List.{length-append}
use Rattle.kernel_lang.specs.Plain.{Fragment}
use Rattle.kernel_lang.specs.Pools.{combined_pool}
use Rattle.templates.specs.Numbered.{increasing, candidates, candidates_of}
use Rattle.templates.proofs.Lists.{slice_get-append_left}

take_first : {X : Type 0} (xs ys : List X) → take (length xs) (xs ++ ys) ≡ xs
take_first [] ys = refl
take_first (x ∷ xs) ys = ap (λ zs. x ∷ zs) (take_first xs ys)

-- those that are longer, after those of a smaller size
abbrev further : ℕ → ℕ → ℕ → List (List ℕ)
further pool size zero = []
further pool size (suc more) = further pool size more ++ increasing 0 pool (suc (size + more))

further-after : (pool size more : ℕ) → candidates pool (size + more) ≡ candidates pool size ++ further pool size more
unfolding candidates
further-after pool size zero = let e : size + 0 ≡ size = omega arith in ap (candidates pool) e ∙ sym (append-nil (candidates pool size))
further-after pool size (suc more) =
    let e : size + suc more ≡ suc (size + more) = omega arith in
    ap (candidates pool) e ∙ ap (λ cs. cs ++ increasing 0 pool (suc (size + more))) (further-after pool size more) ∙ append_assoc (candidates pool size) (further pool size more) (increasing 0 pool (suc (size + more)))

all_of : (pool size : ℕ) → size ≤ 8 → candidates pool 8 ≡ candidates pool size ++ further pool size (8 - size)
all_of pool size l = let e : 8 ≡ size + (8 - size) = omega arith in ap (candidates pool) e ∙ further-after pool size (8 - size)

pub shorter-first : (f : Fragment) (size : ℕ) → size ≤ 8 → take (length (candidates_of f size)) (candidates_of f 8) ≡ candidates_of f size
shorter-first f size l =
    let pool = length (combined_pool f) in
    ap (take (length (candidates pool size))) (all_of pool size l) ∙ take_first (candidates pool size) (further pool size (8 - size))

pub shorter-each : (f : Fragment) (size k : ℕ) → size ≤ 8 → k < length (candidates_of f size) → slice_get (candidates_of f 8) k ≡ slice_get (candidates_of f size) k
shorter-each f size k l h =
    let pool = length (combined_pool f) in
    ap (λ cs. slice_get cs k) (all_of pool size l) ∙ slice_get-append_left (candidates pool size) (further pool size (8 - size)) k h

pub shorter-fewer : (f : Fragment) (size : ℕ) → size ≤ 8 → length (candidates_of f size) ≤ length (candidates_of f 8)
shorter-fewer f size l =
    let pool = length (combined_pool f) in
    let e : length (candidates pool 8) ≡ length (candidates pool size) + length (further pool size (8 - size)) = ap length (all_of pool size l) ∙ length-append (candidates pool size) (further pool size (8 - size)) in
    omega arith
