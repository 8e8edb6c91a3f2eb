-- How large the combined pool of a valid fragment is.
use Rattle.std.proofs.Common.{◌≡◌, ℕ, ◌*◌, ◌≤◌, Bool, true, false, ◌&&◌, List, [], ◌∷◌, length, None, nat_le, refl, arith}
use Rattle.std.specs.List.{list_all}
use Rattle.std.proofs.lemmas.List.{length-append}
use Rattle.std.proofs.lemmas.Bool.Decides.{nat_tests}
use Rattle.kernel_lang.specs.Plain.{Accumulator, Fragment}
use Rattle.kernel_lang.specs.Pools.{pooled, combined_pool}
use Rattle.kernel_lang.specs.Sentences.{IsValid}
use Rattle.kernel_lang.specs.Validity.{broken, is_small, pool_is_small}
use Rattle.kernel_lang.proofs.Sentences.{valid}

left_true : (a b : Bool) → (a && b) ≡ true → a ≡ true
left_true true b e = refl
left_true false b e = cc

right_true : (a b : Bool) → (a && b) ≡ true → b ≡ true
right_true true b e = e
right_true false b e = cc

le_from : (m n : ℕ) → nat_le m n ≡ true → m ≤ n
le_from m n e = grind (arith, nat_tests)

pools_small : (accs : List Accumulator) → list_all pool_is_small accs ≡ true → length (pooled accs) ≤ 16 * length accs
pools_small [] e = omega arith
pools_small (a ∷ rest) e =
    let own : length a.pool ≤ 16 = le_from (length a.pool) 16 (left_true (pool_is_small a) (list_all pool_is_small rest) e) in
    let others : length (pooled rest) ≤ 16 * length rest = pools_small rest (right_true (pool_is_small a) (list_all pool_is_small rest) e) in
    rw (length-append a.pool (pooled rest)) (omega arith)

small_parts : (a b c d e : Bool) → (a && b && c && d && e) ≡ true → (b ≡ true) × (e ≡ true)
small_parts true true true true true h = (refl, refl)
small_parts false b c d e h = absurd cc
small_parts true false c d e h = absurd cc
small_parts true true false d e h = absurd cc
small_parts true true true false e h = absurd cc
small_parts true true true true false h = absurd cc

pub combined_small : (f : Fragment) → broken f ≡ None → length (combined_pool f) ≤ 128
unfolding is_small
combined_small f e =
    let v : IsValid f = valid f e in
    let p = small_parts (nat_le (length f.lists) 256) (nat_le (length f.accs) 8) (nat_le (length f.atoms) 24) (nat_le (length f.entries) 9) (list_all pool_is_small f.accs) v.size in
    let n : length f.accs ≤ 8 = le_from (length f.accs) 8 p.0 in
    omega (arith, pools_small f.accs p.1)
