-- Numbers up to a cap, from numbers up to it.
use Rattle.std.proofs.Common.{◌≡◌, ℕ, zero, suc, ◌+◌, ◌*◌, ◌≤◌, ◌<◌, true, false, nat_le, List, [], ◌∷◌, Option, min, refl, sym, ap, ◌∙◌, arith, inl, inr, ⊎_elim, ◌⊎◌}
use Rattle.std.proofs.Math.Nat.{le-mul_of_pos_right, mul_comm}
use Rattle.std.proofs.lemmas.Bool.{cases_lt}
use Rattle.std.proofs.lemmas.Bool.Decides.{nat_tests}
use Rattle.tor_terms.specs.Plain.{Form}
use Rattle.kernel_lang.specs.Paths.{count_guard}
use Rattle.kernel_lang.specs.Validity.{level_conditions, count_levels}

pub capped_sum : (x y : ℕ) → min (min x 4097 + min y 4097) 4097 ≡ min (x + y) 4097
capped_sum x y = omega arith

-- the larger factor passes the cap, and so does the product where the other is no zero
large : (x y : ℕ) → 4097 ≤ x → min (4097 * min y 4097) 4097 ≡ min (x * y) 4097
large x zero h = let e : x * 0 ≡ 0 = omega arith in rw e refl
large x (suc y) h =
    let a : x ≤ x * suc y = le-mul_of_pos_right {m = suc y} x (omega arith) in
    let b : min (x * suc y) 4097 ≡ 4097 = omega arith in
    let c : 1 ≤ min (suc y) 4097 = omega arith in
    rw b (omega arith)

small : (x y : ℕ) → x ≤ 4097 → y ≤ 4097 → min (min x 4097 * min y 4097) 4097 ≡ min (x * y) 4097
small x y h k = let a : min x 4097 ≡ x = omega arith in let b : min y 4097 ≡ y = omega arith in rw (a, b) refl

pub capped_product : (x y : ℕ) → min (min x 4097 * min y 4097) 4097 ≡ min (x * y) 4097
capped_product x y = ⊎_elim (λ (h : 4097 < x). first (omega arith)) (λ (h : x ≤ 4097). go h (cases_lt 4097 y)) (cases_lt 4097 x)
  where
    first : 4097 ≤ x → min (min x 4097 * min y 4097) 4097 ≡ min (x * y) 4097
    first h = let a : min x 4097 ≡ 4097 = omega arith in rw a (large x y h)

    go : x ≤ 4097 → (4097 < y) ⊎ (y ≤ 4097) → min (min x 4097 * min y 4097) 4097 ≡ min (x * y) 4097
    go h (inr k) = small x y h k
    go h (inl k) =
        let a : min y 4097 ≡ 4097 = omega arith in
        let b : 4097 ≤ y = omega arith in
        let c : min (4097 * min x 4097) 4097 ≡ min (y * x) 4097 = large y x b in
        rw (a, mul_comm x y) (let d : min x 4097 * 4097 ≡ 4097 * min x 4097 = mul_comm (min x 4097) 4097 in rw d c)

-- from what is known of the parts

pub product_of : (X Y a b r : ℕ) → a ≡ min X 4097 → b ≡ min Y 4097 → r ≡ min (a * b) 4097 → r ≡ min (X * Y) 4097
product_of X Y a b r e f g = g ∙ rw (e, f) (capped_product X Y)

pub sum_of : (X Y a b r : ℕ) → a ≡ min X 4097 → b ≡ min Y 4097 → r ≡ min (a + b) 4097 → r ≡ min (X + Y) 4097
sum_of X Y a b r e f g = g ∙ rw (e, f) (capped_sum X Y)

pub sum_and_product_of : (X Y Z a b c r : ℕ) → a ≡ min X 4097 → b ≡ min Y 4097 → c ≡ min Z 4097 → r ≡ min (a + min (b * c) 4097) 4097 → r ≡ min (X + Y * Z) 4097
sum_and_product_of X Y Z a b c r e f g h = sum_of X (Y * Z) a (min (b * c) 4097) r e (product_of Y Z b c (min (b * c) 4097) f g refl) h

product_same : (W V x : ℕ) → min W 4097 ≡ min V 4097 → min (W * x) 4097 ≡ min (V * x) 4097
product_same W V x e = sym (capped_product W x) ∙ ap (λ m. min (m * min x 4097) 4097) e ∙ capped_product V x

sum_same : (x y u v : ℕ) → min x 4097 ≡ min u 4097 → min y 4097 ≡ min v 4097 → min (x + y) 4097 ≡ min (u + v) 4097
sum_same x y u v e f = sym (capped_sum x y) ∙ ap (λ m. min (m + min y 4097) 4097) e ∙ ap (λ m. min (min u 4097 + m) 4097) f ∙ capped_sum u v

-- ways count only up to the cap
pub levels_same : (W V : ℕ) (gs : List (Option Form)) → min W 4097 ≡ min V 4097 → min (count_levels W gs) 4097 ≡ min (count_levels V gs) 4097
levels_same W V [] e = refl
levels_same W V (g ∷ gs) e =
    sum_same (W * level_conditions g) (count_levels (W * count_guard g true) gs) (V * level_conditions g) (count_levels (V * count_guard g true) gs)
    (product_same W V (level_conditions g) e)
    (levels_same (W * count_guard g true) (V * count_guard g true) gs (product_same W V (count_guard g true) e))

within : (x : ℕ) → x ≤ 4097 → x ≡ min x 4097
within x h = omega arith

min_twice : (x : ℕ) → min (min x 4097) 4097 ≡ min x 4097
min_twice x = omega arith

-- a level, with `h` and `f` for the paths of its guard, `d` for both, `s` for its conditions, `here` for
-- those of all ways, `v` for the ways through it, and `next` for the levels inside
pub levels_of : (W : ℕ) (g : Option Form) (gs : List (Option Form)) (h f d s here v next r : ℕ) → W ≤ 4097
    → h ≡ min (count_guard g true) 4097 → f ≡ min (count_guard g false) 4097 → d ≡ min (h + f) 4097 → s ≡ min (2 + d) 4097
    → here ≡ min (W * s) 4097 → v ≡ min (W * h) 4097 → next ≡ min (count_levels v gs) 4097 → r ≡ min (here + next) 4097
    → r ≡ min (count_levels W (g ∷ gs)) 4097
levels_of W g gs h f d s here v next r w eh ef ed es ehere ev enext er =
    let d' : d ≡ min (count_guard g true + count_guard g false) 4097 = sum_of (count_guard g true) (count_guard g false) h f d eh ef ed in
    let s' : s ≡ min (level_conditions g) 4097 = sum_of 2 (count_guard g true + count_guard g false) 2 d s refl d' es in
    let here' : here ≡ min (W * level_conditions g) 4097 = product_of W (level_conditions g) W s here (within W w) s' ehere in
    let v' : v ≡ min (W * count_guard g true) 4097 = product_of W (count_guard g true) W h v (within W w) eh ev in
    let vv : min v 4097 ≡ min (W * count_guard g true) 4097 = ap (λ m. min m 4097) v' ∙ min_twice (W * count_guard g true) in
    sum_of (W * level_conditions g) (count_levels (W * count_guard g true) gs) here next r here' (enext ∙ levels_same v (W * count_guard g true) gs vv) er

-- the levels inside the declaration, under the ways through those round it
pub own_of : (X w r : ℕ) (gs : List (Option Form)) → w ≡ min X 4097 → r ≡ min (count_levels w gs) 4097 → r ≡ min (count_levels X gs) 4097
own_of X w r gs e f = f ∙ levels_same w X gs (ap (λ m. min m 4097) e ∙ min_twice X)

pub few : (x r : ℕ) → r ≡ min x 4097 → nat_le r 4096 ≡ nat_le x 4096
few x r e = rw e (grind (arith, nat_tests))
