-- Pools that grow as long as they are small.
use Rattle.std.proofs.Common.{◌≡◌, ℕ, ◌+◌, ◌<◌, ◌≤◌, Bool, true, false, not, ◌&&◌, ◌||◌, List, [], ◌∷◌, ◌++◌, length, nat_eq, nat_le, refl, sym, ap, ◌∙◌, subst, cond, arith, append_assoc}
use Rattle.std.specs.List.{filter, flat_map, list_any}
use Rattle.std.proofs.lemmas.Bool.Decides.{nat_tests}
use Rattle.std.proofs.lemmas.List.{map-append, length-append, length-map}
use Rattle.tor_terms.specs.Plain.{Form, Is, Both, Either}
use Rattle.tor_terms.specs.Same.{entered, same_form, same_flag}
use Rattle.kernel_lang.specs.Pools.{all_entered, negated, conjuncts}
use Rattle.kernel_lang.proofs.Entering.{both_entered}
use Rattle.lowering.specs.InCode.Capped.{IsCapped, whole, many, all_in}

pub ruleset capped = (map-append, append_assoc, length-map)

-- ---- Pools grow

entered_more : (b : Bool) (pool : List Form) (f : Form) → length pool ≤ length (cond b pool (pool ++ f ∷ []))
entered_more true pool f = omega arith
entered_more false pool f = rw (length-append pool (f ∷ [])) (omega arith)

both_more : (a b c d : ℕ) → a ≤ b → b ≤ c → c ≤ d → a ≤ d
both_more a b c d h k l = omega arith

pub all_more : (pool fs : List Form) → length pool ≤ length (all_entered pool fs)
all_more pool [] = omega arith
all_more pool (f ∷ fs) =
    both_more _ _ _ _
    (entered_more (list_any (same_form f) pool) pool f)
    (entered_more (list_any (same_form (negated f)) (entered pool f)) (entered pool f) (negated f))
    (all_more (entered (entered pool f) (negated f)) fs)

-- ---- A formula and its opposite

opposite_flag : (s : Bool) → same_flag (not s) s ≡ false
opposite_flag true = refl
opposite_flag false = refl

and_false : (b : Bool) → (b && false) ≡ false
and_false true = refl
and_false false = refl

opposite : (f : Form) → same_form (negated f) f ≡ false
opposite (Is k s) = ap (λ b. nat_eq k k && b) (opposite_flag s) ∙ and_false (nat_eq k k)
opposite (Both f g) = refl
opposite (Either f g) = refl

pair_of : (b : Bool) (f : Form) → b ≡ false → cond (b || false) (f ∷ []) (f ∷ negated f ∷ []) ≡ f ∷ negated f ∷ []
pair_of true f e = absurd cc
pair_of false f e = refl

pair_where : (b : Bool) (pool : List Form) (f : Form) → all_in pool (all_entered [] (cond b (f ∷ []) [])) ≡ all_entered pool (cond b (f ∷ []) [])
pair_where true pool f = ap (all_in pool) (pair_of (same_form (negated f) f) f (opposite f))
pair_where false pool f = refl

-- what enters a pool with one conjunct
pub conjunct_in : (may : Form → Bool) (pool own new : List Form) (f : Form) → conjuncts f ≡ f ∷ [] → own ≡ all_entered [] (filter may (f ∷ [])) → new ≡ all_in pool own → IsCapped new (all_entered pool (filter may (conjuncts f)))
conjunct_in may pool own new f one is entered_so =
    let e : new ≡ all_entered pool (filter may (conjuncts f)) =
    entered_so
    ∙ ap (all_in pool) is
    ∙ pair_where (may f) pool f
    ∙ ap (λ fs. all_entered pool (filter may fs)) (sym one) in
    subst (λ z. IsCapped new z) e (whole new)

-- ---- Pools that stand for others

pub more_capped : (pool fs : List Form) → 16 < length pool → IsCapped pool (all_entered pool fs)
more_capped pool fs h = let l : length pool ≤ length (all_entered pool fs) = all_more pool fs in many pool (all_entered pool fs) h (omega arith)

all_capped : (p q fs : List Form) → IsCapped p q → IsCapped (all_entered p fs) (all_entered q fs)
all_capped p _ fs (whole _) = whole (all_entered p fs)
all_capped p q fs (many _ _ h k) =
    let l : length p ≤ length (all_entered p fs) = all_more p fs in
    let m : length q ≤ length (all_entered q fs) = all_more q fs in
    many (all_entered p fs) (all_entered q fs) (omega arith) (omega arith)

then_capped : (p q r : List Form) → IsCapped p q → IsCapped q r → IsCapped p r
then_capped p _ r (whole _) k = k
then_capped p q _ (many _ _ h k) (whole _) = many p q h k
then_capped p q r (many _ _ h _) (many _ _ _ k) = many p r h k

-- two formulas, one behind the other
pub both_capped : (may : Form → Bool) (pool first second : List Form) (f g : Form) → IsCapped first (all_entered pool (filter may (conjuncts f))) → IsCapped second (all_entered first (filter may (conjuncts g))) → IsCapped second (all_entered pool (filter may (conjuncts (Both f g))))
both_capped may pool first second f g a b =
    subst (λ z. IsCapped second z) (sym (both_entered may pool (conjuncts f) (conjuncts g)))
    (then_capped second (all_entered first (filter may (conjuncts g))) (all_entered (all_entered pool (filter may (conjuncts f))) (filter may (conjuncts g))) b (all_capped first (all_entered pool (filter may (conjuncts f))) (filter may (conjuncts g)) a))

-- one condition more
pub next_capped : (may : Form → Bool) (pool next : List Form) (f : Form) (rest all end : List Form) → all ≡ f ∷ rest → IsCapped next (all_entered pool (filter may (conjuncts f))) → IsCapped (all_entered pool (filter may (flat_map conjuncts all))) end → IsCapped (all_entered next (filter may (flat_map conjuncts rest))) end
next_capped may pool next f rest all end is a h =
    let e : all_entered pool (filter may (flat_map conjuncts all)) ≡ all_entered (all_entered pool (filter may (conjuncts f))) (filter may (flat_map conjuncts rest)) =
    ap (λ fs. all_entered pool (filter may (flat_map conjuncts fs))) is
    ∙ both_entered may pool (conjuncts f) (flat_map conjuncts rest) in
    then_capped (all_entered next (filter may (flat_map conjuncts rest))) (all_entered (all_entered pool (filter may (conjuncts f))) (filter may (flat_map conjuncts rest))) end
    (all_capped next (all_entered pool (filter may (conjuncts f))) (filter may (flat_map conjuncts rest)) a)
    (subst (λ z. IsCapped z end) e h)

too_many : (n : ℕ) → 16 < n → nat_le n 16 ≡ false
too_many n h = grind (arith, nat_tests)

-- both are small, or none
pub both_small : (p q : List Form) → IsCapped p q → nat_le (length p) 16 ≡ nat_le (length q) 16
both_small p _ (whole _) = refl
both_small p q (many _ _ h k) = too_many (length p) h ∙ sym (too_many (length q) k)
