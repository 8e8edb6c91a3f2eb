-- Tests: how negation, conjunction, disjunction and choices go together.
use Rattle.std.proofs.Common.{◌≡◌, Bool, true, false, not, ◌&&◌, ◌||◌, cond, refl, sym, ap}
use Rattle.tor_terms.specs.Truth.{same_bool}

pub same_true : (b : Bool) → same_bool b true ≡ b
same_true true = refl
same_true false = refl

pub same_false : (b : Bool) → same_bool b false ≡ not b
same_false true = refl
same_false false = refl

pub same_twice : (p t s : Bool) → same_bool t (same_bool p s) ≡ same_bool p (same_bool t s)
same_twice true true s = refl
same_twice true false s = refl
same_twice false true s = refl
same_twice false false true = refl
same_twice false false false = refl

pub same_not : (p b : Bool) → same_bool (not p) b ≡ same_bool p (not b)
same_not true b = refl
same_not false true = refl
same_not false false = refl

pub not_and : (b c : Bool) → (not b || not c) ≡ not (b && c)
not_and true c = refl
not_and false c = refl

pub not_or : (b c : Bool) → (not b && not c) ≡ not (b || c)
not_or true c = refl
not_or false c = refl

pub or_implied : (b c : Bool) → (b ≡ true → c ≡ true) → (b || c) ≡ c
or_implied true c h = sym (h refl)
or_implied false c h = refl

pub and_true : (b c : Bool) → c ≡ true → (b && c) ≡ b
and_true true c h = h
and_true false c h = refl

pub both_are : (b c : Bool) → (b && c) ≡ true → (b ≡ true) × (c ≡ true)
both_are true c e = (refl, e)
both_are false c e = absurd cc

pub and_first : (a b c : Bool) → (a && (b && c)) ≡ ((a && b) && c)
and_first true b c = refl
and_first false b c = refl

pub one_more : (a b t : Bool) → ((a && t) && b) ≡ ((a && b) && t)
one_more true true true = refl
one_more true true false = refl
one_more true false true = refl
one_more true false false = refl
one_more false b t = refl

pub not_not : (b : Bool) → not (not b) ≡ b
not_not true = refl
not_not false = refl

pub cond_off : {A : Type 0} (b : Bool) (x y : A) → b ≡ false → cond b x y ≡ y
cond_off b x y e = ap (λ p. cond p x y) e

pub cond_on : {A : Type 0} (b : Bool) (x y : A) → b ≡ true → cond b x y ≡ x
cond_on b x y e = ap (λ p. cond p x y) e

pub both_false : (a b : Bool) → (a || b) ≡ false → (a ≡ false) × (b ≡ false)
both_false true b e = absurd cc
both_false false b e = (refl, e)

pub or_left : (a b : Bool) → a ≡ true → (a || b) ≡ true
or_left true b e = refl
or_left false b e = absurd cc

pub or_right : (a b : Bool) → b ≡ true → (a || b) ≡ true
or_right true b e = refl
or_right false b e = e
