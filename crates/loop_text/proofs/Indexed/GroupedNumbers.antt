-- Numbers that are put behind those under a number.
use Rattle.std.specs.Map.{lookup}
use Rattle.std.specs.Prelude.{if◌then◌else◌}
use Rattle.std.proofs.Common.{◌≡◌, ℕ, Bool, true, false, List, [], ◌∷◌, ◌++◌, Option, Some, nat_eq, refl, sym, ap, ◌∙◌, cond, eqb-true, eq-eqb}
use Rattle.indexmap.specs.IndexMap.{insert_entry}
use Rattle.loop_text.specs.Sites.Groups.{under_number, put_under_number, or_none, AddsUnderNumber}

abbrev pub Lists : Type 0
Lists = List (ℕ × List ℕ)

found_by : (b : Bool) (ns : List ℕ) (r : Option (List ℕ)) (ms : List ℕ) → or_none r ≡ ms → or_none (cond b (Some ns) r) ≡ (if b then ns else ms)
found_by true ns r ms h = refl
found_by false ns r ms h = h

-- what is found under a number
pub number_found : (i : ℕ) (es : Lists) → or_none (lookup (nat_eq i) es) ≡ under_number es i
number_found i [] = refl
number_found i (e ∷ es) = found_by (nat_eq i e.0) e.1 (lookup (nat_eq i) es) (under_number es i) (number_found i es)

put_by : (b : Bool) (e : ℕ × List ℕ) (ns : List ℕ) (es fs gs : Lists) → fs ≡ gs → (if b then ((e.0, ns) ∷ es) else (e ∷ fs)) ≡ (if b then ((e.0, ns) ∷ es) else (e ∷ gs))
put_by b e ns es fs gs h = ap (λ (l : Lists). if b then ((e.0, ns) ∷ es) else (e ∷ l)) h

-- numbers that are put under a number
pub numbers_put : (k : ℕ) (ns : List ℕ) (es : Lists) → insert_entry nat_eq es k ns ≡ put_under_number es k ns
numbers_put k ns [] = refl
numbers_put k ns (e ∷ es) = put_by (nat_eq k e.0) e ns es (insert_entry nat_eq es k ns) (put_under_number es k ns) (numbers_put k ns es)

pub both_same : (i j : ℕ) → nat_eq i j ≡ nat_eq j i
both_same i j = go (nat_eq i j) (nat_eq j i) refl refl
  where
    go : (b c : Bool) → nat_eq i j ≡ b → nat_eq j i ≡ c → b ≡ c
    go true c e f = sym (eq-eqb j i (sym (eqb-true i j e))) ∙ f
    go false true e f = sym e ∙ eq-eqb i j (sym (eqb-true j i f))
    go false false e f = refl

put_there : (i j k : ℕ) (a b c : Bool) (ms ns : List ℕ) (ps qs : Lists) → nat_eq j k ≡ a → nat_eq j i ≡ b → nat_eq i k ≡ c → under_number qs i ≡ (if b then ns else under_number ps i) → under_number (if a then ((k, ns) ∷ ps) else ((k, ms) ∷ qs)) i ≡ (if b then ns else (if c then ms else under_number ps i))
put_there i j k true true true ms ns ps qs ea eb ec h = ap (λ (t : Bool). if t then ns else under_number ps i) ec
put_there i j k true true false ms ns ps qs ea eb ec h = let e : nat_eq i k ≡ true = eq-eqb i k (sym (eqb-true j i eb) ∙ eqb-true j k ea) in absurd cc
put_there i j k true false true ms ns ps qs ea eb ec h = let e : nat_eq j i ≡ true = eq-eqb j i (eqb-true j k ea ∙ sym (eqb-true i k ec)) in absurd cc
put_there i j k true false false ms ns ps qs ea eb ec h = ap (λ (t : Bool). if t then ns else under_number ps i) ec
put_there i j k false true true ms ns ps qs ea eb ec h = let e : nat_eq j k ≡ true = eq-eqb j k (eqb-true j i eb ∙ eqb-true i k ec) in absurd cc
put_there i j k false true false ms ns ps qs ea eb ec h = ap (λ (t : Bool). if t then ms else under_number qs i) ec ∙ h
put_there i j k false false true ms ns ps qs ea eb ec h = ap (λ (t : Bool). if t then ms else under_number qs i) ec
put_there i j k false false false ms ns ps qs ea eb ec h = ap (λ (t : Bool). if t then ms else under_number qs i) ec ∙ h

pub number_put : (ps : Lists) (i j : ℕ) (ns : List ℕ) → under_number (put_under_number ps j ns) i ≡ (if nat_eq j i then ns else under_number ps i)
number_put [] i j ns = ap (λ (t : Bool). if t then ns else []) (both_same i j)
number_put (p ∷ ps) i j ns = put_there i j p.0 (nat_eq j p.0) (nat_eq j i) (nat_eq i p.0) p.1 ns ps (put_under_number ps j ns) refl refl refl (number_put ps i j ns)

adds_by : (ps : Lists) (i j : ℕ) (t : Bool) (n : ℕ) → nat_eq j i ≡ t → (if t then under_number ps j ++ n ∷ [] else (if t then [] else under_number ps i)) ≡ (if t then under_number ps i ++ n ∷ [] else under_number ps i)
adds_by ps i j true n h = ap (λ (k : ℕ). under_number ps k ++ n ∷ []) (eqb-true j i h)
adds_by ps i j false n h = refl

-- numbers are taken out and put back with one more
pub put_back : (old taken new : Lists) (j n : ℕ) (ns ms : List ℕ) → ns ≡ under_number old j → taken ≡ put_under_number old j [] → ms ≡ ns ++ n ∷ [] → new ≡ put_under_number taken j ms → AddsUnderNumber old j n new
put_back old taken new j n ns ms found out pushed back i =
    ap (λ (ls : Lists). under_number ls i) back
    ∙ number_put taken i j ms
    ∙ ap (λ (l : List ℕ). if nat_eq j i then l else under_number taken i) (pushed ∙ ap (λ (l : List ℕ). l ++ n ∷ []) found)
    ∙ ap (λ (ls : Lists). if nat_eq j i then under_number old j ++ n ∷ [] else under_number ls i) out
    ∙ ap (λ (l : List ℕ). if nat_eq j i then under_number old j ++ n ∷ [] else l) (number_put old i j [])
    ∙ adds_by old i j (nat_eq j i) n refl
    ∙ ap (λ (t : Bool). if t then under_number old i ++ n ∷ [] else under_number old i) (both_same j i)
