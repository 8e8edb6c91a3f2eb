-- Steps of the loops that read lists, chains of conditions and tokens.
use Rattle.std.proofs.Common.{◌≡◌, ℕ, zero, suc, ◌+◌, ◌-◌, ◌<◌, ◌≤◌, Bool, true, false, List, [], ◌∷◌, ◌++◌, map, length, Option, Some, None, refl, sym, ap, ◌∙◌, arith, append_assoc, codes}
use Rattle.std.proofs.lemmas.List.{map-append}
use Rattle.sql_ast.specs.Names.{◌>>=◌}
use Rattle.sql_ast.specs.Reader.{Read, given, is_word, after_word, after_comma, listed_at, joined_from, joined_at, negation_in, negation_at, atom_at, conjunction_at, condition_at}
use Rattle.sql_ast.specs.Tokens.{Token}
use Rattle.sql_ast.specs.Written.{WrittenCondition, Both, Either, Not}
use Rattle.sql_parse.specs.declared.fault.Stop.{Stop}
use Rattle.sql_parse.specs.declared.fault.Stop.TheVariants as stops
use Rattle.sql_parse.specs.Negations.{negations, nots}
use Rattle.sql_parse.specs.Seen.{Fails}

pub one_less : (n i : ℕ) → i < n → n - i ≡ suc (n - (i + 1))
one_less n i h = omega arith

pub none_left : (n i : ℕ) → n ≤ i → n - i ≡ 0
none_left n i h = omega arith

-- ---- lists

-- what is read behind items that stand before
abbrev pub with_front : {A : Type 0} → List A → Read (List A) → Read (List A)
with_front front read = read >>= λ x. Some (front ++ x.0, x.1)

pub front_none : {A : Type 0} (read : Read (List A)) → with_front [] read ≡ read
front_none None = refl
front_none (Some x) = refl

front_more : {A : Type 0} (front : List A) (x : A) (read : Read (List A)) → with_front (front ++ x ∷ []) read ≡ with_front front (read >>= λ xs. Some (x ∷ xs.0, xs.1))
front_more front x None = refl
front_more front x (Some y) = ap (λ (zs : List _). Some (zs, y.1)) (append_assoc front (x ∷ []) y.0)

abbrev pub step_of : {A : Type 0} → (List Token → Read A) → ℕ → A × List Token → Read (List A)
step_of item n x = given (after_comma x.1) (λ rest. listed_at item n rest >>= λ xs. Some (x.0 ∷ xs.0, xs.1)) (Some (x.0 ∷ [], x.1))

one_step : {A : Type 0} (item : List Token → Read A) (n i : ℕ) (ts : List Token) → i < n → listed_at item (n - i) ts ≡ (item ts >>= λ x. step_of item (n - (i + 1)) x)
unfolding listed_at
one_step item n i ts h = rw (one_less n i h) refl

pub listed_goes_on : {A C : Type 0} (view : C → A) (item : List Token → Read A) (front : List C) (n i : ℕ) (ts us rest : List Token) (x : C) (whole : Read (List A))
    → i < n → item ts ≡ Some (view x, us) → after_comma us ≡ Some rest → with_front (map view front) (listed_at item (n - i) ts) ≡ whole
    → with_front (map view (front ++ x ∷ [])) (listed_at item (n - (i + 1)) rest) ≡ whole
listed_goes_on view item front n i ts us rest x whole h read comma e =
    ap (λ (ys : List _). with_front ys (listed_at item (n - (i + 1)) rest)) (map-append view front (x ∷ []))
    ∙ front_more (map view front) (view x) (listed_at item (n - (i + 1)) rest)
    ∙ ap (λ r. with_front (map view front) (given r (λ behind. listed_at item (n - (i + 1)) behind >>= λ xs. Some (view x ∷ xs.0, xs.1)) (Some (view x ∷ [], us)))) (sym comma)
    ∙ ap (λ r. with_front (map view front) (r >>= λ y. step_of item (n - (i + 1)) y)) (sym read)
    ∙ ap (with_front (map view front)) (sym (one_step item n i ts h))
    ∙ e

pub listed_stops : {A C : Type 0} (view : C → A) (item : List Token → Read A) (front : List C) (n i : ℕ) (ts us : List Token) (x : C) (whole : Read (List A))
    → i < n → item ts ≡ Some (view x, us) → after_comma us ≡ None → with_front (map view front) (listed_at item (n - i) ts) ≡ whole
    → whole ≡ Some (map view (front ++ x ∷ []), us)
listed_stops view item front n i ts us x whole h read comma e =
    sym e
    ∙ ap (with_front (map view front)) (one_step item n i ts h)
    ∙ ap (λ r. with_front (map view front) (r >>= λ y. step_of item (n - (i + 1)) y)) read
    ∙ ap (λ r. with_front (map view front) (given r (λ behind. listed_at item (n - (i + 1)) behind >>= λ xs. Some (view x ∷ xs.0, xs.1)) (Some (view x ∷ [], us)))) comma
    ∙ ap (λ (ys : List _). Some (ys, us)) (sym (map-append view front (x ∷ [])))

pub listed_fails : {A : Type 0} (item : List Token → Read A) (front : List A) (n i : ℕ) (ts : List Token) (whole : Read (List A))
    → i < n → item ts ≡ None → with_front front (listed_at item (n - i) ts) ≡ whole → whole ≡ None
listed_fails item front n i ts whole h read e =
    sym e ∙ ap (with_front front) (one_step item n i ts h) ∙ ap (λ r. with_front front (r >>= λ y. step_of item (n - (i + 1)) y)) read

pub listed_fails_by : {A : Type 0} (item : List Token → Read A) (front : List A) (n i : ℕ) (ts : List Token) (whole : Read (List A)) (e : Stop)
    → i < n → Fails e (item ts) → with_front front (listed_at item (n - i) ts) ≡ whole → Fails e whole
listed_fails_by item front n i ts whole stops.NoMemory h read e = tt
listed_fails_by item front n i ts whole stops.Broken h read e = listed_fails item front n i ts whole h read e

pub listed_runs_out : {A : Type 0} (item : List Token → Read A) (front : List A) (n i : ℕ) (ts : List Token) (whole : Read (List A))
    → n ≤ i → with_front front (listed_at item (n - i) ts) ≡ whole → whole ≡ None
unfolding listed_at
listed_runs_out item front n i ts whole h e = sym e ∙ ap (λ k. with_front front (listed_at item k ts)) (none_left n i h)

-- ---- chains

abbrev pub chain_step : {A : Type 0} → List ℕ → (A → A → A) → (List Token → Read A) → ℕ → A → List Token → Option (List Token) → Read A
chain_step keyword make operand n a ts behind = given behind (λ us. operand us >>= λ x. joined_from keyword make operand n (make a x.0) x.1) (Some (a, ts))

one_link : {A : Type 0} (keyword : List ℕ) (make : A → A → A) (operand : List Token → Read A) (n i : ℕ) (a : A) (ts : List Token) → i < n → joined_from keyword make operand (n - i) a ts ≡ chain_step keyword make operand (n - (i + 1)) a ts (after_word keyword ts)
unfolding joined_from
one_link keyword make operand n i a ts h = rw (one_less n i h) refl

pub chain_begins : {A : Type 0} (keyword : List ℕ) (make : A → A → A) (operand : List Token → Read A) (ts us : List Token) (a : A) (n : ℕ) → operand ts ≡ Some (a, us) → n ≡ length us → joined_from keyword make operand (n - 0) a us ≡ joined_at keyword make operand ts
chain_begins keyword make operand ts us a n read e =
    let same : n - 0 ≡ length us = omega arith in
    ap (λ k. joined_from keyword make operand k a us) same ∙ ap (λ r. r >>= λ x. joined_from keyword make operand (length x.1) x.0 x.1) (sym read)

pub chain_goes_on : {A : Type 0} (keyword : List ℕ) (make : A → A → A) (operand : List Token → Read A) (n i : ℕ) (a b : A) (ts us vs : List Token) (whole : Read A)
    → i < n → after_word keyword ts ≡ Some us → operand us ≡ Some (b, vs) → joined_from keyword make operand (n - i) a ts ≡ whole → joined_from keyword make operand (n - (i + 1)) (make a b) vs ≡ whole
chain_goes_on keyword make operand n i a b ts us vs whole h word read e =
    ap (λ r. r >>= λ x. joined_from keyword make operand (n - (i + 1)) (make a x.0) x.1) (sym read)
    ∙ ap (chain_step keyword make operand (n - (i + 1)) a ts) (sym word)
    ∙ sym (one_link keyword make operand n i a ts h)
    ∙ e

pub chain_fails : {A : Type 0} (keyword : List ℕ) (make : A → A → A) (operand : List Token → Read A) (n i : ℕ) (a : A) (ts us : List Token) (whole : Read A)
    → i < n → after_word keyword ts ≡ Some us → operand us ≡ None → joined_from keyword make operand (n - i) a ts ≡ whole → whole ≡ None
chain_fails keyword make operand n i a ts us whole h word read e =
    sym e
    ∙ one_link keyword make operand n i a ts h
    ∙ ap (chain_step keyword make operand (n - (i + 1)) a ts) word
    ∙ ap (λ r. r >>= λ x. joined_from keyword make operand (n - (i + 1)) (make a x.0) x.1) read

pub chain_fails_by : {A : Type 0} (keyword : List ℕ) (make : A → A → A) (operand : List Token → Read A) (n i : ℕ) (a : A) (ts us : List Token) (whole : Read A) (e : Stop)
    → i < n → after_word keyword ts ≡ Some us → Fails e (operand us) → joined_from keyword make operand (n - i) a ts ≡ whole → Fails e whole
chain_fails_by keyword make operand n i a ts us whole stops.NoMemory h word read e = tt
chain_fails_by keyword make operand n i a ts us whole stops.Broken h word read e = chain_fails keyword make operand n i a ts us whole h word read e

pub chain_stops : {A : Type 0} (keyword : List ℕ) (make : A → A → A) (operand : List Token → Read A) (n i : ℕ) (a : A) (ts : List Token) (whole : Read A)
    → i < n → after_word keyword ts ≡ None → joined_from keyword make operand (n - i) a ts ≡ whole → whole ≡ Some (a, ts)
chain_stops keyword make operand n i a ts whole h word e =
    sym e ∙ one_link keyword make operand n i a ts h ∙ ap (chain_step keyword make operand (n - (i + 1)) a ts) word

pub chain_runs_out : {A : Type 0} (keyword : List ℕ) (make : A → A → A) (operand : List Token → Read A) (n i : ℕ) (a : A) (ts : List Token) (whole : Read A)
    → n ≤ i → joined_from keyword make operand (n - i) a ts ≡ whole → whole ≡ Some (a, ts)
unfolding joined_from
chain_runs_out keyword make operand n i a ts whole h e = sym e ∙ ap (λ k. joined_from keyword make operand k a ts) (none_left n i h)

-- ---- NOT

-- a condition behind NOTs
abbrev pub nots_read : ℕ → Read WrittenCondition → Read WrittenCondition
nots_read n read = read >>= λ x. Some (nots n x.0, x.1)

abbrev not_read : Read WrittenCondition → Read WrittenCondition
not_read read = read >>= λ x. Some (Not x.0, x.1)

under_zero : (read : Read WrittenCondition) → read ≡ nots_read 0 read
unfolding nots
under_zero None = refl
under_zero (Some x) = refl

under_more : (n : ℕ) (read : Read WrittenCondition) → not_read (nots_read n read) ≡ nots_read (suc n) read
unfolding nots
under_more n None = refl
under_more n (Some x) = refl

negation_is : (atom : List Token → Read WrittenCondition) → atom [] ≡ None → (ts : List Token) → negation_at atom ts ≡ nots_read (negations ts).0 (atom (negations ts).1)
unfolding negations negation_in
negation_is atom empty [] = rw empty refl
negation_is atom empty (t ∷ ts) = by (is_word (codes "NOT") t) refl (negation_is atom empty ts)
  where
    by : (v : Bool) → is_word (codes "NOT") t ≡ v → negation_at atom ts ≡ nots_read (negations ts).0 (atom (negations ts).1) → negation_at atom (t ∷ ts) ≡ nots_read (negations (t ∷ ts)).0 (atom (negations (t ∷ ts)).1)
    by true e r = rw (e, r) (under_more (negations ts).0 (atom (negations ts).1))
    by false e r = rw e (under_zero (atom (t ∷ ts)))

no_atom : (group : List Token → Read WrittenCondition) → atom_at group [] ≡ None
unfolding atom_at
no_atom group = refl

behind_nots : (group : List Token → Read WrittenCondition) (ts : List Token) (count : ℕ) (rest : List Token) → ◌≡◌ {A = ℕ × List Token} (count, rest) (negations ts) → negation_at (atom_at group) ts ≡ nots_read count (atom_at group rest)
behind_nots group ts count rest e = negation_is (atom_at group) (no_atom group) ts ∙ ap (λ (x : ℕ × List Token). nots_read x.0 (atom_at group x.1)) (sym e)

pub negation_fails : (group : List Token → Read WrittenCondition) (ts : List Token) (count : ℕ) (rest : List Token) (e : Stop) → ◌≡◌ {A = ℕ × List Token} (count, rest) (negations ts) → Fails e (atom_at group rest) → Fails e (negation_at (atom_at group) ts)
negation_fails group ts count rest stops.NoMemory h f = tt
negation_fails group ts count rest stops.Broken h f = behind_nots group ts count rest h ∙ ap (nots_read count) f

pub negation_gives : (group : List Token → Read WrittenCondition) (ts : List Token) (count : ℕ) (rest after : List Token) (a b : WrittenCondition) → ◌≡◌ {A = ℕ × List Token} (count, rest) (negations ts) → atom_at group rest ≡ Some (a, after) → b ≡ nots count a
    → negation_at (atom_at group) ts ≡ Some (b, after)
negation_gives group ts count rest after a b h f e = behind_nots group ts count rest h ∙ ap (nots_read count) f ∙ ap (λ (x : WrittenCondition). Some (x, after)) (sym e)

-- ---- conditions

pub no_room : (room : ℕ) (ts : List Token) → room < 1 → condition_at room ts ≡ None
unfolding condition_at
no_room zero ts h = refl
no_room (suc room) ts h = absurd (omega (arith, h))

pub room_more : (room less : ℕ) (ts : List Token) → room ≡ suc less → condition_at room ts ≡ joined_at (codes "OR") Either (conjunction_at (condition_at less)) ts
unfolding condition_at
room_more room less ts e = ap (λ (n : ℕ). condition_at n ts) e

pub conjunction_is : (group : List Token → Read WrittenCondition) (ts : List Token) → conjunction_at group ts ≡ joined_at (codes "AND") Both (negation_at (atom_at group)) ts
unfolding conjunction_at
conjunction_is group ts = refl

pub joined_fails : {A : Type 0} (keyword : List ℕ) (make : A → A → A) (operand : List Token → Read A) (ts : List Token) (whole : Read A) (e : Stop) → whole ≡ joined_at keyword make operand ts → Fails e (operand ts) → Fails e whole
joined_fails keyword make operand ts whole stops.NoMemory h f = tt
joined_fails keyword make operand ts whole stops.Broken h f = h ∙ ap (λ r. r >>= λ x. joined_from keyword make operand (length x.1) x.0 x.1) f

-- a NOT at the front
pub not_more : (ts us : List Token) → Some us ≡ after_word (codes "NOT") ts → (◌≡◌ {A = ℕ × List Token} (negations ts) (suc (negations us).0, (negations us).1)) × (length ts ≡ suc (length us))
unfolding negations
not_more [] us e = absurd cc
not_more (t ∷ ts) us e = by (is_word (codes "NOT") t) refl
  where
    by : (v : Bool) → is_word (codes "NOT") t ≡ v → (◌≡◌ {A = ℕ × List Token} (negations (t ∷ ts)) (suc (negations us).0, (negations us).1)) × (length (t ∷ ts) ≡ suc (length us))
    by true f = let z : Some us ≡ Some ts = rw f at e in let same : us ≡ ts = cc in rw (f, same) (refl, refl)
    by false f = absurd (let z : Some us ≡ None = rw f at e in cc)

pub not_none : (ts : List Token) → None ≡ after_word (codes "NOT") ts → negations ts ≡ (0, ts)
unfolding negations
not_none [] e = refl
not_none (t ∷ ts) e = by (is_word (codes "NOT") t) refl
  where
    by : (v : Bool) → is_word (codes "NOT") t ≡ v → negations (t ∷ ts) ≡ (0, t ∷ ts)
    by true f = absurd (let z : None ≡ Some ts = rw f at e in cc)
    by false f = rw f refl

pub counted_more : (n : ℕ) (ns ms : ℕ × List Token) → ns ≡ (suc ms.0, ms.1) → ◌≡◌ {A = ℕ × List Token} (n + 1 + ms.0, ms.1) (n + ns.0, ns.1)
counted_more n ns ms e = rw e (ap (λ (k : ℕ). (k, ms.1)) (omega arith))

pub counted_all : (n : ℕ) (ns : ℕ × List Token) (ts : List Token) → ns ≡ (0, ts) → ◌≡◌ {A = ℕ × List Token} (n, ts) (n + ns.0, ns.1)
counted_all n ns ts e = rw e (ap (λ (k : ℕ). (k, ts)) (omega arith))
