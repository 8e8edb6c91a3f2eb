-- Patches that lie apart.
use Rattle.std.proofs.Common.{◌≡◌, ℕ, ◌≤◌, ◌<◌, zero, suc, true, ◌&&◌, List, [], ◌∷◌, ◌++◌, set, length, sym, append_assoc, rules, arith}
use Rattle.std.specs.Prelude.{nat_le}
use Rattle.std.proofs.lemmas.Bool.{and_parts, and_from, leb-true, le-leb}
use Rattle.text_patches.specs.declared.patch.TextPatch.{TextPatch}
use Rattle.view_spell.specs.declared.spelled.SliceSpelled.{SliceSpelled}
use Rattle.view_spell.specs.declared.spelled.SliceSpelled.TheVariants as spelled
use Rattle.view_spell.specs.Placed.{are_apart, patches_in, patches_of}

-- what is apart from a byte on is so from an earlier one on
pub apart_from : (a b c : ℕ) (ps : List TextPatch) → a ≤ b → are_apart b c ps ≡ true → are_apart a c ps ≡ true
apart_from a b c [] le h = le-leb a c (omega (arith, leb-true b c h))
apart_from a b c (p ∷ ps) le h =
    let e = and_parts (nat_le b p.from && nat_le p.from p.to) (are_apart p.to c ps) h in
    let k = and_parts (nat_le b p.from) (nat_le p.from p.to) e.0 in
    and_from _ _ (and_from _ _ (le-leb a p.from (omega (arith, leb-true b p.from k.0))) k.1) e.1

-- no patch stands between a byte and it
pub apart_none : (a : ℕ) → are_apart a a [] ≡ true
apart_none a = le-leb a a (omega arith)

-- it ends where it began, or behind
pub apart_grows : (a b : ℕ) (ps : List TextPatch) → are_apart a b ps ≡ true → a ≤ b
apart_grows a b [] h = leb-true a b h
apart_grows a b (p ∷ ps) h =
    let e = and_parts (nat_le a p.from && nat_le p.from p.to) (are_apart p.to b ps) h in
    let k = and_parts (nat_le a p.from) (nat_le p.from p.to) e.0 in
    omega (arith, leb-true a p.from k.0, leb-true p.from p.to k.1, apart_grows p.to b ps e.1)

-- further patches behind them
pub apart_join : (a b c : ℕ) (ps qs : List TextPatch) → are_apart a b ps ≡ true → are_apart b c qs ≡ true → are_apart a c (ps ++ qs) ≡ true
apart_join a b c [] qs h k = apart_from a b c qs (leb-true a b h) k
apart_join a b c (p ∷ ps) qs h k =
    let e = and_parts (nat_le a p.from && nat_le p.from p.to) (are_apart p.to b ps) h in
    and_from _ _ e.0 (apart_join p.to b c ps qs e.1 k)

-- up to a later byte
pub apart_to : (a b c : ℕ) (ps : List TextPatch) → b ≤ c → are_apart a b ps ≡ true → are_apart a c ps ≡ true
apart_to a b c [] le h = le-leb a c (omega (arith, leb-true a b h))
apart_to a b c (p ∷ ps) le h =
    let e = and_parts (nat_le a p.from && nat_le p.from p.to) (are_apart p.to b ps) h in
    and_from _ _ e.0 (apart_to p.to b c ps le e.1)

-- those behind others
pub apart_behind : (a c : ℕ) (ps qs : List TextPatch) → are_apart a c (ps ++ qs) ≡ true → are_apart a c qs ≡ true
apart_behind a c [] qs h = h
apart_behind a c (p ∷ ps) qs h =
    let e = and_parts (nat_le a p.from && nat_le p.from p.to) (are_apart p.to c (ps ++ qs)) h in
    let k = and_parts (nat_le a p.from) (nat_le p.from p.to) e.0 in
    apart_from a p.to c qs (omega (arith, leb-true a p.from k.0, leb-true p.from p.to k.1)) (apart_behind p.to c ps qs e.1)

-- those behind some of which others come in place
pub apart_kept : (a c : ℕ) (ps qs rs : List TextPatch) → are_apart a c (ps ++ qs) ≡ true → ((b : ℕ) → are_apart b c qs ≡ true → are_apart b c rs ≡ true) → are_apart a c (ps ++ rs) ≡ true
apart_kept a c [] qs rs h f = f a h
apart_kept a c (p ∷ ps) qs rs h f =
    let e = and_parts (nat_le a p.from && nat_le p.from p.to) (are_apart p.to c (ps ++ qs)) h in
    and_from _ _ e.0 (apart_kept p.to c ps qs rs e.1 f)

-- without those of a slice
pub apart_without : (xs : List SliceSpelled) (k a c : ℕ) → k < length xs → are_apart a c (patches_of xs) ≡ true → are_apart a c (patches_of (set xs k spelled.Unlike)) ≡ true
apart_without [] k a c lt h = h
apart_without (x ∷ xs) zero a c lt h = apart_behind a c (patches_in x) (patches_of xs) h
apart_without (x ∷ xs) (suc k) a c lt h =
    apart_kept a c (patches_in x) (patches_of xs) (patches_of (set xs k spelled.Unlike)) h (λ b e. apart_without xs k b c (omega (arith, lt)) e)

-- the patches of one slice more
pub patches_more : (xs : List SliceSpelled) (x : SliceSpelled) → patches_of (xs ++ x ∷ []) ≡ patches_of xs ++ patches_in x
patches_more [] x = search rules
patches_more (y ∷ xs) x = rw (patches_more xs x) (sym (append_assoc (patches_in y) (patches_of xs) (patches_in x)))

pub apart_more : (a b c : ℕ) (xs : List SliceSpelled) (x : SliceSpelled) → are_apart a b (patches_of xs) ≡ true → are_apart b c (patches_in x) ≡ true → are_apart a c (patches_of (xs ++ x ∷ [])) ≡ true
apart_more a b c xs x h k = rw (patches_more xs x) (apart_join a b c (patches_of xs) (patches_in x) h k)

pub apart_on : (a b c : ℕ) (xs ys : List SliceSpelled) (x : SliceSpelled) → ys ≡ xs ++ x ∷ [] → are_apart a b (patches_of xs) ≡ true → are_apart b c (patches_in x) ≡ true → are_apart a c (patches_of ys) ≡ true
apart_on a b c xs ys x e h k = rw e (apart_more a b c xs x h k)
