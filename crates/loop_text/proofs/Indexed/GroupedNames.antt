-- What is put behind what is listed under a name.
use Rattle.std.specs.Borrow.{Bor}
use Rattle.std.specs.Map.{lookup}
use Rattle.std.specs.Prelude.{bytes_eq, if◌then◌else◌}
use Rattle.std.proofs.Common.{◌≡◌, ℕ, Bool, true, false, List, [], ◌∷◌, ◌++◌, Option, Some, refl, sym, ap, ◌∙◌, subst, cond, map}
use Rattle.indexmap.specs.IndexMap.{insert_entry}
use Rattle.loop_text.specs.Sites.Groups.{under_name, put_under_name, or_none, AddsUnderName}
use Rattle.loop_text.proofs.Trees.SameNames.{names_equal, name_same}

abbrev pub Entries : Type 0 → Type 0
Entries V = List (Bor (List ℕ) × List V)

abbrev pub Lists : Type 0 → Type 0
Lists V = List (List ℕ × List V)

abbrev pub seen : {V : Type 0} → Entries V → Lists V
seen es = map (λ p. (p.0.now, p.1)) es

abbrev pub test : List ℕ → Bor (List ℕ) → Bool
test x k = bytes_eq x k.now

abbrev pub same : Bor (List ℕ) → Bor (List ℕ) → Bool
same j k = bytes_eq j.now k.now

-- ---- Equal names

same_back : (x y : List ℕ) → bytes_eq x y ≡ true → bytes_eq y x ≡ true
same_back x y e = subst (λ z. bytes_eq z x ≡ true) (names_equal x y e) (name_same x)

same_chain : (x y z : List ℕ) → bytes_eq x y ≡ true → bytes_eq y z ≡ true → bytes_eq x z ≡ true
same_chain x y z e f = subst (λ w. bytes_eq x w ≡ true) (names_equal y z f) e

pub same_both : (x y : List ℕ) → bytes_eq x y ≡ bytes_eq y x
same_both x y = go (bytes_eq x y) (bytes_eq y x) refl refl
  where
    go : (b c : Bool) → bytes_eq x y ≡ b → bytes_eq y x ≡ c → b ≡ c
    go true c e f = sym (same_back x y e) ∙ f
    go false true e f = sym e ∙ same_back y x f
    go false false e f = refl

-- ---- Lists

module _ {V : Type 0} where
  found_by : (b : Bool) (bs : List V) (r : Option (List V)) (ls : List V) → or_none r ≡ ls → or_none (cond b (Some bs) r) ≡ (if b then bs else ls)
  found_by true bs r ls h = refl
  found_by false bs r ls h = h

  -- what is found under a name
  pub name_found : (x : List ℕ) (es : Entries V) → or_none (lookup (test x) es) ≡ under_name (seen es) x
  name_found x [] = refl
  name_found x (e ∷ es) = found_by (bytes_eq x e.0.now) e.1 (lookup (test x) es) (under_name (seen es) x) (name_found x es)

  put_by : (b : Bool) (e : Bor (List ℕ) × List V) (bs : List V) (es fs : Entries V) (ls : Lists V) → seen fs ≡ ls → seen (if b then ((e.0, bs) ∷ es) else (e ∷ fs)) ≡ (if b then ((e.0.now, bs) ∷ seen es) else ((e.0.now, e.1) ∷ ls))
  put_by true e bs es fs ls h = refl
  put_by false e bs es fs ls h = ap (λ (l : Lists V). (e.0.now, e.1) ∷ l) h

  -- a list that is put under a name
  pub list_put : (k : Bor (List ℕ)) (bs : List V) (es : Entries V) → seen (insert_entry same es k bs) ≡ put_under_name (seen es) k.now bs
  list_put k bs [] = refl
  list_put k bs (e ∷ es) = put_by (bytes_eq k.now e.0.now) e bs es (insert_entry same es k bs) (put_under_name (seen es) k.now bs) (list_put k bs es)

  put_there : (x y z : List ℕ) (a b c : Bool) (cs bs : List V) (ps qs : Lists V) → bytes_eq y z ≡ a → bytes_eq y x ≡ b → bytes_eq x z ≡ c → under_name qs x ≡ (if b then bs else under_name ps x) → under_name (if a then ((z, bs) ∷ ps) else ((z, cs) ∷ qs)) x ≡ (if b then bs else (if c then cs else under_name ps x))
  put_there x y z true true true cs bs ps qs ea eb ec h = ap (λ (t : Bool). if t then bs else under_name ps x) ec
  put_there x y z true true false cs bs ps qs ea eb ec h = let e : bytes_eq x z ≡ true = same_chain x y z (same_back y x eb) ea in absurd cc
  put_there x y z true false true cs bs ps qs ea eb ec h = let e : bytes_eq y x ≡ true = same_chain y z x ea (same_back x z ec) in absurd cc
  put_there x y z true false false cs bs ps qs ea eb ec h = ap (λ (t : Bool). if t then bs else under_name ps x) ec
  put_there x y z false true true cs bs ps qs ea eb ec h = let e : bytes_eq y z ≡ true = same_chain y x z eb ec in absurd cc
  put_there x y z false true false cs bs ps qs ea eb ec h = ap (λ (t : Bool). if t then cs else under_name qs x) ec ∙ h
  put_there x y z false false true cs bs ps qs ea eb ec h = ap (λ (t : Bool). if t then cs else under_name qs x) ec
  put_there x y z false false false cs bs ps qs ea eb ec h = ap (λ (t : Bool). if t then cs else under_name qs x) ec ∙ h

  pub name_put : (ps : Lists V) (x y : List ℕ) (bs : List V) → under_name (put_under_name ps y bs) x ≡ (if bytes_eq y x then bs else under_name ps x)
  name_put [] x y bs = ap (λ (t : Bool). if t then bs else []) (same_both x y)
  name_put (p ∷ ps) x y bs = put_there x y p.0 (bytes_eq y p.0) (bytes_eq y x) (bytes_eq x p.0) p.1 bs ps (put_under_name ps y bs) refl refl refl (name_put ps x y bs)

  adds_by : (ps : Lists V) (x y : List ℕ) (t : Bool) (b : V) → bytes_eq y x ≡ t → (if t then under_name ps y ++ b ∷ [] else (if t then [] else under_name ps x)) ≡ (if t then under_name ps x ++ b ∷ [] else under_name ps x)
  adds_by ps x y true b h = ap (λ (z : List ℕ). under_name ps z ++ b ∷ []) (names_equal y x h)
  adds_by ps x y false b h = refl

  -- a list is taken out and put back with one more
  pub put_back : (old taken new : Lists V) (y : List ℕ) (b : V) (bs cs : List V) → bs ≡ under_name old y → taken ≡ put_under_name old y [] → cs ≡ bs ++ b ∷ [] → new ≡ put_under_name taken y cs → AddsUnderName old y b new
  put_back old taken new y b bs cs found out pushed back x =
      ap (λ (ls : Lists V). under_name ls x) back
      ∙ name_put taken x y cs
      ∙ ap (λ (l : List V). if bytes_eq y x then l else under_name taken x) (pushed ∙ ap (λ (l : List V). l ++ b ∷ []) found)
      ∙ ap (λ (ls : Lists V). if bytes_eq y x then under_name old y ++ b ∷ [] else under_name ls x) out
      ∙ ap (λ (l : List V). if bytes_eq y x then under_name old y ++ b ∷ [] else l) (name_put old x y [])
      ∙ adds_by old x y (bytes_eq y x) b refl
      ∙ ap (λ (t : Bool). if t then under_name old x ++ b ∷ [] else under_name old x) (same_both y x)
