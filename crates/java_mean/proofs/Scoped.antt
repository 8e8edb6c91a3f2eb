-- The visible variables in the entries of an IndexMap.
use Rattle.std.proofs.Common.{◌≡◌, ℕ, ◌+◌, suc, length, List, [], ◌∷◌, ◌++◌, Bool, true, false, cond, refl, ap, sym, Option, Some, None, take, map, Bor}
use Rattle.std.specs.Prelude.{bytes_eq, not, is_some, if◌then◌else◌}
use Rattle.std.specs.List.{take-map, position, position_or_len}
use Rattle.std.specs.Map.{lookup, keys_of}
use Rattle.indexmap.specs.IndexMap.{insert_entry}
use Rattle.java_mean.specs.declared.types.JavaType.{JavaType}
use Rattle.java_mean.specs.Visible.{Visible, is_visible, type_at}

abbrev pub Entries : Type 0
Entries = List (Bor (List ℕ) × Option JavaType)

abbrev pub seen : Entries → Visible
seen es = map (λ p. (p.0.now, p.1)) es

abbrev pub test : List ℕ → Bor (List ℕ) → Bool
test x k = bytes_eq x k.now

has_by : (b : Bool) (t : Option JavaType) (r : Option (Option JavaType)) (s : Bool) → is_some r ≡ s → is_some (cond b (Some t) r) ≡ (if b then true else s)
has_by true t r s p = refl
has_by false t r s p = p

pub has_lem : (x : List ℕ) (es : Entries) → is_some (lookup (test x) es) ≡ is_visible (seen es) x
has_lem x [] = refl
has_lem x (e ∷ es) = has_by (bytes_eq x e.0.now) e.1 (lookup (test x) es) (is_visible (seen es) x) (has_lem x es)

abbrev pub flat : Option (Option JavaType) → Option JavaType
flat None = None
flat (Some t) = t

type_by : (b : Bool) (t : Option JavaType) (r : Option (Option JavaType)) (s : Option JavaType) → flat r ≡ s → flat (cond b (Some t) r) ≡ (if b then t else s)
type_by true t r s p = refl
type_by false t r s p = p

pub type_lem : (x : List ℕ) (es : Entries) → flat (lookup (test x) es) ≡ type_at (seen es) x
type_lem x [] = refl
type_lem x (e ∷ es) = type_by (bytes_eq x e.0.now) e.1 (lookup (test x) es) (type_at (seen es) x) (type_lem x es)

abbrev pub same : Bor (List ℕ) → Bor (List ℕ) → Bool
same j k = bytes_eq j.now k.now

declare_by : (b : Bool) (e : Bor (List ℕ) × Option JavaType) (es fs : Entries) (s : Bool) (vs ws : Visible) (t : Option JavaType) → (if b then true else s) ≡ false → (s ≡ false → seen fs ≡ ws) → seen (if b then ((e.0, t) ∷ es) else (e ∷ fs)) ≡ (e.0.now, e.1) ∷ ws
declare_by true e es fs s vs ws t p q = cc
declare_by false e es fs s vs ws t p q = ap (λ (l : Visible). (e.0.now, e.1) ∷ l) (q p)

pub declare_lem : (k : Bor (List ℕ)) (t : Option JavaType) (es : Entries) → is_visible (seen es) k.now ≡ false → seen (insert_entry same es k t) ≡ seen es ++ (k.now, t) ∷ []
declare_lem k t [] h = refl
declare_lem k t (e ∷ es) h = declare_by (bytes_eq k.now e.0.now) e es (insert_entry same es k t) (is_visible (seen es) k.now) (seen es) (seen es ++ (k.now, t) ∷ []) t h (declare_lem k t es)

pub cut_lem : (n : ℕ) (es : Entries) → seen (take n es) ≡ take n (seen es)
cut_lem n es = sym (take-map (λ (p : Bor (List ℕ) × Option JavaType). (p.0.now, p.1)) n es)

slot_from : (x : List ℕ) (es : Entries) → position_or_len (test x) (keys_of es) ≡ position_or_len (λ v. bytes_eq x v.0) (seen es)
slot_from x [] = refl
slot_from x (e ∷ es) = ap (λ (n : ℕ). cond (not (bytes_eq x e.0.now)) (1 + n) 0) (slot_from x es)

keys_length : (es : Entries) → length (keys_of es) ≡ length (seen es)
keys_length [] = refl
keys_length (e ∷ es) = ap (λ (n : ℕ). suc n) (keys_length es)

pub slot_lem : (x : List ℕ) (es : Entries) → position (test x) (keys_of es) ≡ position (λ v. bytes_eq x v.0) (seen es)
slot_lem x es = rw (slot_from x es, keys_length es)
