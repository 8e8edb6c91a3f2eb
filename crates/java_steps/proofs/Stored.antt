-- The variables in the entries of an IndexMap, and rows of different lengths.
use Rattle.std.proofs.Common.{◌≡◌, ℕ, suc, length, List, [], ◌∷◌, Bool, true, false, cond, refl, ap, sym, ◌∙◌, subst, Option, Some, None, Bor}
use Rattle.std.specs.Prelude.{bytes_eq, is_some, ◌&&◌, if◌then◌else◌}
use Rattle.std.specs.Map.{lookup}
use Rattle.std.specs.Option.{option_map}
use Rattle.indexmap.specs.IndexMap.{insert_entry}
use Rattle.qbs_base.specs.declared.scalar.Scalar.{Scalar}
use Rattle.qbs_base.specs.Named.{at_name}
use Rattle.qbs_base.specs.Scalar.{scalar_same, same_cells}
use Rattle.java_mean.specs.Store as meant
use Rattle.java_mean.specs.Store.{put}
use Rattle.java_mean.proofs.Puts.{names_equal, name_same}
use Rattle.java_steps.specs.declared.held.Variable.{Variable}
use Rattle.java_steps.specs.Placed.{test, same}
use Rattle.java_steps.specs.Quick.{written}
use Rattle.java_steps.specs.Held.{seen, variable_in}

abbrev pub Entries : Type 0
Entries = List (Bor (List ℕ) × Variable)

back_true : (x y : List ℕ) → bytes_eq x y ≡ true → bytes_eq y x ≡ true
back_true x y e = subst (λ z. bytes_eq z x ≡ true) (names_equal x y e) (name_same x)

pub back : (x y : List ℕ) → bytes_eq x y ≡ bytes_eq y x
back x y = go (bytes_eq x y) (bytes_eq y x) refl refl
  where
    go : (b c : Bool) → bytes_eq x y ≡ b → bytes_eq y x ≡ c → b ≡ c
    go true c e f = sym (back_true x y e) ∙ f
    go false true e f = sym e ∙ back_true y x f
    go false false e f = refl

get_by : (b c : Bool) (v : Variable) (r : Option Variable) (s : Option meant.Variable) → b ≡ c → option_map variable_in r ≡ s → option_map variable_in (cond b (Some v) r) ≡ (if c then Some (variable_in v) else s)
get_by true true v r s p h = refl
get_by false false v r s p h = h
get_by true false v r s p h = absurd cc
get_by false true v r s p h = absurd cc

pub get_lem : (x : List ℕ) (es : Entries) → option_map variable_in (lookup (test x) es) ≡ at_name (seen es) x
get_lem x [] = refl
get_lem x (e ∷ es) = get_by (bytes_eq x e.0.now) (bytes_eq e.0.now x) e.1 (lookup (test x) es) (at_name (seen es) x) (back x e.0.now) (get_lem x es)

put_by : (b c : Bool) (e : Bor (List ℕ) × Variable) (v : Variable) (es fs : Entries) (s : meant.Store) → b ≡ c → seen fs ≡ s → seen (if b then ((e.0, v) ∷ es) else (e ∷ fs)) ≡ (if c then ((e.0.now, variable_in v) ∷ seen es) else ((e.0.now, variable_in e.1) ∷ s))
put_by true true e v es fs s p h = refl
put_by false false e v es fs s p h = ap (λ (l : meant.Store). (e.0.now, variable_in e.1) ∷ l) h
put_by true false e v es fs s p h = absurd cc
put_by false true e v es fs s p h = absurd cc

pub put_lem : (k : Bor (List ℕ)) (v : Variable) (es : Entries) → seen (insert_entry same es k v) ≡ put (seen es) k.now (variable_in v)
put_lem k v [] = refl
put_lem k v (e ∷ es) = put_by (bytes_eq k.now e.0.now) (bytes_eq e.0.now k.now) e v es (insert_entry same es k v) (put (seen es) k.now (variable_in v)) (back k.now e.0.now) (put_lem k v es)

and_false : (b c : Bool) → false ≡ c → false ≡ (b && c)
and_false true c h = h
and_false false c h = refl

pub cells_differ : (a b : List Scalar) → (length a ≡ length b → ⊥) → false ≡ same_cells a b
cells_differ [] [] h = absurd (h refl)
cells_differ [] (y ∷ ys) h = refl
cells_differ (x ∷ xs) [] h = refl
cells_differ (x ∷ xs) (y ∷ ys) h = and_false (scalar_same x y) (same_cells xs ys) (cells_differ xs ys (λ e. h (ap (λ n. suc n) e)))

-- no variable has a name that no entry has
pub none_seen : (es : Entries) (x : List ℕ) → false ≡ is_some (lookup (test x) es) → at_name (seen es) x ≡ None
none_seen es x e = sym (get_lem x es) ∙ go (lookup (test x) es) e
  where
    go : (o : Option Variable) → false ≡ is_some o → option_map variable_in o ≡ None
    go None h = refl
    go (Some v) h = absurd cc

-- a number that is put in a variable that is there
pub put_over : (es : Entries) (k : Bor (List ℕ)) (old new : Variable) (fs : Entries) → Some old ≡ lookup (test k.now) es → fs ≡ insert_entry same es k new → new.is_set ≡ old.is_set → Some (seen fs) ≡ written (seen es) k.now (variable_in new).value
put_over es k old new fs there put stays =
    let at : Some (variable_in old) ≡ at_name (seen es) k.now = ap (option_map variable_in) there ∙ get_lem k.now es in
    ap Some (ap seen put ∙ put_lem k new es ∙ ap (λ (b : Bool). meant.put (seen es) k.now (record { value = (variable_in new).value; is_set = b })) stays)
    ∙ ap (option_map (λ (held : meant.Variable). meant.put (seen es) k.now (record { value = (variable_in new).value; is_set = held.is_set }))) at
