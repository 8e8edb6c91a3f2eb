-- Values that stand at places.
use Rattle.std.proofs.Common.{◌≡◌, ℕ, zero, suc, ◌+◌, List, [], ◌∷◌, ◌<◌, length, Bool, true, false, cond, not, refl, subst, Some, None, Bor, slice_get, arith, sym, ap, ◌∙◌}
use Rattle.std.specs.Prelude.{bytes_eq, if◌then◌else◌, nat_lt, position}
use Rattle.std.specs.List.{AllByRecursion, IsDistinct, prefix_len}
use Rattle.std.specs.Map.{lookup, keys_of}
use Rattle.std.proofs.lemmas.Bool.Decides.{nat_tests}
use Rattle.indexmap.specs.IndexMap.{insert_entry, set_value_at}
use Rattle.java_mean.proofs.Puts.{names_equal}
use Rattle.java_steps.specs.Placed.{test, same, Stands, IsAt}
use Rattle.java_steps.proofs.Stored.{back}

module _ {V : Type 0} where
  -- the key at a place is not one before it
  apart : (j : Bor (List ℕ)) (es : List (Bor (List ℕ) × V)) (i : ℕ) (k : Bor (List ℕ)) (v : V) → AllByRecursion (λ y. same j y ≡ false) (keys_of es) → slice_get es i ≡ Some (k, v) → same j k ≡ false
  apart j [] i k v all at = absurd cc
  apart j (e ∷ es) zero k v all at = let h : e ≡ (k, v) = cc in ap (λ (p : Bor (List ℕ) × V). same j p.0) (sym h) ∙ all.0
  apart j (e ∷ es) (suc i) k v all at = apart j es i k v all.1 at

  -- a value written at the place of its key
  put_there : (es : List (Bor (List ℕ) × V)) (i : ℕ) (k key : Bor (List ℕ)) (v w : V) → IsDistinct same (keys_of es) → slice_get es i ≡ Some (k, v) → bytes_eq k.now key.now ≡ true → set_value_at es i w ≡ insert_entry same es key w
  unfolding IsDistinct
  put_there [] i k key v w d at e = absurd cc
  put_there (f ∷ es) zero k key v w d at e =
      let h : f ≡ (k, v) = cc in
      let s : bytes_eq key.now f.0.now ≡ true = back key.now f.0.now ∙ ap (λ (p : Bor (List ℕ) × V). bytes_eq p.0.now key.now) h ∙ e in
      ap (λ (b : Bool). if b then ((f.0, w) ∷ es) else (f ∷ insert_entry same es key w)) (sym s)
  put_there (f ∷ es) (suc i) k key v w d at e =
      let s : bytes_eq key.now f.0.now ≡ false = back key.now f.0.now ∙ ap (bytes_eq f.0.now) (sym (names_equal k.now key.now e)) ∙ apart f.0 es i k v d.0 at in
      ap (λ (l : List (Bor (List ℕ) × V)). f ∷ l) (put_there es i k key v w d.1 at e) ∙ ap (λ (b : Bool). if b then ((f.0, w) ∷ es) else (f ∷ insert_entry same es key w)) (sym s)

  -- a look-up of a key that stands at a place
  found_there : (es : List (Bor (List ℕ) × V)) (i : ℕ) (k : Bor (List ℕ)) (x : List ℕ) (v : V) → IsDistinct same (keys_of es) → slice_get es i ≡ Some (k, v) → bytes_eq k.now x ≡ true → Some v ≡ lookup (test x) es
  unfolding IsDistinct
  found_there [] i k x v d at e = absurd cc
  found_there (f ∷ es) zero k x v d at e =
      let h : f ≡ (k, v) = cc in
      let s : bytes_eq x f.0.now ≡ true = back x f.0.now ∙ ap (λ (p : Bor (List ℕ) × V). bytes_eq p.0.now x) h ∙ e in
      ap (λ (p : Bor (List ℕ) × V). Some p.1) (sym h) ∙ ap (λ (b : Bool). cond b (Some f.1) (lookup (test x) es)) (sym s)
  found_there (f ∷ es) (suc i) k x v d at e =
      let s : bytes_eq x f.0.now ≡ false = back x f.0.now ∙ ap (bytes_eq f.0.now) (sym (names_equal k.now x e)) ∙ apart f.0 es i k v d.0 at in
      found_there es i k x v d.1 at e ∙ ap (λ (b : Bool). cond b (Some f.1) (lookup (test x) es)) (sym s)

  within : (es : List (Bor (List ℕ) × V)) (i : ℕ) (p : Bor (List ℕ) × V) → slice_get es i ≡ Some p → i < length es
  within [] i p at = absurd cc
  within (f ∷ es) zero p at = omega arith
  within (f ∷ es) (suc i) p at = let h = within es i p at in omega arith

  module _ (es : List (Bor (List ℕ) × V)) (i : ℕ) (x : List ℕ) (s : Stands es i x) where
    pub stands_within : i < length es
    stands_within = within es i (s.key, s.value) s.at

    pub stands_old : (k : Bor (List ℕ)) (v : V) → IsDistinct same (keys_of es) → slice_get es i ≡ Some (k, v) → Some v ≡ lookup (test x) es
    stands_old k v d at =
        let h : Some (s.key, s.value) ≡ Some (k, v) = sym s.at ∙ at in
        let g : (s.key, s.value) ≡ (k, v) = cc in
        found_there es i k x v d at (ap (λ (p : Bor (List ℕ) × V). bytes_eq p.0.now x) (sym g) ∙ s.is)

  pub stands_put : (es : List (Bor (List ℕ) × V)) (i : ℕ) (key : Bor (List ℕ)) (w : V) → Stands es i key.now → IsDistinct same (keys_of es) → set_value_at es i w ≡ insert_entry same es key w
  stands_put es i key w s d = put_there es i s.key key s.value w d s.at s.is

  pub stands_at : (es : List (Bor (List ℕ) × V)) (i : ℕ) (x : List ℕ) (v : V) → IsAt es i x v → Stands es i x
  stands_at es i x v s = record { key = s.key; value = v; at = s.at; is = s.is }

  -- the first place at which a key stands
  first_there : (es : List (Bor (List ℕ) × V)) (x : List ℕ) → prefix_len (λ k. not (test x k)) (keys_of es) < length (keys_of es) → Stands es (prefix_len (λ k. not (test x k)) (keys_of es)) x
  first_there [] x lt = absurd (omega arith)
  first_there (f ∷ es) x lt = go (test x f.0) refl lt (λ h. first_there es x h)
    where
      go : (b : Bool) → test x f.0 ≡ b → cond (not b) (1 + prefix_len (λ k. not (test x k)) (keys_of es)) 0 < suc (length (keys_of es)) → (prefix_len (λ k. not (test x k)) (keys_of es) < length (keys_of es) → Stands es (prefix_len (λ k. not (test x k)) (keys_of es)) x) → Stands (f ∷ es) (cond (not b) (1 + prefix_len (λ k. not (test x k)) (keys_of es)) 0) x
      go true e h next = record { key = f.0; value = f.1; at = refl; is = back f.0.now x ∙ e }
      go false e h next =
          let s = next (omega arith) in
          let t : Stands (f ∷ es) (suc (prefix_len (λ k. not (test x k)) (keys_of es))) x = record { key = s.key; value = s.value; at = s.at; is = s.is } in
          let one : suc (prefix_len (λ k. not (test x k)) (keys_of es)) ≡ 1 + prefix_len (λ k. not (test x k)) (keys_of es) = omega arith in
          subst (λ (n : ℕ). Stands (f ∷ es) n x) one t

  placed : (es : List (Bor (List ℕ) × V)) (x : List ℕ) (i : ℕ) (b : Bool) → nat_lt (prefix_len (λ k. not (test x k)) (keys_of es)) (length (keys_of es)) ≡ b → cond b (Some (prefix_len (λ k. not (test x k)) (keys_of es))) None ≡ Some i → Stands es i x
  placed es x i true lt e = let h : prefix_len (λ k. not (test x k)) (keys_of es) ≡ i = cc in subst (λ (n : ℕ). Stands es n x) h (first_there es x (grind (arith, nat_tests)))
  placed es x i false lt e = absurd cc

  pub found_at : (es : List (Bor (List ℕ) × V)) (x : List ℕ) (i : ℕ) → position (test x) (keys_of es) ≡ Some i → Stands es i x
  found_at es x i e = placed es x i (nat_lt (prefix_len (λ k. not (test x k)) (keys_of es)) (length (keys_of es))) refl e

  -- a key stands where it is equal to that of an entry
  pub not_there : (es : List (Bor (List ℕ) × V)) (i : ℕ) (x : List ℕ) (k : Bor (List ℕ)) (v : V) → slice_get es i ≡ Some (k, v) → bytes_eq k.now x ≡ false → Stands es i x → ⊥
  not_there es i x k v at e s =
      let h : Some (s.key, s.value) ≡ Some (k, v) = sym s.at ∙ at in
      let g : (s.key, s.value) ≡ (k, v) = cc in
      let f : true ≡ false = sym s.is ∙ ap (λ (p : Bor (List ℕ) × V). bytes_eq p.0.now x) g ∙ e in
      absurd cc

  pub none_there : (es : List (Bor (List ℕ) × V)) (i : ℕ) (x : List ℕ) → slice_get es i ≡ None → Stands es i x → ⊥
  none_there es i x e s = let h : Some (s.key, s.value) ≡ None = sym s.at ∙ e in absurd cc

  -- one value stands at a place
  pub one_there : (es : List (Bor (List ℕ) × V)) (i : ℕ) (x : List ℕ) (v w : V) (k : Bor (List ℕ)) → slice_get es i ≡ Some (k, w) → IsAt es i x v → v ≡ w
  one_there es i x v w k at s = let h : Some (s.key, v) ≡ Some (k, w) = sym s.at ∙ at in let g : (s.key, v) ≡ (k, w) = cc in ap (λ (p : Bor (List ℕ) × V). p.1) g
