-- A bank and one more item.
use Rattle.std.proofs.Common.{◌≡◌, ℕ, ◌<◌, ◌≤◌, Bool, true, false, ◌||◌, List, [], ◌∷◌, ◌++◌, length, nat_le, refl, sym, ap, subst, ◌∙◌, arith, inl, inr}
use Rattle.std.specs.List.{list_any}
use Rattle.std.proofs.lemmas.Bool.Decides.{nat_tests}
use Rattle.small_dbs.specs.declared.small.SmallDb.{SmallDb}
use Rattle.proof_store.specs.Banks.{Refuses, Puts, put}
use Rattle.proof_store.specs.Same.{same_item}
use Rattle.proof_store.proofs.Equal.{is_among, among_is}

not_full : (n : ℕ) → nat_le 256 n ≡ false → n < 256
not_full n e = grind (arith, nat_tests, e)

full : (n : ℕ) → nat_le 256 n ≡ true → 256 ≤ n
full n e = grind (arith, nat_tests, e)

is_free : (items : List SmallDb) (s : SmallDb) → nat_le 256 (length items) ≡ false → list_any (same_item s) items ≡ false → Refuses items s → ⊥
is_free items s e n (inl c) = let h : list_any (same_item s) items ≡ true = among_is s items c in cc
is_free items s e n (inr l) = let k : length items < 256 = not_full (length items) e in let m : 256 ≤ length items = l in omega (arith, k, m)

is_full : (items : List SmallDb) (s : SmallDb) → nat_le 256 (length items) ≡ true → Refuses items s
is_full items s e = inr (full (length items) e)

module _ (b : Bool) (xs items : List SmallDb) (s : SmallDb) (asked : b ≡ (nat_le 256 (length xs) || list_any (same_item s) xs)) (same : xs ≡ items) where
  pub does_refuse : b ≡ true → Refuses items s
  does_refuse e = subst (λ (ys : List SmallDb). Refuses ys s) same (go (nat_le 256 (length xs)) refl (sym asked ∙ e))
    where
      go : (a : Bool) → nat_le 256 (length xs) ≡ a → (a || list_any (same_item s) xs) ≡ true → Refuses xs s
      go true f h = is_full xs s f
      go false f h = inl (is_among s xs h)

  pub takes_it : b ≡ false → Refuses items s → ⊥
  takes_it e r = go (nat_le 256 (length xs)) (list_any (same_item s) xs) refl refl (sym asked ∙ e)
    where
      go : (a d : Bool) → nat_le 256 (length xs) ≡ a → list_any (same_item s) xs ≡ d → (a || d) ≡ false → ⊥
      go true d f g h = cc
      go false true f g h = cc
      go false false f g h = is_free xs s f g (subst (λ (ys : List SmallDb). Refuses ys s) (sym same) r)

pub was_put : (items own : List SmallDb) (s : SmallDb) (end : List SmallDb) → own ≡ items → end ≡ own ++ s ∷ [] → (Refuses items s → ⊥) → Puts items s end
was_put items own s end same e n = subst (Puts items s) (sym (e ∙ ap (λ (xs : List SmallDb). xs ++ s ∷ []) same)) (put n)
