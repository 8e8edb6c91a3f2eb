-- Lists to which something is appended.
use Rattle.std.proofs.Common.{◌≡◌, ℕ, zero, suc, ◌<◌, Bool, true, false, ◌||◌, List, [], ◌∷◌, ◌++◌, length, take, refl, sym, ap, ◌∙◌, subst, arith, ◌⊎◌, inl, inr}
use Rattle.std.specs.List.{slice_get, list_any}
use Rattle.std.specs.declared.option.Option.TheVariants.{Some, None}
use Rattle.std.proofs.lemmas.List.{append_assoc, append-nil}
use Rattle.tor_terms.specs.Plain.{Tree}
use Rattle.tor_terms.specs.Same.{same_tree}
use Rattle.term_bank.specs.Banks.{Holds, IsFrontOf, has_term}
use Rattle.term_bank.proofs.Same.{same_tree-self}

pub front_self : (ts : List Tree) → IsFrontOf ts ts
front_self ts = ([], sym (append-nil ts))

pub front_of : (a b c : List Tree) → IsFrontOf a b → IsFrontOf b c → IsFrontOf a c
front_of a b c p q = (p.0 ++ q.0, q.1 ∙ ap (λ x. x ++ q.0) p.1 ∙ append_assoc a p.0 q.0)

pub get_front : (ts more : List Tree) (n : ℕ) (t : Tree) → slice_get ts n ≡ Some t → slice_get (ts ++ more) n ≡ Some t
get_front [] more n t e = absurd cc
get_front (u ∷ ts) more zero t e = e
get_front (u ∷ ts) more (suc n) t e = get_front ts more n t e

pub held_on : (a b : List Tree) (t : Tree) → IsFrontOf a b → Holds a t → Holds b t
held_on a b t p h = (h.0, subst (λ x. slice_get x h.0 ≡ Some t) (sym p.1) (get_front a p.0 h.0 t h.1))

-- what stands at a place is old, or the new one
pub get_behind : (ts : List Tree) (x : Tree) (n : ℕ) (t : Tree) → slice_get (ts ++ x ∷ []) n ≡ Some t → ((n < length ts) × (slice_get ts n ≡ Some t)) ⊎ ((n ≡ length ts) × (x ≡ t))
get_behind [] x zero t e = inr (refl, some_is x t e)
  where
    some_is : (x t : Tree) → Some x ≡ Some t → x ≡ t
    some_is x t e = ap (λ o. elim o [ Some y ↦ y | None ↦ x ]) e
get_behind [] x (suc n) t e = absurd cc
get_behind (u ∷ ts) x zero t e = inl (omega arith, e)
get_behind (u ∷ ts) x (suc n) t e = elim (get_behind ts x n t e) [
  | inl h ↦ inl (omega (arith, h.0), h.1)
  | inr h ↦ inr (omega (arith, h.0), h.1)
]

pub take_front : (ts : List Tree) (x : Tree) (n : ℕ) → n < length ts → take n (ts ++ x ∷ []) ≡ take n ts
take_front [] x n l = absurd (omega (arith, l))
take_front (u ∷ ts) x zero l = refl
take_front (u ∷ ts) x (suc n) l = ap (λ r. u ∷ r) (take_front ts x n (omega (arith, l)))

pub take_old : (ts more : List Tree) → take (length ts) (ts ++ more) ≡ ts
take_old [] more = refl
take_old (u ∷ ts) more = ap (λ r. u ∷ r) (take_old ts more)

either_test : (a b : Bool) → b ≡ true → (a || b) ≡ true
either_test true b q = refl
either_test false b q = q

pub has_at : (ts : List Tree) (n : ℕ) (t : Tree) → slice_get ts n ≡ Some t → has_term ts t ≡ true
has_at [] n t e = absurd cc
has_at (u ∷ ts) zero t e = subst (λ x. (same_tree t x || list_any (same_tree t) ts) ≡ true) (sym (some_is u t e)) (one_test (same_tree t t) (list_any (same_tree t) ts) (same_tree-self t))
  where
    some_is : (x t : Tree) → Some x ≡ Some t → x ≡ t
    some_is x t e = ap (λ o. elim o [ Some y ↦ y | None ↦ x ]) e

    one_test : (a b : Bool) → a ≡ true → (a || b) ≡ true
    one_test true b p = refl
    one_test false b p = cc
has_at (u ∷ ts) (suc n) t e = either_test (same_tree t u) (list_any (same_tree t) ts) (has_at ts n t e)

has_further : (p : Bool) (b c : Bool) → (b ≡ true → c ≡ true) → (p || b) ≡ true → (p || c) ≡ true
has_further true b c f h = refl
has_further false b c f h = f h

pub has_on : (ts more : List Tree) (t : Tree) → has_term ts t ≡ true → has_term (ts ++ more) t ≡ true
has_on [] more t h = cc
has_on (u ∷ ts) more t h = has_further (same_tree t u) (list_any (same_tree t) ts) (list_any (same_tree t) (ts ++ more)) (has_on ts more t) h

pub get_last : (ts : List Tree) (t : Tree) → slice_get (ts ++ t ∷ []) (length ts) ≡ Some t
get_last [] t = refl
get_last (u ∷ ts) t = get_last ts t
