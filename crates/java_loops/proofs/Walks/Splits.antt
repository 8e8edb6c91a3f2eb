-- A run in two parts, at a statement that sets a variable.
use Rattle.std.proofs.Common.{◌≡◌, ℕ, Bool, true, false, ◌||◌, List, [], ◌∷◌, ◌++◌, refl, sym, ap, ◌∙◌, cond}
use Rattle.std.specs.Prelude.{bytes_eq}
use Rattle.java_ast.specs.Tree.{Statement, Statements, Nothing, Then}
use Rattle.java_mean.proofs.Puts.{names_equal}
use Rattle.loop_text.specs.Statements.Fragment.{set_by}
use Rattle.java_loops.specs.Walks.Runs.{is_set_in, settings, SplitsAt}

head_of : (a b : Statement) (p q : List Statement) → a ∷ p ≡ b ∷ q → (a ≡ b) × (p ≡ q)
head_of a b p q e = (cc, cc)

-- ---- No statement

unset_step : (a : Statement) (p : Statements) (x : List ℕ) (b : Bool) → bytes_eq (set_by a) x ≡ b → (settings p x ≡ [] → is_set_in p x ≡ false) → cond b (a ∷ settings p x) (settings p x) ≡ [] → (b || is_set_in p x) ≡ false
unset_step a p x true e h n = absurd cc
unset_step a p x false e h n = h n

pub none_unset : (p : Statements) (x : List ℕ) → settings p x ≡ [] → is_set_in p x ≡ false
none_unset Nothing x h = refl
none_unset (Then a p) x h = unset_step a p x (bytes_eq (set_by a) x) refl (none_unset p x) h

-- ---- Some statement

later : (b : Statement) (p : Statements) (x : List ℕ) (first first' : List Statement) (a : Statement) (last : List Statement) → ((k : Statements) → settings k x ≡ first → settings (Then b k) x ≡ first') → SplitsAt p x first a last → SplitsAt (Then b p) x first' a last
later b p x first first' a last h s = record { before = Then b s.before; after = s.after; whole = ap (Then b) s.whole; sets = s.sets; first_set = h s.before s.first_set; last_set = s.last_set }

here : (b : Statement) (p : Statements) (x : List ℕ) (a : Statement) (last : List Statement) → bytes_eq (set_by b) x ≡ true → (b ≡ a) × (settings p x ≡ last) → SplitsAt (Then b p) x [] a last
here b p x a last e h = record { before = Nothing; after = p; whole = ap (λ s. Then s p) h.0; sets = ap set_by (sym h.0) ∙ names_equal (set_by b) x e; first_set = refl; last_set = h.1 }

split_step : (b : Statement) (p : Statements) (x : List ℕ) (first : List Statement) (a : Statement) (last : List Statement) (c : Bool) → bytes_eq (set_by b) x ≡ c → ((first : List Statement) → settings p x ≡ first ++ a ∷ last → SplitsAt p x first a last) → cond c (b ∷ settings p x) (settings p x) ≡ first ++ a ∷ last → SplitsAt (Then b p) x first a last
split_step b p x [] a last true e h n = here b p x a last e (head_of b a (settings p x) last n)
split_step b p x (f ∷ first) a last true e h n =
    let k = head_of b f (settings p x) (first ++ a ∷ last) n in
    later b p x first (f ∷ first) a last (λ q i. ap (λ z. cond z (b ∷ settings q x) (settings q x)) e ∙ ap (λ s. s ∷ settings q x) k.0 ∙ ap (λ s. f ∷ s) i) (h first k.1)
split_step b p x first a last false e h n = later b p x first first a last (λ q i. ap (λ z. cond z (b ∷ settings q x) (settings q x)) e ∙ i) (h first n)

no_settings : (x : List ℕ) (first : List Statement) (a : Statement) (last : List Statement) → [] ≡ first ++ a ∷ last → SplitsAt Nothing x first a last
no_settings x [] a last e = absurd cc
no_settings x (f ∷ first) a last e = absurd cc

pub splits : (p : Statements) (x : List ℕ) (first : List Statement) (a : Statement) (last : List Statement) → settings p x ≡ first ++ a ∷ last → SplitsAt p x first a last
splits Nothing x first a last e = no_settings x first a last e
splits (Then b p) x first a last e = split_step b p x first a last (bytes_eq (set_by b) x) refl (λ f n. splits p x f a last n) e
