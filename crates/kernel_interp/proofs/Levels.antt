-- The layers of an accumulator from a level on.
use Rattle.std.proofs.Common.{◌≡◌, ℕ, zero, suc, ◌+◌, ◌<◌, ◌≤◌, List, [], ◌∷◌, drop, length, get_or, Option, Some, None, slice_get, refl, sym, ap, ◌∙◌, arith, add-one, Bor}
use Rattle.tor_terms.specs.Plain.{Form}
use Rattle.qbs_base.specs.declared.scalar.Row.{Row}
use Rattle.kernel_lang.specs.Plain.{Accumulator}
use Rattle.kernel_lang.specs.Running.{layer, layers, layers_of}
use Rattle.kernel_interp.specs.Reading.{guard_at, rows_seen}

pub layers_at : (chain : List ℕ) (guards : List (Option Form)) (n j : ℕ) → slice_get chain n ≡ Some j → drop n (layers chain guards) ≡ layer j (guard_at guards n) ∷ drop (suc n) (layers chain guards)
layers_at [] guards n j e = absurd cc
layers_at (i ∷ is) [] zero j e = let f : i ≡ j = cc in ap (λ (m : ℕ). layer m None ∷ layers is []) f
layers_at (i ∷ is) (g ∷ gs) zero j e = let f : i ≡ j = cc in ap (λ (m : ℕ). layer m g ∷ layers is gs) f
layers_at (i ∷ is) [] (suc n) j e = layers_at is [] n j e
layers_at (i ∷ is) (g ∷ gs) (suc n) j e = layers_at is gs n j e

pub layers_end : (chain : List ℕ) (guards : List (Option Form)) (n : ℕ) → slice_get chain n ≡ None → drop n (layers chain guards) ≡ []
layers_end [] guards zero e = refl
layers_end [] guards (suc n) e = refl
layers_end (i ∷ is) guards zero e = absurd cc
layers_end (i ∷ is) [] (suc n) e = layers_end is [] n e
layers_end (i ∷ is) (g ∷ gs) (suc n) e = layers_end is gs n e

there : (xs : List ℕ) (n j : ℕ) → n < length xs → j ≡ get_or xs n j → slice_get xs n ≡ Some j
there [] n j h e = absurd (omega arith)
there (x ∷ xs) zero j h e = ap (λ (m : ℕ). Some m) (sym e)
there (x ∷ xs) (suc n) j h e = there xs n j (omega arith) e

past : (xs : List ℕ) (n : ℕ) → length xs ≤ n → slice_get xs n ≡ None
past [] n h = refl
past (x ∷ xs) zero h = absurd (omega arith)
past (x ∷ xs) (suc n) h = past xs n (omega arith)

-- the layers of an accumulator from a level on, by what its chain has there
pub level_there : (a : Accumulator) (chain : List ℕ) (n j : ℕ) → chain ≡ a.chain → n < length chain → j ≡ get_or chain n j → drop n (layers_of a) ≡ layer j (guard_at a.guards n) ∷ drop (n + 1) (layers_of a)
level_there a chain n j c h e =
    layers_at a.chain a.guards n j (ap (λ (js : List ℕ). slice_get js n) (sym c) ∙ there chain n j h e)
    ∙ ap (λ (m : ℕ). layer j (guard_at a.guards n) ∷ drop m (layers_of a)) (sym (add-one n))

pub level_past : (a : Accumulator) (chain : List ℕ) (n : ℕ) → chain ≡ a.chain → length chain ≤ n → drop n (layers_of a) ≡ []
level_past a chain n c h = layers_end a.chain a.guards n (ap (λ (js : List ℕ). slice_get js n) (sym c) ∙ past chain n h)

-- rows that are left after all
pub seen_end : (rows : List (Bor Row)) (i : ℕ) → length rows ≤ i → rows_seen (drop i rows) ≡ []
seen_end [] zero h = refl
seen_end [] (suc i) h = refl
seen_end (r ∷ rows) zero h = absurd (omega arith)
seen_end (r ∷ rows) (suc i) h = seen_end rows i (omega arith)
