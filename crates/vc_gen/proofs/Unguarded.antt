-- A loop behind the last guard has none.
use Rattle.std.proofs.Common.{◌≡◌, ℕ, List, [], ◌∷◌, ◌++◌, map, length, Result, Ok, Err, IfOk, sym, ap, ap₂, ◌∙◌, append_assoc, arith, refl}
use Rattle.std.proofs.lemmas.List.{map-append}
use Rattle.std.specs.declared.option.Option.{Option}
use Rattle.std.specs.declared.option.Option.TheVariants.{None}
use Rattle.tor_terms.specs.declared.term.Formula.{Formula}
use Rattle.kernel_lang.specs.Plain.{guard_of}
use Rattle.kernel_lang.specs.Running.{Layer, layer, layers}
use Rattle.vc_gen.specs.declared.level.Level.{Level}
use Rattle.vc_gen.specs.Levels.{layer_seen, layers_seen}

none_of : {X : Type 0} (xs : List X) → length xs ≡ 0 → xs ≡ []
none_of [] e = refl
none_of (x ∷ xs) e = absurd (omega (arith, e))

pub unguarded : {A E : Type 0} (chain loops : List ℕ) (gs : List (Option Formula)) (j : ℕ) (old mid : List Level) (x : Level) (new : List Level) (r : Result A E) → chain ≡ j ∷ loops → length gs ≡ 0 → mid ≡ old ++ x ∷ [] → layer_seen x ≡ layer j None
    → IfOk r (λ _. layers_seen new ≡ layers_seen mid ++ layers loops (map guard_of gs)) → IfOk r (λ _. layers_seen new ≡ layers_seen old ++ layers chain (map guard_of gs))
unguarded chain loops gs j old mid x new (Err y) ec eg em ex e = tt
unguarded chain loops gs j old mid x new (Ok y) ec eg em ex e =
    e
    ∙ ap (λ m. layers_seen m ++ layers loops (map guard_of gs)) em
    ∙ ap (λ m. m ++ layers loops (map guard_of gs)) (map-append layer_seen old (x ∷ []))
    ∙ append_assoc (layers_seen old) (layer_seen x ∷ []) (layers loops (map guard_of gs))
    ∙ ap (λ (z : Layer). layers_seen old ++ z ∷ layers loops (map guard_of gs)) ex
    ∙ ap (λ (g : List (Option Formula)). layers_seen old ++ layer j None ∷ layers loops (map guard_of g)) (none_of gs eg)
    ∙ sym (ap₂ (λ (c : List ℕ) (g : List (Option Formula)). layers_seen old ++ layers c (map guard_of g)) ec (none_of gs eg))
