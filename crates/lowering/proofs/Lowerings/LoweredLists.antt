-- The lists of loops one by one.
use Rattle.std.specs.Prelude.{List, [], ◌∷◌, ◌++◌, Bool, ℕ}
use Rattle.std.proofs.Common.{◌≡◌, refl, sym, append_assoc, ◌⊎◌, inl, inr, ap, ◌∙◌}
use Rattle.std.proofs.lemmas.List.{append-nil}
use Rattle.qbs_base.specs.declared.columns.Column.{Column}
use Rattle.kernel_lang.specs.declared.parts.Col.{Col}
use Rattle.java_loops.specs.Lowering.Lowered.{keys_of}

pub ruleset lowered_lists = (append_assoc)

no_downs : (columns : List Column) (names : List (List ℕ)) → keys_of columns names [] ≡ []
no_downs columns [] = refl
no_downs columns (x ∷ names) = refl

-- keys end with the names or with the directions
no_keys : (columns : List Column) (names : List (List ℕ)) (downs : List Bool) → (names ≡ []) ⊎ (downs ≡ []) → keys_of columns names downs ≡ []
no_keys columns names downs (inl e) = ap (λ xs. keys_of columns xs downs) e
no_keys columns names downs (inr e) = ap (λ xs. keys_of columns names xs) e ∙ no_downs columns names

pub keys_end : (columns : List Column) (cols : List Col) (names : List (List ℕ)) (downs : List Bool) (end : List Col) → (names ≡ []) ⊎ (downs ≡ []) → cols ++ keys_of columns names downs ≡ end → cols ≡ end
keys_end columns cols names downs end done h = sym (append-nil cols) ∙ ap (λ (ks : List Col). cols ++ ks) (sym (no_keys columns names downs done)) ∙ h
