-- Readers of columns up to a last one or a key clause.
use Rattle.std.specs.Prelude.{◌≡◌, ℕ, zero, suc, Bool, List, [], ◌∷◌, ◌++◌, length, Ok, ◌⊎◌, if◌then◌else◌}
use Rattle.readers.specs.Reading.{◌>>=◌, Read, is_over}
use Rattle.qbs_base.specs.declared.columns.Column.{Column}
use Rattle.schema.specs.declared.draft.Item.{Item}
use Rattle.schema.specs.declared.draft.Item.TheVariants as items

abbrev pub item_cases : {B : Type 0} → Item → (Column → B) → (List (List ℕ) → B) → B
item_cases (items.Column c) f g = f c
item_cases (items.Key names) f g = g names

-- columns, up to a token that passes stop, to the end, or to a key clause, which is the last; and the names of the key clause
unfoldable pub series_up_to : {T : Type 0} → (T → Bool) → (List T → Read T Item) → ℕ → List T → Read T (List Column × List (List ℕ))
series_up_to stop r zero ts = Ok (([], []), ts)
series_up_to stop r (suc n) ts =
    if is_over stop ts then Ok (([], []), ts)
    else (r ts >>= λ x. item_cases x.0 (λ c. series_up_to stop r n x.1 >>= λ cs. Ok ((c ∷ cs.0.0, cs.0.1), cs.1)) (λ names. Ok (([], names), x.1)))

-- each takes a token at least, so there are no more than tokens
abbrev pub series : {T : Type 0} → (T → Bool) → (List T → Read T Item) → List T → Read T (List Column × List (List ℕ))
series stop r ts = series_up_to stop r (length ts) ts

abbrev pub HasSeries : {T : Type 0} → (List T → Item → Type 0) → List T → List Column → List (List ℕ) → Type 0
HasSeries Has ts [] names = ((ts ≡ []) × (names ≡ [])) ⊎ Has ts (items.Key names)
HasSeries Has ts (c ∷ cs) names = (us : List _) × (vs : List _) × (ts ≡ us ++ vs) × Has us (items.Column c) × HasSeries Has vs cs names
