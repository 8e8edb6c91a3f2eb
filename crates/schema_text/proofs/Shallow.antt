-- A reader of columns up to a last one or a key clause never finds anything too deep.
use Rattle.std.proofs.Common.{ℕ, zero, suc, Bool, List, [], ◌∷◌, length, Ok}
use Rattle.readers.specs.Reading.{◌>>=◌, Read, IsDeep, is_over}
use Rattle.readers.proofs.Shallow.{Shallow, shallow_bind, shallow_cond}
use Rattle.qbs_base.specs.declared.columns.Column.{Column}
use Rattle.schema.specs.declared.draft.Item.{Item}
use Rattle.schema.specs.declared.draft.Item.TheVariants as items
use Rattle.schema.specs.Series.{item_cases, series_up_to, series}
use Rattle.schema_text.proofs.Loops.{Said}

module _ {T : Type 0} (stop : T → Bool) where
  abbrev behind : (List T → Read T Item) → ℕ → Item × List T → Read T Said
  behind r n x = item_cases x.0 (λ c. series_up_to stop r n x.1 >>= λ cs. Ok ((c ∷ cs.0.0, cs.0.1), cs.1)) (λ names. Ok (([], names), x.1))

  item_shallow : (r : List T → Read T Item) (n : ℕ) → Shallow (series_up_to stop r n) → (o : Item) (us : List T) → IsDeep {A = Said × List T} (behind r n (o, us)) → ⊥
  item_shallow r n below (items.Key names) us d = d
  item_shallow r n below (items.Column c) us d = shallow_bind (series_up_to stop r n us) (λ cs. Ok ((c ∷ cs.0.0, cs.0.1), cs.1)) (below us) (λ cs e. e) d

  series_up_to_shallow : (r : List T → Read T Item) → Shallow r → (n : ℕ) → Shallow (series_up_to stop r n)
  unfolding series_up_to
  series_up_to_shallow r p zero ts d = d
  series_up_to_shallow r p (suc n) ts d =
      shallow_cond (is_over stop ts) (Ok (([], []), ts)) (r ts >>= behind r n) (λ e. e)
      (shallow_bind (r ts) (behind r n) (p ts) (λ x. item_shallow r n (series_up_to_shallow r p n) x.0 x.1)) d

  pub series_shallow : (r : List T → Read T Item) → Shallow r → Shallow (series stop r)
  series_shallow r p ts = series_up_to_shallow r p (length ts) ts
