-- What the loops keep over many that are made into one thing, and over columns up to a last one or a key clause.
use Rattle.std.proofs.Common.{◌≡◌, ℕ, suc, ◌+◌, ◌-◌, ◌<◌, ◌≤◌, Bool, true, false, List, [], ◌∷◌, ◌++◌, length, Ok, Err, refl, sym, ap, ◌∙◌, append_assoc, arith}
use Rattle.std.proofs.lemmas.List.{append-nil}
use Rattle.readers.specs.declared.fault.ReadError.{ReadError}
use Rattle.readers.specs.declared.fault.ReadError.TheVariants as errors
use Rattle.readers.specs.Reading.{◌>>=◌, Read, Fails, is_over, up_to, many, made}
use Rattle.readers.proofs.Loops.{put}
use Rattle.qbs_base.specs.declared.columns.Column.{Column}
use Rattle.schema.specs.declared.draft.Item.{Item}
use Rattle.schema.specs.declared.draft.Item.TheVariants as items
use Rattle.schema.specs.Series.{series_up_to, series}

-- many are read, and made into one thing
abbrev pub fold : {T A B : Type 0} → (T → Bool) → (List T → Read T A) → (List A → B) → ℕ → List T → Read T B
fold stop r f n ts = made f (up_to stop r n) ts

abbrev made_of : {T A B : Type 0} → (List A → B) → Read T (List A) → Read T B
made_of f read = read >>= λ x. Ok (f x.0, x.1)

makes : {T A B : Type 0} (f : List A → B) (x : A) (read : Read T (List A)) → made_of f (put x read) ≡ made_of (λ xs. f (x ∷ xs)) read
makes f x (Ok xs) = refl
makes f x (Err e) = refl

pub fold_begins : {T A B : Type 0} (stop : T → Bool) (r : List T → Read T A) (f : List A → B) (count : ℕ) (ts : List T) → length ts ≡ count → fold stop r f (count - 0) ts ≡ made f (many stop r) ts
fold_begins stop r f count ts e =
    let k : count - 0 ≡ length ts = omega arith in
    ap (λ (n : ℕ). fold stop r f n ts) k

-- after i of count turns, before the tokens ts
module _ {T A B : Type 0} (stop : T → Bool) (r : List T → Read T A) (f : List A → B) (count i : ℕ) (ts : List T) (total : Read T B) where
  pub fold_goes_on : (us : List T) (x : A) → i < count → is_over stop ts ≡ false → r ts ≡ Ok (x, us)
      → fold stop r f (count - i) ts ≡ total → fold stop r (λ xs. f (x ∷ xs)) (count - (i + 1)) us ≡ total
  unfolding up_to
  fold_goes_on us x lt going read so_far =
      let k : count - i ≡ suc (count - (i + 1)) = omega arith in
      let one : fold stop r f (count - i) ts ≡ fold stop r (λ xs. f (x ∷ xs)) (count - (i + 1)) us = rw (k, going, read) (makes f x (up_to stop r (count - (i + 1)) us)) in
      sym one ∙ so_far

  pub fold_fails : (e : ReadError) → i < count → is_over stop ts ≡ false → Fails e (r ts) → fold stop r f (count - i) ts ≡ total → Fails e total
  unfolding up_to
  fold_fails errors.Memory lt going read so_far = tt
  fold_fails (errors.Fault fault) lt going read so_far =
      let k : count - i ≡ suc (count - (i + 1)) = omega arith in
      let one : fold stop r f (count - i) ts ≡ Err fault = rw (k, going, read) refl in
      sym so_far ∙ one

  pub fold_stops : i < count → is_over stop ts ≡ true → fold stop r f (count - i) ts ≡ total → total ≡ Ok (f [], ts)
  unfolding up_to
  fold_stops lt over so_far =
      let k : count - i ≡ suc (count - (i + 1)) = omega arith in
      let one : fold stop r f (count - i) ts ≡ Ok (f [], ts) = rw (k, over) refl in
      sym so_far ∙ one

  pub fold_runs_out : count ≤ i → fold stop r f (count - i) ts ≡ total → total ≡ Ok (f [], ts)
  unfolding up_to
  fold_runs_out le so_far =
      let k : count - i ≡ 0 = omega arith in
      let one : fold stop r f (count - i) ts ≡ Ok (f [], ts) = rw k refl in
      sym so_far ∙ one

-- ---- columns up to a last one or a key clause

abbrev pub Said : Type 0
Said = List Column × List (List ℕ)

abbrev pub with_columns : {T : Type 0} → List Column → Read T Said → Read T Said
with_columns front read = read >>= λ x. Ok ((front ++ x.0.0, x.0.1), x.1)

regroup : {T : Type 0} (front : List Column) (c : Column) (read : Read T Said) → with_columns front (read >>= λ cs. Ok ((c ∷ cs.0.0, cs.0.1), cs.1)) ≡ with_columns (front ++ c ∷ []) read
regroup front c (Ok x) = ap (λ (cs : List Column). Ok ((cs, x.0.1), x.1)) (sym (append_assoc front (c ∷ []) x.0.0))
regroup front c (Err e) = refl

pub series_begins : {T : Type 0} (stop : T → Bool) (r : List T → Read T Item) (front : List Column) (count : ℕ) (ts : List T) → length ts ≡ count
    → with_columns front (series_up_to stop r (count - 0) ts) ≡ with_columns front (series stop r ts)
series_begins stop r front count ts e =
    let k : count - 0 ≡ length ts = omega arith in
    ap (λ (n : ℕ). with_columns front (series_up_to stop r n ts)) k

module _ {T : Type 0} (stop : T → Bool) (r : List T → Read T Item) (front : List Column) (count i : ℕ) (ts : List T) (total : Read T Said) where
  pub series_goes_on : (c : Column) (us : List T) → i < count → is_over stop ts ≡ false → r ts ≡ Ok (items.Column c, us)
      → with_columns front (series_up_to stop r (count - i) ts) ≡ total → with_columns (front ++ c ∷ []) (series_up_to stop r (count - (i + 1)) us) ≡ total
  unfolding series_up_to
  series_goes_on c us lt going read so_far =
      let k : count - i ≡ suc (count - (i + 1)) = omega arith in
      let one : with_columns front (series_up_to stop r (count - i) ts) ≡ with_columns (front ++ c ∷ []) (series_up_to stop r (count - (i + 1)) us) = rw (k, going, read) (regroup front c (series_up_to stop r (count - (i + 1)) us)) in
      sym one ∙ so_far

  pub series_fails : (e : ReadError) → i < count → is_over stop ts ≡ false → Fails e (r ts) → with_columns front (series_up_to stop r (count - i) ts) ≡ total → Fails e total
  unfolding series_up_to
  series_fails errors.Memory lt going read so_far = tt
  series_fails (errors.Fault f) lt going read so_far =
      let k : count - i ≡ suc (count - (i + 1)) = omega arith in
      let one : with_columns front (series_up_to stop r (count - i) ts) ≡ Err f = rw (k, going, read) refl in
      sym so_far ∙ one

  pub series_stops : i < count → is_over stop ts ≡ true → with_columns front (series_up_to stop r (count - i) ts) ≡ total → total ≡ Ok ((front, []), ts)
  unfolding series_up_to
  series_stops lt over so_far =
      let k : count - i ≡ suc (count - (i + 1)) = omega arith in
      let one : with_columns front (series_up_to stop r (count - i) ts) ≡ Ok ((front, []), ts) = rw (k, over) (ap (λ (cs : List Column). Ok ((cs, []), ts)) (append-nil front)) in
      sym so_far ∙ one

  -- a key clause is read
  pub series_ends : (names : List (List ℕ)) (us : List T) → i < count → is_over stop ts ≡ false → r ts ≡ Ok (items.Key names, us)
      → with_columns front (series_up_to stop r (count - i) ts) ≡ total → total ≡ Ok ((front, names), us)
  unfolding series_up_to
  series_ends names us lt going read so_far =
      let k : count - i ≡ suc (count - (i + 1)) = omega arith in
      let one : with_columns front (series_up_to stop r (count - i) ts) ≡ Ok ((front, names), us) = rw (k, going, read) (ap (λ (cs : List Column). Ok ((cs, names), us)) (append-nil front)) in
      sym so_far ∙ one

  pub series_runs_out : count ≤ i → with_columns front (series_up_to stop r (count - i) ts) ≡ total → total ≡ Ok ((front, []), ts)
  unfolding series_up_to
  series_runs_out le so_far =
      let k : count - i ≡ 0 = omega arith in
      let one : with_columns front (series_up_to stop r (count - i) ts) ≡ Ok ((front, []), ts) = rw k (ap (λ (cs : List Column). Ok ((cs, []), ts)) (append-nil front)) in
      sym so_far ∙ one
