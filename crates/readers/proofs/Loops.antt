-- What loops over many of one kind keep.
use Rattle.std.proofs.Common.{◌≡◌, ℕ, suc, ◌+◌, ◌-◌, ◌<◌, ◌≤◌, Bool, true, false, List, [], ◌∷◌, ◌++◌, length, Ok, Err, refl, sym, ap, ◌∙◌, append_assoc, arith}
use Rattle.std.proofs.lemmas.List.{append-nil}
use Rattle.readers.specs.declared.fault.ReadError.{ReadError}
use Rattle.readers.specs.declared.fault.ReadError.TheVariants as errors
use Rattle.readers.specs.Reading.{◌>>=◌, Read, Fails, is_over, up_to, many}

-- behind those that were read before
abbrev pub with_front : {T A : Type 0} → List A → Read T (List A) → Read T (List A)
with_front front read = read >>= λ xs. Ok (front ++ xs.0, xs.1)

abbrev pub put : {T A : Type 0} → A → Read T (List A) → Read T (List A)
put x read = read >>= λ xs. Ok (x ∷ xs.0, xs.1)

pub regroup : {T A : Type 0} (front : List A) (x : A) (read : Read T (List A)) → with_front front (put x read) ≡ with_front (front ++ x ∷ []) read
regroup front x (Ok xs) = ap (λ (ys : List _). Ok (ys, xs.1)) (sym (append_assoc front (x ∷ []) xs.0))
regroup front x (Err e) = refl

with_front-nothing : {T A : Type 0} (read : Read T (List A)) → with_front [] read ≡ read
with_front-nothing (Ok xs) = refl
with_front-nothing (Err e) = refl

pub many_behind : {T A : Type 0} (stop : T → Bool) (r : List T → Read T A) (front : List A) (count : ℕ) (ts : List T) → length ts ≡ count → with_front front (up_to stop r (count - 0) ts) ≡ with_front front (many stop r ts)
many_behind stop r front count ts e =
    let k : count - 0 ≡ length ts = omega arith in
    ap (λ (n : ℕ). with_front front (up_to stop r n ts)) k

pub many_begin : {T A : Type 0} (stop : T → Bool) (r : List T → Read T A) (count : ℕ) (ts : List T) → length ts ≡ count → with_front [] (up_to stop r (count - 0) ts) ≡ many stop r ts
many_begin stop r count ts e = many_behind stop r [] count ts e ∙ with_front-nothing (many stop r ts)

-- after i of count turns, before the tokens ts
module _ {T A : Type 0} (stop : T → Bool) (r : List T → Read T A) (front : List A) (count i : ℕ) (ts : List T) (total : Read T (List A)) where
  pub many_go_on : (x : A) (us : List T) → i < count → is_over stop ts ≡ false → r ts ≡ Ok (x, us)
      → with_front front (up_to stop r (count - i) ts) ≡ total → with_front (front ++ x ∷ []) (up_to stop r (count - (i + 1)) us) ≡ total
  unfolding up_to
  many_go_on x us lt going read so_far =
      let k : count - i ≡ suc (count - (i + 1)) = omega arith in
      let one : with_front front (up_to stop r (count - i) ts) ≡ with_front (front ++ x ∷ []) (up_to stop r (count - (i + 1)) us) = rw (k, going, read) (regroup front x (up_to stop r (count - (i + 1)) us)) in
      sym one ∙ so_far

  pub many_fail : (e : ReadError) → i < count → is_over stop ts ≡ false → Fails e (r ts) → with_front front (up_to stop r (count - i) ts) ≡ total → Fails e total
  unfolding up_to
  many_fail errors.Memory lt going read so_far = tt
  many_fail (errors.Fault f) lt going read so_far =
      let k : count - i ≡ suc (count - (i + 1)) = omega arith in
      let one : with_front front (up_to stop r (count - i) ts) ≡ Err f = rw (k, going, read) refl in
      sym so_far ∙ one

  pub many_stop : i < count → is_over stop ts ≡ true → with_front front (up_to stop r (count - i) ts) ≡ total → total ≡ Ok (front, ts)
  unfolding up_to
  many_stop lt over so_far =
      let k : count - i ≡ suc (count - (i + 1)) = omega arith in
      let one : with_front front (up_to stop r (count - i) ts) ≡ Ok (front, ts) = rw (k, over) (ap (λ (xs : List A). Ok (xs, ts)) (append-nil front)) in
      sym so_far ∙ one

  pub many_run_out : count ≤ i → with_front front (up_to stop r (count - i) ts) ≡ total → total ≡ Ok (front, ts)
  unfolding up_to
  many_run_out le so_far =
      let k : count - i ≡ 0 = omega arith in
      let one : with_front front (up_to stop r (count - i) ts) ≡ Ok (front, ts) = rw k (ap (λ (xs : List A). Ok (xs, ts)) (append-nil front)) in
      sym so_far ∙ one
