-- What is read is put into something, one after another: a step of it.
use Rattle.std.proofs.Common.{◌≡◌, ℕ, suc, ◌-◌, ◌<◌, List, [], ◌∷◌, ◌++◌, length, Ok, Err, refl, sym, ap, ◌∙◌, append_assoc, append-nil, arith}
use Rattle.readers.specs.declared.fault.ReadError.{ReadError}
use Rattle.readers.specs.declared.fault.ReadError.TheVariants as errors
use Rattle.readers.specs.Reading.{◌>>=◌, Read, Fails, both, made}
use Rattle.qbs_base.specs.declared.columns.Column.{Column}
use Rattle.qbs_base.specs.declared.scalar.Scalar.{Scalar}
use Rattle.qbs_base.specs.declared.scalar.Ty.{Ty}
use Rattle.std.proofs.Common.{Some, None}
use Rattle.text_readers.specs.Bytes.{Reader}
use Rattle.scalar_readers.specs.Scalars.{ty_of}
use Rattle.store_readers.specs.Reading.{times, spaced_at, cells_at, members_at}
use Rattle.store_readers.specs.Into.{into, read_into, pushed}

-- into nothing
into_pushed : {A : Type 0} (front xs : List A) → into pushed front xs ≡ front ++ xs
into_pushed front [] = sym (append-nil front)
into_pushed front (x ∷ xs) = into_pushed (front ++ x ∷ []) xs ∙ append_assoc front (x ∷ []) xs

pub fresh : {A : Type 0} (read : Read ℕ (List A)) → read_into pushed [] read ≡ read
fresh {A} (Ok x) = ap (λ (xs : List A). Ok (xs, x.1)) (into_pushed [] x.0)
fresh (Err e) = refl

abbrev paired : {A : Type 0} → A → Read ℕ (List A) → Read ℕ (A × List A)
paired x read = read >>= λ y. Ok ((x, y.0), y.1)

abbrev joined : {A : Type 0} → Read ℕ (A × List A) → Read ℕ (List A)
joined read = read >>= λ z. Ok (z.0.0 ∷ z.0.1, z.1)

-- one, and then the others
both_on : {S A : Type 0} (put : S → A → S) (s : S) (x : A) (read : Read ℕ (List A)) → read_into put s (joined (paired x read)) ≡ read_into put (put s x) read
both_on put s x (Ok y) = refl
both_on put s x (Err e) = refl

module _ {S A : Type 0} (put : S → A → S) (s : S) (r : Reader A) (count : ℕ) (ts : List ℕ) (some : 0 < count) where
  pub times_on : (x : A) (us : List ℕ) → r ts ≡ Ok (x, us) → read_into put s (times count r ts) ≡ read_into put (put s x) (times (count - 1) r us)
  unfolding times
  times_on x us read =
      let k : count ≡ suc (count - 1) = omega (arith, some) in
      let one : read_into put s (times (suc (count - 1)) r ts) ≡ read_into put (put s x) (times (count - 1) r us) = rw read (both_on put s x (times (count - 1) r us)) in
      ap (λ (n : ℕ). read_into put s (times n r ts)) k ∙ one

  pub times_fail : (e : ReadError) → Fails e (r ts) → Fails e (read_into put s (times count r ts))
  unfolding times
  times_fail errors.Memory read = tt
  times_fail (errors.Fault f) read =
      let k : count ≡ suc (count - 1) = omega (arith, some) in
      let one : read_into put s (times (suc (count - 1)) r ts) ≡ Err f = rw read refl in
      ap (λ (n : ℕ). read_into put s (times n r ts)) k ∙ one

pub times_none : {S A : Type 0} (put : S → A → S) (s : S) (r : Reader A) (count : ℕ) (ts : List ℕ) → count ≡ 0 → read_into put s (times count r ts) ≡ Ok (s, ts)
unfolding times
times_none put s r count ts none = rw none refl

-- ---- cells

pub cells_none : {S : Type 0} (put : S → Scalar → S) (s : S) (all : List Column) (ts : List ℕ) → length all ≡ 0 → read_into put s (cells_at all ts) ≡ Ok (s, ts)
unfolding cells_at
cells_none put s [] ts none = refl
cells_none put s (c ∷ cs) ts none = let q : suc (length cs) ≡ 0 = none in absurd (omega (arith, q))

module _ {S : Type 0} (put : S → Scalar → S) (s : S) (cs all : List Column) (ts : List ℕ) where
  pub cells_on : (c : Column) (x : Scalar) (us : List ℕ) → all ≡ c ∷ cs → spaced_at (Some c.ty) ts ≡ Ok (x, us) → read_into put s (cells_at all ts) ≡ read_into put (put s x) (cells_at cs us)
  unfolding cells_at
  cells_on c x us is read = ap (λ (l : List Column). read_into put s (cells_at l ts)) is ∙ rw read (both_on put s x (cells_at cs us))

  pub cells_fail : (c : Column) (e : ReadError) → all ≡ c ∷ cs → Fails e (spaced_at (Some c.ty) ts) → Fails e (read_into put s (cells_at all ts))
  unfolding cells_at
  cells_fail c errors.Memory is read = tt
  cells_fail c (errors.Fault f) is read = ap (λ (l : List Column). read_into put s (cells_at l ts)) is ∙ rw read refl

-- ---- members of a known list

module _ {S : Type 0} (put : S → Scalar → S) (s : S) (count : ℕ) (ts : List ℕ) (some : 0 < count) where
  pub members_on : (x : Scalar) (us : List ℕ) → spaced_at None ts ≡ Ok (x, us) → read_into put s (members_at count ts) ≡ read_into put (put s x) (times (count - 1) (spaced_at (Some (ty_of x))) us)
  unfolding members_at
  members_on x us read =
      let k : count ≡ suc (count - 1) = omega (arith, some) in
      let one : read_into put s (members_at (suc (count - 1)) ts) ≡ read_into put (put s x) (times (count - 1) (spaced_at (Some (ty_of x))) us) = rw read (both_on put s x (times (count - 1) (spaced_at (Some (ty_of x))) us)) in
      ap (λ (n : ℕ). read_into put s (members_at n ts)) k ∙ one

  pub members_fail : (e : ReadError) → Fails e (spaced_at None ts) → Fails e (read_into put s (members_at count ts))
  unfolding members_at
  members_fail errors.Memory read = tt
  members_fail (errors.Fault f) read =
      let k : count ≡ suc (count - 1) = omega (arith, some) in
      let one : read_into put s (members_at (suc (count - 1)) ts) ≡ Err f = rw read refl in
      ap (λ (n : ℕ). read_into put s (members_at n ts)) k ∙ one

pub members_none : {S : Type 0} (put : S → Scalar → S) (s : S) (count : ℕ) (ts : List ℕ) → count ≡ 0 → read_into put s (members_at count ts) ≡ Ok (s, ts)
unfolding members_at
members_none put s count ts none = rw none refl
