-- What is known of databases, one after another.
use Rattle.std.proofs.Common.{◌≡◌, ◌↔◌, ℕ, zero, suc, ◌+◌, ◌<◌, ◌≤◌, Bool, true, false, not, ◌&&◌, IsTrue, List, [], ◌∷◌, length, drop, get_or, slice_get, nat_eq, ◌⊎◌, inl, inr, refl, sym, ap, subst, ◌∙◌, arith, eqb-true, eq-eqb}
use Rattle.std.specs.Prelude.{IfOk}
use Rattle.std.specs.declared.option.Option.{Option}
use Rattle.std.specs.declared.option.Option.TheVariants.{Some, None}
use Rattle.std.specs.declared.result.Result.{Result}
use Rattle.std.specs.declared.result.Result.TheVariants.{Ok, Err}
use Rattle.qbs_base.specs.declared.memory.NoMemory.{NoMemory}
use Rattle.qbs_base.specs.declared.scalar.Scalar.{Scalar}
use Rattle.qbs_base.specs.declared.scalar.Scalar.TheVariants as scalars
use Rattle.qbs_base.specs.declared.scalar.Ty.{Ty}
use Rattle.qbs_base.specs.declared.scalar.Ty.TheVariants as tys
use Rattle.qbs_base.specs.declared.scalar.Value.{Value}
use Rattle.qbs_base.specs.Values.{AreOf, HasTy}
use Rattle.kernel_interp.specs.Fits.{rest_fits}
use Rattle.kernel_interp.proofs.Fitting.{all_fit}
use Rattle.kernel_lang.specs.Fitting.{PartsFit}
use Rattle.kernel_lang.specs.Plain.{Fragment}
use Rattle.kernel_lang.specs.Postcondition.{postconditions}
use Rattle.kernel_lang.specs.Refuted.{Refutes}
use Rattle.kernel_lang.specs.Running.{fragment_end}
use Rattle.small_dbs.specs.declared.small.SmallDb.{SmallDb}
use Rattle.small_dbs.specs.Endings.{has_type, have_types, fits_there, if_fits, ending, IfRefutes, RefutesAt}
use Rattle.small_dbs.specs.Pruned.{OneRefutes}

-- ---- the test of fitting

both_left : (a b : Bool) → (a && b) ≡ true → a ≡ true
both_left true b h = refl
both_left false b h = h

both_right : (a b : Bool) → (a && b) ≡ true → b ≡ true
both_right true b h = h
both_right false b h = cc

both_true : (a b : Bool) → a ≡ true → b ≡ true → (a && b) ≡ true
both_true true b p q = q
both_true false b p q = cc

is_of : (ty : Ty) (x : Scalar) → has_type ty x ≡ true → HasTy ty x
is_of tys.Long (scalars.Long n) h = h
is_of tys.Bool (scalars.Bool b) h = tt
is_of tys.Text (scalars.Text t) h = tt
is_of _ _ h = absurd cc

seen_of : (ty : Ty) (x : Scalar) → HasTy ty x → has_type ty x ≡ true
seen_of tys.Long (scalars.Long n) h = h
seen_of tys.Bool (scalars.Bool b) h = refl
seen_of tys.Text (scalars.Text t) h = refl
seen_of _ _ h = absurd h

are_of : (types : List Ty) (xs : List Scalar) → have_types types xs ≡ true → AreOf types xs
are_of [] [] h = tt
are_of (ty ∷ types) (x ∷ xs) h = (is_of ty x (both_left (has_type ty x) (have_types types xs) h), are_of types xs (both_right (has_type ty x) (have_types types xs) h))
are_of [] (x ∷ xs) h = absurd cc
are_of (ty ∷ types) [] h = absurd cc

all_seen : (types : List Ty) (xs : List Scalar) → AreOf types xs → have_types types xs ≡ true
all_seen [] [] h = refl
all_seen (ty ∷ types) (x ∷ xs) h = both_true (has_type ty x) (have_types types xs) (seen_of ty x h.0) (all_seen types xs h.1)
all_seen [] (x ∷ xs) h = absurd h
all_seen (ty ∷ types) [] h = absurd h

module _ (f : Fragment) (s : SmallDb) where
  pub they_fit : fits_there f s ≡ true → PartsFit f s.db s.entry
  they_fit h =
      let known : length s.entry.known ≡ f.known = eqb-true (length s.entry.known) f.known (both_left (nat_eq (length s.entry.known) f.known) _ h) in
      let later = both_right (nat_eq (length s.entry.known) f.known) (have_types f.entries s.entry.values && rest_fits f s.db s.entry) h in
      let typed = are_of f.entries s.entry.values (both_left (have_types f.entries s.entry.values) (rest_fits f s.db s.entry) later) in
      (all_fit f s.db s.entry (rest_fits f s.db s.entry) known typed refl).0 (both_right (have_types f.entries s.entry.values) (rest_fits f s.db s.entry) later)

  fitting_is_seen : PartsFit f s.db s.entry → fits_there f s ≡ true
  fitting_is_seen p =
      both_true (nat_eq (length s.entry.known) f.known) (have_types f.entries s.entry.values && rest_fits f s.db s.entry) (eq-eqb (length s.entry.known) f.known p.known)
      (both_true (have_types f.entries s.entry.values) (rest_fits f s.db s.entry) (all_seen f.entries s.entry.values p.values) ((all_fit f s.db s.entry (rest_fits f s.db s.entry) p.known p.values refl).1 p))

  pub test_is_right : (b : Bool) → (IsTrue b ↔ PartsFit f s.db s.entry) → b ≡ fits_there f s
  test_is_right b h = go b (fits_there f s) refl refl
    where
      go : (x y : Bool) → x ≡ b → y ≡ fits_there f s → b ≡ fits_there f s
      go true y e g = sym e ∙ sym (fitting_is_seen (h.0 (sym e)))
      go false true e g = absurd (let t : b ≡ true = h.1 (they_fit (sym g)) in cc)
      go false false e g = sym e ∙ g

-- ---- what is known of one

some_of : {A : Type 0} (x y : A) → Some x ≡ Some y → x ≡ y
some_of x y e = ap (λ o. elim o [ Some z ↦ z | None ↦ x ]) e

module _ (f : Fragment) (s : SmallDb) where
  pub not_fitting : (b : Bool) → b ≡ fits_there f s → b ≡ false → None ≡ ending f s
  unfolding ending
  not_fitting b e n = sym (ap (λ x. if_fits x (fragment_end f s.db s.entry)) (sym e ∙ n))

  pub fitting : (b : Bool) (o : Option (List Value)) → b ≡ fits_there f s → b ≡ true → o ≡ fragment_end f s.db s.entry → o ≡ ending f s
  unfolding ending
  fitting b o e n h = h ∙ sym (ap (λ x. if_fits x (fragment_end f s.db s.entry)) (sym e ∙ n))

  ended_there : (b : Bool) (ends : List Value) → fits_there f s ≡ b → if_fits b (fragment_end f s.db s.entry) ≡ Some ends → PartsFit f s.db s.entry × (fragment_end f s.db s.entry ≡ Some ends)
  ended_there true ends e h = (they_fit f s e, h)
  ended_there false ends e h = absurd cc

  -- where it ends, it fits
  pub ended : (ends : List Value) → ending f s ≡ Some ends → PartsFit f s.db s.entry × (fragment_end f s.db s.entry ≡ Some ends)
  unfolding ending
  ended ends h = ended_there (fits_there f s) ends refl h

  refuting : (c : List ℕ) → (r : Refutes f c s.db s.entry) → ending f s ≡ Some r.ends
  unfolding ending
  refuting c r = ap (λ x. if_fits x (fragment_end f s.db s.entry)) (fitting_is_seen f s r.fit) ∙ r.ended

  pub none_refuted : (c : List ℕ) → None ≡ ending f s → IsTrue false ↔ Refutes f c s.db s.entry
  none_refuted c e = (λ t. absurd cc, λ r. absurd (let x = e ∙ refuting c r in cc))

  pub same_or_not : (c : List ℕ) (ends : List Value) (b : Bool) → ending f s ≡ Some ends → (IsTrue b ↔ (ends ≡ postconditions f c s.db s.entry)) → IsTrue (not b) ↔ Refutes f c s.db s.entry
  same_or_not c ends true e h =
      (λ t. absurd cc, λ r. let own : r.ends ≡ ends = some_of r.ends ends (sym (refuting c r) ∙ e) in absurd (r.differs (own ∙ h.0 refl)))
  same_or_not c ends false e h =
      let there = ended ends e in
      (λ t. record { ends = ends; fit = there.0; ended = there.1; differs = λ same. let x : false ≡ true = h.1 same in absurd cc }, λ r. refl)

-- ---- one after another

at_number : (items : List SmallDb) (i : ℕ) (s : SmallDb) → i < length items → s ≡ get_or items i s → slice_get items i ≡ Some s
at_number [] i s l e = absurd (omega (arith, l))
at_number (x ∷ xs) zero s l e = ap (λ (y : SmallDb). Some y) (sym e)
at_number (x ∷ xs) (suc i) s l e = at_number xs i s (omega (arith, l)) e

pub refutes_there : (f : Fragment) (c : List ℕ) (items : List SmallDb) (i : ℕ) (s : SmallDb) (r : Result Bool NoMemory) → i < length items → s ≡ get_or items i s
    → IfOk r (λ b. IsTrue b ↔ Refutes f c s.db s.entry) → IfOk r (λ b. IsTrue b ↔ RefutesAt f c items i)
refutes_there f c items i s (Ok b) l e h = subst (λ (o : Option SmallDb). IsTrue b ↔ IfRefutes f c o) (sym (at_number items i s l e)) h
refutes_there f c items i s (Err x) l e h = tt

-- the database with that number refutes it, or one behind
this_or_later : (f : Fragment) (c : List ℕ) (items : List SmallDb) (i : ℕ) → (RefutesAt f c items i ⊎ OneRefutes f c (drop (suc i) items)) ↔ OneRefutes f c (drop i items)
this_or_later f c [] zero = (λ s. elim s [ inl r ↦ r | inr q ↦ q ], λ o. absurd o)
this_or_later f c [] (suc i) = (λ s. elim s [ inl r ↦ r | inr q ↦ q ], λ o. absurd o)
this_or_later f c (x ∷ xs) zero = (λ s. s, λ o. o)
this_or_later f c (x ∷ xs) (suc i) = this_or_later f c xs i

none_left : (f : Fragment) (c : List ℕ) (items : List SmallDb) (i : ℕ) → length items ≤ i → OneRefutes f c (drop i items) → ⊥
none_left f c [] zero l o = o
none_left f c [] (suc i) l o = o
none_left f c (x ∷ xs) zero l o = absurd (omega (arith, l))
none_left f c (x ∷ xs) (suc i) l o = none_left f c xs i (omega (arith, l)) o

module _ (f : Fragment) (c : List ℕ) (items : List SmallDb) (i : ℕ) (known : OneRefutes f c items ↔ OneRefutes f c (drop i items)) where
  pub one_found : (b : Bool) → (IsTrue b ↔ RefutesAt f c items i) → b ≡ true → IsTrue true ↔ OneRefutes f c items
  one_found b judged e = (λ t. known.1 ((this_or_later f c items i).0 (inl (judged.0 e))), λ o. refl)

  pub one_passed : (b : Bool) → (IsTrue b ↔ RefutesAt f c items i) → b ≡ false → OneRefutes f c items ↔ OneRefutes f c (drop (i + 1) items)
  one_passed b judged e =
      let next : suc i ≡ i + 1 = omega arith in
      subst (λ (k : ℕ). OneRefutes f c items ↔ OneRefutes f c (drop k items)) next
      (λ o. elim ((this_or_later f c items i).1 (known.0 o)) [ inl r ↦ absurd (let t : b ≡ true = judged.1 r in cc) | inr q ↦ q ], λ q. known.1 ((this_or_later f c items i).0 (inr q)))

  pub none_found : length items ≤ i → IsTrue false ↔ OneRefutes f c items
  none_found l = (λ t. absurd cc, λ o. absurd (none_left f c items i l (known.0 o)))
