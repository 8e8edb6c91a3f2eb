-- The laws of sums, disjunctions and first occurrences of values.
use Rattle.std.proofs.Common.{◌≡◌, ℤ, pos, ◌+ℤ◌, Bool, true, false, List, [], ◌∷◌, ◌++◌, length, refl, sym, ap, ap₂, ◌∙◌, subst, arith, length-append}
use Rattle.std.proofs.lemmas.Int.{ints}
use Rattle.std.specs.declared.option.Option.{Option}
use Rattle.std.specs.declared.option.Option.TheVariants.{Some, None}
use Rattle.qbs_base.specs.declared.scalar.Kind.{Kind}
use Rattle.qbs_base.specs.declared.scalar.Kind.TheVariants as kinds
use Rattle.qbs_base.specs.declared.scalar.Scalar.{Scalar}
use Rattle.qbs_base.specs.declared.scalar.Scalar.TheVariants as scalars
use Rattle.tor_terms.specs.declared.term.Way.{Way}
use Rattle.tor_terms.specs.Truth.{Datum, Element}
use Rattle.tor_terms.specs.Value.{plain_row, only_number, only_truth, number_of_cells, number_in, truth_of_cells, truth_in, inserted, first_ones, added_numbers, added, total, either_truth, either, picked, best, not_empty}

some_inside : {X : Type 0} (x y : X) → Some x ≡ Some y → x ≡ y
some_inside x y e = cc

number_cells-is : (k : Kind) (cells : List Scalar) (n : ℤ) → number_of_cells k cells ≡ Some n → record { kind = k; cells = cells } ≡ plain_row (Some (scalars.Long n))
number_cells-is kinds.Plain (scalars.Long m ∷ []) n e = ap (λ x. plain_row (Some (scalars.Long x))) (some_inside m n e)
number_cells-is _ _ n e = absurd cc

truth_cells-is : (k : Kind) (cells : List Scalar) (b : Bool) → truth_of_cells k cells ≡ Some b → record { kind = k; cells = cells } ≡ plain_row (Some (scalars.Bool b))
truth_cells-is kinds.Plain (scalars.Bool a ∷ []) b e = ap (λ x. plain_row (Some (scalars.Bool x))) (some_inside a b e)
truth_cells-is _ _ b e = absurd cc

-- a list that is a number is the list of it
pub number_in-is : (xs : List Datum) (n : ℤ) → number_in xs ≡ Some n → xs ≡ only_number n
number_in-is (Element r ∷ []) n e = ap (λ row. Element row ∷ []) (number_cells-is r.kind r.cells n e)
number_in-is _ n e = absurd cc

pub truth_in-is : (xs : List Datum) (b : Bool) → truth_in xs ≡ Some b → xs ≡ only_truth b
truth_in-is (Element r ∷ []) b e = ap (λ row. Element row ∷ []) (truth_cells-is r.kind r.cells b e)
truth_in-is _ b e = absurd cc

-- sums

pub zero_added : (ys : List Datum) → added (only_number (pos 0)) ys ≡ ys
zero_added ys = go (number_in ys) refl
  where
    go : (o : Option ℤ) → number_in ys ≡ o → added_numbers (only_number (pos 0)) ys (Some (pos 0)) o ≡ ys
    go None e = refl
    go (Some n) e = ap only_number (zero_plus n) ∙ sym (number_in-is ys n e)
      where
        zero_plus : (n : ℤ) → pos 0 +ℤ n ≡ n
        zero_plus n = omega (arith, ints)

pub added_zero : (xs : List Datum) → added xs (only_number (pos 0)) ≡ xs
added_zero xs = go (number_in xs) refl
  where
    go : (o : Option ℤ) → number_in xs ≡ o → added_numbers xs (only_number (pos 0)) o (Some (pos 0)) ≡ xs
    go None e = refl
    go (Some n) e = ap only_number (plus_zero n) ∙ sym (number_in-is xs n e)
      where
        plus_zero : (n : ℤ) → n +ℤ pos 0 ≡ n
        plus_zero n = omega (arith, ints)

other_added : (xs ys : List Datum) → number_in xs ≡ None → added xs ys ≡ xs
other_added xs ys e = ap (λ o. added_numbers xs ys o (number_in ys)) e

added_other : (xs ys : List Datum) (m : ℤ) → number_in xs ≡ Some m → number_in ys ≡ None → added xs ys ≡ ys
added_other xs ys m e f = ap₂ (added_numbers xs ys) e f

added_both : (xs ys : List Datum) (m n : ℤ) → number_in xs ≡ Some m → number_in ys ≡ Some n → added xs ys ≡ only_number (m +ℤ n)
added_both xs ys m n e f = ap₂ (added_numbers xs ys) e f

sum_assoc : (a b c : ℤ) → (a +ℤ b) +ℤ c ≡ a +ℤ (b +ℤ c)
sum_assoc a b c = omega (arith, ints)

pub added_assoc : (xs ys zs : List Datum) → added (added xs ys) zs ≡ added xs (added ys zs)
added_assoc xs ys zs = go (number_in xs) refl (number_in ys) refl (number_in zs) refl
  where
    go : (a : Option ℤ) → number_in xs ≡ a → (b : Option ℤ) → number_in ys ≡ b → (c : Option ℤ) → number_in zs ≡ c → added (added xs ys) zs ≡ added xs (added ys zs)
    go None e b f c g = ap (λ x. added x zs) (other_added xs ys e) ∙ other_added xs zs e ∙ sym (other_added xs (added ys zs) e)
    go (Some a) e None f c g =
        ap (λ x. added x zs) (added_other xs ys a e f) ∙ other_added ys zs f ∙ sym (ap (added xs) (other_added ys zs f) ∙ added_other xs ys a e f)
    go (Some a) e (Some b) f None g =
        ap (λ x. added x zs) (added_both xs ys a b e f) ∙ added_other (only_number (a +ℤ b)) zs (a +ℤ b) refl g
        ∙ sym (ap (added xs) (added_other ys zs b f g) ∙ added_other xs zs a e g)
    go (Some a) e (Some b) f (Some c) g =
        ap (λ x. added x zs) (added_both xs ys a b e f) ∙ added_both (only_number (a +ℤ b)) zs (a +ℤ b) c refl g ∙ ap only_number (sum_assoc a b c)
        ∙ sym (ap (added xs) (added_both ys zs b c f g) ∙ added_both xs (only_number (b +ℤ c)) a (b +ℤ c) e refl)

pub total_append : (xs ys : List Datum) → total (xs ++ ys) ≡ added (total xs) (total ys)
total_append [] ys = sym (zero_added (total ys))
total_append (x ∷ xs) ys = ap (added (x ∷ [])) (total_append xs ys) ∙ sym (added_assoc (x ∷ []) (total xs) (total ys))

-- disjunctions

pub false_either : (ys : List Datum) → either (only_truth false) ys ≡ ys
false_either ys = go (truth_in ys) refl
  where
    go : (o : Option Bool) → truth_in ys ≡ o → either_truth (only_truth false) ys (Some false) o ≡ ys
    go None e = refl
    go (Some b) e = sym (truth_in-is ys b e)

pub either_false : (xs : List Datum) → either xs (only_truth false) ≡ xs
either_false xs = go (truth_in xs) refl
  where
    go : (o : Option Bool) → truth_in xs ≡ o → either_truth xs (only_truth false) o (Some false) ≡ xs
    go None e = refl
    go (Some true) e = sym (truth_in-is xs true e)
    go (Some false) e = sym (truth_in-is xs false e)

pub true_either : (ys : List Datum) → either (only_truth true) ys ≡ only_truth true
true_either ys = go (truth_in ys)
  where
    go : (o : Option Bool) → either_truth (only_truth true) ys (Some true) o ≡ only_truth true
    go None = refl
    go (Some b) = refl

pub either_true : (xs : List Datum) → either xs (only_truth true) ≡ only_truth true
either_true xs = go (truth_in xs)
  where
    go : (o : Option Bool) → either_truth xs (only_truth true) o (Some true) ≡ only_truth true
    go None = refl
    go (Some true) = refl
    go (Some false) = refl

other_either : (xs ys : List Datum) → truth_in xs ≡ None → truth_in ys ≡ None → either xs ys ≡ xs
other_either xs ys e f = ap₂ (either_truth xs ys) e f

pub either_assoc : (xs ys zs : List Datum) → either (either xs ys) zs ≡ either xs (either ys zs)
either_assoc xs ys zs = go (truth_in xs) refl (truth_in ys) refl (truth_in zs) refl
  where
    go : (a : Option Bool) → truth_in xs ≡ a → (b : Option Bool) → truth_in ys ≡ b → (c : Option Bool) → truth_in zs ≡ c → either (either xs ys) zs ≡ either xs (either ys zs)
    go (Some true) e b f c g =
        let P : List Datum → Type 0 = λ x. either (either x ys) zs ≡ either x (either ys zs) in
        subst P (sym (truth_in-is xs true e)) (ap (λ x. either x zs) (true_either ys) ∙ true_either zs ∙ sym (true_either (either ys zs)))
    go (Some false) e b f c g =
        let P : List Datum → Type 0 = λ x. either (either x ys) zs ≡ either x (either ys zs) in
        subst P (sym (truth_in-is xs false e)) (ap (λ x. either x zs) (false_either ys) ∙ sym (false_either (either ys zs)))
    go None e (Some true) f c g =
        let P : List Datum → Type 0 = λ y. either (either xs y) zs ≡ either xs (either y zs) in
        subst P (sym (truth_in-is ys true f)) (ap (λ x. either x zs) (either_true xs) ∙ true_either zs ∙ sym (ap (either xs) (true_either zs) ∙ either_true xs))
    go None e (Some false) f c g =
        let P : List Datum → Type 0 = λ y. either (either xs y) zs ≡ either xs (either y zs) in
        subst P (sym (truth_in-is ys false f)) (ap (λ x. either x zs) (either_false xs) ∙ sym (ap (either xs) (false_either zs)))
    go None e None f (Some true) g =
        let P : List Datum → Type 0 = λ z. either (either xs ys) z ≡ either xs (either ys z) in
        subst P (sym (truth_in-is zs true g)) (either_true (either xs ys) ∙ sym (ap (either xs) (either_true ys) ∙ either_true xs))
    go None e None f (Some false) g =
        let P : List Datum → Type 0 = λ z. either (either xs ys) z ≡ either xs (either ys z) in
        subst P (sym (truth_in-is zs false g)) (either_false (either xs ys) ∙ sym (ap (either xs) (either_false ys)))
    go None e None f None g =
        ap (λ x. either x zs) (other_either xs ys e f) ∙ other_either xs zs e g ∙ sym (ap (either xs) (other_either ys zs f g) ∙ other_either xs ys e f)

pub not_empty_append : (xs ys : List Datum) → only_truth (not_empty (xs ++ ys)) ≡ either (only_truth (not_empty xs)) (only_truth (not_empty ys))
not_empty_append [] ys = refl
not_empty_append (x ∷ xs) ys = refl

-- lists

pub count_append : (xs ys : List Datum) → only_number (pos (length (xs ++ ys))) ≡ added (only_number (pos (length xs))) (only_number (pos (length ys)))
count_append xs ys = ap (λ n. only_number (pos n)) (length-append xs ys)

pub first_ones_append : (seen xs ys : List Datum) → first_ones seen (xs ++ ys) ≡ first_ones (first_ones seen xs) ys
first_ones_append seen [] ys = refl
first_ones_append seen (x ∷ xs) ys = first_ones_append (inserted seen x) xs ys

pub best_append : (way : Way) (v xs ys : List Datum) → best way v (xs ++ ys) ≡ best way (best way v xs) ys
best_append way v [] ys = refl
best_append way v (x ∷ xs) ys = best_append way (picked way v (x ∷ [])) xs ys
