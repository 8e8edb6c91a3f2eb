-- A condition has the truth value of its formula at the rows.
use Rattle.std.proofs.Common.{arith, ◌≡◌, ℕ, Bool, true, false, not, ◌&&◌, ◌||◌, List, [], ◌∷◌, map, Option, Some, Result, Ok, refl, sym, ap, ap₂, ◌∙◌, subst}
use Rattle.std.specs.Prelude.{slice_get, nat_eq}
use Rattle.std.specs.List.{AllByRecursion, list_any, list_all}
use Rattle.qbs_base.specs.declared.span.Span.{Span}
use Rattle.qbs_base.specs.declared.scalar.Row.{Row}
use Rattle.qbs_base.specs.declared.scalar.Scalar.{Scalar}
use Rattle.qbs_base.specs.declared.scalar.Scalar.TheVariants as scalars
use Rattle.qbs_base.specs.declared.scalar.Ty.{Ty}
use Rattle.qbs_base.specs.declared.scalar.Ty.TheVariants as tys
use Rattle.qbs_base.specs.declared.scalar.Value.{Value}
use Rattle.qbs_base.specs.Named.{at_name}
use Rattle.qbs_base.specs.Scalar.{compared, scalar_same}
use Rattle.qbs_base.specs.Values.{HasTy}
use Rattle.java_ast.specs.declared.tree.Op.{Op}
use Rattle.java_ast.specs.declared.tree.Op.TheVariants as ops
use Rattle.java_ast.specs.Tree.{Expression}
use Rattle.java_mean.specs.declared.ending.Ending.{Ending}
use Rattle.java_mean.specs.Endings.{◌>>=◌, found}
use Rattle.java_mean.specs.Expression.{value_of, as_scalar, as_rows, as_bool, alone, is_among, settled, or_else, applied, same_of, same_text, less as java_less, truth as truth_value}
use Rattle.java_mean.specs.Store.{Store, Variable}
use Rattle.java_mean.specs.World as java
use Rattle.tor_terms.specs.declared.term.Atom.{Atom}
use Rattle.tor_terms.specs.declared.term.Atom.TheVariants as atoms
use Rattle.tor_terms.specs.declared.term.Operand.{Operand}
use Rattle.tor_terms.specs.declared.term.Operand.TheVariants as operands
use Rattle.tor_terms.specs.Plain.{Form}
use Rattle.tor_terms.specs.Truth.{World, operand_at, same_operand, less as scalar_below, same_variant, is_true, is_member, atom_holds, known_atom_holds, same_bool, holds}
use Rattle.tor_terms.proofs.Scalars.{scalar_same-true, scalar_same-self}
use Rattle.std.proofs.lemmas.Bool.Decides.{nat_tests}
use Rattle.kernel_lang.specs.Fitting.{is_of, comparable, of_one_variant, of_variant_of_all, atom_fits}
use Rattle.java_loops.specs.Walks.Forms.{by_identity, IsOperand, IsAtom, less, greater, at_most, at_least, same, same_turned, other, other_turned, texts, texts_turned, truth, member, flag, IsForm, atom, negated, both, not_both, either, neither}
use Rattle.java_loops.specs.Walks.Matched.{HoldsScalars, turned_truth, Matches}
use Rattle.java_loops.specs.Walks.Numbering.{Numbering, Flags, Reads}
use Rattle.java_loops.proofs.Walks.ChainOperands.{variant_of, OperandHolds, operand_holds, NumberHolds, number_holds, TruthHolds, truth_holds}
use Rattle.java_loops.proofs.Walks.ChainTests.{same_true, same_false, same_twice, same_not, not_and, not_or, or_implied, and_true, both_are}

-- ---- Scalars

scalar_same-back : (x y : Scalar) → scalar_same x y ≡ scalar_same y x
scalar_same-back x y = go (scalar_same x y) (scalar_same y x) refl refl
  where
    turned : (a b : Scalar) → scalar_same a b ≡ true → scalar_same b a ≡ true
    turned a b e = subst (λ (z : Scalar). scalar_same z a ≡ true) (scalar_same-true a b e) (scalar_same-self a)

    go : (s t : Bool) → scalar_same x y ≡ s → scalar_same y x ≡ t → scalar_same x y ≡ scalar_same y x
    go true t e f = e ∙ sym (turned x y e)
    go false true e f = turned y x f ∙ sym f
    go false false e f = e ∙ sym f

pub same_variants : (ty : Ty) (x y : Scalar) → is_of ty (Some x) ≡ true → is_of ty (Some y) ≡ true → same_variant x y ≡ true
same_variants ty (scalars.Long x) (scalars.Long y) e f = refl
same_variants ty (scalars.Bool x) (scalars.Bool y) e f = refl
same_variants ty (scalars.Text x) (scalars.Text y) e f = refl
same_variants tys.Long (scalars.Long x) (scalars.Bool y) e f = absurd cc
same_variants tys.Bool (scalars.Long x) (scalars.Bool y) e f = absurd cc
same_variants tys.Text (scalars.Long x) (scalars.Bool y) e f = absurd cc
same_variants tys.Long (scalars.Long x) (scalars.Text y) e f = absurd cc
same_variants tys.Bool (scalars.Long x) (scalars.Text y) e f = absurd cc
same_variants tys.Text (scalars.Long x) (scalars.Text y) e f = absurd cc
same_variants tys.Long (scalars.Bool x) (scalars.Long y) e f = absurd cc
same_variants tys.Bool (scalars.Bool x) (scalars.Long y) e f = absurd cc
same_variants tys.Text (scalars.Bool x) (scalars.Long y) e f = absurd cc
same_variants tys.Long (scalars.Bool x) (scalars.Text y) e f = absurd cc
same_variants tys.Bool (scalars.Bool x) (scalars.Text y) e f = absurd cc
same_variants tys.Text (scalars.Bool x) (scalars.Text y) e f = absurd cc
same_variants tys.Long (scalars.Text x) (scalars.Long y) e f = absurd cc
same_variants tys.Bool (scalars.Text x) (scalars.Long y) e f = absurd cc
same_variants tys.Text (scalars.Text x) (scalars.Long y) e f = absurd cc
same_variants tys.Long (scalars.Text x) (scalars.Bool y) e f = absurd cc
same_variants tys.Bool (scalars.Text x) (scalars.Bool y) e f = absurd cc
same_variants tys.Text (scalars.Text x) (scalars.Bool y) e f = absurd cc

same_of_variants : (ty : Ty) (x y : Scalar) → by_identity ty ≡ true → is_of ty (Some x) ≡ true → is_of ty (Some y) ≡ true → same_of x y ≡ Ok (scalar_same x y)
same_of_variants tys.Text x y i e f = absurd cc
same_of_variants tys.Long (scalars.Long x) (scalars.Long y) i e f = refl
same_of_variants tys.Long (scalars.Long x) (scalars.Bool y) i e f = absurd cc
same_of_variants tys.Long (scalars.Long x) (scalars.Text y) i e f = absurd cc
same_of_variants tys.Long (scalars.Bool x) y i e f = absurd cc
same_of_variants tys.Long (scalars.Text x) y i e f = absurd cc
same_of_variants tys.Bool (scalars.Bool x) (scalars.Bool y) i e f = refl
same_of_variants tys.Bool (scalars.Bool x) (scalars.Long y) i e f = absurd cc
same_of_variants tys.Bool (scalars.Bool x) (scalars.Text y) i e f = absurd cc
same_of_variants tys.Bool (scalars.Long x) y i e f = absurd cc
same_of_variants tys.Bool (scalars.Text x) y i e f = absurd cc

same_text_of : (x y : Scalar) → is_of tys.Text (Some x) ≡ true → is_of tys.Text (Some y) ≡ true → same_text x y ≡ Ok (scalar_same x y)
same_text_of (scalars.Text x) (scalars.Text y) e f = refl
same_text_of (scalars.Text x) (scalars.Long y) e f = absurd cc
same_text_of (scalars.Text x) (scalars.Bool y) e f = absurd cc
same_text_of (scalars.Long x) y e f = absurd cc
same_text_of (scalars.Bool x) y e f = absurd cc

-- one operand has one value
same_operands : (k : World) (rows : ℕ → Row) (o p : Operand) → same_operand o p ≡ true → operand_at k rows o ≡ operand_at k rows p
same_operands k rows (operands.Field i c) (operands.Field j d) e =
    let t = both_are (nat_eq i j) (nat_eq c d) e in
    let q : i ≡ j = grind (arith, nat_tests, t.0) in
    let r : c ≡ d = grind (arith, nat_tests, t.1) in
    ap (λ z. slice_get (rows z).cells c) q ∙ ap (slice_get (rows j).cells) r
same_operands k rows (operands.Field i c) (operands.Entry j) e = absurd cc
same_operands k rows (operands.Field i c) (operands.Lit y) e = absurd cc
same_operands k rows (operands.Entry i) (operands.Entry j) e = let q : i ≡ j = grind (arith, nat_tests, e) in ap k.entries q
same_operands k rows (operands.Entry i) (operands.Field j d) e = absurd cc
same_operands k rows (operands.Entry i) (operands.Lit y) e = absurd cc
same_operands k rows (operands.Lit x) (operands.Lit y) e = ap Some (scalar_same-true x y e)
same_operands k rows (operands.Lit x) (operands.Field j d) e = absurd cc
same_operands k rows (operands.Lit x) (operands.Entry j) e = absurd cc

same_scalars : (k : World) (rows : ℕ → Row) (o p : Operand) (x y : Scalar) → operand_at k rows o ≡ Some x → operand_at k rows p ≡ Some y → same_operand o p ≡ true → scalar_same x y ≡ true
same_scalars k rows o p x y e f q = let r : Some x ≡ Some y = sym e ∙ same_operands k rows o p q ∙ f in let s : x ≡ y = cc in subst (λ (z : Scalar). scalar_same x z ≡ true) s (scalar_same-self x)

-- ---- Atoms

abbrev pub binary_value : Span → Op → Result Value Ending → Result Value Ending → Result Value Ending
binary_value at op r s = r >>= λ v. as_scalar v >>= λ x. or_else (settled op x) (s >>= λ u. as_scalar u >>= λ y. applied op at x y)

abbrev equal_value : Result Value Ending → Result Value Ending → Result Value Ending
equal_value r s = r >>= λ v. as_scalar v >>= λ x. s >>= λ u. as_scalar u >>= λ y. same_text x y >>= λ b. Ok (truth_value b)

abbrev member_value : Option Variable → Result Value Ending → Result Value Ending
member_value o r = found o >>= λ held. as_rows held.value >>= λ rows. r >>= λ v. as_scalar v >>= λ y. Ok (truth_value (is_among rows (alone y)))

abbrev as_truth : Result Bool Ending → Result Value Ending
as_truth r = r >>= λ b. Ok (truth_value b)

abbrev as_other : Result Bool Ending → Result Value Ending
as_other r = r >>= λ b. Ok (truth_value (not b))

-- the expression is true where the atom is as s says, and its operands fit
pub record AtomHolds (w : java.World) (k : World) (env : Store) (rows : ℕ → Row) (e : Expression) (a : Atom) (s : Bool) : Type 0 where
  pub truth : Bool
  pub value : value_of e w env ≡ Ok (truth_value truth)
  pub is : same_bool (atom_holds k rows a) s ≡ truth
  pub fits : atom_fits k rows a ≡ true

record SameHolds (w : java.World) (k : World) (env : Store) (rows : ℕ → Row) (o p : Operand) (x y : Scalar) : Type 0 where
  pub is : atom_holds k rows (atoms.Same o p) ≡ scalar_same x y
  pub fits : atom_fits k rows (atoms.Same o p) ≡ true

same_holds : (w : java.World) (k : World) (env : Store) (rows : ℕ → Row) (o p : Operand) (ty : Ty) (x y : Scalar) → operand_at k rows o ≡ Some x → operand_at k rows p ≡ Some y → is_of ty (Some x) ≡ true → is_of ty (Some y) ≡ true → SameHolds w k env rows o p x y
same_holds w k env rows o p ty x y e f t u = record {
  is = ap₂ (λ a b. same_operand o p || compared scalar_same a b) e f ∙ or_implied (same_operand o p) (scalar_same x y) (same_scalars k rows o p x y e f);
  fits = ap₂ of_one_variant e f ∙ same_variants ty x y t u;
}

among_alone : (y : Scalar) (xs : List Scalar) → is_among (map alone xs) (alone y) ≡ list_any (scalar_same y) xs
among_alone y [] = refl
among_alone y (x ∷ xs) = ap₂ (λ a b. a || b) (and_true (scalar_same y x) true refl) (among_alone y xs)

pub all_of_variant : (ty : Ty) (y : Scalar) (xs : List Scalar) → is_of ty (Some y) ≡ true → ((x : Scalar) → HasTy ty x → is_of ty (Some x) ≡ true) → AllByRecursion (HasTy ty) xs → list_all (same_variant y) xs ≡ true
all_of_variant ty y [] e v h = refl
all_of_variant ty y (x ∷ xs) e v h = ap₂ (λ a b. a && b) (same_variants ty y x e (v x h.0)) (all_of_variant ty y xs e v h.1)

read_flag : (opposite b : Bool) → turned_truth opposite b ≡ truth_value (same_bool b (not opposite))
read_flag true true = refl
read_flag true false = refl
read_flag false true = refl
read_flag false false = refl

module _ (n : Numbering) (flags : Flags) (w : java.World) (k : World) (env : Store) (rows : ℕ → Row) (m : Matches n flags w k env rows) where
  operand : (e : Expression) (o : Operand) (ty : Ty) → IsOperand n e o ty → OperandHolds w k env rows e o ty
  operand e o ty h = operand_holds n flags w k env rows e o ty h m

  number : (e : Expression) (o : Operand) → IsOperand n e o tys.Long → NumberHolds w k env rows e o
  number e o h = number_holds w k env rows e o (operand e o tys.Long h)

  pub atom_holds_at : (e : Expression) (a : Atom) (s : Bool) → IsAtom n flags e a s → AtomHolds w k env rows e a s
  atom_holds_at _ _ _ (less at a b o p h i) =
      let x : NumberHolds w k env rows a o = number a o h in
      let y : NumberHolds w k env rows b p = number b p i in
      record {
        truth = java_less x.number y.number;
        value = ap₂ (binary_value at ops.Lt) x.value y.value;
        is = ap₂ (λ u v. same_bool (compared scalar_below u v) true) x.at y.at ∙ same_true (java_less x.number y.number);
        fits = ap₂ comparable x.at y.at;
      }
  atom_holds_at _ _ _ (greater at a b o p h i) =
      let x : NumberHolds w k env rows a o = number a o h in
      let y : NumberHolds w k env rows b p = number b p i in
      record {
        truth = java_less y.number x.number;
        value = ap₂ (binary_value at ops.Gt) x.value y.value;
        is = ap₂ (λ u v. same_bool (compared scalar_below u v) true) y.at x.at ∙ same_true (java_less y.number x.number);
        fits = ap₂ comparable y.at x.at;
      }
  atom_holds_at _ _ _ (at_most at a b o p h i) =
      let x : NumberHolds w k env rows a o = number a o h in
      let y : NumberHolds w k env rows b p = number b p i in
      record {
        truth = not (java_less y.number x.number);
        value = ap₂ (binary_value at ops.Le) x.value y.value;
        is = ap₂ (λ u v. same_bool (compared scalar_below u v) false) y.at x.at ∙ same_false (java_less y.number x.number);
        fits = ap₂ comparable y.at x.at;
      }
  atom_holds_at _ _ _ (at_least at a b o p h i) =
      let x : NumberHolds w k env rows a o = number a o h in
      let y : NumberHolds w k env rows b p = number b p i in
      record {
        truth = not (java_less x.number y.number);
        value = ap₂ (binary_value at ops.Ge) x.value y.value;
        is = ap₂ (λ u v. same_bool (compared scalar_below u v) false) x.at y.at ∙ same_false (java_less x.number y.number);
        fits = ap₂ comparable x.at y.at;
      }
  atom_holds_at _ _ _ (same at a b o p ty i h g) =
      let x : OperandHolds w k env rows a o ty = operand a o ty h in
      let y : OperandHolds w k env rows b p ty = operand b p ty g in
      let t : SameHolds w k env rows o p x.scalar y.scalar = same_holds w k env rows o p ty x.scalar y.scalar x.at y.at x.variant y.variant in
      record {
        truth = scalar_same x.scalar y.scalar;
        value = ap₂ (binary_value at ops.Eq) x.value y.value ∙ ap as_truth (same_of_variants ty x.scalar y.scalar i x.variant y.variant);
        is = same_true (atom_holds k rows (atoms.Same o p)) ∙ t.is;
        fits = t.fits;
      }
  atom_holds_at _ _ _ (same_turned at a b o p ty i h g) =
      let x : OperandHolds w k env rows a o ty = operand a o ty h in
      let y : OperandHolds w k env rows b p ty = operand b p ty g in
      let t : SameHolds w k env rows p o y.scalar x.scalar = same_holds w k env rows p o ty y.scalar x.scalar y.at x.at y.variant x.variant in
      record {
        truth = scalar_same x.scalar y.scalar;
        value = ap₂ (binary_value at ops.Eq) x.value y.value ∙ ap as_truth (same_of_variants ty x.scalar y.scalar i x.variant y.variant);
        is = same_true (atom_holds k rows (atoms.Same p o)) ∙ t.is ∙ scalar_same-back y.scalar x.scalar;
        fits = t.fits;
      }
  atom_holds_at _ _ _ (other at a b o p ty i h g) =
      let x : OperandHolds w k env rows a o ty = operand a o ty h in
      let y : OperandHolds w k env rows b p ty = operand b p ty g in
      let t : SameHolds w k env rows o p x.scalar y.scalar = same_holds w k env rows o p ty x.scalar y.scalar x.at y.at x.variant y.variant in
      record {
        truth = not (scalar_same x.scalar y.scalar);
        value = ap₂ (binary_value at ops.Ne) x.value y.value ∙ ap as_other (same_of_variants ty x.scalar y.scalar i x.variant y.variant);
        is = same_false (atom_holds k rows (atoms.Same o p)) ∙ ap not t.is;
        fits = t.fits;
      }
  atom_holds_at _ _ _ (other_turned at a b o p ty i h g) =
      let x : OperandHolds w k env rows a o ty = operand a o ty h in
      let y : OperandHolds w k env rows b p ty = operand b p ty g in
      let t : SameHolds w k env rows p o y.scalar x.scalar = same_holds w k env rows p o ty y.scalar x.scalar y.at x.at y.variant x.variant in
      record {
        truth = not (scalar_same x.scalar y.scalar);
        value = ap₂ (binary_value at ops.Ne) x.value y.value ∙ ap as_other (same_of_variants ty x.scalar y.scalar i x.variant y.variant);
        is = same_false (atom_holds k rows (atoms.Same p o)) ∙ ap not (t.is ∙ scalar_same-back y.scalar x.scalar);
        fits = t.fits;
      }
  atom_holds_at _ _ _ (texts at a b o p h g) =
      let x : OperandHolds w k env rows a o tys.Text = operand a o tys.Text h in
      let y : OperandHolds w k env rows b p tys.Text = operand b p tys.Text g in
      let t : SameHolds w k env rows o p x.scalar y.scalar = same_holds w k env rows o p tys.Text x.scalar y.scalar x.at y.at x.variant y.variant in
      record {
        truth = scalar_same x.scalar y.scalar;
        value = ap₂ equal_value x.value y.value ∙ ap as_truth (same_text_of x.scalar y.scalar x.variant y.variant);
        is = same_true (atom_holds k rows (atoms.Same o p)) ∙ t.is;
        fits = t.fits;
      }
  atom_holds_at _ _ _ (texts_turned at a b o p h g) =
      let x : OperandHolds w k env rows a o tys.Text = operand a o tys.Text h in
      let y : OperandHolds w k env rows b p tys.Text = operand b p tys.Text g in
      let t : SameHolds w k env rows p o y.scalar x.scalar = same_holds w k env rows p o tys.Text y.scalar x.scalar y.at x.at y.variant x.variant in
      record {
        truth = scalar_same x.scalar y.scalar;
        value = ap₂ equal_value x.value y.value ∙ ap as_truth (same_text_of x.scalar y.scalar x.variant y.variant);
        is = same_true (atom_holds k rows (atoms.Same p o)) ∙ t.is ∙ scalar_same-back y.scalar x.scalar;
        fits = t.fits;
      }
  atom_holds_at _ _ _ (truth e j c h) =
      let x : TruthHolds w k env rows e (operands.Field j c) = truth_holds w k env rows e (operands.Field j c) (operand e (operands.Field j c) tys.Bool h) in
      record {
        truth = x.truth;
        value = x.value;
        is = ap (λ o. same_bool (is_true o) true) x.at ∙ same_true x.truth;
        fits = ap (is_of tys.Bool) x.at;
      }
  atom_holds_at _ _ _ (member at x e o q ty named t h) =
      let y : OperandHolds w k env rows e o ty = operand e o ty h in
      let l : HoldsScalars ty (k.known q) (at_name env x) = m.known x q ty named t in
      let all : list_all (same_variant y.scalar) (k.known q) ≡ true = all_of_variant ty y.scalar (k.known q) y.variant (variant_of ty) l.typed in
      record {
        truth = list_any (scalar_same y.scalar) (k.known q);
        value = ap₂ member_value l.rows.is y.value ∙ ap (λ b. Ok (truth_value b)) (among_alone y.scalar (k.known q));
        is = ap (λ z. same_bool (is_member z (k.known q)) true) y.at ∙ same_true (list_any (scalar_same y.scalar) (k.known q) && list_all (same_variant y.scalar) (k.known q)) ∙ and_true (list_any (scalar_same y.scalar) (k.known q)) (list_all (same_variant y.scalar) (k.known q)) all;
        fits = ap (λ z. of_variant_of_all z (k.known q)) y.at ∙ all;
      }
  atom_holds_at _ _ _ (flag at x number opposite loops e) =
      record {
        truth = same_bool (k.flags number (map rows loops)) (not opposite);
        value = ap (λ o. found o >>= λ (held : Variable). Ok held.value) (m.in_sight x (Reads number opposite loops) e) ∙ ap Ok (read_flag opposite (k.flags number (map rows loops)));
        is = refl;
        fits = refl;
      }

-- ---- Formulas

-- the condition has a truth value, and the formula holds where it is the one that the polarity says
pub record FormHolds (w : java.World) (k : World) (known : List Atom) (env : Store) (rows : ℕ → Row) (polarity : Bool) (e : Expression) (f : Form) : Type 0 where
  pub truth : Bool
  pub value : value_of e w env ≡ Ok (truth_value truth)
  pub is : holds k known rows f ≡ same_bool polarity truth

abbrev pub negated_value : Result Value Ending → Result Value Ending
negated_value r = r >>= λ v. as_scalar v >>= λ x. as_bool x >>= λ b. Ok (truth_value (not b))

pub and_value : (at : Span) (b c : Bool) → binary_value at ops.And (Ok (truth_value b)) (Ok (truth_value c)) ≡ Ok (truth_value (b && c))
and_value at true c = refl
and_value at false c = refl

pub or_value : (at : Span) (b c : Bool) → binary_value at ops.Or (Ok (truth_value b)) (Ok (truth_value c)) ≡ Ok (truth_value (b || c))
or_value at true c = refl
or_value at false c = refl

pub form_holds : (n : Numbering) (flags : Flags) (w : java.World) (k : World) (known : List Atom) (env : Store) (rows : ℕ → Row) (polarity : Bool) (e : Expression) (f : Form) → IsForm known n flags polarity e f → Matches n flags w k env rows → FormHolds w k known env rows polarity e f
form_holds n flags w k known env rows _ _ _ (atom polarity e a s i h there) m =
    let x : AtomHolds w k env rows e a s = atom_holds_at n flags w k env rows m e a s h in
    record {
      truth = x.truth;
      value = x.value;
      is = ap (λ o. same_bool (known_atom_holds k rows o) (same_bool polarity s)) there ∙ same_twice polarity (atom_holds k rows a) s ∙ ap (same_bool polarity) x.is;
    }
form_holds n flags w k known env rows _ _ _ (negated polarity at e f h) m =
    let x : FormHolds w k known env rows (not polarity) e f = form_holds n flags w k known env rows (not polarity) e f h m in
    record { truth = not x.truth; value = ap negated_value x.value; is = x.is ∙ same_not polarity x.truth }
form_holds n flags w k known env rows _ _ _ (both at a b f g h i) m =
    let x : FormHolds w k known env rows true a f = form_holds n flags w k known env rows true a f h m in
    let y : FormHolds w k known env rows true b g = form_holds n flags w k known env rows true b g i m in
    record { truth = x.truth && y.truth; value = ap₂ (binary_value at ops.And) x.value y.value ∙ and_value at x.truth y.truth; is = ap₂ (λ u v. u && v) x.is y.is }
form_holds n flags w k known env rows _ _ _ (not_both at a b f g h i) m =
    let x : FormHolds w k known env rows false a f = form_holds n flags w k known env rows false a f h m in
    let y : FormHolds w k known env rows false b g = form_holds n flags w k known env rows false b g i m in
    record { truth = x.truth && y.truth; value = ap₂ (binary_value at ops.And) x.value y.value ∙ and_value at x.truth y.truth; is = ap₂ (λ u v. u || v) x.is y.is ∙ not_and x.truth y.truth }
form_holds n flags w k known env rows _ _ _ (either at a b f g h i) m =
    let x : FormHolds w k known env rows true a f = form_holds n flags w k known env rows true a f h m in
    let y : FormHolds w k known env rows true b g = form_holds n flags w k known env rows true b g i m in
    record { truth = x.truth || y.truth; value = ap₂ (binary_value at ops.Or) x.value y.value ∙ or_value at x.truth y.truth; is = ap₂ (λ u v. u || v) x.is y.is }
form_holds n flags w k known env rows _ _ _ (neither at a b f g h i) m =
    let x : FormHolds w k known env rows false a f = form_holds n flags w k known env rows false a f h m in
    let y : FormHolds w k known env rows false b g = form_holds n flags w k known env rows false b g i m in
    record { truth = x.truth || y.truth; value = ap₂ (binary_value at ops.Or) x.value y.value ∙ or_value at x.truth y.truth; is = ap₂ (λ u v. u && v) x.is y.is ∙ not_or x.truth y.truth }
