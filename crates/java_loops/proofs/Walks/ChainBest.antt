-- A condition that compares a variable with a field lets the greatest or least of both be kept.
use Rattle.std.proofs.Common.{◌≡◌, ℕ, ℤ, Bool, true, false, not, cond, ◌&&◌, ◌||◌, List, ◌∷◌, Option, Some, None, Ok, refl, sym, ap, ap₂, ◌∙◌, int_lt}
use Rattle.std.specs.Prelude.{slice_get}
use Rattle.std.specs.Ordering.{int_cmp, is_lt, is_eq}
use Rattle.std.specs.declared.cmp.Ordering.TheVariants.{Less, Equal, Greater}
use Rattle.qbs_base.specs.declared.span.Span.{Span}
use Rattle.qbs_base.specs.declared.scalar.Row.{Row}
use Rattle.qbs_base.specs.declared.scalar.Scalar.TheVariants as scalars
use Rattle.qbs_base.specs.declared.scalar.Value.TheVariants.{One}
use Rattle.qbs_base.specs.Named.{at_name}
use Rattle.java_ast.specs.declared.tree.Op.{Op}
use Rattle.java_ast.specs.declared.tree.Op.TheVariants as ops
use Rattle.java_ast.specs.Tree.{Expression}
use Rattle.java_mean.specs.Endings.{◌>>=◌, found}
use Rattle.java_mean.specs.Expression.{value_of, less as java_less, truth as truth_value}
use Rattle.java_mean.specs.Store.{Store, Variable}
use Rattle.java_mean.specs.World as java
use Rattle.tor_terms.specs.declared.term.Atom.{Atom}
use Rattle.tor_terms.specs.declared.term.Way.{Way}
use Rattle.tor_terms.specs.declared.term.Way.TheVariants as ways
use Rattle.tor_terms.specs.Plain.{Form}
use Rattle.tor_terms.specs.Truth.{World, same_bool, holds, all_hold}
use Rattle.tor_terms.specs.Value.{better}
use Rattle.tor_terms.proofs.Scalars.{scalar_same-true, less-back}
use Rattle.java_loops.specs.Walks.Forms.{turned_way, way_of, IsBest, left, right, negated, both_left, both_right, neither_left, neither_right, grouped}
use Rattle.java_loops.specs.Walks.Matched.{Matches}
use Rattle.java_loops.specs.Walks.Numbering.{Numbering, Flags}
use Rattle.java_loops.proofs.Walks.ChainForms.{binary_value, negated_value, and_value, or_value}
use Rattle.java_loops.proofs.Walks.ChainOperands.{LongField, long_field}
use Rattle.java_loops.proofs.Walks.ChainTests.{same_not, not_or, and_first, not_not, one_more}
use Rattle.java_loops.proofs.Walks.ChainConjuncts.{all_append, ConjunctsHold, conjuncts_hold}

-- ---- Comparisons of numbers

lt_is : (x z : ℤ) → java_less x z ≡ int_lt x z
lt_is x z = go (int_lt x z) (int_lt z x)
  where
    go : (p q : Bool) → is_lt (cond p Less (cond q Greater Equal)) ≡ p
    go true q = refl
    go false true = refl
    go false false = refl

eq_is : (x z : ℤ) (p q : Bool) → int_lt x z ≡ p → int_lt z x ≡ q → p ≡ false → q ≡ false → x ≡ z
eq_is x z p q e f r s =
    let t : is_eq (int_cmp x z) ≡ true = ap₂ (λ a b. is_eq (cond a Less (cond b Greater Equal))) (e ∙ r) (f ∙ s) in
    let u : scalars.Long x ≡ scalars.Long z = scalar_same-true (scalars.Long x) (scalars.Long z) t in
    cc

one_way : (x z : ℤ) → int_lt x z ≡ true → int_lt z x ≡ false
one_way x z e = sym (lt_is z x) ∙ less-back (scalars.Long x) (scalars.Long z) (lt_is x z ∙ e)

-- the first where it isn't less, and the other where it is greater, are one
loose : (z x : ℤ) (p q : Bool) → int_lt x z ≡ p → int_lt z x ≡ q → cond (not p) x z ≡ cond q x z
loose z x true true e f = let t : false ≡ true = sym (one_way x z e) ∙ f in absurd cc
loose z x true false e f = refl
loose z x false true e f = refl
loose z x false false e f = eq_is x z false false e f refl refl

max_loose : (z x : ℤ) → cond (not (java_less x z)) x z ≡ better ways.Max z x
max_loose z x = ap (λ p. cond (not p) x z) (lt_is x z) ∙ loose z x (int_lt x z) (int_lt z x) refl refl

min_loose : (z x : ℤ) → cond (not (java_less z x)) x z ≡ better ways.Min z x
min_loose z x = ap (λ p. cond (not p) x z) (lt_is z x) ∙ back (int_lt z x) (int_lt x z) refl refl
  where
    back : (p q : Bool) → int_lt z x ≡ p → int_lt x z ≡ q → cond (not p) x z ≡ cond q x z
    back true true e f = let t : false ≡ true = sym (one_way z x e) ∙ f in absurd cc
    back true false e f = refl
    back false true e f = refl
    back false false e f = eq_is x z false false f e refl refl

max_strict : (z x : ℤ) → cond (java_less z x) x z ≡ better ways.Max z x
max_strict z x = ap (λ p. cond p x z) (lt_is z x)

min_strict : (z x : ℤ) → cond (java_less x z) x z ≡ better ways.Min z x
min_strict z x = ap (λ p. cond p x z) (lt_is x z)

twice : (b : Bool) (x z y : ℤ) → cond b x z ≡ y → cond (not (not b)) x z ≡ y
twice b x z y e = ap (λ p. cond p x z) (not_not b) ∙ e

-- ---- The comparison of the variable with the field

abbrev truth_of_op : Op → ℤ → ℤ → Bool
truth_of_op ops.Lt x y = java_less x y
truth_of_op ops.Le x y = not (java_less y x)
truth_of_op ops.Gt x y = java_less y x
truth_of_op ops.Ge x y = not (java_less x y)
truth_of_op _ x y = false

abbrev better_of : Option Way → ℤ → ℤ → ℤ
better_of (Some way) z x = better way z x
better_of None z x = z

turned_none : (p : Bool) → turned_way p None ≡ None
turned_none true = refl
turned_none false = refl

no_way : (p l : Bool) (way : Way) → turned_way p (turned_way l None) ≡ Some way → ⊥
no_way p l way e = let t : None ≡ Some way = sym (ap (turned_way p) (turned_none l) ∙ turned_none p) ∙ e in absurd cc

op_value : (at : Span) (op : Op) (p l : Bool) (way : Way) (x y : ℤ) → way_of p l op ≡ Some way → binary_value at op (Ok (One (scalars.Long x))) (Ok (One (scalars.Long y))) ≡ Ok (truth_value (truth_of_op op x y))
op_value at ops.Lt p l way x y e = refl
op_value at ops.Le p l way x y e = refl
op_value at ops.Gt p l way x y e = refl
op_value at ops.Ge p l way x y e = refl
op_value at ops.Or p l way x y e = absurd (no_way p l way e)
op_value at ops.And p l way x y e = absurd (no_way p l way e)
op_value at ops.Eq p l way x y e = absurd (no_way p l way e)
op_value at ops.Ne p l way x y e = absurd (no_way p l way e)
op_value at ops.Add p l way x y e = absurd (no_way p l way e)
op_value at ops.Sub p l way x y e = absurd (no_way p l way e)
op_value at ops.Mul p l way x y e = absurd (no_way p l way e)

left_better : (p : Bool) (op : Op) (way : Way) (z x : ℤ) → way_of p true op ≡ Some way → cond (same_bool p (truth_of_op op z x)) x z ≡ better_of (way_of p true op) z x
left_better true ops.Lt way z x e = max_strict z x
left_better true ops.Le way z x e = max_loose z x
left_better true ops.Gt way z x e = min_strict z x
left_better true ops.Ge way z x e = min_loose z x
left_better false ops.Lt way z x e = min_loose z x
left_better false ops.Le way z x e = twice (java_less x z) x z (better ways.Min z x) (min_strict z x)
left_better false ops.Gt way z x e = max_loose z x
left_better false ops.Ge way z x e = twice (java_less z x) x z (better ways.Max z x) (max_strict z x)
left_better p ops.Or way z x e = absurd (no_way p true way e)
left_better p ops.And way z x e = absurd (no_way p true way e)
left_better p ops.Eq way z x e = absurd (no_way p true way e)
left_better p ops.Ne way z x e = absurd (no_way p true way e)
left_better p ops.Add way z x e = absurd (no_way p true way e)
left_better p ops.Sub way z x e = absurd (no_way p true way e)
left_better p ops.Mul way z x e = absurd (no_way p true way e)

right_better : (p : Bool) (op : Op) (way : Way) (z x : ℤ) → way_of p false op ≡ Some way → cond (same_bool p (truth_of_op op x z)) x z ≡ better_of (way_of p false op) z x
right_better true ops.Lt way z x e = min_strict z x
right_better true ops.Le way z x e = min_loose z x
right_better true ops.Gt way z x e = max_strict z x
right_better true ops.Ge way z x e = max_loose z x
right_better false ops.Lt way z x e = max_loose z x
right_better false ops.Le way z x e = twice (java_less z x) x z (better ways.Max z x) (max_strict z x)
right_better false ops.Gt way z x e = min_loose z x
right_better false ops.Ge way z x e = twice (java_less x z) x z (better ways.Min z x) (min_strict z x)
right_better p ops.Or way z x e = absurd (no_way p false way e)
right_better p ops.And way z x e = absurd (no_way p false way e)
right_better p ops.Eq way z x e = absurd (no_way p false way e)
right_better p ops.Ne way z x e = absurd (no_way p false way e)
right_better p ops.Add way z x e = absurd (no_way p false way e)
right_better p ops.Sub way z x e = absurd (no_way p false way e)
right_better p ops.Mul way z x e = absurd (no_way p false way e)

-- ---- The whole condition

-- The condition holds where the formulas hold and the field is taken; what is taken then is the better of both.
pub record BestHolds (w : java.World) (k : World) (known : List Atom) (env : Store) (rows : ℕ → Row) (polarity : Bool) (e : Expression) (way : Way) (fs : List Form) (z x : ℤ) : Type 0 where
  pub truth : Bool
  pub value : value_of e w env ≡ Ok (truth_value truth)
  pub taken : Bool
  pub is : same_bool polarity truth ≡ (all_hold k known rows fs && taken)
  pub better : cond taken x z ≡ better way z x

module _ (known : List Atom) (n : Numbering) (flags : Flags) (a : List ℕ) (way : Way) (j c : ℕ) (w : java.World) (k : World) (env : Store) (rows : ℕ → Row) (z x : ℤ) (m : Matches n flags w k env rows) (held : (found (at_name env a) >>= λ (v : Variable). Ok v.value) ≡ Ok (One (scalars.Long z))) (there : slice_get (rows j).cells c ≡ Some (scalars.Long x)) where
  field_value : (e : Expression) → LongField w k env rows e j c → value_of e w env ≡ Ok (One (scalars.Long x))
  field_value e h = let t : Some (scalars.Long h.number) ≡ Some (scalars.Long x) = sym h.at ∙ there in let u : h.number ≡ x = cc in h.value ∙ ap (λ y. Ok (One (scalars.Long y))) u

  pub best_holds : (polarity : Bool) (e : Expression) (fs : List Form) → IsBest known n flags a way j c polarity e fs → BestHolds w k known env rows polarity e way fs z x
  best_holds _ _ _ (left polarity at at' op e q h) =
      record {
        truth = truth_of_op op z x;
        value = ap₂ (binary_value at op) held (field_value e (long_field n flags w k env rows e j c h m)) ∙ op_value at op polarity true way z x q;
        taken = same_bool polarity (truth_of_op op z x);
        is = refl;
        better = left_better polarity op way z x q ∙ ap (λ o. better_of o z x) q;
      }
  best_holds _ _ _ (right polarity at at' op e q h) =
      record {
        truth = truth_of_op op x z;
        value = ap₂ (binary_value at op) (field_value e (long_field n flags w k env rows e j c h m)) held ∙ op_value at op polarity false way x z q;
        taken = same_bool polarity (truth_of_op op x z);
        is = refl;
        better = right_better polarity op way z x q ∙ ap (λ o. better_of o z x) q;
      }
  best_holds _ _ _ (negated polarity at e fs h) =
      let r : BestHolds w k known env rows (not polarity) e way fs z x = best_holds (not polarity) e fs h in
      record { truth = not r.truth; value = ap negated_value r.value; taken = r.taken; is = sym (same_not polarity r.truth) ∙ r.is; better = r.better }
  best_holds _ _ _ (both_left at d e fs g h i) =
      let r : BestHolds w k known env rows true d way fs z x = best_holds true d fs h in
      let s : ConjunctsHold w k known env rows true e g = conjuncts_hold n flags w k known env rows true e g i m in
      record {
        truth = r.truth && s.truth;
        value = ap₂ (binary_value at ops.And) r.value s.value ∙ and_value at r.truth s.truth;
        taken = r.taken;
        is = ap₂ (λ u v. u && v) r.is (sym s.is) ∙ one_more (all_hold k known rows fs) (all_hold k known rows g) r.taken ∙ ap (λ b. b && r.taken) (sym (all_append k known rows fs g));
        better = r.better;
      }
  best_holds _ _ _ (both_right at d e f gs h i) =
      let r : ConjunctsHold w k known env rows true d f = conjuncts_hold n flags w k known env rows true d f h m in
      let s : BestHolds w k known env rows true e way gs z x = best_holds true e gs i in
      record {
        truth = r.truth && s.truth;
        value = ap₂ (binary_value at ops.And) r.value s.value ∙ and_value at r.truth s.truth;
        taken = s.taken;
        is = ap₂ (λ u v. u && v) (sym r.is) s.is ∙ and_first (all_hold k known rows f) (all_hold k known rows gs) s.taken ∙ ap (λ b. b && s.taken) (sym (all_append k known rows f gs));
        better = s.better;
      }
  best_holds _ _ _ (neither_left at d e fs g h i) =
      let r : BestHolds w k known env rows false d way fs z x = best_holds false d fs h in
      let s : ConjunctsHold w k known env rows false e g = conjuncts_hold n flags w k known env rows false e g i m in
      record {
        truth = r.truth || s.truth;
        value = ap₂ (binary_value at ops.Or) r.value s.value ∙ or_value at r.truth s.truth;
        taken = r.taken;
        is = sym (not_or r.truth s.truth) ∙ ap₂ (λ u v. u && v) r.is (sym s.is) ∙ one_more (all_hold k known rows fs) (all_hold k known rows g) r.taken ∙ ap (λ b. b && r.taken) (sym (all_append k known rows fs g));
        better = r.better;
      }
  best_holds _ _ _ (neither_right at d e f gs h i) =
      let r : ConjunctsHold w k known env rows false d f = conjuncts_hold n flags w k known env rows false d f h m in
      let s : BestHolds w k known env rows false e way gs z x = best_holds false e gs i in
      record {
        truth = r.truth || s.truth;
        value = ap₂ (binary_value at ops.Or) r.value s.value ∙ or_value at r.truth s.truth;
        taken = s.taken;
        is = sym (not_or r.truth s.truth) ∙ ap₂ (λ u v. u && v) (sym r.is) s.is ∙ and_first (all_hold k known rows f) (all_hold k known rows gs) s.taken ∙ ap (λ b. b && s.taken) (sym (all_append k known rows f gs));
        better = s.better;
      }
  best_holds _ _ _ (grouped polarity e f g fs h) =
      let r : BestHolds w k known env rows polarity e way (f ∷ g ∷ fs) z x = best_holds polarity e (f ∷ g ∷ fs) h in
      record { truth = r.truth; value = r.value; taken = r.taken; is = r.is ∙ ap (λ b. b && r.taken) (and_first (holds k known rows f) (holds k known rows g) (all_hold k known rows fs)); better = r.better }
