-- Trees that are found identical are equal.
use Rattle.std.proofs.Common.{◌≡◌, ℕ, Bool, true, false, ◌&&◌, List, [], ◌∷◌, nat_eq, refl, ap, ap₂, ◌∙◌, eqb-true}
use Rattle.tor_terms.specs.declared.term.Elem.{Elem}
use Rattle.tor_terms.specs.declared.term.Elem.TheVariants.{Whole, Field}
use Rattle.tor_terms.specs.declared.term.Index.{Index}
use Rattle.tor_terms.specs.declared.term.Index.TheVariants.{Zero, At, Next, Len}
use Rattle.tor_terms.specs.declared.term.Operand.{Operand}
use Rattle.tor_terms.specs.declared.term.Operand.TheVariants as operands
use Rattle.tor_terms.specs.declared.term.Way.{Way}
use Rattle.tor_terms.specs.declared.term.Way.TheVariants.{Max, Min}
use Rattle.tor_terms.specs.Plain.{Form, Is, Both, Either, Tree, Nil, Walk, Top, One, Single, Cat, Join, Sel, Proj, Uniq, Insert, Hold, Lit, Item, Count, Sum, Any, Best, Pick, Add, Or}
use Rattle.tor_terms.specs.Same.{same_flag, same_way, same_index, same_elem, same_numbers, same_form, same_forms, same_tree}
use Rattle.tor_terms.specs.Truth.{same_operand}
use Rattle.tor_terms.proofs.Scalars.{scalar_same-true}

-- two tests at once
pub both : {A B C : Type 0} {x y : A} {u v : B} (f : A → B → C) (a b : Bool) → (a && b) ≡ true → (a ≡ true → x ≡ y) → (b ≡ true → u ≡ v) → f x u ≡ f y v
both f true b h p q = ap₂ f (p refl) (q h)
both f false b h p q = cc

-- three tests at once
pub three : {A B C D : Type 0} {x y : A} {u v : B} {s t : C} (f : A → B → C → D) (a b c : Bool) → (a && (b && c)) ≡ true
    → (a ≡ true → x ≡ y) → (b ≡ true → u ≡ v) → (c ≡ true → s ≡ t) → f x u s ≡ f y v t
three {x = x} {v = v} {t = t} f true b c h p q r = both (f x) b c h q r ∙ ap (λ z. f z v t) (p refl)
three f false b c h p q r = cc

same_flag-true : (s t : Bool) → same_flag s t ≡ true → s ≡ t
same_flag-true true true h = refl
same_flag-true false false h = refl
same_flag-true true false h = cc
same_flag-true false true h = cc

same_way-true : (s t : Way) → same_way s t ≡ true → s ≡ t
same_way-true Max Max h = refl
same_way-true Min Min h = refl
same_way-true Max Min h = cc
same_way-true Min Max h = cc

same_index-true : (i j : Index) → same_index i j ≡ true → i ≡ j
same_index-true Zero Zero h = refl
same_index-true (At j) (At k) h = ap At (eqb-true j k h)
same_index-true (Next j) (Next k) h = ap Next (eqb-true j k h)
same_index-true (Len j) (Len k) h = ap Len (eqb-true j k h)
same_index-true _ _ h = cc

same_elem-true : (d e : Elem) → same_elem d e ≡ true → d ≡ e
same_elem-true (Whole j) (Whole k) h = ap Whole (eqb-true j k h)
same_elem-true (Field j c) (Field k d) h = both Field (nat_eq j k) (nat_eq c d) h (eqb-true j k) (eqb-true c d)
same_elem-true _ _ h = cc

pub same_operand-true : (a b : Operand) → same_operand a b ≡ true → a ≡ b
same_operand-true (operands.Field j c) (operands.Field k d) h = both operands.Field (nat_eq j k) (nat_eq c d) h (eqb-true j k) (eqb-true c d)
same_operand-true (operands.Entry j) (operands.Entry k) h = ap operands.Entry (eqb-true j k h)
same_operand-true (operands.Lit x) (operands.Lit y) h = ap operands.Lit (scalar_same-true x y h)
same_operand-true _ _ h = cc

same_numbers-true : (a b : List ℕ) → same_numbers a b ≡ true → a ≡ b
same_numbers-true [] [] h = refl
same_numbers-true (j ∷ a) (k ∷ b) h = both (λ x y. x ∷ y) (nat_eq j k) (same_numbers a b) h (eqb-true j k) (same_numbers-true a b)
same_numbers-true _ _ h = cc

same_form-true : (f g : Form) → same_form f g ≡ true → f ≡ g
same_form-true (Is j s) (Is k t) h = both Is (nat_eq j k) (same_flag s t) h (eqb-true j k) (same_flag-true s t)
same_form-true (Both f g) (Both d e) h = both Both (same_form f d) (same_form g e) h (same_form-true f d) (same_form-true g e)
same_form-true (Either f g) (Either d e) h = both Either (same_form f d) (same_form g e) h (same_form-true f d) (same_form-true g e)
same_form-true _ _ h = cc

same_forms-true : (fs gs : List Form) → same_forms fs gs ≡ true → fs ≡ gs
same_forms-true [] [] h = refl
same_forms-true (f ∷ fs) (g ∷ gs) h = both (λ x y. x ∷ y) (same_form f g) (same_forms fs gs) h (same_form-true f g) (same_forms-true fs gs)
same_forms-true _ _ h = cc

pub same_tree-true : (t u : Tree) → same_tree t u ≡ true → t ≡ u
same_tree-true Nil Nil h = refl
same_tree-true (Walk j) (Walk k) h = ap Walk (eqb-true j k h)
same_tree-true (Top i r) (Top j s) h = both Top (same_index i j) (same_tree r s) h (same_index-true i j) (same_tree-true r s)
same_tree-true (One a) (One b) h = ap One (same_numbers-true a b h)
same_tree-true (Single d) (Single e) h = ap Single (same_elem-true d e h)
same_tree-true (Cat r s) (Cat t u) h = both Cat (same_tree r t) (same_tree s u) h (same_tree-true r t) (same_tree-true s u)
same_tree-true (Join r s) (Join t u) h = both Join (same_tree r t) (same_tree s u) h (same_tree-true r t) (same_tree-true s u)
same_tree-true (Sel fs r) (Sel gs s) h = both Sel (same_forms fs gs) (same_tree r s) h (same_forms-true fs gs) (same_tree-true r s)
same_tree-true (Proj d r) (Proj e s) h = both Proj (same_elem d e) (same_tree r s) h (same_elem-true d e) (same_tree-true r s)
same_tree-true (Uniq r) (Uniq s) h = ap Uniq (same_tree-true r s h)
same_tree-true (Insert r d) (Insert s e) h = both Insert (same_tree r s) (same_elem d e) h (same_tree-true r s) (same_elem-true d e)
same_tree-true (Hold j) (Hold k) h = ap Hold (eqb-true j k h)
same_tree-true (Lit x) (Lit y) h = ap Lit (scalar_same-true x y h)
same_tree-true (Item d) (Item e) h = ap Item (same_elem-true d e h)
same_tree-true (Count r) (Count s) h = ap Count (same_tree-true r s h)
same_tree-true (Sum r) (Sum s) h = ap Sum (same_tree-true r s h)
same_tree-true (Any r) (Any s) h = ap Any (same_tree-true r s h)
same_tree-true (Best i r s) (Best j t u) h = three Best (same_way i j) (same_tree r t) (same_tree s u) h (same_way-true i j) (same_tree-true r t) (same_tree-true s u)
same_tree-true (Pick i r s) (Pick j t u) h = three Pick (same_way i j) (same_tree r t) (same_tree s u) h (same_way-true i j) (same_tree-true r t) (same_tree-true s u)
same_tree-true (Add r s) (Add t u) h = both Add (same_tree r t) (same_tree s u) h (same_tree-true r t) (same_tree-true s u)
same_tree-true (Or r s) (Or t u) h = both Or (same_tree r t) (same_tree s u) h (same_tree-true r t) (same_tree-true s u)
same_tree-true _ _ h = cc
