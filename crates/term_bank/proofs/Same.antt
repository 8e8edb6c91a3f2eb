-- Each tree is identical with itself.
use Rattle.std.proofs.Common.{◌≡◌, ℕ, Bool, true, false, ◌&&◌, List, [], ◌∷◌, refl, nat_eq}
use Rattle.std.proofs.lemmas.Bool.{eq-eqb}
use Rattle.tor_terms.specs.declared.term.Elem.{Elem}
use Rattle.tor_terms.specs.declared.term.Elem.TheVariants.{Whole, Field}
use Rattle.tor_terms.specs.declared.term.Index.{Index}
use Rattle.tor_terms.specs.declared.term.Index.TheVariants.{Zero, At, Next, Len}
use Rattle.tor_terms.specs.declared.term.Way.{Way}
use Rattle.tor_terms.specs.declared.term.Way.TheVariants.{Max, Min}
use Rattle.tor_terms.specs.Plain.{Form, Is, Both, Either, Tree, Nil, Walk, Top, One, Single, Cat, Join, Sel, Proj, Uniq, Insert, Hold, Lit, Item, Count, Sum, Any, Best, Pick, Add, Or}
use Rattle.tor_terms.specs.Same.{same_flag, same_way, same_index, same_elem, same_numbers, same_form, same_forms, same_tree}
use Rattle.tor_terms.proofs.Scalars.{scalar_same-self}

pub two_tests : (a b : Bool) → a ≡ true → b ≡ true → (a && b) ≡ true
two_tests true b p q = q
two_tests false b p q = cc

number-self : (n : ℕ) → nat_eq n n ≡ true
number-self n = eq-eqb n n refl

same_flag-self : (b : Bool) → same_flag b b ≡ true
same_flag-self true = refl
same_flag-self false = refl

same_way-self : (w : Way) → same_way w w ≡ true
same_way-self Max = refl
same_way-self Min = refl

same_index-self : (i : Index) → same_index i i ≡ true
same_index-self Zero = refl
same_index-self (At j) = number-self j
same_index-self (Next j) = number-self j
same_index-self (Len j) = number-self j

same_elem-self : (e : Elem) → same_elem e e ≡ true
same_elem-self (Whole j) = number-self j
same_elem-self (Field j c) = two_tests (nat_eq j j) (nat_eq c c) (number-self j) (number-self c)

same_numbers-self : (a : List ℕ) → same_numbers a a ≡ true
same_numbers-self [] = refl
same_numbers-self (j ∷ a) = two_tests (nat_eq j j) (same_numbers a a) (number-self j) (same_numbers-self a)

same_form-self : (f : Form) → same_form f f ≡ true
same_form-self (Is j s) = two_tests (nat_eq j j) (same_flag s s) (number-self j) (same_flag-self s)
same_form-self (Both f g) = two_tests (same_form f f) (same_form g g) (same_form-self f) (same_form-self g)
same_form-self (Either f g) = two_tests (same_form f f) (same_form g g) (same_form-self f) (same_form-self g)

same_forms-self : (fs : List Form) → same_forms fs fs ≡ true
same_forms-self [] = refl
same_forms-self (f ∷ fs) = two_tests (same_form f f) (same_forms fs fs) (same_form-self f) (same_forms-self fs)

pub same_tree-self : (t : Tree) → same_tree t t ≡ true
same_tree-self Nil = refl
same_tree-self (Walk j) = number-self j
same_tree-self (Top i r) = two_tests (same_index i i) (same_tree r r) (same_index-self i) (same_tree-self r)
same_tree-self (One a) = same_numbers-self a
same_tree-self (Single e) = same_elem-self e
same_tree-self (Cat r s) = two_tests (same_tree r r) (same_tree s s) (same_tree-self r) (same_tree-self s)
same_tree-self (Join r s) = two_tests (same_tree r r) (same_tree s s) (same_tree-self r) (same_tree-self s)
same_tree-self (Sel fs r) = two_tests (same_forms fs fs) (same_tree r r) (same_forms-self fs) (same_tree-self r)
same_tree-self (Proj e r) = two_tests (same_elem e e) (same_tree r r) (same_elem-self e) (same_tree-self r)
same_tree-self (Uniq r) = same_tree-self r
same_tree-self (Insert r e) = two_tests (same_tree r r) (same_elem e e) (same_tree-self r) (same_elem-self e)
same_tree-self (Hold j) = number-self j
same_tree-self (Lit x) = scalar_same-self x
same_tree-self (Item e) = same_elem-self e
same_tree-self (Count r) = same_tree-self r
same_tree-self (Sum r) = same_tree-self r
same_tree-self (Any r) = same_tree-self r
same_tree-self (Best w r s) =
    two_tests (same_way w w) (same_tree r r && same_tree s s) (same_way-self w) (two_tests (same_tree r r) (same_tree s s) (same_tree-self r) (same_tree-self s))
same_tree-self (Pick w r s) =
    two_tests (same_way w w) (same_tree r r && same_tree s s) (same_way-self w) (two_tests (same_tree r r) (same_tree s s) (same_tree-self r) (same_tree-self s))
same_tree-self (Add r s) = two_tests (same_tree r r) (same_tree s s) (same_tree-self r) (same_tree-self s)
same_tree-self (Or r s) = two_tests (same_tree r r) (same_tree s s) (same_tree-self r) (same_tree-self s)
