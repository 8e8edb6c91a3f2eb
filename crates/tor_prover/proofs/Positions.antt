-- The places of children: what is done at a child's path is done in the child, and a lighter child makes a
-- lighter term.
use Rattle.std.proofs.Common.{◌≡◌, ℕ, ◌+◌, ◌<◌, ◌≤◌, List, ◌∷◌, length, refl, arith, mul-le-mul, le_refl}
use Rattle.tor_terms.specs.declared.term.Index.{Index}
use Rattle.tor_terms.specs.declared.term.Index.TheVariants.{Zero, At, Next, Len}
use Rattle.tor_terms.specs.Plain.{Tree, Top, Cat, Join, Sel, Proj, Uniq, Insert, Count, Sum, Any, Best, Pick, Add, Or}
use Rattle.tor_axioms.specs.Paths.{at_path, within}
use Rattle.tor_axioms.specs.Rules.{Rule}
use Rattle.tor_axioms.specs.Weight.{index_weight, weight}
use Rattle.tor_axioms.proofs.Lower.{weight-two}
use Rattle.tor_axioms.proofs.Places.{Place, InTop, CatLeft, CatRight, JoinLeft, JoinRight, InSel, InProj, InUniq, InInsert, InCount, InSum, InAny, BestLeft, BestRight, PickLeft, PickRight, AddLeft, AddRight, OrLeft, OrRight, put}
use Rattle.tor_prover.specs.Normal.{Parts, NoChild, OneChild, TwoChildren, parts}

-- what a term is around the child of this number
pub record IsPlace (k : ℕ) (around : Tree → Tree) : Type 0 where
  pub inside : (f : Rule) (p : List ℕ) (r : Tree) → at_path f (k ∷ p) (around r) ≡ within around (at_path f p r)
  pub light : (r u : Tree) → weight u ≤ weight r → weight (around u) ≤ weight (around r)
  pub smaller : (r : Tree) → weight r < weight (around r)

abbrev child_number : Place → ℕ
child_number (CatRight r) = 1
child_number (JoinRight r) = 1
child_number (BestRight way v) = 1
child_number (PickRight way v) = 1
child_number (AddRight a) = 1
child_number (OrRight a) = 1
child_number _ = 0

inside_at : (place : Place) (f : Rule) (p : List ℕ) (r : Tree) → at_path f (child_number place ∷ p) (put place r) ≡ within (put place) (at_path f p r)
inside_at (InTop index) f p r = refl
inside_at (CatLeft s) f p r = refl
inside_at (CatRight s) f p r = refl
inside_at (JoinLeft s) f p r = refl
inside_at (JoinRight s) f p r = refl
inside_at (InSel fs) f p r = refl
inside_at (InProj e) f p r = refl
inside_at InUniq f p r = refl
inside_at (InInsert e) f p r = refl
inside_at InCount f p r = refl
inside_at InSum f p r = refl
inside_at InAny f p r = refl
inside_at (BestLeft way s) f p r = refl
inside_at (BestRight way s) f p r = refl
inside_at (PickLeft way s) f p r = refl
inside_at (PickRight way s) f p r = refl
inside_at (AddLeft s) f p r = refl
inside_at (AddRight s) f p r = refl
inside_at (OrLeft s) f p r = refl
inside_at (OrRight s) f p r = refl

light_at : (place : Place) (r u : Tree) → weight u ≤ weight r → weight (put place u) ≤ weight (put place r)
light_at (JoinLeft s) r u h = mul-le-mul h (le_refl (weight s))
light_at (JoinRight s) r u h = mul-le-mul (le_refl (weight s)) h
light_at (InSel fs) r u h = mul-le-mul (le_refl (length fs + 2)) h
light_at (InTop index) r u h = omega (arith, h)
light_at (CatLeft s) r u h = omega (arith, h)
light_at (CatRight s) r u h = omega (arith, h)
light_at (InProj e) r u h = omega (arith, h)
light_at InUniq r u h = omega (arith, h)
light_at (InInsert e) r u h = omega (arith, h)
light_at InCount r u h = omega (arith, h)
light_at InSum r u h = omega (arith, h)
light_at InAny r u h = omega (arith, h)
light_at (BestLeft way s) r u h = omega (arith, h)
light_at (BestRight way s) r u h = omega (arith, h)
light_at (PickLeft way s) r u h = omega (arith, h)
light_at (PickRight way s) r u h = omega (arith, h)
light_at (AddLeft s) r u h = omega (arith, h)
light_at (AddRight s) r u h = omega (arith, h)
light_at (OrLeft s) r u h = omega (arith, h)
light_at (OrRight s) r u h = omega (arith, h)

index_weight-one : (index : Index) → 1 ≤ index_weight index
index_weight-one Zero = omega arith
index_weight-one (At j) = omega arith
index_weight-one (Next j) = omega arith
index_weight-one (Len j) = omega arith

smaller_at : (place : Place) (r : Tree) → weight r < weight (put place r)
smaller_at (JoinLeft s) r = omega (arith, weight-two r, mul-le-mul (le_refl (weight r)) (weight-two s))
smaller_at (JoinRight s) r = omega (arith, weight-two r, mul-le-mul (weight-two s) (le_refl (weight r)))
smaller_at (InTop index) r = omega (arith, index_weight-one index)
smaller_at (InSel fs) r = omega (arith, weight-two r)
smaller_at (CatLeft s) r = omega (arith, weight-two r)
smaller_at (CatRight s) r = omega (arith, weight-two r)
smaller_at (InProj e) r = omega (arith, weight-two r)
smaller_at InUniq r = omega (arith, weight-two r)
smaller_at (InInsert e) r = omega (arith, weight-two r)
smaller_at InCount r = omega (arith, weight-two r)
smaller_at InSum r = omega (arith, weight-two r)
smaller_at InAny r = omega (arith, weight-two r)
smaller_at (BestLeft way s) r = omega (arith, weight-two s)
smaller_at (BestRight way s) r = omega (arith, weight-two r)
smaller_at (PickLeft way s) r = omega (arith, weight-two r)
smaller_at (PickRight way s) r = omega (arith, weight-two r)
smaller_at (AddLeft s) r = omega (arith, weight-two r)
smaller_at (AddRight s) r = omega (arith, weight-two r)
smaller_at (OrLeft s) r = omega (arith, weight-two r)
smaller_at (OrRight s) r = omega (arith, weight-two r)

at : (place : Place) → IsPlace (child_number place) (put place)
at place = record { inside = inside_at place; light = light_at place; smaller = smaller_at place }

-- what the parts of a term are to it
abbrev pub ArePartsOf : Tree → Parts → Type 0
ArePartsOf t (NoChild u) = u ≡ t
ArePartsOf t (OneChild around r) = (around r ≡ t) × IsPlace 0 around
ArePartsOf t (TwoChildren around r s) = (around r s ≡ t) × ((x : Tree) → IsPlace 0 (λ y. around y x)) × ((x : Tree) → IsPlace 1 (around x))

pub parts-are : (t : Tree) → ArePartsOf t (parts t)
parts-are (Top index r) = (refl, at (InTop index))
parts-are (Sel fs r) = (refl, at (InSel fs))
parts-are (Proj e r) = (refl, at (InProj e))
parts-are (Uniq r) = (refl, at InUniq)
parts-are (Insert r e) = (refl, at (InInsert e))
parts-are (Count r) = (refl, at InCount)
parts-are (Sum r) = (refl, at InSum)
parts-are (Any r) = (refl, at InAny)
parts-are (Cat r s) = (refl, (λ x. at (CatLeft x)), (λ x. at (CatRight x)))
parts-are (Join r s) = (refl, (λ x. at (JoinLeft x)), (λ x. at (JoinRight x)))
parts-are (Best way v r) = (refl, (λ x. at (BestLeft way x)), (λ x. at (BestRight way x)))
parts-are (Pick way v n) = (refl, (λ x. at (PickLeft way x)), (λ x. at (PickRight way x)))
parts-are (Add a b) = (refl, (λ x. at (AddLeft x)), (λ x. at (AddRight x)))
parts-are (Or a b) = (refl, (λ x. at (OrLeft x)), (λ x. at (OrRight x)))
parts-are _ = refl
