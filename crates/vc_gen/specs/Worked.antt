-- The conditions of worked candidates, each written out.
use Rattle.std.specs.Prelude.{ℕ, true, false, List, [], ◌∷◌}
use Rattle.qbs_base.specs.declared.scalar.Scalar.TheVariants as scalars
use Rattle.tor_terms.specs.declared.term.Elem.TheVariants as elems
use Rattle.tor_terms.specs.declared.term.Way.TheVariants.{Max}
use Rattle.tor_terms.specs.declared.term.Index.{Index}
use Rattle.tor_terms.specs.declared.term.Index.TheVariants.{Zero, At, Next, Len}
use Rattle.tor_terms.specs.Plain.{Is, Tree, Nil, Walk, Top, One, Single, Cat, Join, Sel, Proj, Uniq, Insert, Hold, Lit, Item, Sum, Any, Best, Pick, Add, Or}
use Rattle.tor_axioms.specs.Accepts.{Claim}
use Rattle.tor_axioms.specs.Decide.{literal}
use Rattle.tor_axioms.specs.declared.facts.Literal.{Literal}
use Rattle.kernel_lang.specs.Plain.{Fragment}
use Rattle.kernel_lang.specs.Worked.{long, class_A, class_B, class_C, class_D, class_E, name_set}

abbrev condition : Fragment → List Literal → Tree → Tree → Claim
condition f facts left right = record { atoms = f.atoms; facts = facts; left = left; right = right }

-- the first turns of a loop
abbrev first : Index → ℕ → Tree
first index j = Top index (Walk j)

-- ---- one loop whose guard is chosen: at entry, in a turn in which it holds or doesn't, at exit

abbrev selected : Tree → Tree
selected x = Cat Nil (Proj (elems.Whole 0) (Sel (Is 0 true ∷ []) x))

abbrev pub of_one_loop : List Claim
of_one_loop =
    condition class_A [] (selected (first Zero 0)) Nil
    ∷ condition class_A (literal 0 true ∷ []) (selected (first (Next 0) 0)) (Cat (selected (first (At 0) 0)) (Single (elems.Whole 0)))
    ∷ condition class_A (literal 0 false ∷ []) (selected (first (Next 0) 0)) (selected (first (At 0) 0))
    ∷ condition class_A [] (selected (first (Len 0) 0)) (selected (Walk 0))
    ∷ []

-- ---- a loop inside another, whose guard is chosen

-- w followed by what is selected of the level's tuples
abbrev joined : Tree → Tree → Tree
joined w tuples = Cat w (Proj (elems.Whole 0) (Sel (Is 0 true ∷ []) tuples))

abbrev outer_level : Tree → Tree
outer_level x = joined Nil (Join x (Walk 1))

abbrev inner_level : Tree → Tree → Tree
inner_level w x = joined w (Join (One (0 ∷ [])) x)

-- the loop outside begins with nothing, the one inside with what it holds
abbrev pub of_a_nest : List Claim
of_a_nest =
    condition class_B [] (outer_level (first Zero 0)) Nil
    ∷ condition class_B [] (outer_level (first (Next 0) 0)) (inner_level (outer_level (first (At 0) 0)) (Walk 1))
    ∷ condition class_B [] (outer_level (first (Len 0) 0)) (outer_level (Walk 0))
    ∷ condition class_B [] (inner_level (Hold 2) (first Zero 1)) (Hold 2)
    ∷ condition class_B (literal 0 true ∷ []) (inner_level (Hold 2) (first (Next 1) 1)) (Cat (inner_level (Hold 2) (first (At 1) 1)) (Single (elems.Whole 0)))
    ∷ condition class_B (literal 0 false ∷ []) (inner_level (Hold 2) (first (Next 1) 1)) (inner_level (Hold 2) (first (At 1) 1))
    ∷ condition class_B [] (inner_level (Hold 2) (first (Len 1) 1)) (inner_level (Hold 2) (Walk 1))
    ∷ []

-- ---- a flag that is set in a loop inside, and read in the guard of the one outside

abbrev flagged : Tree → Tree
flagged x = Cat Nil (Proj (elems.Whole 0) (Sel (Is 1 true ∷ []) x))

abbrev not_set : Tree
not_set = Lit (scalars.Bool false)

abbrev flag : Tree → Tree
flag x = Or not_set (Any (Sel (Is 0 true ∷ []) (Join (One (0 ∷ [])) x)))

-- the flag's own come last, and only those of the loop inside its declaration
abbrev pub of_a_flag : List Claim
of_a_flag =
    condition class_E [] (flagged (first Zero 0)) Nil
    ∷ condition class_E (literal 1 true ∷ []) (flagged (first (Next 0) 0)) (Cat (flagged (first (At 0) 0)) (Single (elems.Whole 0)))
    ∷ condition class_E (literal 1 false ∷ []) (flagged (first (Next 0) 0)) (flagged (first (At 0) 0))
    ∷ condition class_E [] (flagged (first (Len 0) 0)) (flagged (Walk 0))
    ∷ condition class_E [] (flag (first Zero 1)) not_set
    ∷ condition class_E (literal 0 true ∷ []) (flag (first (Next 1) 1)) (Lit (scalars.Bool true))
    ∷ condition class_E (literal 0 false ∷ []) (flag (first (Next 1) 1)) (flag (first (At 1) 1))
    ∷ condition class_E [] (flag (first (Len 1) 1)) (flag (Walk 1))
    ∷ []

-- ---- one loop without a guard: the greatest, the sum, the different values

-- a column of the tuples, none of which is left out
abbrev column : ℕ → Tree → Tree
column c x = Proj (elems.Field 0 c) (Sel [] x)

-- at entry, in a turn, at exit
abbrev three : Fragment → (Tree → Tree) → Tree → Tree → List Claim
three f so_far start more =
    condition f [] (so_far (first Zero 0)) start
    ∷ condition f [] (so_far (first (Next 0) 0)) more
    ∷ condition f [] (so_far (first (Len 0) 0)) (so_far (Walk 0))
    ∷ []

abbrev greatest : Tree → Tree
greatest x = Best Max (Lit (long 10)) (column 3 x)

abbrev pub of_the_greatest : List Claim
of_the_greatest = three class_C greatest (Lit (long 10)) (Pick Max (greatest (first (At 0) 0)) (Item (elems.Field 0 3)))

abbrev sum : Tree → Tree
sum x = Add (Lit (long 0)) (Sum (column 3 x))

abbrev pub of_a_sum : List Claim
of_a_sum = three class_D sum (Lit (long 0)) (Add (sum (first (At 0) 0)) (Item (elems.Field 0 3)))

abbrev different : Tree → Tree
different x = Uniq (column 1 x)

abbrev pub of_a_set : List Claim
of_a_set = three name_set different Nil (Insert (different (first (At 0) 0)) (elems.Field 0 1))
