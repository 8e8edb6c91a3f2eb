-- Whether two trees are identical.
use Rattle.std.specs.Prelude.{if◌then◌else◌, ℕ, Bool, true, false, ◌&&◌, List, [], ◌∷◌, ◌++◌, nat_eq}
use Rattle.std.specs.List.{list_any}
use Rattle.qbs_base.specs.Scalar.{scalar_same}
use Rattle.tor_terms.specs.declared.term.Elem.{Elem}
use Rattle.tor_terms.specs.declared.term.Elem.TheVariants as elems
use Rattle.tor_terms.specs.declared.term.Index.{Index}
use Rattle.tor_terms.specs.declared.term.Index.TheVariants as indexes
use Rattle.tor_terms.specs.declared.term.Way.{Way}
use Rattle.tor_terms.specs.declared.term.Way.TheVariants as ways
use Rattle.tor_terms.specs.Plain.{Form, Is, Both, Either, Tree, Nil, Walk, Top, One, Single, Cat, Join, Sel, Proj, Uniq, Insert, Hold, Lit, Item, Count, Sum, Any, Best, Pick, Add, Or}

abbrev pub same_flag : Bool → Bool → Bool
same_flag true true = true
same_flag false false = true
same_flag _ _ = false

abbrev pub same_way : Way → Way → Bool
same_way ways.Max ways.Max = true
same_way ways.Min ways.Min = true
same_way _ _ = false

abbrev pub same_index : Index → Index → Bool
same_index indexes.Zero indexes.Zero = true
same_index (indexes.At j) (indexes.At k) = nat_eq j k
same_index (indexes.Next j) (indexes.Next k) = nat_eq j k
same_index (indexes.Len j) (indexes.Len k) = nat_eq j k
same_index _ _ = false

abbrev pub same_elem : Elem → Elem → Bool
same_elem (elems.Whole j) (elems.Whole k) = nat_eq j k
same_elem (elems.Field j c) (elems.Field k d) = nat_eq j k && nat_eq c d
same_elem _ _ = false

abbrev pub same_numbers : List ℕ → List ℕ → Bool
same_numbers [] [] = true
same_numbers (j ∷ a) (k ∷ b) = nat_eq j k && same_numbers a b
same_numbers _ _ = false

abbrev pub same_form : Form → Form → Bool
same_form (Is j s) (Is k t) = nat_eq j k && same_flag s t
same_form (Both f g) (Both h i) = same_form f h && same_form g i
same_form (Either f g) (Either h i) = same_form f h && same_form g i
same_form _ _ = false

abbrev pub same_forms : List Form → List Form → Bool
same_forms [] [] = true
same_forms (f ∷ fs) (g ∷ gs) = same_form f g && same_forms fs gs
same_forms _ _ = false

abbrev pub same_tree : Tree → Tree → Bool
same_tree Nil Nil = true
same_tree (Walk j) (Walk k) = nat_eq j k
same_tree (Top i r) (Top j s) = same_index i j && same_tree r s
same_tree (One a) (One b) = same_numbers a b
same_tree (Single d) (Single e) = same_elem d e
same_tree (Cat r s) (Cat t u) = same_tree r t && same_tree s u
same_tree (Join r s) (Join t u) = same_tree r t && same_tree s u
same_tree (Sel fs r) (Sel gs s) = same_forms fs gs && same_tree r s
same_tree (Proj d r) (Proj e s) = same_elem d e && same_tree r s
same_tree (Uniq r) (Uniq s) = same_tree r s
same_tree (Insert r d) (Insert s e) = same_tree r s && same_elem d e
same_tree (Hold j) (Hold k) = nat_eq j k
same_tree (Lit x) (Lit y) = scalar_same x y
same_tree (Item d) (Item e) = same_elem d e
same_tree (Count r) (Count s) = same_tree r s
same_tree (Sum r) (Sum s) = same_tree r s
same_tree (Any r) (Any s) = same_tree r s
same_tree (Best i r s) (Best j t u) = same_way i j && (same_tree r t && same_tree s u)
same_tree (Pick i r s) (Pick j t u) = same_way i j && (same_tree r t && same_tree s u)
same_tree (Add r s) (Add t u) = same_tree r t && same_tree s u
same_tree (Or r s) (Or t u) = same_tree r t && same_tree s u
same_tree _ _ = false

-- formulas with one more behind them, where it isn't there yet
abbrev pub entered : List Form → Form → List Form
entered pool f = if list_any (same_form f) pool then pool else pool ++ f ∷ []
