-- Banks of terms, which hold each term once, and its children before it.
use Rattle.std.specs.Prelude.{if◌then◌else◌, ◌≡◌, ℕ, Bool, true, List, [], ◌∷◌, ◌++◌, take, slice_get}
use Rattle.std.specs.List.{list_any, list_all}
use Rattle.std.specs.declared.option.Option.TheVariants.{Some}
use Rattle.tor_terms.specs.Plain.{Tree, Top, Cat, Join, Sel, Proj, Uniq, Insert, Count, Sum, Any, Best, Pick, Add, Or}
use Rattle.tor_terms.specs.Same.{same_tree}

-- the children of a term
abbrev pub children : Tree → List Tree
children (Top index r) = r ∷ []
children (Sel fs r) = r ∷ []
children (Proj e r) = r ∷ []
children (Uniq r) = r ∷ []
children (Insert r e) = r ∷ []
children (Count r) = r ∷ []
children (Sum r) = r ∷ []
children (Any r) = r ∷ []
children (Cat r s) = r ∷ s ∷ []
children (Join r s) = r ∷ s ∷ []
children (Best way v r) = v ∷ r ∷ []
children (Pick way v n) = v ∷ n ∷ []
children (Add a b) = a ∷ b ∷ []
children (Or a b) = a ∷ b ∷ []
children t = []

abbrev pub has_term : List Tree → Tree → Bool
has_term ts t = list_any (same_tree t) ts

-- each term stands at one place alone, and each child of it before it
pub record IsBank (ts : List Tree) : Type 0 where
  pub distinct : (i j : ℕ) (t : Tree) → slice_get ts i ≡ Some t → slice_get ts j ≡ Some t → i ≡ j
  pub closed : (i : ℕ) (t : Tree) → slice_get ts i ≡ Some t → list_all (has_term (take i ts)) (children t) ≡ true

-- a bank holds a term
abbrev pub Holds : List Tree → Tree → Type 0
Holds ts t = (n : ℕ) × (slice_get ts n ≡ Some t)

-- nothing is taken out, and nothing has another place
abbrev pub IsFrontOf : List Tree → List Tree → Type 0
IsFrontOf before after = (more : List Tree) × (after ≡ before ++ more)

-- with a term behind the others, where it isn't there yet
abbrev pub entered : List Tree → Tree → List Tree
entered ts t = if has_term ts t then ts else ts ++ t ∷ []

-- with a term and those of its parts that aren't there, children first, and the left one before the right
abbrev pub with_term : List Tree → Tree → List Tree
with_term ts (Top index r) = entered (with_term ts r) (Top index r)
with_term ts (Sel fs r) = entered (with_term ts r) (Sel fs r)
with_term ts (Proj e r) = entered (with_term ts r) (Proj e r)
with_term ts (Uniq r) = entered (with_term ts r) (Uniq r)
with_term ts (Insert r e) = entered (with_term ts r) (Insert r e)
with_term ts (Count r) = entered (with_term ts r) (Count r)
with_term ts (Sum r) = entered (with_term ts r) (Sum r)
with_term ts (Any r) = entered (with_term ts r) (Any r)
with_term ts (Cat r s) = entered (with_term (with_term ts r) s) (Cat r s)
with_term ts (Join r s) = entered (with_term (with_term ts r) s) (Join r s)
with_term ts (Best way v r) = entered (with_term (with_term ts v) r) (Best way v r)
with_term ts (Pick way v n) = entered (with_term (with_term ts v) n) (Pick way v n)
with_term ts (Add a b) = entered (with_term (with_term ts a) b) (Add a b)
with_term ts (Or a b) = entered (with_term (with_term ts a) b) (Or a b)
with_term ts t = entered ts t
