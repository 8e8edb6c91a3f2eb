-- Terms and formulas as plain trees, which definitions and contracts speak of, and the plain tree of
-- each of the code. Operands, atoms, elements, ways and indexes are plain as the code declares them.
use Rattle.std.specs.Prelude.{ℕ, Bool, List, map}
use Rattle.qbs_base.specs.declared.scalar.Scalar.{Scalar}
use Rattle.tor_terms.specs.declared.term.Elem.{Elem}
use Rattle.tor_terms.specs.declared.term.Formula.{Formula}
use Rattle.tor_terms.specs.declared.term.Formula as formulas
use Rattle.tor_terms.specs.declared.term.Index.{Index}
use Rattle.tor_terms.specs.declared.term.Term.{Term}
use Rattle.tor_terms.specs.declared.term.Term as terms
use Rattle.tor_terms.specs.declared.term.Way.{Way}

pub data Form : Type 0 where
  Is : ℕ → Bool → Form
  Both : Form → Form → Form
  Either : Form → Form → Form

-- `Single e` is the list of one element
pub data Tree : Type 0 where
  Nil : Tree
  Walk : ℕ → Tree
  Top : Index → Tree → Tree
  One : List ℕ → Tree
  Single : Elem → Tree
  Cat : Tree → Tree → Tree
  Join : Tree → Tree → Tree
  Sel : List Form → Tree → Tree
  Proj : Elem → Tree → Tree
  Uniq : Tree → Tree
  Insert : Tree → Elem → Tree
  Hold : ℕ → Tree
  Lit : Scalar → Tree
  Item : Elem → Tree
  Count : Tree → Tree
  Sum : Tree → Tree
  Any : Tree → Tree
  Best : Way → Tree → Tree → Tree
  Pick : Way → Tree → Tree → Tree
  Add : Tree → Tree → Tree
  Or : Tree → Tree → Tree

abbrev pub form_of : Formula → Form
form_of (formulas.Is k holds) = Is k holds
form_of (formulas.Both' _ f _ g) = Both (form_of f) (form_of g)
form_of (formulas.Either' _ f _ g) = Either (form_of f) (form_of g)

abbrev pub forms_of : List Formula → List Form
forms_of fs = map form_of fs

abbrev pub tree_of : Term → Tree
tree_of terms.Nil = Nil
tree_of (terms.Walk j) = Walk j
tree_of (terms.Top' index _ r) = Top index (tree_of r)
tree_of (terms.One loops) = One loops
tree_of (terms.Unit e) = Single e
tree_of (terms.Cat' _ r _ s) = Cat (tree_of r) (tree_of s)
tree_of (terms.Join' _ r _ s) = Join (tree_of r) (tree_of s)
tree_of (terms.Sel' fs _ r) = Sel (forms_of fs) (tree_of r)
tree_of (terms.Proj' e _ r) = Proj e (tree_of r)
tree_of (terms.Uniq' _ r) = Uniq (tree_of r)
tree_of (terms.Insert' _ r e) = Insert (tree_of r) e
tree_of (terms.Hold n) = Hold n
tree_of (terms.Lit x) = Lit x
tree_of (terms.Item e) = Item e
tree_of (terms.Count' _ r) = Count (tree_of r)
tree_of (terms.Sum' _ r) = Sum (tree_of r)
tree_of (terms.Any' _ r) = Any (tree_of r)
tree_of (terms.Best' way _ v _ r) = Best way (tree_of v) (tree_of r)
tree_of (terms.Pick' way _ v _ n) = Pick way (tree_of v) (tree_of n)
tree_of (terms.Add' _ a _ b) = Add (tree_of a) (tree_of b)
tree_of (terms.Or' _ a _ b) = Or (tree_of a) (tree_of b)
