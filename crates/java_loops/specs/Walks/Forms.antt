-- Which operands, atoms and formulas of a fragment are those of expressions.
use Rattle.std.specs.Prelude.{◌≡◌, ℕ, Bool, true, false, not, List, [], ◌∷◌, ◌++◌, Option, Some, None, slice_get}
use Rattle.qbs_base.specs.declared.span.Span.{Span}
use Rattle.qbs_base.specs.declared.scalar.Scalar.{Scalar}
use Rattle.qbs_base.specs.declared.scalar.Ty.{Ty}
use Rattle.qbs_base.specs.declared.scalar.Ty.TheVariants as tys
use Rattle.qbs_base.specs.declared.columns.Column.{Column}
use Rattle.qbs_base.specs.Columns.{column_number, columns_at}
use Rattle.java_ast.specs.declared.tree.Op.{Op}
use Rattle.java_ast.specs.declared.tree.Op.TheVariants as ops
use Rattle.java_ast.specs.Tree as tree
use Rattle.java_ast.specs.Tree.{Expression}
use Rattle.java_mean.specs.Rules.{ty_of}
use Rattle.tor_terms.specs.declared.term.Atom.{Atom}
use Rattle.tor_terms.specs.declared.term.Atom.TheVariants as atoms
use Rattle.tor_terms.specs.declared.term.Elem.{Elem}
use Rattle.tor_terms.specs.declared.term.Elem.TheVariants as elems
use Rattle.tor_terms.specs.declared.term.Operand.{Operand}
use Rattle.tor_terms.specs.declared.term.Operand.TheVariants as operands
use Rattle.tor_terms.specs.declared.term.Way.{Way}
use Rattle.tor_terms.specs.declared.term.Way.TheVariants as ways
use Rattle.tor_terms.specs.Plain.{Form, Is, Both, Either}
use Rattle.tor_terms.specs.Truth.{same_bool}
use Rattle.java_loops.specs.Walks.Numbering.{Numbering, Reads, Flags}

-- an expression is this operand, with scalars of this type
pub data IsOperand (n : Numbering) : Expression → Operand → Ty → Type 0 where
  field : (at at' : Span) (x f : List ℕ) (j c : ℕ) (column : Column) → n.loops x ≡ Some j → column_number (columns_at n.schema (n.tables j)) f ≡ Some c → slice_get (columns_at n.schema (n.tables j)) c ≡ Some column → IsOperand n (tree.Field at (tree.Var at' x) f) (operands.Field j c) column.ty
  entry : (at : Span) (x : List ℕ) (k : ℕ) (ty : Ty) → n.entries x None ≡ Some k → slice_get n.entry_types k ≡ Some ty → IsOperand n (tree.Var at x) (operands.Entry k) ty
  entry_field : (at at' : Span) (x f : List ℕ) (k : ℕ) (ty : Ty) → n.entries x (Some f) ≡ Some k → slice_get n.entry_types k ≡ Some ty → IsOperand n (tree.Field at (tree.Var at' x) f) (operands.Entry k) ty
  literal : (at : Span) (x : Scalar) → IsOperand n (tree.Lit at x) (operands.Lit x) (ty_of x)

-- an expression is this element
pub data IsElement (n : Numbering) : Expression → Elem → Type 0 where
  whole : (at : Span) (x : List ℕ) (j : ℕ) → n.loops x ≡ Some j → IsElement n (tree.Var at x) (elems.Whole j)
  of_column : (e : Expression) (j c : ℕ) (ty : Ty) → IsOperand n e (operands.Field j c) ty → IsElement n e (elems.Field j c)

-- numbers and truth values are compared by `==`, texts by `equals`
abbrev pub by_identity : Ty → Bool
by_identity tys.Long = true
by_identity tys.Bool = true
by_identity tys.Text = false

-- An expression is true where the atom is as the last part says. The operands of `Same` may stand in either order.
pub data IsAtom (n : Numbering) (flags : Flags) : Expression → Atom → Bool → Type 0 where
  less : (at : Span) (a b : Expression) (o p : Operand) → IsOperand n a o tys.Long → IsOperand n b p tys.Long → IsAtom n flags (tree.Binary at ops.Lt a b) (atoms.Less o p) true
  greater : (at : Span) (a b : Expression) (o p : Operand) → IsOperand n a o tys.Long → IsOperand n b p tys.Long → IsAtom n flags (tree.Binary at ops.Gt a b) (atoms.Less p o) true
  at_most : (at : Span) (a b : Expression) (o p : Operand) → IsOperand n a o tys.Long → IsOperand n b p tys.Long → IsAtom n flags (tree.Binary at ops.Le a b) (atoms.Less p o) false
  at_least : (at : Span) (a b : Expression) (o p : Operand) → IsOperand n a o tys.Long → IsOperand n b p tys.Long → IsAtom n flags (tree.Binary at ops.Ge a b) (atoms.Less o p) false
  same : (at : Span) (a b : Expression) (o p : Operand) (ty : Ty) → by_identity ty ≡ true → IsOperand n a o ty → IsOperand n b p ty → IsAtom n flags (tree.Binary at ops.Eq a b) (atoms.Same o p) true
  same_turned : (at : Span) (a b : Expression) (o p : Operand) (ty : Ty) → by_identity ty ≡ true → IsOperand n a o ty → IsOperand n b p ty → IsAtom n flags (tree.Binary at ops.Eq a b) (atoms.Same p o) true
  other : (at : Span) (a b : Expression) (o p : Operand) (ty : Ty) → by_identity ty ≡ true → IsOperand n a o ty → IsOperand n b p ty → IsAtom n flags (tree.Binary at ops.Ne a b) (atoms.Same o p) false
  other_turned : (at : Span) (a b : Expression) (o p : Operand) (ty : Ty) → by_identity ty ≡ true → IsOperand n a o ty → IsOperand n b p ty → IsAtom n flags (tree.Binary at ops.Ne a b) (atoms.Same p o) false
  texts : (at : Span) (a b : Expression) (o p : Operand) → IsOperand n a o tys.Text → IsOperand n b p tys.Text → IsAtom n flags (tree.Equals at a b) (atoms.Same o p) true
  texts_turned : (at : Span) (a b : Expression) (o p : Operand) → IsOperand n a o tys.Text → IsOperand n b p tys.Text → IsAtom n flags (tree.Equals at a b) (atoms.Same p o) true
  truth : (e : Expression) (j c : ℕ) → IsOperand n e (operands.Field j c) tys.Bool → IsAtom n flags e (atoms.Truth (operands.Field j c)) true
  member : (at : Span) (x : List ℕ) (e : Expression) (o : Operand) (q : ℕ) (ty : Ty) → n.known x ≡ Some q → slice_get n.known_types q ≡ Some ty → IsOperand n e o ty → IsAtom n flags (tree.Contains at x e) (atoms.Member o q) true
  flag : (at : Span) (x : List ℕ) (k : ℕ) (opposite : Bool) (loops : List ℕ) → flags x ≡ Some (Reads k opposite loops) → IsAtom n flags (tree.Var at x) (atoms.Flag k loops) (not opposite)

-- A formula holds where the expression has this truth value: `!` is pushed inwards.
pub data IsForm (known : List Atom) (n : Numbering) (flags : Flags) : Bool → Expression → Form → Type 0 where
  atom : (polarity : Bool) (e : Expression) (a : Atom) (s : Bool) (k : ℕ) → IsAtom n flags e a s → slice_get known k ≡ Some a → IsForm known n flags polarity e (Is k (same_bool polarity s))
  negated : (polarity : Bool) (at : Span) (e : Expression) (f : Form) → IsForm known n flags (not polarity) e f → IsForm known n flags polarity (tree.Not at e) f
  both : (at : Span) (a b : Expression) (f g : Form) → IsForm known n flags true a f → IsForm known n flags true b g → IsForm known n flags true (tree.Binary at ops.And a b) (Both f g)
  not_both : (at : Span) (a b : Expression) (f g : Form) → IsForm known n flags false a f → IsForm known n flags false b g → IsForm known n flags false (tree.Binary at ops.And a b) (Either f g)
  either : (at : Span) (a b : Expression) (f g : Form) → IsForm known n flags true a f → IsForm known n flags true b g → IsForm known n flags true (tree.Binary at ops.Or a b) (Either f g)
  neither : (at : Span) (a b : Expression) (f g : Form) → IsForm known n flags false a f → IsForm known n flags false b g → IsForm known n flags false (tree.Binary at ops.Or a b) (Both f g)

-- The formulas are those of the conjuncts of a condition with this truth value, in their order; a conjunction
-- may stand whole, or by its own conjuncts.
pub data AreConjuncts (known : List Atom) (n : Numbering) (flags : Flags) : Bool → Expression → List Form → Type 0 where
  one : (polarity : Bool) (e : Expression) (f : Form) → IsForm known n flags polarity e f → AreConjuncts known n flags polarity e (f ∷ [])
  of_negated : (polarity : Bool) (at : Span) (e : Expression) (fs : List Form) → AreConjuncts known n flags (not polarity) e fs → AreConjuncts known n flags polarity (tree.Not at e) fs
  of_both : (at : Span) (a b : Expression) (fs gs : List Form) → AreConjuncts known n flags true a fs → AreConjuncts known n flags true b gs → AreConjuncts known n flags true (tree.Binary at ops.And a b) (fs ++ gs)
  of_neither : (at : Span) (a b : Expression) (fs gs : List Form) → AreConjuncts known n flags false a fs → AreConjuncts known n flags false b gs → AreConjuncts known n flags false (tree.Binary at ops.Or a b) (fs ++ gs)

abbrev pub other_way : Way → Way
other_way ways.Max = ways.Min
other_way ways.Min = ways.Max

abbrev pub turned_way : Bool → Option Way → Option Way
turned_way true way = way
turned_way false None = None
turned_way false (Some way) = Some (other_way way)

-- where `m op x` holds for x above m, the greatest x is kept, and where it holds for x below m, the least
abbrev pub way_of_op : Op → Option Way
way_of_op ops.Lt = Some ways.Max
way_of_op ops.Le = Some ways.Max
way_of_op ops.Gt = Some ways.Min
way_of_op ops.Ge = Some ways.Min
way_of_op _ = None

-- The same for a comparison that has this truth value, with m on the left or on the right.
abbrev pub way_of : Bool → Bool → Op → Option Way
way_of polarity left op = turned_way polarity (turned_way left (way_of_op op))

-- A condition that has this truth value is a conjunction of a comparison of the variable m with the column c of the
-- loop j, and of these formulas, which may be taken together from the left.
pub data IsBest (known : List Atom) (n : Numbering) (flags : Flags) (m : List ℕ) (way : Way) (j c : ℕ) : Bool → Expression → List Form → Type 0 where
  left : (polarity : Bool) (at at' : Span) (op : Op) (e : Expression) → way_of polarity true op ≡ Some way → IsOperand n e (operands.Field j c) tys.Long → IsBest known n flags m way j c polarity (tree.Binary at op (tree.Var at' m) e) []
  right : (polarity : Bool) (at at' : Span) (op : Op) (e : Expression) → way_of polarity false op ≡ Some way → IsOperand n e (operands.Field j c) tys.Long → IsBest known n flags m way j c polarity (tree.Binary at op e (tree.Var at' m)) []
  negated : (polarity : Bool) (at : Span) (e : Expression) (fs : List Form) → IsBest known n flags m way j c (not polarity) e fs → IsBest known n flags m way j c polarity (tree.Not at e) fs
  both_left : (at : Span) (a b : Expression) (fs gs : List Form) → IsBest known n flags m way j c true a fs → AreConjuncts known n flags true b gs → IsBest known n flags m way j c true (tree.Binary at ops.And a b) (fs ++ gs)
  both_right : (at : Span) (a b : Expression) (fs gs : List Form) → AreConjuncts known n flags true a fs → IsBest known n flags m way j c true b gs → IsBest known n flags m way j c true (tree.Binary at ops.And a b) (fs ++ gs)
  neither_left : (at : Span) (a b : Expression) (fs gs : List Form) → IsBest known n flags m way j c false a fs → AreConjuncts known n flags false b gs → IsBest known n flags m way j c false (tree.Binary at ops.Or a b) (fs ++ gs)
  neither_right : (at : Span) (a b : Expression) (fs gs : List Form) → AreConjuncts known n flags false a fs → IsBest known n flags m way j c false b gs → IsBest known n flags m way j c false (tree.Binary at ops.Or a b) (fs ++ gs)
  grouped : (polarity : Bool) (e : Expression) (f g : Form) (fs : List Form) → IsBest known n flags m way j c polarity e (f ∷ g ∷ fs) → IsBest known n flags m way j c polarity e (Both f g ∷ fs)
