-- The chain of loops, guards and update that a fragment has for one variable.
use Rattle.std.specs.Prelude.{◌≡◌, ℕ, pos, Bool, true, false, not, List, [], ◌∷◌, ◌++◌, take, slice_get, Option, Some, None}
use Rattle.std.specs.Str.{bytes_eq}
use Rattle.qbs_base.specs.declared.span.Span.{Span}
use Rattle.qbs_base.specs.declared.scalar.Scalar.TheVariants as scalars
use Rattle.qbs_base.specs.declared.scalar.Ty.TheVariants as tys
use Rattle.java_ast.specs.declared.tree.Op.TheVariants as ops
use Rattle.java_ast.specs.Tree as tree
use Rattle.java_ast.specs.Tree.{Spelled, Expression, Statement, Statements, Nothing, Then}
use Rattle.tor_terms.specs.declared.term.Elem.{Elem}
use Rattle.tor_terms.specs.declared.term.Elem.TheVariants as elems
use Rattle.tor_terms.specs.declared.term.Operand.TheVariants as operands
use Rattle.tor_terms.specs.declared.term.Way.{Way}
use Rattle.tor_terms.specs.Plain.{Form, Both}
use Rattle.tor_terms.specs.Truth.{has_loop}
use Rattle.kernel_lang.specs.declared.parts.Update.{Update}
use Rattle.kernel_lang.specs.declared.parts.Update.TheVariants as updates
use Rattle.kernel_lang.specs.Plain.{Accumulator, Fragment}
use Rattle.kernel_lang.specs.Running.{Layer, layer, inside}
use Rattle.java_loops.specs.Walks.Effects.{sets, all_set}
use Rattle.java_loops.specs.Walks.Forms.{IsOperand, IsElement, IsBest, AreConjuncts}
use Rattle.java_loops.specs.Walks.Numbering.{FromTable, FromVariable, Numbering, Starts, Reads, Flags, no_flags, with_flag, with_loop, IsApart, IsNewLoop}

-- What a statement makes of the variable: an update of the fragment, and for a flag whether the variable is the
-- opposite of it; or the element is taken as it is, under a comparison with the variable further out.
pub data Change : Type 0 where
  By : Update → Bool → Change
  Takes : Elem → Change

-- an assignment or an `add` to the variable a is this change
pub data IsUpdate (n : Numbering) : Statement → List ℕ → Change → Type 0 where
  push : (at : Span) (a : List ℕ) (e : Expression) (x : Elem) → IsElement n e x → IsUpdate n (tree.Add at a e) a (By (updates.Push x) false)
  push_new : (at : Span) (a : List ℕ) (e : Expression) (j c : ℕ) → IsElement n e (elems.Field j c) → IsUpdate n (tree.Add at a e) a (By (updates.PushNew (elems.Field j c)) false)
  tick : (at at' at'' at''' : Span) (a : List ℕ) → IsUpdate n (tree.Assign at a (tree.Binary at' ops.Add (tree.Var at'' a) (tree.Lit at''' (scalars.Long (pos 1))))) a (By updates.Tick false)
  tick_turned : (at at' at'' at''' : Span) (a : List ℕ) → IsUpdate n (tree.Assign at a (tree.Binary at' ops.Add (tree.Lit at''' (scalars.Long (pos 1))) (tree.Var at'' a))) a (By updates.Tick false)
  plus : (at at' at'' : Span) (a : List ℕ) (e : Expression) (j c : ℕ) → IsOperand n e (operands.Field j c) tys.Long → IsUpdate n (tree.Assign at a (tree.Binary at' ops.Add (tree.Var at'' a) e)) a (By (updates.Plus (elems.Field j c)) false)
  plus_turned : (at at' at'' : Span) (a : List ℕ) (e : Expression) (j c : ℕ) → IsOperand n e (operands.Field j c) tys.Long → IsUpdate n (tree.Assign at a (tree.Binary at' ops.Add e (tree.Var at'' a))) a (By (updates.Plus (elems.Field j c)) false)
  mark : (at at' : Span) (a : List ℕ) (opposite : Bool) → IsUpdate n (tree.Assign at a (tree.Lit at' (scalars.Bool (not opposite)))) a (By updates.Mark opposite)
  takes : (at : Span) (a : List ℕ) (e : Expression) (j c : ℕ) → IsOperand n e (operands.Field j c) tys.Long → IsUpdate n (tree.Assign at a e) a (Takes (elems.Field j c))

-- The variable a is set in one branch, which runs where the condition has this truth value.
pub data IsBranch : Statement → List ℕ → Bool → Expression → Statements → Type 0 where
  only_branch : (at : Span) (a : List ℕ) (c : Expression) (p : Statements) → IsBranch (tree.If at c p) a true c p
  first_branch : (at : Span) (a : List ℕ) (c : Expression) (p q : Statements) → all_set q a ≡ false → IsBranch (tree.IfElse at c p q) a true c p
  other_branch : (at : Span) (a : List ℕ) (c : Expression) (p q : Statements) → all_set p a ≡ false → IsBranch (tree.IfElse at c p q) a false c q

-- an expression is the list of this loop
pub data IsList (n : Numbering) : Expression → ℕ → Type 0 where
  fetch : (at : Span) (t : List ℕ) (j : ℕ) → n.sources j ≡ Some (FromTable t) → IsList n (tree.Fetch at t) j
  variable : (at : Span) (x : List ℕ) (j : ℕ) → n.sources j ≡ Some (FromVariable x) → IsList n (tree.Var at x) j

-- conditions as one guard, joined from left to right, the outer one first
abbrev pub joined_to : Form → List Form → Form
joined_to f [] = f
joined_to f (g ∷ gs) = joined_to (Both f g) gs

abbrev pub joined : List Form → Option Form
joined [] = None
joined (f ∷ fs) = Some (joined_to f fs)

abbrev pub declares : Statement → Bool
declares (tree.Declare at ty x e) = true
declares _ = false

-- an accumulator is the flag of these layers, number and loops, which are all loops in sight
pub record IsFlag (f : Fragment) (n : Numbering) (k : ℕ) (a : Accumulator) (ys : List Layer) : Type 0 where
  pub there : slice_get f.accs k ≡ Some a
  pub update : a.update ≡ updates.Mark
  pub start : a.start ≡ Some (scalars.Bool false)
  pub inside : inside a ≡ ys
  pub loops : (x : List ℕ) (j : ℕ) → n.loops x ≡ Some j → has_loop (take a.base a.chain) j ≡ true

-- A statement, or the statements of a block in which the variables bs are declared so far, change the variable a
-- under the conditions fs, in the loops and guards ys. Exactly one statement sets it. Where `quiet` is true no flag
-- is read. A statement that sets flags of its block lets them be read after it; a flag whose chain doesn't matter is
-- lost from sight.
mutual
  pub data IsChain (f : Fragment) : Bool → Numbering → Flags → Statement → List ℕ → List Form → List Layer → Change → Type 0 where
    update : (quiet : Bool) (n : Numbering) (flags : Flags) (s : Statement) (a : List ℕ) (ch : Change) → IsUpdate n s a ch → IsChain f quiet n flags s a [] [] ch
    under : (quiet : Bool) (n : Numbering) (flags : Flags) (s : Statement) (a : List ℕ) (polarity : Bool) (c : Expression) (p : Statements) (fs gs : List Form) (ys : List Layer) (ch : Change) → IsBranch s a polarity c p → AreConjuncts f.atoms n flags polarity c fs → AreChain f quiet n flags [] p a gs ys ch → IsChain f quiet n flags s a (fs ++ gs) ys ch
    best : (quiet : Bool) (n : Numbering) (flags : Flags) (s : Statement) (a : List ℕ) (polarity : Bool) (c : Expression) (p : Statements) (way : Way) (j column : ℕ) (fs gs : List Form) → IsBranch s a polarity c p → IsBest f.atoms n flags a way j column polarity c fs → AreChain f quiet n flags [] p a gs [] (Takes (elems.Field j column)) → IsChain f quiet n flags s a (fs ++ gs) [] (By (updates.Best way (elems.Field j column)) false)
    over : (quiet : Bool) (n : Numbering) (flags : Flags) (at : Span) (ty : Spelled) (x : List ℕ) (e : Expression) (p : Statements) (a : List ℕ) (j : ℕ) (gs : List Form) (ys : List Layer) (u : Update) (opposite : Bool) → IsList n e j → IsApart n x → flags x ≡ None → bytes_eq x a ≡ false → IsNewLoop n flags j → AreChain f quiet (with_loop x j n) flags [] p a gs ys (By u opposite) → IsChain f quiet n flags (tree.ForEach at ty x e p) a [] (layer j (joined gs) ∷ ys) (By u opposite)

  pub data AreChain (f : Fragment) : Bool → Numbering → Flags → List (List ℕ) → Statements → List ℕ → List Form → List Layer → Change → Type 0 where
    here : (quiet : Bool) (n : Numbering) (flags : Flags) (bs : List (List ℕ)) (s : Statement) (p : Statements) (a : List ℕ) (fs : List Form) (ys : List Layer) (ch : Change) → IsChain f quiet n flags s a fs ys ch → all_set p a ≡ false → AreChain f quiet n flags bs (Then s p) a fs ys ch
    declared : (quiet : Bool) (n : Numbering) (flags : Flags) (bs : List (List ℕ)) (at at' : Span) (b : List ℕ) (start : Bool) (p : Statements) (a : List ℕ) (fs : List Form) (ys : List Layer) (ch : Change) → IsApart n b → bytes_eq b a ≡ false → AreChain f quiet n (with_flag b (Some (Starts start)) flags) (b ∷ bs) p a fs ys ch → AreChain f quiet n flags bs (Then (tree.Declare at tree.Boolean b (tree.Lit at' (scalars.Bool start))) p) a fs ys ch
    later : (quiet : Bool) (n : Numbering) (flags flags' : Flags) (bs : List (List ℕ)) (s : Statement) (p : Statements) (a : List ℕ) (fs : List Form) (ys : List Layer) (ch : Change) → declares s ≡ false → sets s a ≡ false → Settles f quiet n flags s bs flags' → flags' a ≡ None → AreChain f quiet n flags' bs p a fs ys ch → AreChain f quiet n flags bs (Then s p) a fs ys ch

  -- the flags that are in sight after the statement, of those before it
  pub data Settles (f : Fragment) : Bool → Numbering → Flags → Statement → List (List ℕ) → Flags → Type 0 where
    ended : (quiet : Bool) (n : Numbering) (flags : Flags) (s : Statement) → Settles f quiet n flags s [] flags
    unset : (quiet : Bool) (n : Numbering) (flags flags' : Flags) (s : Statement) (b : List ℕ) (bs : List (List ℕ)) → sets s b ≡ false → Settles f quiet n flags s bs flags' → Settles f quiet n flags s (b ∷ bs) flags'
    lost : (quiet : Bool) (n : Numbering) (flags flags' : Flags) (s : Statement) (b : List ℕ) (bs : List (List ℕ)) → IsApart n b → Settles f quiet n flags s bs flags' → Settles f quiet n flags s (b ∷ bs) (with_flag b None flags')
    flagged : (n : Numbering) (flags flags' : Flags) (s : Statement) (b : List ℕ) (bs : List (List ℕ)) (k : ℕ) (acc : Accumulator) (ys : List Layer) → IsApart n b → IsFlag f n k acc ys → flags b ≡ Some (Starts acc.opposite) → IsChain f true n no_flags s b [] ys (By updates.Mark acc.opposite) → Settles f false n flags s bs flags' → Settles f false n flags s (b ∷ bs) (with_flag b (Some (Reads k acc.opposite (take acc.base acc.chain))) flags')
