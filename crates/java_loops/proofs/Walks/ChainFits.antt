-- Atoms and updates fit all rows of their lists.
use Rattle.std.proofs.Common.{◌≡◌, ℕ, Bool, true, false, not, List, [], ◌∷◌, ◌++◌, Option, Some, None, IsTrue, refl, ap, ap₂, ◌∙◌, subst}
use Rattle.std.specs.Prelude.{slice_get}
use Rattle.std.specs.List.{AllByRecursion, Contains}
use Rattle.std.proofs.lemmas.List.Elements.{All-from_recursion, All-contains}
use Rattle.qbs_base.specs.declared.columns.Column.{Column}
use Rattle.qbs_base.specs.declared.scalar.Row.{Row}
use Rattle.qbs_base.specs.declared.scalar.Scalar.{Scalar}
use Rattle.qbs_base.specs.declared.scalar.Scalar.TheVariants as scalars
use Rattle.qbs_base.specs.declared.scalar.Ty.{Ty}
use Rattle.qbs_base.specs.declared.scalar.Ty.TheVariants as tys
use Rattle.qbs_base.specs.Named.{at_name}
use Rattle.qbs_base.specs.Values.{IsRowOf}
use Rattle.qbs_base.specs.Columns.{columns_at}
use Rattle.java_ast.specs.Tree.{Expression, Statement, Statements}
use Rattle.java_mean.specs.Store.{Store}
use Rattle.java_mean.specs.World as java
use Rattle.tor_terms.specs.declared.term.Atom.{Atom}
use Rattle.tor_terms.specs.declared.term.Atom.TheVariants as atoms
use Rattle.tor_terms.specs.declared.term.Operand.{Operand}
use Rattle.tor_terms.specs.declared.term.Operand.TheVariants as operands
use Rattle.tor_terms.specs.declared.term.Way.{Way}
use Rattle.tor_terms.specs.Plain.{Form}
use Rattle.tor_terms.specs.Truth.{World, operand_at}
use Rattle.kernel_lang.specs.Fitting.{Place, operand_places, is_of, comparable, of_one_variant, of_variant_of_all, AreRows, AtomFits, UpdateFits}
use Rattle.kernel_lang.specs.Plain.{Fragment}
use Rattle.kernel_lang.specs.Running.{Layer}
use Rattle.java_loops.specs.Walks.Chains.{Change, By, Takes, IsUpdate, push, push_new, tick, tick_turned, plus, plus_turned, mark, takes, IsChain, update, under, best, over, AreChain, here, declared, later}
use Rattle.java_loops.specs.Walks.Forms.{IsOperand, field, entry, entry_field, literal, IsAtom, less, greater, at_most, at_least, same, same_turned, other, other_turned, texts, texts_turned, truth, member, flag, IsBest, left, right, negated, both_left, both_right, neither_left, neither_right, grouped}
use Rattle.java_loops.specs.Walks.Matched.{entry_value, HoldsScalar, HoldsScalars}
use Rattle.java_loops.specs.Walks.Numbering.{Numbering, Flags}
use Rattle.java_loops.proofs.Walks.ChainForms.{same_variants, all_of_variant}
use Rattle.java_loops.proofs.Walks.ChainOperands.{HasCell, cells_of, cell_typed, variant_of, own_variant}

-- the rows of each list are of the loop's table
abbrev pub AreListed : Numbering → World → Type 0
AreListed n k = (j : ℕ) → AllByRecursion (IsRowOf (n.tables j) (columns_at n.schema (n.tables j))) (k.lists j)

-- ---- Operands at any rows

record IsThere (ty : Ty) (o : Option Scalar) : Type 0 where
  pub scalar : Scalar
  pub is : o ≡ Some scalar
  pub variant : is_of ty (Some scalar) ≡ true

there_typed : (ty : Ty) (o : Option Scalar) → HasCell ty o → IsThere ty o
there_typed ty o h = record { scalar = h.scalar; is = h.is; variant = variant_of ty h.scalar h.typed }

column_there : (n : Numbering) (k : World) (rows : ℕ → Row) (j c : ℕ) (column : Column) → AreListed n k → Contains (k.lists j) (rows j) → slice_get (columns_at n.schema (n.tables j)) c ≡ Some column → IsThere column.ty (slice_get (rows j).cells c)
column_there n k rows j c column listed at e =
    let P : Row → Type 0 = IsRowOf (n.tables j) (columns_at n.schema (n.tables j)) in
    let row : P (rows j) = All-contains P (k.lists j) (rows j) (All-from_recursion P (k.lists j) (listed j)) at in
    there_typed column.ty (slice_get (rows j).cells c) (cell_typed (columns_at n.schema (n.tables j)) (rows j).cells c column row.1 e)

split : {X : Type 0} (P : X → Type 0) (xs ys : List X) → AllByRecursion P (xs ++ ys) → AllByRecursion P xs × AllByRecursion P ys
split P [] ys h = (tt, h)
split P (x ∷ xs) ys h = let t = split P xs ys h.1 in ((h.0, t.0), t.1)

comparable_longs : (x y : Scalar) → is_of tys.Long (Some x) ≡ true → is_of tys.Long (Some y) ≡ true → comparable (Some x) (Some y) ≡ true
comparable_longs (scalars.Long x) (scalars.Long y) e f = refl
comparable_longs (scalars.Long x) (scalars.Bool y) e f = absurd cc
comparable_longs (scalars.Long x) (scalars.Text y) e f = absurd cc
comparable_longs (scalars.Bool x) y e f = absurd cc
comparable_longs (scalars.Text x) y e f = absurd cc

-- what a fragment is given, whatever loops are in sight
pub record HasGiven (n : Numbering) (w : java.World) (k : World) (env : Store) : Type 0 where
  pub lists : AreListed n k
  pub entries : (x : List ℕ) (f : Option (List ℕ)) (e : ℕ) (ty : Ty) → n.entries x f ≡ Some e → slice_get n.entry_types e ≡ Some ty → HoldsScalar ty (k.entries e) (entry_value w env x f)
  pub known : (x : List ℕ) (q : ℕ) (ty : Ty) → n.known x ≡ Some q → slice_get n.known_types q ≡ Some ty → HoldsScalars ty (k.known q) (at_name env x)

module _ (n : Numbering) (flags : Flags) (w : java.World) (k : World) (env : Store) (m : HasGiven n w k env) where
  operand_there : (e : Expression) (o : Operand) (ty : Ty) → IsOperand n e o ty → (rows' : ℕ → Row) → AreRows k rows' (operand_places o) → IsThere ty (operand_at k rows' o)
  operand_there _ _ _ (field at at' x f j c column e named there) rows' h = column_there n k rows' j c column m.lists h.0 there
  operand_there _ _ _ (entry at x i ty e t) rows' h = let s : HoldsScalar ty (k.entries i) _ = m.entries x None i ty e t in record { scalar = s.scalar; is = s.at; variant = variant_of ty s.scalar s.typed }
  operand_there _ _ _ (entry_field at at' x f i ty e t) rows' h = let s : HoldsScalar ty (k.entries i) _ = m.entries x (Some f) i ty e t in record { scalar = s.scalar; is = s.at; variant = variant_of ty s.scalar s.typed }
  operand_there _ _ _ (literal at x) rows' h = record { scalar = x; is = refl; variant = own_variant x }

  less_fits : (a b : Expression) (o p : Operand) → IsOperand n a o tys.Long → IsOperand n b p tys.Long → AtomFits k (atoms.Less o p)
  less_fits a b o p h i rows' at =
      let s = split (λ (place : Place). Contains (k.lists place.0) (rows' place.0)) (operand_places o) (operand_places p) at in
      let x : IsThere tys.Long (operand_at k rows' o) = operand_there a o tys.Long h rows' s.0 in
      let y : IsThere tys.Long (operand_at k rows' p) = operand_there b p tys.Long i rows' s.1 in
      ap₂ comparable x.is y.is ∙ comparable_longs x.scalar y.scalar x.variant y.variant

  same_fits : (a b : Expression) (o p : Operand) (ty : Ty) → IsOperand n a o ty → IsOperand n b p ty → AtomFits k (atoms.Same o p)
  same_fits a b o p ty h i rows' at =
      let s = split (λ (place : Place). Contains (k.lists place.0) (rows' place.0)) (operand_places o) (operand_places p) at in
      let x : IsThere ty (operand_at k rows' o) = operand_there a o ty h rows' s.0 in
      let y : IsThere ty (operand_at k rows' p) = operand_there b p ty i rows' s.1 in
      ap₂ of_one_variant x.is y.is ∙ same_variants ty x.scalar y.scalar x.variant y.variant

  pub atom_fits_everywhere : (e : Expression) (a : Atom) (s : Bool) → IsAtom n flags e a s → AtomFits k a
  atom_fits_everywhere _ _ _ (less at a b o p h i) = less_fits a b o p h i
  atom_fits_everywhere _ _ _ (greater at a b o p h i) = less_fits b a p o i h
  atom_fits_everywhere _ _ _ (at_most at a b o p h i) = less_fits b a p o i h
  atom_fits_everywhere _ _ _ (at_least at a b o p h i) = less_fits a b o p h i
  atom_fits_everywhere _ _ _ (same at a b o p ty q h i) = same_fits a b o p ty h i
  atom_fits_everywhere _ _ _ (same_turned at a b o p ty q h i) = same_fits b a p o ty i h
  atom_fits_everywhere _ _ _ (other at a b o p ty q h i) = same_fits a b o p ty h i
  atom_fits_everywhere _ _ _ (other_turned at a b o p ty q h i) = same_fits b a p o ty i h
  atom_fits_everywhere _ _ _ (texts at a b o p h i) = same_fits a b o p tys.Text h i
  atom_fits_everywhere _ _ _ (texts_turned at a b o p h i) = same_fits b a p o tys.Text i h
  atom_fits_everywhere _ _ _ (truth e j c h) = truth_fits
    where
      truth_fits : AtomFits k (atoms.Truth (operands.Field j c))
      truth_fits rows' at = let x : IsThere tys.Bool (operand_at k rows' (operands.Field j c)) = operand_there e (operands.Field j c) tys.Bool h rows' at in ap (is_of tys.Bool) x.is ∙ x.variant
  atom_fits_everywhere _ _ _ (member at x e o q ty named t h) = member_fits
    where
      member_fits : AtomFits k (atoms.Member o q)
      member_fits rows' at =
          let y : IsThere ty (operand_at k rows' o) = operand_there e o ty h rows' at in
          let l : HoldsScalars ty (k.known q) _ = m.known x q ty named t in
          ap (λ z. of_variant_of_all z (k.known q)) y.is ∙ all_of_variant ty y.scalar (k.known q) y.variant (variant_of ty) l.typed
  atom_fits_everywhere _ _ _ (flag at x number opposite loops e) = λ rows' at'. refl

-- ---- Numbers that are added and compared

abbrev IsLongColumn : World → ℕ → ℕ → Type 0
IsLongColumn k j c = AllByRecursion (λ (r : Row). IsTrue (is_of tys.Long (slice_get r.cells c))) (k.lists j)

long_cells : (t : ℕ) (columns : List Column) (c : ℕ) (column : Column) → slice_get columns c ≡ Some column → column.ty ≡ tys.Long → (rows : List Row) → AllByRecursion (IsRowOf t columns) rows → AllByRecursion (λ (r : Row). IsTrue (is_of tys.Long (slice_get r.cells c))) rows
long_cells t columns c column e long rows h = subst (λ (ty : Ty). AllByRecursion (λ (r : Row). IsTrue (is_of ty (slice_get r.cells c))) rows) long (cells_of t columns c column e rows h)

abbrev ColumnsAreLong : World → Operand → Ty → Type 0
ColumnsAreLong k (operands.Field j c) ty = ty ≡ tys.Long → IsLongColumn k j c
ColumnsAreLong k (operands.Entry i) ty = Unit {0}
ColumnsAreLong k (operands.Lit x) ty = Unit {0}

operand_long : (n : Numbering) (k : World) (e : Expression) (o : Operand) (ty : Ty) → AreListed n k → IsOperand n e o ty → ColumnsAreLong k o ty
operand_long n k _ _ _ listed (field at at' x f j c column e named there) = λ long. long_cells (n.tables j) (columns_at n.schema (n.tables j)) c column there long (k.lists j) (listed j)
operand_long n k _ _ _ listed (entry at x i ty e t) = tt
operand_long n k _ _ _ listed (entry_field at at' x f i ty e t) = tt
operand_long n k _ _ _ listed (literal at x) = tt

long_column : (n : Numbering) (k : World) (e : Expression) (j c : ℕ) → AreListed n k → IsOperand n e (operands.Field j c) tys.Long → IsLongColumn k j c
long_column n k e j c listed i = operand_long n k e (operands.Field j c) tys.Long listed i refl

best_column : (known : List Atom) (n : Numbering) (flags : Flags) (a : List ℕ) (way : Way) (j c : ℕ) (k : World) (polarity : Bool) (e : Expression) (fs : List Form) → AreListed n k → IsBest known n flags a way j c polarity e fs → IsLongColumn k j c
best_column known n flags a way j c k _ _ _ listed (left polarity at at' op e q h) = long_column n k e j c listed h
best_column known n flags a way j c k _ _ _ listed (right polarity at at' op e q h) = long_column n k e j c listed h
best_column known n flags a way j c k _ _ _ listed (negated polarity at e fs h) = best_column known n flags a way j c k (not polarity) e fs listed h
best_column known n flags a way j c k _ _ _ listed (both_left at d e fs g h i) = best_column known n flags a way j c k true d fs listed h
best_column known n flags a way j c k _ _ _ listed (both_right at d e f gs h i) = best_column known n flags a way j c k true e gs listed i
best_column known n flags a way j c k _ _ _ listed (neither_left at d e fs g h i) = best_column known n flags a way j c k false d fs listed h
best_column known n flags a way j c k _ _ _ listed (neither_right at d e f gs h i) = best_column known n flags a way j c k false e gs listed i
best_column known n flags a way j c k _ _ _ listed (grouped polarity e f g fs h) = best_column known n flags a way j c k polarity e (f ∷ g ∷ fs) listed h

abbrev ChangeFits : World → Change → Type 0
ChangeFits k (By u opposite) = UpdateFits k u
ChangeFits k (Takes e) = Unit {0}

update_fits : (n : Numbering) (k : World) (s : Statement) (a : List ℕ) (ch : Change) → AreListed n k → IsUpdate n s a ch → ChangeFits k ch
update_fits n k _ _ _ listed (push at a e x i) = tt
update_fits n k _ _ _ listed (push_new at a e j c i) = tt
update_fits n k _ _ _ listed (tick at at' at'' at''' a) = tt
update_fits n k _ _ _ listed (tick_turned at at' at'' at''' a) = tt
update_fits n k _ _ _ listed (plus at at' at'' a e j c i) = long_column n k e j c listed i
update_fits n k _ _ _ listed (plus_turned at at' at'' a e j c i) = long_column n k e j c listed i
update_fits n k _ _ _ listed (mark at at' a opposite) = tt
update_fits n k _ _ _ listed (takes at a e j c i) = tt

mutual
  pub chain_fits : (f : Fragment) (k : World) (quiet : Bool) (n : Numbering) (flags : Flags) (s : Statement) (a : List ℕ) (fs : List Form) (ys : List Layer) (ch : Change) → AreListed n k → IsChain f quiet n flags s a fs ys ch → ChangeFits k ch
  chain_fits f k _ _ _ _ _ _ _ _ listed (update quiet n flags s a ch i) = update_fits n k s a ch listed i
  chain_fits f k _ _ _ _ _ _ _ _ listed (under quiet n flags s a polarity c p g gs ys ch b i h) = chains_fit f k quiet n flags [] p a gs ys ch listed h
  chain_fits f k _ _ _ _ _ _ _ _ listed (best quiet n flags s a polarity c p way j column fs gs b i h) = best_column f.atoms n flags a way j column k polarity c fs listed i
  chain_fits f k _ _ _ _ _ _ _ _ listed (over quiet n flags at ty x e p a j gs ys u opposite l i o apart new h) = chains_fit f k quiet _ flags [] p a gs ys (By u opposite) listed h

  chains_fit : (f : Fragment) (k : World) (quiet : Bool) (n : Numbering) (flags : Flags) (bs : List (List ℕ)) (p : Statements) (a : List ℕ) (fs : List Form) (ys : List Layer) (ch : Change) → AreListed n k → AreChain f quiet n flags bs p a fs ys ch → ChangeFits k ch
  chains_fit f k _ _ _ _ _ _ _ _ _ listed (here quiet n flags bs s p a fs ys ch h after) = chain_fits f k quiet n flags s a fs ys ch listed h
  chains_fit f k _ _ _ _ _ _ _ _ _ listed (declared quiet n flags bs at at' b start p a fs ys ch i apart h) = chains_fit f k quiet n _ (b ∷ bs) p a fs ys ch listed h
  chains_fit f k _ _ _ _ _ _ _ _ _ listed (later quiet n flags flags' bs s p a fs ys ch i apart t none h) = chains_fit f k quiet n flags' bs p a fs ys ch listed h
