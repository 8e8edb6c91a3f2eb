-- Operands, atoms and formulas stay where more gets numbers.
use Rattle.std.proofs.Common.{◌≡◌, ℕ, Bool, true, false, not, List, Some, None, ap, ◌∙◌}
use Rattle.std.specs.Prelude.{slice_get}
use Rattle.qbs_base.specs.declared.columns.Column.{Column}
use Rattle.qbs_base.specs.declared.scalar.Ty.{Ty}
use Rattle.qbs_base.specs.declared.scalar.Ty.TheVariants as tys
use Rattle.qbs_base.specs.Values.{Schema}
use Rattle.qbs_base.specs.Columns.{column_number, columns_at}
use Rattle.java_ast.specs.Tree.{Expression}
use Rattle.tor_terms.specs.declared.term.Atom.{Atom}
use Rattle.tor_terms.specs.declared.term.Operand.{Operand}
use Rattle.tor_terms.specs.declared.term.Operand.TheVariants as operands
use Rattle.tor_terms.specs.Plain.{Form}
use Rattle.java_loops.specs.Walks.ChainLaws.{Prolongs}
use Rattle.java_loops.specs.Walks.Forms as forms
use Rattle.java_loops.specs.Walks.Forms.{IsOperand, field, entry, entry_field, literal, IsAtom, less, greater, at_most, at_least, same, same_turned, other, other_turned, texts, texts_turned, truth, member, flag, IsForm, atom, negated, both, not_both, either, neither}
use Rattle.java_loops.specs.Walks.Numbering.{Numbering, Flags, Extends}

same_columns : (s s' : Schema) (t t' : ℕ) → s' ≡ s → t' ≡ t → columns_at s' t' ≡ columns_at s t
same_columns s s' t t' e h = ap (λ (z : Schema). columns_at z t') e ∙ ap (columns_at s) h

module _ (n n' : Numbering) (x : Extends n n') where
  operand_stays : (e : Expression) (o : Operand) (ty : Ty) → IsOperand n e o ty → IsOperand n' e o ty
  operand_stays _ _ _ (field at at' y f j c column e named there) =
      let columns : columns_at n'.schema (n'.tables j) ≡ columns_at n.schema (n.tables j) = same_columns n.schema n'.schema (n.tables j) (n'.tables j) x.schema (x.tables y j e) in
      forms.field at at' y f j c column (x.loops y j e) (ap (λ (z : List Column). column_number z f) columns ∙ named) (ap (λ (z : List Column). slice_get z c) columns ∙ there)
  operand_stays _ _ _ (entry at y i ty e t) = forms.entry at y i ty (x.entries y None i e) (x.entry_types i ty t)
  operand_stays _ _ _ (entry_field at at' y f i ty e t) = forms.entry_field at at' y f i ty (x.entries y (Some f) i e) (x.entry_types i ty t)
  operand_stays _ _ _ (literal at y) = forms.literal at y

  atom_stays : (flags : Flags) (e : Expression) (a : Atom) (s : Bool) → IsAtom n flags e a s → IsAtom n' flags e a s
  atom_stays flags _ _ _ (less at a b o p h i) = forms.less at a b o p (operand_stays a o tys.Long h) (operand_stays b p tys.Long i)
  atom_stays flags _ _ _ (greater at a b o p h i) = forms.greater at a b o p (operand_stays a o tys.Long h) (operand_stays b p tys.Long i)
  atom_stays flags _ _ _ (at_most at a b o p h i) = forms.at_most at a b o p (operand_stays a o tys.Long h) (operand_stays b p tys.Long i)
  atom_stays flags _ _ _ (at_least at a b o p h i) = forms.at_least at a b o p (operand_stays a o tys.Long h) (operand_stays b p tys.Long i)
  atom_stays flags _ _ _ (same at a b o p ty q h i) = forms.same at a b o p ty q (operand_stays a o ty h) (operand_stays b p ty i)
  atom_stays flags _ _ _ (same_turned at a b o p ty q h i) = forms.same_turned at a b o p ty q (operand_stays a o ty h) (operand_stays b p ty i)
  atom_stays flags _ _ _ (other at a b o p ty q h i) = forms.other at a b o p ty q (operand_stays a o ty h) (operand_stays b p ty i)
  atom_stays flags _ _ _ (other_turned at a b o p ty q h i) = forms.other_turned at a b o p ty q (operand_stays a o ty h) (operand_stays b p ty i)
  atom_stays flags _ _ _ (texts at a b o p h i) = forms.texts at a b o p (operand_stays a o tys.Text h) (operand_stays b p tys.Text i)
  atom_stays flags _ _ _ (texts_turned at a b o p h i) = forms.texts_turned at a b o p (operand_stays a o tys.Text h) (operand_stays b p tys.Text i)
  atom_stays flags _ _ _ (truth e j c h) = forms.truth e j c (operand_stays e (operands.Field j c) tys.Bool h)
  atom_stays flags _ _ _ (member at y e o q ty named t h) = forms.member at y e o q ty (x.known y q named) (x.known_types q ty t) (operand_stays e o ty h)
  atom_stays flags _ _ _ (flag at y number opposite loops e) = forms.flag at y number opposite loops e

pub formulas_stay : (known more : List Atom) (n n' : Numbering) (flags : Flags) (polarity : Bool) (e : Expression) (f : Form) → Prolongs known more → Extends n n' → IsForm known n flags polarity e f → IsForm more n' flags polarity e f
formulas_stay known more n n' flags _ _ _ k x (atom polarity e a s i h there) = forms.atom polarity e a s i (atom_stays n n' x flags e a s h) (k i a there)
formulas_stay known more n n' flags _ _ _ k x (negated polarity at e f h) = forms.negated polarity at e f (formulas_stay known more n n' flags (not polarity) e f k x h)
formulas_stay known more n n' flags _ _ _ k x (both at a b f g h i) = forms.both at a b f g (formulas_stay known more n n' flags true a f k x h) (formulas_stay known more n n' flags true b g k x i)
formulas_stay known more n n' flags _ _ _ k x (not_both at a b f g h i) = forms.not_both at a b f g (formulas_stay known more n n' flags false a f k x h) (formulas_stay known more n n' flags false b g k x i)
formulas_stay known more n n' flags _ _ _ k x (either at a b f g h i) = forms.either at a b f g (formulas_stay known more n n' flags true a f k x h) (formulas_stay known more n n' flags true b g k x i)
formulas_stay known more n n' flags _ _ _ k x (neither at a b f g h i) = forms.neither at a b f g (formulas_stay known more n n' flags false a f k x h) (formulas_stay known more n n' flags false b g k x i)
