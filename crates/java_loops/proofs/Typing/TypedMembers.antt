-- Two tests of one known list of a lowered fragment are of one type.
use Rattle.std.proofs.Common.{◌≡◌, ℕ, Bool, true, false, not, ◌&&◌, ◌||◌, List, Option, Some, None, refl, sym, ap, ◌∙◌, nat_eq, slice_get}
use Rattle.std.specs.List.{AllByRecursion, list_all}
use Rattle.std.proofs.lemmas.Bool.{eqb-true}
use Rattle.qbs_base.specs.declared.columns.Column.{Column}
use Rattle.qbs_base.specs.declared.scalar.Ty.{Ty}
use Rattle.qbs_base.specs.Columns.{columns_at}
use Rattle.java_ast.specs.Tree.{Expression}
use Rattle.java_loops.specs.Walks.ChainStarts.{StandsForCondition}
use Rattle.java_loops.specs.Walks.Forms as forms
use Rattle.java_loops.specs.Walks.Forms.{IsOperand, IsAtom}
use Rattle.java_loops.specs.Walks.Numbering.{Flags, with_loops}
use Rattle.kernel_lang.specs.declared.parts.ListDef.{ListDef}
use Rattle.kernel_lang.specs.Typed.{list_column, operand_type, same_type, atom_is_typed, members_agree}
use Rattle.kernel_lang.specs.Validity.{is_field}
use Rattle.tor_terms.specs.declared.term.Atom.{Atom}
use Rattle.tor_terms.specs.declared.term.Atom.TheVariants as atoms
use Rattle.tor_terms.specs.declared.term.Operand.{Operand}
use Rattle.java_loops.specs.Kernel.Kernel.{lowering}
use Rattle.java_loops.specs.Lowering.Lowered.{lists_of}
use Rattle.java_loops.specs.Lowering.Numbering.{numbers_of}
use Rattle.java_loops.specs.Kernel.Setting.{Setting}
use Rattle.java_loops.proofs.Numbers.Numberings.{numbering}
use Rattle.java_loops.proofs.Typing.TypedPlaces.{each_passes, known_place}
use Rattle.java_loops.proofs.Valid.ValidOperands.{all_to_test}
use Rattle.java_loops.proofs.Valid.ValidThere.{zip_all}
use Rattle.java_loops.proofs.Valid.ValidTyped.{type_self}
use Rattle.java_loops.proofs.Valid.ValidVisits.{all_weaker}

-- ---- A test of a known list

-- the operand has the type of the scalars of the known list with this number
pub record IsMember (w : Setting) (a : Operand) (q : ℕ) : Type 0 where
  pub type : Ty
  pub known : slice_get (numbering w).known_types q ≡ Some type
  pub is : operand_type w.schema (lowering w).fragment a ≡ Some type

abbrev pub MemberTyped : Setting → Atom → Type 0
MemberTyped w (atoms.Member a q) = IsMember w a q
MemberTyped w _ = Unit {0}

column_there : (w : Setting) (j i : ℕ) (column : Column) (o : Option ListDef) → slice_get (lists_of w w.sites) j ≡ o → same_type (list_column w.schema o i) (list_column w.schema o i) ≡ true → slice_get (columns_at w.schema ((numbering w).tables j)) i ≡ Some column → list_column w.schema (slice_get (lists_of w w.sites) j) i ≡ Some column.ty
column_there w j i column (Some d) get h there = known_place w j i d column get there
column_there w j i column None get h there = absurd cc

-- a field that has a type has that of the program
field_of_type : (w : Setting) (loops : List ℕ → Option ℕ) (e : Expression) (o : Operand) (ty : Ty) → IsOperand (with_loops loops (numbering w)) e o ty → (is_field o && same_type (operand_type w.schema (lowering w).fragment o) (operand_type w.schema (lowering w).fragment o)) ≡ true → operand_type w.schema (lowering w).fragment o ≡ Some ty
field_of_type w loops _ _ _ (forms.field at at' x f j i column e named there) h = column_there w j i column (slice_get (lists_of w w.sites) j) refl h there
field_of_type w loops _ _ _ (forms.entry at x k ty e t) h = absurd cc
field_of_type w loops _ _ _ (forms.entry_field at at' x f k ty e t) h = absurd cc
field_of_type w loops _ _ _ (forms.literal at x) h = absurd cc

atom_member : (w : Setting) (loops : List ℕ → Option ℕ) (flags : Flags) (e : Expression) (a : Atom) (s : Bool) → IsAtom (with_loops loops (numbering w)) flags e a s → atom_is_typed w.schema (lowering w).fragment a ≡ true → MemberTyped w a
atom_member w loops flags _ _ _ (forms.member at x e o q ty named known h) t = record { type = ty; known = known; is = field_of_type w loops e o ty h t }
atom_member w loops flags _ _ _ (forms.less at a b o p h i) t = tt
atom_member w loops flags _ _ _ (forms.greater at a b o p h i) t = tt
atom_member w loops flags _ _ _ (forms.at_most at a b o p h i) t = tt
atom_member w loops flags _ _ _ (forms.at_least at a b o p h i) t = tt
atom_member w loops flags _ _ _ (forms.same at a b o p ty q h i) t = tt
atom_member w loops flags _ _ _ (forms.same_turned at a b o p ty q h i) t = tt
atom_member w loops flags _ _ _ (forms.other at a b o p ty q h i) t = tt
atom_member w loops flags _ _ _ (forms.other_turned at a b o p ty q h i) t = tt
atom_member w loops flags _ _ _ (forms.texts at a b o p h i) t = tt
atom_member w loops flags _ _ _ (forms.texts_turned at a b o p h i) t = tt
atom_member w loops flags _ _ _ (forms.truth e j c h) t = tt
atom_member w loops flags _ _ _ (forms.flag at x k opposite own e) t = tt

-- the tests of known lists are typed so, where the atoms stand for conditions and are typed
pub members_typed : (w : Setting) → AllByRecursion (StandsForCondition (numbering w)) (numbers_of w).atoms → list_all (atom_is_typed w.schema (lowering w).fragment) (numbers_of w).atoms ≡ true → AllByRecursion (MemberTyped w) (numbers_of w).atoms
members_typed w stand typed =
    all_weaker (λ a. StandsForCondition (numbering w) a × (atom_is_typed w.schema (lowering w).fragment a ≡ true)) (MemberTyped w) (numbers_of w).atoms (λ a h. atom_member w h.0.loops h.0.flags h.0.condition a h.0.truth h.0.is h.1)
    (zip_all (StandsForCondition (numbering w)) (λ a. atom_is_typed w.schema (lowering w).fragment a ≡ true) (numbers_of w).atoms stand (each_passes (atom_is_typed w.schema (lowering w).fragment) (numbers_of w).atoms typed))

-- ---- Two tests

same_known : (w : Setting) (a b : Operand) (q r : ℕ) (h : IsMember w a q) (i : IsMember w b r) (e : Bool) → nat_eq q r ≡ e → (not e || same_type (operand_type w.schema (lowering w).fragment a) (operand_type w.schema (lowering w).fragment b)) ≡ true
same_known w a b q r h i false e = refl
same_known w a b q r h i true e =
    let both : Some h.type ≡ Some i.type = sym h.known ∙ ap (slice_get (numbering w).known_types) (eqb-true q r e) ∙ i.known in
    ap (λ o. same_type o (operand_type w.schema (lowering w).fragment b)) h.is ∙ ap (same_type (Some h.type)) (i.is ∙ sym both) ∙ type_self h.type

agree : (w : Setting) (a b : Atom) → MemberTyped w a → MemberTyped w b → members_agree w.schema (lowering w).fragment a b ≡ true
agree w (atoms.Member a q) (atoms.Member b r) h i = same_known w a b q r h i (nat_eq q r) refl
agree w (atoms.Member a q) (atoms.Less c d) h i = refl
agree w (atoms.Member a q) (atoms.Same c d) h i = refl
agree w (atoms.Member a q) (atoms.Truth c) h i = refl
agree w (atoms.Member a q) (atoms.Flag k loops) h i = refl
agree w (atoms.Less c d) b h i = refl
agree w (atoms.Same c d) b h i = refl
agree w (atoms.Truth c) b h i = refl
agree w (atoms.Flag k loops) b h i = refl

-- Where the atoms stand for conditions and are typed, tests of one known list are of one type.
pub all_agree : (w : Setting) → AllByRecursion (StandsForCondition (numbering w)) (numbers_of w).atoms → list_all (atom_is_typed w.schema (lowering w).fragment) (numbers_of w).atoms ≡ true → list_all (λ a. list_all (members_agree w.schema (lowering w).fragment a) (numbers_of w).atoms) (numbers_of w).atoms ≡ true
all_agree w stand typed =
    let all : AllByRecursion (MemberTyped w) (numbers_of w).atoms = members_typed w stand typed in
    let test : Atom → Atom → Bool = members_agree w.schema (lowering w).fragment in
    all_to_test (λ a. list_all (test a) (numbers_of w).atoms) (numbers_of w).atoms
    (all_weaker (MemberTyped w) (λ a. list_all (test a) (numbers_of w).atoms ≡ true) (numbers_of w).atoms
    (λ a h. all_to_test (test a) (numbers_of w).atoms (all_weaker (MemberTyped w) (λ b. test a b ≡ true) (numbers_of w).atoms (λ b i. agree w a b h i) all)) all)
