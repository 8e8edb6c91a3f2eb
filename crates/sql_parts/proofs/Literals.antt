-- The truth of literals and formulas as conditions is that of the atoms and formulas.
use Rattle.std.proofs.Common.{◌≡◌, ℕ, Bool, true, false, cond, not, ◌&&◌, ◌||◌, List, [], ◌∷◌, map, slice_get, refl, sym, ap, ap₂, ◌∙◌, subst}
use Rattle.std.specs.List.{AllByRecursion, list_all}
use Rattle.std.specs.declared.option.Option.{Option}
use Rattle.std.specs.declared.option.Option.TheVariants.{Some, None}
use Rattle.qbs_base.specs.declared.scalar.Row.{Row}
use Rattle.qbs_base.specs.declared.scalar.Scalar.{Scalar}
use Rattle.qbs_base.specs.declared.scalar.Scalar.TheVariants as scalars
use Rattle.qbs_base.specs.declared.scalar.Ty.{Ty}
use Rattle.qbs_base.specs.declared.scalar.Ty.TheVariants as tys
use Rattle.qbs_base.specs.Scalar.{compared, scalar_less, scalar_same}
use Rattle.qbs_base.specs.Values.{Database, AreOf}
use Rattle.tor_terms.specs.declared.term.Atom.{Atom}
use Rattle.tor_terms.specs.declared.term.Atom.TheVariants as atoms
use Rattle.tor_terms.specs.declared.term.Operand.{Operand}
use Rattle.tor_terms.specs.Plain.{Form, Is, Both, Either}
use Rattle.tor_terms.specs.Truth.{World, operand_at, same_operand, less, is_true, is_member, atom_holds, known_atom_holds, truth, same_bool, holds, all_hold, operand_within, atom_within, known_within, form_within}
use Rattle.tor_terms.proofs.Identical.{same_operand-true}
use Rattle.tor_terms.proofs.Scalars.{scalar_same-self}
use Rattle.kernel_lang.specs.Fitting.{is_of}
use Rattle.kernel_lang.specs.Plain.{Fragment}
use Rattle.kernel_lang.specs.Typed.{operand_type, same_type, is_type, atom_is_typed}
use Rattle.kernel_lang.specs.Validity.{is_field, is_no_flag, reads_no_flag}
use Rattle.kernel_lang.proofs.Listing.{and_left, and_right, list_all_at}
use Rattle.sql_ast.specs.declared.tree.Cmp.TheVariants as tests
use Rattle.sql_ast.specs.declared.tree.SqlOpnd.TheVariants as opnds
use Rattle.sql_ast.specs.Meaning.{Combination, operand_of, truth_of, passes}
use Rattle.sql_ast.specs.Meaning as sql
use Rattle.sql_ast.specs.Tree.{Condition, Compare}
use Rattle.sql_ast.specs.Tree as plain
use Rattle.sql_parts.specs.Scopes.{Ground, Scope}
use Rattle.sql_parts.specs.Emitted.{side, fixed, less_test, greater_test, same_test, signed, less_condition, args_of, within_query, FlagCondition, literal, formula, joined_from, joined}
use Rattle.sql_parts.proofs.Rows.{IsScalarOf, RowsTyped, Sees, side_is, operand_typed}
use Rattle.sql_parts.proofs.Tools.{and_assoc, and_true, same_true, same_false}

-- ---- types

pub record OneType (a b : Option Ty) : Type 0 where
  pub ty : Ty
  pub first : a ≡ Some ty
  pub second : b ≡ Some ty

pub one_type : (a b : Option Ty) → same_type a b ≡ true → OneType a b
one_type (Some tys.Long) (Some tys.Long) e = record { ty = tys.Long; first = refl; second = refl }
one_type (Some tys.Bool) (Some tys.Bool) e = record { ty = tys.Bool; first = refl; second = refl }
one_type (Some tys.Text) (Some tys.Text) e = record { ty = tys.Text; first = refl; second = refl }
one_type None b e = absurd cc
one_type (Some tys.Long) None e = absurd cc
one_type (Some tys.Bool) None e = absurd cc
one_type (Some tys.Text) None e = absurd cc
one_type (Some tys.Long) (Some tys.Bool) e = absurd cc
one_type (Some tys.Long) (Some tys.Text) e = absurd cc
one_type (Some tys.Bool) (Some tys.Long) e = absurd cc
one_type (Some tys.Bool) (Some tys.Text) e = absurd cc
one_type (Some tys.Text) (Some tys.Long) e = absurd cc
one_type (Some tys.Text) (Some tys.Bool) e = absurd cc

less_same : (ty : Ty) (x y : Scalar) → is_of ty (Some x) ≡ true → not (is_type tys.Bool (Some ty)) ≡ true → less x y ≡ scalar_less x y
less_same ty (scalars.Long m) y of e = refl
less_same ty (scalars.Text t) y of e = refl
less_same tys.Long (scalars.Bool b) y of e = absurd cc
less_same tys.Text (scalars.Bool b) y of e = absurd cc
less_same tys.Bool (scalars.Bool b) y of e = absurd cc

-- ---- tests

test_less : (h : Bool) (x y : Option Scalar) → sql.holds (less_test h) x y ≡ same_bool (compared scalar_less x y) h
test_less true x y = sym (same_true (compared scalar_less x y))
test_less false x y = sym (same_false (compared scalar_less x y))

test_greater : (h : Bool) (x y : Option Scalar) → sql.holds (greater_test h) y x ≡ same_bool (compared scalar_less x y) h
test_greater true x y = sym (same_true (compared scalar_less x y))
test_greater false x y = sym (same_false (compared scalar_less x y))

test_same : (h : Bool) (x y : Option Scalar) → sql.holds (same_test h) x y ≡ same_bool (compared scalar_same x y) h
test_same true x y = sym (same_true (compared scalar_same x y))
test_same false x y = sym (same_false (compared scalar_same x y))

pub fixed_is : (db : Database) (params : List Scalar) (b : Bool) (c : Combination) → truth_of db params (fixed b) c ≡ b
fixed_is db params true c = refl
fixed_is db params false c = refl

pub signed_is : (db : Database) (params : List Scalar) (h : Bool) (t : Condition) (c : Combination) → truth_of db params (signed h t) c ≡ same_bool (truth_of db params t c) h
signed_is db params true t c = sym (same_true (truth_of db params t c))
signed_is db params false t c = sym (same_false (truth_of db params t c))

both_some : (test : Scalar → Scalar → Bool) (other : Scalar → Scalar → Bool) (ty : Ty) (x y : Option Scalar) → IsScalarOf ty x → IsScalarOf ty y → ((a b : Scalar) → is_of ty (Some a) ≡ true → test a b ≡ other a b) → compared test x y ≡ compared other x y
both_some test other ty x y a b h =
    ap₂ (compared test) a.is b.is ∙ h a.scalar b.scalar a.of ∙ sym (ap₂ (compared other) a.is b.is)

same_anyway : (o : Bool) (x y : Option Scalar) (ty : Ty) → IsScalarOf ty x → (o ≡ true → x ≡ y) → compared scalar_same x y ≡ (o || compared scalar_same x y)
same_anyway false x y ty a h = refl
same_anyway true x y ty a h = ap (compared scalar_same x) (sym (h refl)) ∙ ap₂ (compared scalar_same) a.is a.is ∙ scalar_same-self a.scalar

truth_same : (b h : Bool) → scalar_same (scalars.Bool b) (scalars.Bool h) ≡ same_bool b h
truth_same true true = refl
truth_same true false = refl
truth_same false true = refl
truth_same false false = refl

is_truth : (x : Scalar) (h : Bool) → is_of tys.Bool (Some x) ≡ true → scalar_same x (scalars.Bool h) ≡ same_bool (is_true (Some x)) h
is_truth (scalars.Bool b) h of = truth_same b h
is_truth (scalars.Long n) h of = absurd cc
is_truth (scalars.Text t) h of = absurd cc

-- what holds of each atom of a formula
abbrev pub AtomsOf : (ℕ → Type 0) → Form → Type 0
AtomsOf P (Is k h) = P k
AtomsOf P (Both p q) = AtomsOf P p × AtomsOf P q
AtomsOf P (Either p q) = AtomsOf P p × AtomsOf P q

pub every_atom : (P : ℕ → Type 0) → ((k : ℕ) → P k) → (fs : List Form) → AllByRecursion (AtomsOf P) fs
every_atom P h [] = tt
every_atom P h (p ∷ fs) = (go p, every_atom P h fs)
  where
    go : (p : Form) → AtomsOf P p
    go (Is k s) = h k
    go (Both p q) = (go p, go q)
    go (Either p q) = (go p, go q)

-- of a formula that reads no flag
pub quiet_atoms : (atoms : List Atom) (P : ℕ → Type 0) → ((k : ℕ) → is_no_flag (slice_get atoms k) ≡ true → P k) → (fs : List Form) → list_all (reads_no_flag atoms) fs ≡ true → AllByRecursion (AtomsOf P) fs
quiet_atoms atoms P h [] e = tt
quiet_atoms atoms P h (p ∷ fs) e = (go p (and_left (reads_no_flag atoms p) (list_all (reads_no_flag atoms) fs) e), quiet_atoms atoms P h fs (and_right (reads_no_flag atoms p) (list_all (reads_no_flag atoms) fs) e))
  where
    go : (p : Form) → reads_no_flag atoms p ≡ true → AtomsOf P p
    go (Is k s) e = h k e
    go (Both p q) e = (go p (and_left (reads_no_flag atoms p) (reads_no_flag atoms q) e), go q (and_right (reads_no_flag atoms p) (reads_no_flag atoms q) e))
    go (Either p q) e = (go p (and_left (reads_no_flag atoms p) (reads_no_flag atoms q) e), go q (and_right (reads_no_flag atoms p) (reads_no_flag atoms q) e))

-- ---- literals, at the rows that a combination has

module _ (flag : FlagCondition) (g : Ground) (f : Fragment) (lists : g.lists ≡ f.lists) (s : Scope) (w : World) (db : Database) (params : List Scalar) (entries : (k : ℕ) → w.entries k ≡ slice_get params k) (of : AreOf f.entries params)
    (c : Combination) (js : List ℕ) (rows : ℕ → Row) (sees : Sees s c js rows) (typed : RowsTyped g js rows) where
  side_here : (a : Operand) → operand_within js a ≡ true → operand_of params c (side g s a) ≡ operand_at w rows a
  side_here a h = side_is g s w params entries c js rows sees a h

  of_type : (a : Operand) (ty : Ty) → operand_within js a ≡ true → operand_type g.schema f a ≡ Some ty → IsScalarOf ty (operand_at w rows a)
  of_type a ty h e = operand_typed g f lists w params entries of js rows typed a ty h e

  less_is : (a b : Operand) (h : Bool) → operand_within js a ≡ true → operand_within js b ≡ true → atom_is_typed g.schema f (atoms.Less a b) ≡ true
      → truth_of db params (less_condition g s a b h) c ≡ same_bool (atom_holds w rows (atoms.Less a b)) h
  less_is a b h in_a in_b t =
      go (is_field a || not (is_field b))
      ∙ ap (λ x. same_bool x h) (ap₂ (compared scalar_less) (side_here a in_a) (side_here b in_b) ∙ sym (both_some less scalar_less one.ty (operand_at w rows a) (operand_at w rows b) (of_type a one.ty in_a one.first) (of_type b one.ty in_b one.second) (λ x y o. less_same one.ty x y o order)))
    where
      one : OneType (operand_type g.schema f a) (operand_type g.schema f b)
      one = one_type (operand_type g.schema f a) (operand_type g.schema f b) (and_left (same_type (operand_type g.schema f a) (operand_type g.schema f b)) (not (is_type tys.Bool (operand_type g.schema f a))) t)

      order : not (is_type tys.Bool (Some one.ty)) ≡ true
      order = subst (λ o. not (is_type tys.Bool o) ≡ true) one.first (and_right (same_type (operand_type g.schema f a) (operand_type g.schema f b)) (not (is_type tys.Bool (operand_type g.schema f a))) t)

      go : (left : Bool) → truth_of db params (cond left (Compare (less_test h) (side g s a) (side g s b)) (Compare (greater_test h) (side g s b) (side g s a))) c ≡ same_bool (compared scalar_less (operand_of params c (side g s a)) (operand_of params c (side g s b))) h
      go true = test_less h (operand_of params c (side g s a)) (operand_of params c (side g s b))
      go false = test_greater h (operand_of params c (side g s a)) (operand_of params c (side g s b))

  same_is : (a b : Operand) (h : Bool) → operand_within js a ≡ true → operand_within js b ≡ true → atom_is_typed g.schema f (atoms.Same a b) ≡ true
      → truth_of db params (Compare (same_test h) (side g s a) (side g s b)) c ≡ same_bool (atom_holds w rows (atoms.Same a b)) h
  same_is a b h in_a in_b t =
      test_same h (operand_of params c (side g s a)) (operand_of params c (side g s b))
      ∙ ap (λ x. same_bool x h)
      (ap₂ (compared scalar_same) (side_here a in_a) (side_here b in_b)
      ∙ same_anyway (same_operand a b) (operand_at w rows a) (operand_at w rows b) one.ty (of_type a one.ty in_a one.first) (λ e. ap (operand_at w rows) (same_operand-true a b e)))
    where
      one : OneType (operand_type g.schema f a) (operand_type g.schema f b)
      one = one_type (operand_type g.schema f a) (operand_type g.schema f b) t

  truth_is : (a : Operand) (h : Bool) → operand_within js a ≡ true → atom_is_typed g.schema f (atoms.Truth a) ≡ true
      → truth_of db params (Compare tests.Eq (side g s a) (opnds.Lit (scalars.Bool h))) c ≡ same_bool (atom_holds w rows (atoms.Truth a)) h
  truth_is a h in_a t =
      ap (λ x. compared scalar_same x (Some (scalars.Bool h))) (side_here a in_a)
      ∙ ap (λ x. compared scalar_same x (Some (scalars.Bool h))) here.is
      ∙ is_truth here.scalar h here.of
      ∙ ap (λ x. same_bool (is_true x) h) (sym here.is)
    where
      one : OneType (Some tys.Bool) (operand_type g.schema f a)
      one = one_type (Some tys.Bool) (operand_type g.schema f a) t

      here : IsScalarOf tys.Bool (operand_at w rows a)
      here = of_type a tys.Bool in_a (one.second ∙ sym one.first)

  -- what is to be known of known queries and of flags
  abbrev pub MembersMean : Type 0
  MembersMean = (k : ℕ) (a : Operand) (q : ℕ) (h : Bool) → slice_get g.atoms k ≡ Some (atoms.Member a q) → operand_within js a ≡ true
      → truth_of db params (within_query g s a (args_of (slice_get g.args q)) (slice_get g.known q) h) c ≡ same_bool (is_member (operand_at w rows a) (w.known q)) h

  abbrev pub FlagMeans : ℕ → Type 0
  FlagMeans k = (n : ℕ) (loops : List ℕ) → slice_get g.atoms k ≡ Some (atoms.Flag n loops) → atom_within js (atoms.Flag n loops) ≡ true → truth_of db params (flag s n) c ≡ w.flags n (map rows loops)

  atom_is : MembersMean → (k : ℕ) (a : Atom) → slice_get g.atoms k ≡ Some a → FlagMeans k → atom_is_typed g.schema f a ≡ true → (h : Bool) → atom_within js a ≡ true
      → truth_of db params (literal flag g s (Some a) h) c ≡ same_bool (atom_holds w rows a) h
  atom_is members k (atoms.Less a b) e flags t h in_js = less_is a b h (and_left (operand_within js a) (operand_within js b) in_js) (and_right (operand_within js a) (operand_within js b) in_js) t
  atom_is members k (atoms.Same a b) e flags t h in_js = same_is a b h (and_left (operand_within js a) (operand_within js b) in_js) (and_right (operand_within js a) (operand_within js b) in_js) t
  atom_is members k (atoms.Truth a) e flags t h in_js = truth_is a h in_js t
  atom_is members k (atoms.Member a q) e flags t h in_js = members k a q h e in_js
  atom_is members k (atoms.Flag n loops) e flags t h in_js = signed_is db params h (flag s n) c ∙ ap (λ x. same_bool x h) (flags n loops e in_js)

  literal_is : MembersMean → list_all (atom_is_typed g.schema f) g.atoms ≡ true → (k : ℕ) → FlagMeans k → (h : Bool) → known_within js (slice_get g.atoms k) ≡ true
      → truth_of db params (literal flag g s (slice_get g.atoms k) h) c ≡ same_bool (truth w g.atoms rows k) h
  literal_is members t k flags h in_js = go (slice_get g.atoms k) refl in_js
    where
      go : (o : Option Atom) → slice_get g.atoms k ≡ o → known_within js o ≡ true → truth_of db params (literal flag g s o h) c ≡ same_bool (known_atom_holds w rows o) h
      go None e i = absurd cc
      go (Some a) e i = atom_is members k a e flags (list_all_at (atom_is_typed g.schema f) g.atoms k a t e) h i

  pub formula_is : MembersMean → list_all (atom_is_typed g.schema f) g.atoms ≡ true → (p : Form) → form_within g.atoms js p ≡ true → AtomsOf FlagMeans p → truth_of db params (formula flag g s p) c ≡ holds w g.atoms rows p
  formula_is members t (Is k h) i flags = literal_is members t k flags h i
  formula_is members t (Both p q) i flags =
      ap₂ (λ x y. x && y) (formula_is members t p (and_left (form_within g.atoms js p) (form_within g.atoms js q) i) flags.0) (formula_is members t q (and_right (form_within g.atoms js p) (form_within g.atoms js q) i) flags.1)
  formula_is members t (Either p q) i flags =
      ap₂ (λ x y. x || y) (formula_is members t p (and_left (form_within g.atoms js p) (form_within g.atoms js q) i) flags.0) (formula_is members t q (and_right (form_within g.atoms js p) (form_within g.atoms js q) i) flags.1)

  pub formulas_are : MembersMean → list_all (atom_is_typed g.schema f) g.atoms ≡ true → (fs : List Form) → list_all (form_within g.atoms js) fs ≡ true → AllByRecursion (AtomsOf FlagMeans) fs
      → list_all (λ d. truth_of db params d c) (map (formula flag g s) fs) ≡ all_hold w g.atoms rows fs
  formulas_are members t [] i flags = refl
  formulas_are members t (p ∷ fs) i flags =
      ap₂ (λ x y. x && y) (formula_is members t p (and_left (form_within g.atoms js p) (list_all (form_within g.atoms js) fs) i) flags.0)
      (formulas_are members t fs (and_right (form_within g.atoms js p) (list_all (form_within g.atoms js) fs) i) flags.1)

-- ---- a WHERE is true where all of its conditions are

module _ (db : Database) (params : List Scalar) (c : Combination) where
  joined_from_is : (d : Condition) (ds : List Condition) → truth_of db params (joined_from d ds) c ≡ (truth_of db params d c && list_all (λ e. truth_of db params e c) ds)
  joined_from_is d [] = sym (and_true (truth_of db params d c))
  joined_from_is d (e ∷ ds) = joined_from_is (plain.Both d e) ds ∙ and_assoc (truth_of db params d c) (truth_of db params e c) (list_all (λ e. truth_of db params e c) ds)

  pub joined_is : (ds : List Condition) → passes db params (joined ds) c ≡ list_all (λ e. truth_of db params e c) ds
  joined_is [] = refl
  joined_is (d ∷ ds) = joined_from_is d ds
