-- Conditions without the conjunct of a best value are the formulas of the lowered fragment.
use Rattle.std.proofs.Common.{◌≡◌, ℕ, Bool, true, false, not, List, [], ◌∷◌, ◌++◌, Option, Some, None, refl, sym, ap, ap₂, ◌∙◌, subst, cond, slice_get}
use Rattle.std.specs.List.{list_any, AllByRecursion}
use Rattle.std.proofs.lemmas.Bool.{or_parts}
use Rattle.std.proofs.lemmas.List.Folds.{list_any-append}
use Rattle.qbs_base.specs.declared.scalar.Ty.{Ty}
use Rattle.qbs_base.specs.declared.scalar.Ty.TheVariants as tys
use Rattle.qbs_base.specs.declared.span.Span.{Span}
use Rattle.sql_ast.proofs.Tools.{all_parts}
use Rattle.java_ast.specs.declared.tree.Op.TheVariants as ops
use Rattle.java_ast.specs.Tree as tree
use Rattle.java_ast.specs.Tree.{Expression}
use Rattle.java_mean.specs.declared.types.JavaType.TheVariants.{Of}
use Rattle.java_mean.specs.declared.types.Single.TheVariants.{ScalarOf}
use Rattle.java_mean.specs.Types.{Types}
use Rattle.java_mean.specs.Typing.{Frame, HasType, bool}
use Rattle.java_loops.specs.Walks.Forms.{IsAtom, IsForm, atom, negated, both, not_both, either, neither}
use Rattle.java_loops.specs.Walks.Numbering.{Numbering, with_loops, Flags}
use Rattle.tor_terms.specs.declared.term.Atom.{Atom}
use Rattle.tor_terms.specs.Plain.{Form, Is, Both, Either}
use Rattle.tor_terms.specs.Same.{same_flag}
use Rattle.tor_terms.specs.Truth.{same_bool}
use Rattle.loop_text.specs.Kernel.KernelConditions.{leaves, is_excepted}
use Rattle.java_loops.specs.Lowering.Numbering.{Reading, reading_of, entries_of, known_of, same_atom, number_where, numbers_of, said, joined_of, leaf_form, form_of_condition}
use Rattle.java_loops.specs.Kernel.Setting.{Setting}
use Rattle.java_loops.proofs.Formed.FormAtoms.{leaf_atom}
use Rattle.java_loops.proofs.Formed.FormTyping.{BinaryTyped, binary_typed, and_truths, or_truths, not_typed}
use Rattle.java_loops.proofs.Numbers.NumberKept.{LeafFits, FitsUnless}
use Rattle.java_loops.proofs.Numbers.NumberLists.{Numbered, numbered}
use Rattle.java_loops.proofs.Numbers.NumberSame.{same_atom-true}
use Rattle.java_loops.proofs.Numbers.Numberings.{numbering, Sighted, FlagsSeen}

-- the condition with this truth value is this formula of the lowered fragment
pub record HasForm (w : Setting) (n : ℕ) (numbers : Numbering) (flags : Flags) (holds : Bool) (c : Expression) : Type 0 where
  pub form : Form
  pub is : form_of_condition w (numbers_of w) n holds c ≡ Some form
  pub stands : IsForm (numbers_of w).atoms numbers flags holds c form

-- ---- Leaves

-- an atom that is among others is found there
pub atom_found : (all : List Atom) (a : Atom) → list_any (same_atom a) all ≡ true → slice_get all (number_where (same_atom a) all) ≡ Some a
atom_found all a h = let m : Numbered (same_atom a) all = numbered (same_atom a) all h in m.there ∙ ap (λ z. Some z) (sym (same_atom-true a m.item m.passes))

flag_is : (holds s : Bool) → same_bool holds s ≡ same_flag holds s
flag_is true true = refl
flag_is true false = refl
flag_is false true = refl
flag_is false false = refl

leaf_said : (all : List Atom) (numbers : Numbering) (flags : Flags) (holds : Bool) (e : Expression) (r : Reading) → IsAtom numbers flags e r.atom r.holds → list_any (same_atom r.atom) all ≡ true → IsForm all numbers flags holds e (said all holds r)
leaf_said all numbers flags holds e r a h =
    subst (λ b. IsForm all numbers flags holds e (Is (number_where (same_atom r.atom) all) b)) (flag_is holds r.holds) (atom holds e r.atom r.holds (number_where (same_atom r.atom) all) a (atom_found all r.atom h))

-- ---- Two conditions

-- the leaves of both, where none is excepted
record BothPlain (test : Expression → Bool) (P : Expression → Type 0) (a b : Expression) : Type 0 where
  first : list_any test (leaves a) ≡ false
  second : list_any test (leaves b) ≡ false
  first_all : AllByRecursion P (leaves a)
  second_all : AllByRecursion P (leaves b)

both_plain : (test : Expression → Bool) (P : Expression → Type 0) (a b : Expression) → list_any test (leaves a ++ leaves b) ≡ false → AllByRecursion P (leaves a ++ leaves b) → BothPlain test P a b
both_plain test P a b h all =
    let two = or_parts (list_any test (leaves a)) (list_any test (leaves b)) (sym (list_any-append test (leaves a) (leaves b)) ∙ h) in
    let parts = all_parts P (leaves a) (leaves b) all in
    record { first = two.0; second = two.1; first_all = parts.0; second_all = parts.1 }

module _ (w : Setting) (c : Frame) (same : c.schema ≡ w.schema) (n : ℕ) (g : Types) (loops : List ℕ → Option ℕ) (s : Sighted w n g loops) (flags : Flags) (f : FlagsSeen w n g flags) where
  abbrev Formed : Bool → Expression → Type 0
  Formed holds e = HasForm w n (with_loops loops (numbering w)) flags holds e

  leaf_formed : (holds : Bool) (e : Expression) → HasType c g e bool → is_excepted w.sites n e ≡ false → FitsUnless w n e → form_of_condition w (numbers_of w) n holds e ≡ leaf_form w (numbers_of w) n holds e → Formed holds e
  leaf_formed holds e t plain fits leaf =
      let l : LeafFits w n e = fits plain in
      let r : Reading = reading_of w (entries_of w) (known_of w) n e in
      record {
        form = said (numbers_of w).atoms holds r;
        is = leaf ∙ ap (λ b. cond b None (Some (said (numbers_of w).atoms holds r))) plain;
        stands = leaf_said (numbers_of w).atoms (with_loops loops (numbering w)) flags holds e r (leaf_atom w c same n g loops s flags f e t l.unbroken l.known) l.known.atom;
      }

  -- a leaf by itself
  alone_formed : (holds : Bool) (e : Expression) → HasType c g e bool → list_any (is_excepted w.sites n) (e ∷ []) ≡ false → AllByRecursion (FitsUnless w n) (e ∷ []) → form_of_condition w (numbers_of w) n holds e ≡ leaf_form w (numbers_of w) n holds e → Formed holds e
  alone_formed holds e t plain fits leaf = leaf_formed holds e t (or_parts (is_excepted w.sites n e) false plain).0 fits.0 leaf

  and_formed : (holds : Bool) (at : Span) (a b : Expression) → Formed holds a → Formed holds b → Formed holds (tree.Binary at ops.And a b)
  and_formed true at a b p q = record { form = Both p.form q.form; is = ap₂ (λ x y. joined_of true x y) p.is q.is; stands = both at a b p.form q.form p.stands q.stands }
  and_formed false at a b p q = record { form = Either p.form q.form; is = ap₂ (λ x y. joined_of false x y) p.is q.is; stands = not_both at a b p.form q.form p.stands q.stands }

  or_formed : (holds : Bool) (at : Span) (a b : Expression) → Formed holds a → Formed holds b → Formed holds (tree.Binary at ops.Or a b)
  or_formed true at a b p q = record { form = Either p.form q.form; is = ap₂ (λ x y. joined_of false x y) p.is q.is; stands = either at a b p.form q.form p.stands q.stands }
  or_formed false at a b p q = record { form = Both p.form q.form; is = ap₂ (λ x y. joined_of true x y) p.is q.is; stands = neither at a b p.form q.form p.stands q.stands }

  truths : (e : Expression) (ty : Ty) → ty ≡ tys.Bool → HasType c g e (Of (ScalarOf ty)) → HasType c g e bool
  truths e ty is t = subst (λ z. HasType c g e (Of (ScalarOf z))) is t

  pub condition_formed : (holds : Bool) (e : Expression) → HasType c g e bool → list_any (is_excepted w.sites n) (leaves e) ≡ false → AllByRecursion (FitsUnless w n) (leaves e) → Formed holds e
  condition_formed holds (tree.Binary at ops.And a b) t plain fits =
      let u : BinaryTyped c g ops.And a b = binary_typed c g at ops.And a b bool t in
      let two : BothPlain (is_excepted w.sites n) (FitsUnless w n) a b = both_plain (is_excepted w.sites n) (FitsUnless w n) a b plain fits in
      and_formed holds at a b (condition_formed holds a (truths a u.from (and_truths u.from u.to u.takes) u.left) two.first two.first_all) (condition_formed holds b (truths b u.from (and_truths u.from u.to u.takes) u.right) two.second two.second_all)
  condition_formed holds (tree.Binary at ops.Or a b) t plain fits =
      let u : BinaryTyped c g ops.Or a b = binary_typed c g at ops.Or a b bool t in
      let two : BothPlain (is_excepted w.sites n) (FitsUnless w n) a b = both_plain (is_excepted w.sites n) (FitsUnless w n) a b plain fits in
      or_formed holds at a b (condition_formed holds a (truths a u.from (or_truths u.from u.to u.takes) u.left) two.first two.first_all) (condition_formed holds b (truths b u.from (or_truths u.from u.to u.takes) u.right) two.second two.second_all)
  condition_formed holds (tree.Binary at ops.Eq a b) t plain fits = alone_formed holds (tree.Binary at ops.Eq a b) t plain fits refl
  condition_formed holds (tree.Binary at ops.Ne a b) t plain fits = alone_formed holds (tree.Binary at ops.Ne a b) t plain fits refl
  condition_formed holds (tree.Binary at ops.Lt a b) t plain fits = alone_formed holds (tree.Binary at ops.Lt a b) t plain fits refl
  condition_formed holds (tree.Binary at ops.Le a b) t plain fits = alone_formed holds (tree.Binary at ops.Le a b) t plain fits refl
  condition_formed holds (tree.Binary at ops.Gt a b) t plain fits = alone_formed holds (tree.Binary at ops.Gt a b) t plain fits refl
  condition_formed holds (tree.Binary at ops.Ge a b) t plain fits = alone_formed holds (tree.Binary at ops.Ge a b) t plain fits refl
  condition_formed holds (tree.Binary at ops.Add a b) t plain fits = alone_formed holds (tree.Binary at ops.Add a b) t plain fits refl
  condition_formed holds (tree.Binary at ops.Sub a b) t plain fits = alone_formed holds (tree.Binary at ops.Sub a b) t plain fits refl
  condition_formed holds (tree.Binary at ops.Mul a b) t plain fits = alone_formed holds (tree.Binary at ops.Mul a b) t plain fits refl
  condition_formed holds (tree.Not at e) t plain fits =
      let p : Formed (not holds) e = condition_formed (not holds) e (not_typed c g at e bool t) plain fits in
      record { form = p.form; is = p.is; stands = negated holds at e p.form p.stands }
  condition_formed holds (tree.Lit at v) u plain fits = alone_formed holds (tree.Lit at v) u plain fits refl
  condition_formed holds (tree.Var at y) u plain fits = alone_formed holds (tree.Var at y) u plain fits refl
  condition_formed holds (tree.Field at a name) u plain fits = alone_formed holds (tree.Field at a name) u plain fits refl
  condition_formed holds (tree.Equals at p q) u plain fits = alone_formed holds (tree.Equals at p q) u plain fits refl
  condition_formed holds (tree.Size at y) u plain fits = alone_formed holds (tree.Size at y) u plain fits refl
  condition_formed holds (tree.Get at y a) u plain fits = alone_formed holds (tree.Get at y a) u plain fits refl
  condition_formed holds (tree.Contains at y a) u plain fits = alone_formed holds (tree.Contains at y a) u plain fits refl
  condition_formed holds (tree.Fetch at t) u plain fits = alone_formed holds (tree.Fetch at t) u plain fits refl
  condition_formed holds (tree.Query at ty text es) u plain fits = alone_formed holds (tree.Query at ty text es) u plain fits refl
  condition_formed holds (tree.QueryLong at text es) u plain fits = alone_formed holds (tree.QueryLong at text es) u plain fits refl
  condition_formed holds (tree.QueryBoolean at text es) u plain fits = alone_formed holds (tree.QueryBoolean at text es) u plain fits refl
  condition_formed holds (tree.NewList at) u plain fits = alone_formed holds (tree.NewList at) u plain fits refl
  condition_formed holds (tree.NewSet at) u plain fits = alone_formed holds (tree.NewSet at) u plain fits refl
  condition_formed holds (tree.NewSetOf at a) u plain fits = alone_formed holds (tree.NewSetOf at a) u plain fits refl
