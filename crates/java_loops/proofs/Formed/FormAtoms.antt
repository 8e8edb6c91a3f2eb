-- Leaves of conditions are the atoms of the lowered fragment.
use Rattle.std.proofs.Common.{◌≡◌, ℕ, Bool, true, false, not, ◌&&◌, ◌||◌, List, ◌++◌, Option, Some, None, refl, sym, ap, ◌∙◌, subst, cond, bytes_eq, slice_get, map, nat_lt}
use Rattle.std.specs.List.{AllByRecursion}
use Rattle.std.specs.Option.{option_map}
use Rattle.std.proofs.lemmas.Bool.{and_parts}
use Rattle.std.proofs.lemmas.Option.{slice_get-map}
use Rattle.qbs_base.specs.declared.scalar.Ty.{Ty}
use Rattle.qbs_base.specs.declared.scalar.Ty.TheVariants as tys
use Rattle.qbs_base.specs.declared.span.Span.{Span}
use Rattle.sql_ast.proofs.Tools.{all_parts}
use Rattle.java_ast.specs.declared.tree.Op.{Op}
use Rattle.java_ast.specs.declared.tree.Op.TheVariants as ops
use Rattle.java_ast.specs.Tree as tree
use Rattle.java_ast.specs.Tree.{Expression}
use Rattle.java_mean.specs.declared.types.JavaType.{JavaType}
use Rattle.java_mean.specs.declared.types.JavaType.TheVariants.{Of}
use Rattle.java_mean.specs.declared.types.Single.{Single}
use Rattle.java_mean.specs.declared.types.Single.TheVariants.{ScalarOf, RowOf}
use Rattle.java_mean.specs.Rules.{at_of}
use Rattle.java_mean.specs.Types.{Types}
use Rattle.java_mean.specs.Typing.{Frame, Has, listed, distinct, HasType, Takes, bool}
use Rattle.java_mean.proofs.Puts.{names_equal}
use Rattle.java_loops.specs.Walks.Forms.{IsOperand, by_identity, IsAtom, less, greater, at_most, at_least, same as is_same, same_turned, other, other_turned, texts, texts_turned, truth, member, flag}
use Rattle.java_loops.specs.Walks.Numbering.{Numbering, with_loops, Flags}
use Rattle.tor_terms.specs.declared.term.Atom.TheVariants as atoms
use Rattle.tor_terms.specs.declared.term.Operand.{Operand}
use Rattle.tor_terms.specs.declared.term.Operand.TheVariants as operands
use Rattle.java_loops.specs.Kernel.KernelConditions.{is_operand, broken_operand, broken_comparison, broken_leaf, is_known}
use Rattle.loop_text.specs.Kernel.KernelConditions.{is_compared, is_row_column, is_in_its_loops, updates_flag_under, may_read, reads_flag}
use Rattle.loop_text.specs.Kernel.KernelStatements.{updates_local}
use Rattle.java_ast.specs.Names.{is_among}
use Rattle.java_loops.specs.Lowering.Numbering.{same_entry, entry_operand, entries_of, known_of, operand_of, operand_of_column, column_of, loop_number, operand_before, reading_of, bound_reading, flag_reading, starts_true, flag_number, number_where}
use Rattle.java_loops.specs.Kernel.Setting.{Setting}
use Rattle.loop_text.specs.Statements.Setting.{is_found}
use Rattle.loop_text.specs.declared.sites.bindings.Binding.{Binding}
use Rattle.loop_text.specs.declared.sites.bindings.Binding.TheVariants.{Row, Local, Outer}
use Rattle.loop_text.specs.Sites.Sites.{Site, binding_at, RowColumn, row_column_at, place_where, first_place, any_site}
use Rattle.java_loops.proofs.Formed.FormOperands.{column_operand, operand_is}
use Rattle.java_loops.proofs.Formed.FormTyping.{variable_typed, BinaryTyped, binary_typed, lt_longs, le_longs, gt_longs, ge_longs, eq_identity, ne_identity, TextsTyped, texts_typed, MemberTyped, member_typed}
use Rattle.java_loops.proofs.Nested.NestRules.{true_from_not}
use Rattle.java_loops.proofs.Numbers.NumberKept.{LeafKnown}
use Rattle.java_loops.proofs.Numbers.NumberLists.{found_is, Numbered, numbered, IsThere}
use Rattle.java_loops.proofs.Numbers.Numberings.{numbering, type_of_members, RowSeen, Sighted, FlagsSeen}
use Rattle.java_loops.proofs.Standing.StandingRules.{none_where, first_none}

-- ---- Comparisons

same_by : (n : Numbering) (flags : Flags) (at : Span) (a b : Expression) (o p : Operand) (ty : Ty) (q : Bool) → by_identity ty ≡ true → IsOperand n a o ty → IsOperand n b p ty → IsAtom n flags (tree.Binary at ops.Eq a b) (cond q (atoms.Same p o) (atoms.Same o p)) true
same_by n flags at a b o p ty true e h k = same_turned at a b o p ty e h k
same_by n flags at a b o p ty false e h k = is_same at a b o p ty e h k

other_by : (n : Numbering) (flags : Flags) (at : Span) (a b : Expression) (o p : Operand) (ty : Ty) (q : Bool) → by_identity ty ≡ true → IsOperand n a o ty → IsOperand n b p ty → IsAtom n flags (tree.Binary at ops.Ne a b) (cond q (atoms.Same p o) (atoms.Same o p)) false
other_by n flags at a b o p ty true e h k = other_turned at a b o p ty e h k
other_by n flags at a b o p ty false e h k = other at a b o p ty e h k

texts_by : (n : Numbering) (flags : Flags) (at : Span) (a b : Expression) (o p : Operand) (q : Bool) → IsOperand n a o tys.Text → IsOperand n b p tys.Text → IsAtom n flags (tree.Equals at a b) (cond q (atoms.Same p o) (atoms.Same o p)) true
texts_by n flags at a b o p true h k = texts_turned at a b o p h k
texts_by n flags at a b o p false h k = texts at a b o p h k

-- ---- Rows, flags and lists

record ColumnFound (o : Option RowColumn) : Type 0 where
  column : RowColumn
  is : o ≡ Some column

column_found : (o : Option RowColumn) → is_found o ≡ true → ColumnFound o
column_found (Some d) h = record { column = d; is = refl }
column_found None h = absurd cc

members_type : (k : JavaType) (ty : Ty) → Has k (ScalarOf ty) → type_of_members (Some k) ≡ ty
members_type _ ty (listed _) = refl
members_type _ ty (distinct _) = refl

no_member : (a b : Single) → Has (Of a) b → ⊥
no_member a b h = elim h [ ]

named_here : (w : Setting) (x : List ℕ) (k : JavaType) (ty : Ty) → w.types x ≡ Some k → Has k (ScalarOf ty) → (m : Numbered (bytes_eq x) (known_of w)) → slice_get (map (λ y. type_of_members (w.types y)) (known_of w)) (number_where (bytes_eq x) (known_of w)) ≡ Some ty
named_here w x k ty seen has m =
    slice_get-map (λ y. type_of_members (w.types y)) (known_of w) (number_where (bytes_eq x) (known_of w)) ∙ ap (option_map (λ y. type_of_members (w.types y))) m.there ∙ ap (λ y. Some (type_of_members (w.types y))) (sym (names_equal x m.item m.passes)) ∙ ap (λ o. Some (type_of_members o)) seen ∙ ap Some (members_type k ty has)

-- a flag that may be read is declared at a site
record SiteRead (sites : List Site) (d : ℕ) : Type 0 where
  site : Site
  there : slice_get sites d ≡ Some site

site_in_loops : (sites : List Site) (n d : ℕ) (o p : Option Site) → slice_get sites d ≡ p → is_in_its_loops sites n o p ≡ true → SiteRead sites d
site_in_loops sites n d (Some s) (Some t) e h = record { site = t; there = e }
site_in_loops sites n d (Some s) None e h = absurd cc
site_in_loops sites n d None (Some t) e h = absurd cc
site_in_loops sites n d None None e h = absurd cc

site_read : (sites : List Site) (n d : ℕ) → may_read sites n d ≡ true → SiteRead sites d
site_read sites n d h =
    let more : Bool = not (any_site (updates_flag_under sites n) 0 sites) in
    let inside : Bool = is_in_its_loops sites n (slice_get sites n) (slice_get sites d) in
    let two = and_parts (any_site (λ i s. nat_lt i n && updates_local sites d i s) 0 sites) (inside && more) h in
    site_in_loops sites n d (slice_get sites n) (slice_get sites d) refl (and_parts inside more two.1).0

module _ (w : Setting) (c : Frame) (same : c.schema ≡ w.schema) (n : ℕ) (g : Types) (loops : List ℕ → Option ℕ) (s : Sighted w n g loops) where
  operand_unbroken : (e : Expression) → broken_operand w n e ≡ None → is_operand w n e ≡ true
  operand_unbroken e h = true_from_not (is_operand w n e) (none_where (not (is_operand w n e)) (at_of e) h)

  record Operands (a b : Expression) (ty : Ty) : Type 0 where
    first : IsOperand (with_loops loops (numbering w)) a (operand_of w (entries_of w) n a) ty
    second : IsOperand (with_loops loops (numbering w)) b (operand_of w (entries_of w) n b) ty

  operands_are : (at : Span) (a b : Expression) (ty : Ty) → HasType c g a (Of (ScalarOf ty)) → HasType c g b (Of (ScalarOf ty)) → broken_comparison w n at a b ≡ None → AllByRecursion (IsThere same_entry (entries_of w)) (entry_operand w.sites n a ++ entry_operand w.sites n b) → Operands a b ty
  operands_are at a b ty t u h known =
      let last : Option Span = place_where (not (is_row_column w.sites n a || is_row_column w.sites n b)) at in
      let two = first_none (broken_operand w n a) (first_place (broken_operand w n b) last) h in
      let more = first_none (broken_operand w n b) last two.1 in
      let parts = all_parts (IsThere same_entry (entries_of w)) (entry_operand w.sites n a) (entry_operand w.sites n b) known in
      record {
        first = operand_is w c same n g loops s a ty t (operand_unbroken a two.0) parts.0;
        second = operand_is w c same n g loops s b ty u (operand_unbroken b more.0) parts.1;
      }

  -- a field of a loop's row
  column_is : (e : Expression) (ty : Ty) → HasType c g e (Of (ScalarOf ty)) → is_row_column w.sites n e ≡ true → (d : RowColumn) × (operand_of w (entries_of w) n e ≡ operands.Field (loop_number w.sites d.loop) (column_of w d)) × IsOperand (with_loops loops (numbering w)) e (operands.Field (loop_number w.sites d.loop) (column_of w d)) ty
  column_is e ty t h =
      let d : ColumnFound (row_column_at w.sites n e) = column_found (row_column_at w.sites n e) h in
      (d.column, ap (operand_of_column w (entries_of w) e) d.is, column_operand w c same n g loops s e d.column ty d.is t)

  -- the list of a leaf is from outside of the loop
  pub list_outer : (x : List ℕ) (k : JavaType) (a : Single) (b : Binding) → binding_at w.sites n x ≡ b → g x ≡ Some k → Has k a → w.types x ≡ Some k
  list_outer x k a (Row j) e i h = let r : RowSeen w loops x k j = s.rows x k j i e in absurd (no_member (RowOf _) a (subst (λ z. Has z a) r.type h))
  list_outer x k a (Local d) e i h = absurd (no_member (ScalarOf tys.Bool) a (subst (λ z. Has z a) (s.locals x k d i e) h))
  list_outer x k a Outer e i h = s.outer x k i e

  module _ (flags : Flags) (f : FlagsSeen w n g flags) where
    compared_atom : (at : Span) (op : Op) (a b : Expression) → BinaryTyped c g op a b → (q : Bool) → is_compared op ≡ q → cond q (broken_comparison w n at a b) (Some at) ≡ None → AllByRecursion (IsThere same_entry (entries_of w)) (entry_operand w.sites n a ++ entry_operand w.sites n b) → IsAtom (with_loops loops (numbering w)) flags (tree.Binary at op a b) (reading_of w (entries_of w) (known_of w) n (tree.Binary at op a b)).atom (reading_of w (entries_of w) (known_of w) n (tree.Binary at op a b)).holds
    compared_atom at op a b t false e h known = absurd cc
    compared_atom at op a b t true e h known =
        let o : Operands a b t.from = operands_are at a b t.from t.left t.right h known in
        by_op op t.from t.to t.takes e o.first o.second
      where
        by_op : (op : Op) (from to : Ty) → Takes op from to → is_compared op ≡ true → IsOperand (with_loops loops (numbering w)) a (operand_of w (entries_of w) n a) from → IsOperand (with_loops loops (numbering w)) b (operand_of w (entries_of w) n b) from → IsAtom (with_loops loops (numbering w)) flags (tree.Binary at op a b) (reading_of w (entries_of w) (known_of w) n (tree.Binary at op a b)).atom (reading_of w (entries_of w) (known_of w) n (tree.Binary at op a b)).holds
        by_op ops.Or from to k e i j = absurd cc
        by_op ops.And from to k e i j = absurd cc
        by_op ops.Eq from to k e i j = same_by (with_loops loops (numbering w)) flags at a b (operand_of w (entries_of w) n a) (operand_of w (entries_of w) n b) from (operand_before (operand_of w (entries_of w) n b) (operand_of w (entries_of w) n a)) (eq_identity from to k) i j
        by_op ops.Ne from to k e i j = other_by (with_loops loops (numbering w)) flags at a b (operand_of w (entries_of w) n a) (operand_of w (entries_of w) n b) from (operand_before (operand_of w (entries_of w) n b) (operand_of w (entries_of w) n a)) (ne_identity from to k) i j
        by_op ops.Lt from to k e i j = let l : from ≡ tys.Long = lt_longs from to k in less at a b (operand_of w (entries_of w) n a) (operand_of w (entries_of w) n b) (subst (IsOperand (with_loops loops (numbering w)) a (operand_of w (entries_of w) n a)) l i) (subst (IsOperand (with_loops loops (numbering w)) b (operand_of w (entries_of w) n b)) l j)
        by_op ops.Le from to k e i j = let l : from ≡ tys.Long = le_longs from to k in at_most at a b (operand_of w (entries_of w) n a) (operand_of w (entries_of w) n b) (subst (IsOperand (with_loops loops (numbering w)) a (operand_of w (entries_of w) n a)) l i) (subst (IsOperand (with_loops loops (numbering w)) b (operand_of w (entries_of w) n b)) l j)
        by_op ops.Gt from to k e i j = let l : from ≡ tys.Long = gt_longs from to k in greater at a b (operand_of w (entries_of w) n a) (operand_of w (entries_of w) n b) (subst (IsOperand (with_loops loops (numbering w)) a (operand_of w (entries_of w) n a)) l i) (subst (IsOperand (with_loops loops (numbering w)) b (operand_of w (entries_of w) n b)) l j)
        by_op ops.Ge from to k e i j = let l : from ≡ tys.Long = ge_longs from to k in at_least at a b (operand_of w (entries_of w) n a) (operand_of w (entries_of w) n b) (subst (IsOperand (with_loops loops (numbering w)) a (operand_of w (entries_of w) n a)) l i) (subst (IsOperand (with_loops loops (numbering w)) b (operand_of w (entries_of w) n b)) l j)
        by_op ops.Add from to k e i j = absurd cc
        by_op ops.Sub from to k e i j = absurd cc
        by_op ops.Mul from to k e i j = absurd cc

    texts_atom : (at : Span) (a b : Expression) → TextsTyped c g a b → broken_comparison w n at a b ≡ None → AllByRecursion (IsThere same_entry (entries_of w)) (entry_operand w.sites n a ++ entry_operand w.sites n b) → IsAtom (with_loops loops (numbering w)) flags (tree.Equals at a b) (reading_of w (entries_of w) (known_of w) n (tree.Equals at a b)).atom true
    texts_atom at a b t h known =
        let o : Operands a b tys.Text = operands_are at a b tys.Text t.left t.right h known in
        texts_by (with_loops loops (numbering w)) flags at a b (operand_of w (entries_of w) n a) (operand_of w (entries_of w) n b) (operand_before (operand_of w (entries_of w) n b) (operand_of w (entries_of w) n a)) o.first o.second

    truth_atom : (e : Expression) → HasType c g e bool → is_row_column w.sites n e ≡ true → IsAtom (with_loops loops (numbering w)) flags e (atoms.Truth (operand_of w (entries_of w) n e)) true
    truth_atom e t h =
        let d = column_is e tys.Bool t h in
        subst (λ o. IsAtom (with_loops loops (numbering w)) flags e (atoms.Truth o) true) (sym d.1) (truth e (loop_number w.sites d.0.loop) (column_of w d.0) d.2)

    flag_atom : (at : Span) (x : List ℕ) (d : ℕ) → g x ≡ Some bool → binding_at w.sites n x ≡ Local d → may_read w.sites n d ≡ true → IsAtom (with_loops loops (numbering w)) flags (tree.Var at x) (bound_reading w (Local d)).atom (bound_reading w (Local d)).holds
    flag_atom at x d i e h =
        let t : SiteRead w.sites d = site_read w.sites n d h in
        subst (λ o. IsAtom (with_loops loops (numbering w)) flags (tree.Var at x) (flag_reading w d o).atom (flag_reading w d o).holds) (sym t.there) (flag at x (flag_number w d) (starts_true t.site.statement) (map (loop_number w.sites) t.site.round.loops) (f.by x bool d t.site i e t.there h))

    read_atom : (at : Span) (x : List ℕ) (b : Binding) → binding_at w.sites n x ≡ b → g x ≡ Some bool → reads_flag w.sites n b ≡ true → IsAtom (with_loops loops (numbering w)) flags (tree.Var at x) (bound_reading w b).atom (bound_reading w b).holds
    read_atom at x (Row j) e i h = absurd cc
    read_atom at x (Local d) e i h = flag_atom at x d i e h
    read_atom at x Outer e i h = absurd cc

    member_atom : (at : Span) (x : List ℕ) (e : Expression) → MemberTyped c g x e → is_row_column w.sites n e ≡ true → is_among (known_of w) x ≡ true → IsAtom (with_loops loops (numbering w)) flags (tree.Contains at x e) (atoms.Member (operand_of w (entries_of w) n e) (number_where (bytes_eq x) (known_of w))) true
    member_atom at x e t h known =
        let d = column_is e t.ty t.item h in
        let outer : w.types x ≡ Some t.list = list_outer x t.list (ScalarOf t.ty) (binding_at w.sites n x) refl t.seen t.has in
        let m : Numbered (bytes_eq x) (known_of w) = numbered (bytes_eq x) (known_of w) known in
        subst (λ o. IsAtom (with_loops loops (numbering w)) flags (tree.Contains at x e) (atoms.Member o (number_where (bytes_eq x) (known_of w))) true) (sym d.1) (member at x e (operands.Field (loop_number w.sites d.0.loop) (column_of w d.0)) (number_where (bytes_eq x) (known_of w)) t.ty (found_is (bytes_eq x) (known_of w) known) (named_here w x t.list t.ty outer t.has m) d.2)

    -- a leaf that breaks no rule is its atom
    pub leaf_atom : (e : Expression) → HasType c g e bool → broken_leaf w n e ≡ None → LeafKnown w n e → IsAtom (with_loops loops (numbering w)) flags e (reading_of w (entries_of w) (known_of w) n e).atom (reading_of w (entries_of w) (known_of w) n e).holds
    leaf_atom (tree.Var at x) t h k = read_atom at x (binding_at w.sites n x) refl (variable_typed c g at x bool t) (true_from_not (reads_flag w.sites n (binding_at w.sites n x)) (none_where (not (reads_flag w.sites n (binding_at w.sites n x))) at h))
    leaf_atom (tree.Field at e name) t h k = truth_atom (tree.Field at e name) t (true_from_not (is_row_column w.sites n (tree.Field at e name)) (none_where (not (is_row_column w.sites n (tree.Field at e name))) at h))
    leaf_atom (tree.Binary at op a b) t h k = compared_atom at op a b (binary_typed c g at op a b bool t) (is_compared op) refl h k.entries
    leaf_atom (tree.Equals at a b) t h k = texts_atom at a b (texts_typed c g at a b bool t) h k.entries
    leaf_atom (tree.Contains at x e) t h k =
        let two = and_parts (is_row_column w.sites n e) (is_known w n x) (true_from_not (is_row_column w.sites n e && is_known w n x) (none_where (not (is_row_column w.sites n e && is_known w n x)) at h)) in
        member_atom at x e (member_typed c g at x e bool t) two.0 k.known.0
    leaf_atom (tree.Lit at v) u h k = absurd cc
    leaf_atom (tree.Not at a) u h k = absurd cc
    leaf_atom (tree.Size at y) u h k = absurd cc
    leaf_atom (tree.Get at y a) u h k = absurd cc
    leaf_atom (tree.Fetch at t) u h k = absurd cc
    leaf_atom (tree.Query at ty text es) u h k = absurd cc
    leaf_atom (tree.QueryLong at text es) u h k = absurd cc
    leaf_atom (tree.QueryBoolean at text es) u h k = absurd cc
    leaf_atom (tree.NewList at) u h k = absurd cc
    leaf_atom (tree.NewSet at) u h k = absurd cc
    leaf_atom (tree.NewSetOf at a) u h k = absurd cc
