-- A condition with the conjunct of a best value is that comparison and the formula of the other conjuncts.
use Rattle.std.proofs.Common.{◌≡◌, ℕ, Bool, true, false, not, ◌&&◌, ◌||◌, List, [], ◌∷◌, ◌++◌, Option, Some, None, refl, sym, ap, ap₂, ◌∙◌, subst, cond, bytes_eq, nat_eq, eqb-true}
use Rattle.std.specs.List.{filter, AllByRecursion}
use Rattle.std.proofs.lemmas.Bool.{and_parts, or_left, and_from}
use Rattle.qbs_base.specs.declared.scalar.Ty.{Ty}
use Rattle.qbs_base.specs.declared.scalar.Ty.TheVariants as tys
use Rattle.qbs_base.specs.declared.span.Span.{Span}
use Rattle.sql_ast.proofs.Tools.{all_parts}
use Rattle.java_ast.specs.declared.tree.Op.{Op}
use Rattle.java_ast.specs.declared.tree.Op.TheVariants as ops
use Rattle.java_ast.specs.Tree as tree
use Rattle.java_ast.specs.Tree.{Expression}
use Rattle.java_mean.specs.declared.types.JavaType.TheVariants.{Of}
use Rattle.java_mean.specs.declared.types.Single.TheVariants.{ScalarOf}
use Rattle.java_mean.specs.Types.{Types}
use Rattle.java_mean.specs.Typing.{Frame, HasType, bool}
use Rattle.java_mean.proofs.Puts.{names_equal}
use Rattle.java_loops.specs.Walks.Forms.{IsForm, one, turned_way, way_of_op, IsBest, left, right, negated, both_left, both_right, neither_left, neither_right, grouped}
use Rattle.java_loops.specs.Walks.Forms as java
use Rattle.java_loops.specs.Walks.Numbering.{Numbering, with_loops, Flags}
use Rattle.tor_terms.specs.declared.term.Atom.{Atom}
use Rattle.tor_terms.specs.declared.term.Way.{Way}
use Rattle.tor_terms.specs.declared.term.Way.TheVariants as ways
use Rattle.tor_terms.specs.Plain.{Form}
use Rattle.loop_text.specs.Kernel.KernelConditions.{leaves, is_comparing, all_best_under, is_excepted}
use Rattle.loop_text.specs.Kernel.KernelForms.{Claim, claim, claims, mentions, way_of, turned_where, way_between, way_in, way_found}
use Rattle.java_loops.specs.Lowering.Lowered.{found_form}
use Rattle.java_ast.specs.Names.{is_among, names_in}
use Rattle.java_loops.specs.Lowering.Numbering.{loop_number, column_of, both_of, leaf_form, numbers_of, form_of_condition, reading_of, said}
use Rattle.java_loops.specs.Kernel.Setting.{Setting}
use Rattle.loop_text.specs.Statements.Setting.{is_variable}
use Rattle.loop_text.specs.Sites.Sites.{Site, RowColumn, row_column_at, same_row_column}
use Rattle.java_loops.proofs.Formed.FormConditions.{HasForm, condition_formed}
use Rattle.java_loops.proofs.Formed.FormMentions.{unmentioned, excepted_is, none_excepted, OneSide, in_first, in_second, one_side, OnlyClaim, only_claim}
use Rattle.java_loops.proofs.Formed.FormOperands.{column_operand}
use Rattle.java_loops.proofs.Formed.FormTyping.{BinaryTyped, binary_typed, lt_longs, le_longs, gt_longs, ge_longs, and_truths, or_truths, not_typed}
use Rattle.java_loops.proofs.Numbers.NumberKept.{FitsUnless}
use Rattle.java_loops.proofs.Numbers.Numberings.{numbering, Sighted, FlagsSeen}

-- ---- Ways

way_alike : (op : Op) → way_of op ≡ way_of_op op
way_alike ops.Or = refl
way_alike ops.And = refl
way_alike ops.Eq = refl
way_alike ops.Ne = refl
way_alike ops.Lt = refl
way_alike ops.Le = refl
way_alike ops.Gt = refl
way_alike ops.Ge = refl
way_alike ops.Add = refl
way_alike ops.Sub = refl
way_alike ops.Mul = refl

turned_alike : (polarity : Bool) (o : Option Way) → turned_where (not polarity) o ≡ turned_way polarity o
turned_alike true (Some w) = refl
turned_alike true None = refl
turned_alike false (Some ways.Max) = refl
turned_alike false (Some ways.Min) = refl
turned_alike false None = refl

-- an operator that orders numbers
record Orders (c : Frame) (g : Types) (op : Op) (a b : Expression) : Type 0 where
  comparing : is_comparing op ≡ true
  left : HasType c g a (Of (ScalarOf tys.Long))
  right : HasType c g b (Of (ScalarOf tys.Long))

none_turned : (polarity : Bool) → turned_where (not polarity) None ≡ None
none_turned true = refl
none_turned false = refl

longs : (c : Frame) (g : Types) (e : Expression) (ty : Ty) → ty ≡ tys.Long → HasType c g e (Of (ScalarOf ty)) → HasType c g e (Of (ScalarOf tys.Long))
longs c g e ty is t = subst (λ z. HasType c g e (Of (ScalarOf z))) is t

orders : (c : Frame) (g : Types) (op : Op) (a b : Expression) (way : Way) → BinaryTyped c g op a b → way_of op ≡ Some way → Orders c g op a b
orders c g ops.Lt a b way t h = record { comparing = refl; left = longs c g a t.from (lt_longs t.from t.to t.takes) t.left; right = longs c g b t.from (lt_longs t.from t.to t.takes) t.right }
orders c g ops.Le a b way t h = record { comparing = refl; left = longs c g a t.from (le_longs t.from t.to t.takes) t.left; right = longs c g b t.from (le_longs t.from t.to t.takes) t.right }
orders c g ops.Gt a b way t h = record { comparing = refl; left = longs c g a t.from (gt_longs t.from t.to t.takes) t.left; right = longs c g b t.from (gt_longs t.from t.to t.takes) t.right }
orders c g ops.Ge a b way t h = record { comparing = refl; left = longs c g a t.from (ge_longs t.from t.to t.takes) t.left; right = longs c g b t.from (ge_longs t.from t.to t.takes) t.right }
orders c g ops.Or a b way t h = absurd cc
orders c g ops.And a b way t h = absurd cc
orders c g ops.Eq a b way t h = absurd cc
orders c g ops.Ne a b way t h = absurd cc
orders c g ops.Add a b way t h = absurd cc
orders c g ops.Sub a b way t h = absurd cc
orders c g ops.Mul a b way t h = absurd cc

-- some way, before it was turned
record WayBefore (o : Option Way) : Type 0 where
  way : Way
  is : o ≡ Some way

way_before : (b : Bool) (o : Option Way) (way : Way) → turned_where b o ≡ Some way → WayBefore o
way_before true (Some v) way h = record { way = v; is = refl }
way_before true None way h = absurd cc
way_before false o way h = record { way = way; is = h }

-- ---- Comparisons

-- a variable by itself
pub data IsVariable (m : List ℕ) : Expression → Type 0 where
  by_itself : (at : Span) → IsVariable m (tree.Var at m)

variable_at : (m x : List ℕ) (at : Span) → bytes_eq x m ≡ true → IsVariable m (tree.Var at x)
variable_at m x at h = subst (λ z. IsVariable m (tree.Var at z)) (sym (names_equal x m h)) (by_itself at)

pub variable_is : (m : List ℕ) (e : Expression) → is_variable m e ≡ true → IsVariable m e
variable_is m (tree.Var at x) h = variable_at m x at h
variable_is m (tree.Lit at v) h = absurd cc
variable_is m (tree.Field at a name) h = absurd cc
variable_is m (tree.Binary at op p q) h = absurd cc
variable_is m (tree.Not at a) h = absurd cc
variable_is m (tree.Equals at p q) h = absurd cc
variable_is m (tree.Size at y) h = absurd cc
variable_is m (tree.Get at y a) h = absurd cc
variable_is m (tree.Contains at y a) h = absurd cc
variable_is m (tree.Fetch at t) h = absurd cc
variable_is m (tree.Query at ty text es) h = absurd cc
variable_is m (tree.QueryLong at text es) h = absurd cc
variable_is m (tree.QueryBoolean at text es) h = absurd cc
variable_is m (tree.NewList at) h = absurd cc
variable_is m (tree.NewSet at) h = absurd cc
variable_is m (tree.NewSetOf at a) h = absurd cc

column_same : (o : Option RowColumn) (d : RowColumn) → same_row_column o (Some d) ≡ true → o ≡ Some d
column_same (Some e) d h =
    let two = and_parts (nat_eq e.loop d.loop) (bytes_eq e.column d.column) h in
    ap₂ (λ j f. Some (record { loop = j; column = f })) (eqb-true e.loop d.loop two.0) (names_equal e.column d.column two.1)
column_same None d h = absurd cc

-- a comparison of the variable with a column, either way
data Compared (sites : List Site) (n : ℕ) (m : List ℕ) (d : RowColumn) (op : Op) (a b : Expression) (o : Option Way) : Type 0 where
  on_left : is_variable m a ≡ true → row_column_at sites n b ≡ Some d → o ≡ way_of op → Compared sites n m d op a b o
  on_right : is_variable m b ≡ true → row_column_at sites n a ≡ Some d → o ≡ turned_where true (way_of op) → Compared sites n m d op a b o
  nowhere : o ≡ None → Compared sites n m d op a b o

right_compared : (sites : List Site) (n : ℕ) (m : List ℕ) (d : RowColumn) (op : Op) (a b : Expression) (q : Bool) → (is_variable m b && same_row_column (row_column_at sites n a) (Some d)) ≡ q → Compared sites n m d op a b (cond q (turned_where true (way_of op)) None)
right_compared sites n m d op a b true e = let two = and_parts (is_variable m b) (same_row_column (row_column_at sites n a) (Some d)) e in on_right two.0 (column_same (row_column_at sites n a) d two.1) refl
right_compared sites n m d op a b false e = nowhere refl

either_compared : (sites : List Site) (n : ℕ) (m : List ℕ) (d : RowColumn) (op : Op) (a b : Expression) (q : Bool) → (is_variable m a && same_row_column (row_column_at sites n b) (Some d)) ≡ q → Compared sites n m d op a b (cond q (way_of op) (cond (is_variable m b && same_row_column (row_column_at sites n a) (Some d)) (turned_where true (way_of op)) None))
either_compared sites n m d op a b true e = let two = and_parts (is_variable m a) (same_row_column (row_column_at sites n b) (Some d)) e in on_left two.0 (column_same (row_column_at sites n b) d two.1) refl
either_compared sites n m d op a b false e = right_compared sites n m d op a b (is_variable m b && same_row_column (row_column_at sites n a) (Some d)) refl

compared : (sites : List Site) (n : ℕ) (m : List ℕ) (d : RowColumn) (op : Op) (a b : Expression) → Compared sites n m d op a b (way_between sites n m d op a b)
compared sites n m d op a b = either_compared sites n m d op a b (is_variable m a && same_row_column (row_column_at sites n b) (Some d)) refl

-- ---- Both parts of a conjunction together

module _ (known : List Atom) (numbers : Numbering) (flags : Flags) (m : List ℕ) (way : Way) (j column : ℕ) where
  abbrev Best : Bool → Expression → Option Form → Type 0
  Best holds e o = IsBest known numbers flags m way j column holds e (found_form o)

  left_and : (at : Span) (a b : Expression) (o : Option Form) (f : Form) → Best true a o → IsForm known numbers flags true b f → Best true (tree.Binary at ops.And a b) (both_of o (Some f))
  left_and at a b (Some e) f p q = grouped true (tree.Binary at ops.And a b) e f [] (both_left at a b (e ∷ []) (f ∷ []) p (one true b f q))
  left_and at a b None f p q = both_left at a b [] (f ∷ []) p (one true b f q)

  right_and : (at : Span) (a b : Expression) (o : Option Form) (f : Form) → IsForm known numbers flags true a f → Best true b o → Best true (tree.Binary at ops.And a b) (both_of (Some f) o)
  right_and at a b (Some e) f p q = grouped true (tree.Binary at ops.And a b) f e [] (both_right at a b (f ∷ []) (e ∷ []) (one true a f p) q)
  right_and at a b None f p q = both_right at a b (f ∷ []) [] (one true a f p) q

  left_or : (at : Span) (a b : Expression) (o : Option Form) (f : Form) → Best false a o → IsForm known numbers flags false b f → Best false (tree.Binary at ops.Or a b) (both_of o (Some f))
  left_or at a b (Some e) f p q = grouped false (tree.Binary at ops.Or a b) e f [] (neither_left at a b (e ∷ []) (f ∷ []) p (one false b f q))
  left_or at a b None f p q = neither_left at a b [] (f ∷ []) p (one false b f q)

  right_or : (at : Span) (a b : Expression) (o : Option Form) (f : Form) → IsForm known numbers flags false a f → Best false b o → Best false (tree.Binary at ops.Or a b) (both_of (Some f) o)
  right_or at a b (Some e) f p q = grouped false (tree.Binary at ops.Or a b) f e [] (neither_right at a b (f ∷ []) (e ∷ []) (one false a f p) q)
  right_or at a b None f p q = neither_right at a b (f ∷ []) [] (one false a f p) q

-- ---- Conditions

module _ (w : Setting) (c : Frame) (same : c.schema ≡ w.schema) (n : ℕ) (g : Types) (loops : List ℕ → Option ℕ) (s : Sighted w n g loops) (flags : Flags) (f : FlagsSeen w n g flags) (m : List ℕ) (d : RowColumn) (way : Way) (best : all_best_under w.sites n 0 w.sites ≡ m ∷ []) where
  -- the condition with this truth value is the comparison and the formula
  abbrev BestFormed : Bool → Expression → Type 0
  BestFormed holds e = IsBest (numbers_of w).atoms (with_loops loops (numbering w)) flags m way (loop_number w.sites d.loop) (column_of w d) holds e (found_form (form_of_condition w (numbers_of w) n holds e))

  abbrev IsWay : Claim → Type 0
  IsWay k = way_found w.sites m d (record { number = n; claim = k }) ≡ Some way

  truths : (e : Expression) (ty : Ty) → ty ≡ tys.Bool → HasType c g e (Of (ScalarOf ty)) → HasType c g e bool
  truths e ty is t = subst (λ z. HasType c g e (Of (ScalarOf z))) is t

  compared_best : (holds : Bool) (at : Span) (op : Op) (a b : Expression) (o : Option Way) → Orders c g op a b → Compared w.sites n m d op a b o → turned_where (not holds) o ≡ Some way → IsBest (numbers_of w).atoms (with_loops loops (numbering w)) flags m way (loop_number w.sites d.loop) (column_of w d) holds (tree.Binary at op a b) []
  compared_best holds at op a b o t (on_left v r is) h = go a (variable_is m a v)
    where
      ways_left : java.way_of holds true op ≡ Some way
      ways_left = ap (turned_way holds) (sym (way_alike op)) ∙ sym (turned_alike holds (way_of op)) ∙ ap (turned_where (not holds)) (sym is) ∙ h

      go : (a : Expression) → IsVariable m a → IsBest (numbers_of w).atoms (with_loops loops (numbering w)) flags m way (loop_number w.sites d.loop) (column_of w d) holds (tree.Binary at op a b) []
      go _ (by_itself at') = left holds at at' op b ways_left (column_operand w c same n g loops s b d tys.Long r t.right)
  compared_best holds at op a b o t (on_right v r is) h = go b (variable_is m b v)
    where
      ways_right : java.way_of holds false op ≡ Some way
      ways_right = ap (λ z. turned_way holds (turned_way false z)) (sym (way_alike op)) ∙ ap (turned_way holds) (sym (turned_alike false (way_of op))) ∙ sym (turned_alike holds (turned_where true (way_of op))) ∙ ap (turned_where (not holds)) (sym is) ∙ h

      go : (b : Expression) → IsVariable m b → IsBest (numbers_of w).atoms (with_loops loops (numbering w)) flags m way (loop_number w.sites d.loop) (column_of w d) holds (tree.Binary at op a b) []
      go _ (by_itself at') = right holds at at' op a ways_right (column_operand w c same n g loops s a d tys.Long r t.left)
  compared_best holds at op a b o t (nowhere is) h = let l : turned_where (not holds) None ≡ Some way = ap (turned_where (not holds)) (sym is) ∙ h in let k : None ≡ Some way = sym (none_turned holds) ∙ l in absurd cc

  way_orders : (op : Op) (a b : Expression) (o : Option Way) (v : Way) → BinaryTyped c g op a b → Compared w.sites n m d op a b o → o ≡ Some v → Orders c g op a b
  way_orders op a b o v t (on_left x r is) h = orders c g op a b v t (sym is ∙ h)
  way_orders op a b o v t (on_right x r is) h = let k : WayBefore (way_of op) = way_before true (way_of op) v (sym is ∙ h) in orders c g op a b k.way t k.is
  way_orders op a b o v t (nowhere is) h = let k : None ≡ Some v = sym is ∙ h in absurd cc

  -- the comparison by itself
  leaf_best : (holds : Bool) (at : Span) (op : Op) (a b : Expression) (k : Claim) → HasType c g (tree.Binary at op a b) bool → filter (mentions m) (claim (tree.Binary at op a b) holds ∷ []) ≡ k ∷ [] → IsWay k → form_of_condition w (numbers_of w) n holds (tree.Binary at op a b) ≡ leaf_form w (numbers_of w) n holds (tree.Binary at op a b) → BestFormed holds (tree.Binary at op a b)
  leaf_best holds at op a b k t h ways leaf =
      let only : OnlyClaim m (tree.Binary at op a b) holds k = only_claim m (tree.Binary at op a b) holds k h in
      let here : IsWay (claim (tree.Binary at op a b) holds) = subst IsWay (sym only.same) ways in
      let before : WayBefore (way_between w.sites n m d op a b) = way_before (not holds) (way_between w.sites n m d op a b) way here in
      let u : BinaryTyped c g op a b = binary_typed c g at op a b bool t in
      let o : Orders c g op a b = way_orders op a b (way_between w.sites n m d op a b) before.way u (compared w.sites n m d op a b) before.is in
      let excepted : is_excepted w.sites n (tree.Binary at op a b) ≡ true = excepted_is w.sites n m (tree.Binary at op a b) best ∙ and_from (is_comparing op) (is_among (names_in (tree.Binary at op a b)) m || false) o.comparing (or_left (is_among (names_in (tree.Binary at op a b)) m) false only.mentioned) in
      let none : form_of_condition w (numbers_of w) n holds (tree.Binary at op a b) ≡ None = leaf ∙ ap (λ q. cond q None (Some (said (numbers_of w).atoms holds (reading_of w (numbers_of w).entries (numbers_of w).known n (tree.Binary at op a b))))) excepted in
      subst (λ z. IsBest (numbers_of w).atoms (with_loops loops (numbering w)) flags m way (loop_number w.sites d.loop) (column_of w d) holds (tree.Binary at op a b) (found_form z)) (sym none) (compared_best holds at op a b (way_between w.sites n m d op a b) o (compared w.sites n m d op a b) here)

  -- a junction by itself compares nothing
  no_way : (holds : Bool) (at : Span) (op : Op) (a b : Expression) (k : Claim) → HasType c g (tree.Binary at op a b) bool → is_comparing op ≡ false → filter (mentions m) (claim (tree.Binary at op a b) holds ∷ []) ≡ k ∷ [] → IsWay k → ⊥
  no_way holds at op a b k t fails h ways =
      let only : OnlyClaim m (tree.Binary at op a b) holds k = only_claim m (tree.Binary at op a b) holds k h in
      let here : IsWay (claim (tree.Binary at op a b) holds) = subst IsWay (sym only.same) ways in
      let before : WayBefore (way_between w.sites n m d op a b) = way_before (not holds) (way_between w.sites n m d op a b) way here in
      let o : Orders c g op a b = way_orders op a b (way_between w.sites n m d op a b) before.way (binary_typed c g at op a b bool t) (compared w.sites n m d op a b) before.is in
      let l : is_comparing op ≡ true = o.comparing in
      cc

  -- any other conjunct is no comparison
  other_way : (holds : Bool) (e : Expression) (k : Claim) → filter (mentions m) (claim e holds ∷ []) ≡ k ∷ [] → IsWay k → way_in w.sites n m d e ≡ None → ⊥
  other_way holds e k h ways none =
      let only : OnlyClaim m e holds k = only_claim m e holds k h in
      let here : IsWay (claim e holds) = subst IsWay (sym only.same) ways in
      let l : turned_where (not holds) None ≡ Some way = ap (turned_where (not holds)) (sym none) ∙ here in
      let q : None ≡ Some way = sym (none_turned holds) ∙ l in
      cc

  -- a condition that doesn't mention the variable is its formula
  plain_formed : (holds : Bool) (e : Expression) → HasType c g e bool → filter (mentions m) (claims holds e) ≡ [] → AllByRecursion (FitsUnless w n) (leaves e) → HasForm w n (with_loops loops (numbering w)) flags holds e
  plain_formed holds e t h fits = condition_formed w c same n g loops s flags f holds e t (none_excepted w.sites n m e best (unmentioned m holds e h)) fits

  and_best : (at : Span) (a b : Expression) (k : Claim) → HasType c g a bool → HasType c g b bool → AllByRecursion (FitsUnless w n) (leaves a ++ leaves b) → OneSide m (claims true a) (claims true b) k → (filter (mentions m) (claims true a) ≡ k ∷ [] → BestFormed true a) → (filter (mentions m) (claims true b) ≡ k ∷ [] → BestFormed true b) → BestFormed true (tree.Binary at ops.And a b)
  and_best at a b k t u fits (in_first p q) i j =
      let parts = all_parts (FitsUnless w n) (leaves a) (leaves b) fits in
      let r : HasForm w n (with_loops loops (numbering w)) flags true b = plain_formed true b u q parts.1 in
      subst (λ z. IsBest (numbers_of w).atoms (with_loops loops (numbering w)) flags m way (loop_number w.sites d.loop) (column_of w d) true (tree.Binary at ops.And a b) (found_form (both_of (form_of_condition w (numbers_of w) n true a) z))) (sym r.is) (left_and (numbers_of w).atoms (with_loops loops (numbering w)) flags m way (loop_number w.sites d.loop) (column_of w d) at a b (form_of_condition w (numbers_of w) n true a) r.form (i p) r.stands)
  and_best at a b k t u fits (in_second p q) i j =
      let parts = all_parts (FitsUnless w n) (leaves a) (leaves b) fits in
      let r : HasForm w n (with_loops loops (numbering w)) flags true a = plain_formed true a t p parts.0 in
      subst (λ z. IsBest (numbers_of w).atoms (with_loops loops (numbering w)) flags m way (loop_number w.sites d.loop) (column_of w d) true (tree.Binary at ops.And a b) (found_form (both_of z (form_of_condition w (numbers_of w) n true b)))) (sym r.is) (right_and (numbers_of w).atoms (with_loops loops (numbering w)) flags m way (loop_number w.sites d.loop) (column_of w d) at a b (form_of_condition w (numbers_of w) n true b) r.form r.stands (j q))

  or_best : (at : Span) (a b : Expression) (k : Claim) → HasType c g a bool → HasType c g b bool → AllByRecursion (FitsUnless w n) (leaves a ++ leaves b) → OneSide m (claims false a) (claims false b) k → (filter (mentions m) (claims false a) ≡ k ∷ [] → BestFormed false a) → (filter (mentions m) (claims false b) ≡ k ∷ [] → BestFormed false b) → BestFormed false (tree.Binary at ops.Or a b)
  or_best at a b k t u fits (in_first p q) i j =
      let parts = all_parts (FitsUnless w n) (leaves a) (leaves b) fits in
      let r : HasForm w n (with_loops loops (numbering w)) flags false b = plain_formed false b u q parts.1 in
      subst (λ z. IsBest (numbers_of w).atoms (with_loops loops (numbering w)) flags m way (loop_number w.sites d.loop) (column_of w d) false (tree.Binary at ops.Or a b) (found_form (both_of (form_of_condition w (numbers_of w) n false a) z))) (sym r.is) (left_or (numbers_of w).atoms (with_loops loops (numbering w)) flags m way (loop_number w.sites d.loop) (column_of w d) at a b (form_of_condition w (numbers_of w) n false a) r.form (i p) r.stands)
  or_best at a b k t u fits (in_second p q) i j =
      let parts = all_parts (FitsUnless w n) (leaves a) (leaves b) fits in
      let r : HasForm w n (with_loops loops (numbering w)) flags false a = plain_formed false a t p parts.0 in
      subst (λ z. IsBest (numbers_of w).atoms (with_loops loops (numbering w)) flags m way (loop_number w.sites d.loop) (column_of w d) false (tree.Binary at ops.Or a b) (found_form (both_of z (form_of_condition w (numbers_of w) n false b)))) (sym r.is) (right_or (numbers_of w).atoms (with_loops loops (numbering w)) flags m way (loop_number w.sites d.loop) (column_of w d) at a b (form_of_condition w (numbers_of w) n false b) r.form r.stands (j q))

  -- Where exactly one conjunct mentions the variable and compares it with the column, the condition is that comparison
  -- and the formula of the others.
  pub best_formed : (holds : Bool) (e : Expression) (k : Claim) → HasType c g e bool → filter (mentions m) (claims holds e) ≡ k ∷ [] → IsWay k → AllByRecursion (FitsUnless w n) (leaves e) → BestFormed holds e
  best_formed true (tree.Binary at ops.And a b) k t h ways fits =
      let u : BinaryTyped c g ops.And a b = binary_typed c g at ops.And a b bool t in
      let p : HasType c g a bool = truths a u.from (and_truths u.from u.to u.takes) u.left in
      let q : HasType c g b bool = truths b u.from (and_truths u.from u.to u.takes) u.right in
      let parts = all_parts (FitsUnless w n) (leaves a) (leaves b) fits in
      and_best at a b k p q fits (one_side m (claims true a) (claims true b) k h) (λ i. best_formed true a k p i ways parts.0) (λ i. best_formed true b k q i ways parts.1)
  best_formed false (tree.Binary at ops.And a b) k t h ways fits = absurd (no_way false at ops.And a b k t refl h ways)
  best_formed true (tree.Binary at ops.Or a b) k t h ways fits = absurd (no_way true at ops.Or a b k t refl h ways)
  best_formed false (tree.Binary at ops.Or a b) k t h ways fits =
      let u : BinaryTyped c g ops.Or a b = binary_typed c g at ops.Or a b bool t in
      let p : HasType c g a bool = truths a u.from (or_truths u.from u.to u.takes) u.left in
      let q : HasType c g b bool = truths b u.from (or_truths u.from u.to u.takes) u.right in
      let parts = all_parts (FitsUnless w n) (leaves a) (leaves b) fits in
      or_best at a b k p q fits (one_side m (claims false a) (claims false b) k h) (λ i. best_formed false a k p i ways parts.0) (λ i. best_formed false b k q i ways parts.1)
  best_formed true (tree.Binary at ops.Eq a b) k t h ways fits = leaf_best true at ops.Eq a b k t h ways refl
  best_formed false (tree.Binary at ops.Eq a b) k t h ways fits = leaf_best false at ops.Eq a b k t h ways refl
  best_formed true (tree.Binary at ops.Ne a b) k t h ways fits = leaf_best true at ops.Ne a b k t h ways refl
  best_formed false (tree.Binary at ops.Ne a b) k t h ways fits = leaf_best false at ops.Ne a b k t h ways refl
  best_formed true (tree.Binary at ops.Lt a b) k t h ways fits = leaf_best true at ops.Lt a b k t h ways refl
  best_formed false (tree.Binary at ops.Lt a b) k t h ways fits = leaf_best false at ops.Lt a b k t h ways refl
  best_formed true (tree.Binary at ops.Le a b) k t h ways fits = leaf_best true at ops.Le a b k t h ways refl
  best_formed false (tree.Binary at ops.Le a b) k t h ways fits = leaf_best false at ops.Le a b k t h ways refl
  best_formed true (tree.Binary at ops.Gt a b) k t h ways fits = leaf_best true at ops.Gt a b k t h ways refl
  best_formed false (tree.Binary at ops.Gt a b) k t h ways fits = leaf_best false at ops.Gt a b k t h ways refl
  best_formed true (tree.Binary at ops.Ge a b) k t h ways fits = leaf_best true at ops.Ge a b k t h ways refl
  best_formed false (tree.Binary at ops.Ge a b) k t h ways fits = leaf_best false at ops.Ge a b k t h ways refl
  best_formed true (tree.Binary at ops.Add a b) k t h ways fits = leaf_best true at ops.Add a b k t h ways refl
  best_formed false (tree.Binary at ops.Add a b) k t h ways fits = leaf_best false at ops.Add a b k t h ways refl
  best_formed true (tree.Binary at ops.Sub a b) k t h ways fits = leaf_best true at ops.Sub a b k t h ways refl
  best_formed false (tree.Binary at ops.Sub a b) k t h ways fits = leaf_best false at ops.Sub a b k t h ways refl
  best_formed true (tree.Binary at ops.Mul a b) k t h ways fits = leaf_best true at ops.Mul a b k t h ways refl
  best_formed false (tree.Binary at ops.Mul a b) k t h ways fits = leaf_best false at ops.Mul a b k t h ways refl
  best_formed holds (tree.Not at e) k t h ways fits = negated holds at e (found_form (form_of_condition w (numbers_of w) n (not holds) e)) (best_formed (not holds) e k (not_typed c g at e bool t) h ways fits)
  best_formed holds (tree.Lit at v) k u h ways fits = absurd (other_way holds (tree.Lit at v) k h ways refl)
  best_formed holds (tree.Var at y) k u h ways fits = absurd (other_way holds (tree.Var at y) k h ways refl)
  best_formed holds (tree.Field at a name) k u h ways fits = absurd (other_way holds (tree.Field at a name) k h ways refl)
  best_formed holds (tree.Equals at p q) k u h ways fits = absurd (other_way holds (tree.Equals at p q) k h ways refl)
  best_formed holds (tree.Size at y) k u h ways fits = absurd (other_way holds (tree.Size at y) k h ways refl)
  best_formed holds (tree.Get at y a) k u h ways fits = absurd (other_way holds (tree.Get at y a) k h ways refl)
  best_formed holds (tree.Contains at y a) k u h ways fits = absurd (other_way holds (tree.Contains at y a) k h ways refl)
  best_formed holds (tree.Fetch at t) k u h ways fits = absurd (other_way holds (tree.Fetch at t) k h ways refl)
  best_formed holds (tree.Query at ty text es) k u h ways fits = absurd (other_way holds (tree.Query at ty text es) k h ways refl)
  best_formed holds (tree.QueryLong at text es) k u h ways fits = absurd (other_way holds (tree.QueryLong at text es) k h ways refl)
  best_formed holds (tree.QueryBoolean at text es) k u h ways fits = absurd (other_way holds (tree.QueryBoolean at text es) k h ways refl)
  best_formed holds (tree.NewList at) k u h ways fits = absurd (other_way holds (tree.NewList at) k h ways refl)
  best_formed holds (tree.NewSet at) k u h ways fits = absurd (other_way holds (tree.NewSet at) k h ways refl)
  best_formed holds (tree.NewSetOf at a) k u h ways fits = absurd (other_way holds (tree.NewSetOf at a) k h ways refl)
