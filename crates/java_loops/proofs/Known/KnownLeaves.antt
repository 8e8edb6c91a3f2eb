-- The leaves of the conditions of a fragment that breaks no rule of conditions: each is of a kernel form, and breaks no
-- rule of types.
use Rattle.std.proofs.Common.{◌≡◌, ℕ, suc, Bool, true, false, ◌||◌, List, [], ◌∷◌, ◌++◌, Option, Some, None, refl, sym, ap, ◌∙◌, subst, cond}
use Rattle.std.specs.Prelude.{slice_get}
use Rattle.std.specs.List.{AllByRecursion}
use Rattle.std.specs.Option.{option_map}
use Rattle.qbs_base.specs.declared.columns.Column.{Column}
use Rattle.qbs_base.specs.declared.span.Span.{Span}
use Rattle.qbs_base.specs.Values.{Schema}
use Rattle.qbs_base.specs.Columns.{column_number, columns_at}
use Rattle.sql_ast.specs.Tree.{PlainQuery}
use Rattle.sql_ast.proofs.Combinations.{all_append}
use Rattle.java_ast.specs.declared.tree.Op.{Op}
use Rattle.java_ast.specs.Tree as tree
use Rattle.java_ast.specs.Tree.{Spelled, Expression, Expressions, NoMore, And, Statement, Statements, Nothing, Then}
use Rattle.java_mean.specs.declared.types.JavaType.{JavaType}
use Rattle.java_mean.specs.declared.types.JavaType.TheVariants.{Of}
use Rattle.java_mean.specs.declared.types.Kindred.{Kindred}
use Rattle.java_mean.specs.declared.types.Kindred.TheVariants.{Only}
use Rattle.java_mean.specs.declared.types.Single.TheVariants.{RowOf}
use Rattle.java_mean.specs.Places.{value, step, in_expression, in_expressions, in_statements, in_branch}
use Rattle.java_mean.specs.Rules.{type_of, is_none, type_at_number, column_type, unknown_column}
use Rattle.java_mean.specs.Types.{Types}
use Rattle.java_mean.specs.Typing.{Extends}
use Rattle.java_mean.specs.Visible.{Visible, is_visible}
use Rattle.java_mean.specs.WellTyped.{faults_in}
use Rattle.java_mean.proofs.Faultless.{none_in, none_at, only_none, not_none, Sees, seen}
use Rattle.loop_text.specs.Kernel.Counting.{is_and}
use Rattle.loop_text.specs.Kernel.KernelConditions.{leaves, is_excepted, condition_of}
use Rattle.java_loops.specs.Kernel.KernelConditions.{broken_leaf, broken_unless_excepted, broken_leaves, broken_condition, broken_condition_at, broken_conditions}
use Rattle.loop_text.specs.Kernel.KernelForms.{is_or}
use Rattle.java_loops.specs.Lowering.Numbering.{Leaf, leaves_kept, leaves_of, leaves_from, all_leaves}
use Rattle.java_loops.specs.Kernel.Setting.{Setting}
use Rattle.loop_text.specs.Sites.Sites.{Site, first_broken}
use Rattle.java_loops.proofs.Known.KnownEntries.{IsColumn, FieldKnown}
use Rattle.java_loops.proofs.Listed.ListedWalk.{SeenStatement, SeenSite}
use Rattle.java_loops.proofs.Standing.StandingRules.{first_none}

module _ (schema : Schema) (read : List ℕ → Option PlainQuery) (r : Option Spelled) (types : Types) where
  -- An expression breaks no rule of types where it stands, and what is visible there and at the loop has one type.
  pub record SeenExpression (e : Expression) : Type 0 where
    pub visible : Visible
    pub there : Types
    pub sees : Sees visible there
    pub agrees : (x : List ℕ) (j k : JavaType) → there x ≡ Some j → types x ≡ Some k → j ≡ k
    pub clean : faults_in schema read r (in_expression visible e) ≡ []

  -- ---- Parts of expressions

  part_seen : (e a : Expression) (k : SeenExpression e) → faults_in schema read r (in_expression k.visible a) ≡ [] → SeenExpression a
  part_seen e a k h = record { visible = k.visible; there = k.there; sees = k.sees; agrees = k.agrees; clean = h }

  pub operands_seen : (at : Span) (op : Op) (a b : Expression) → SeenExpression (tree.Binary at op a b) → SeenExpression a × SeenExpression b
  operands_seen at op a b k =
      let n = none_at schema read r (value k.visible (tree.Binary at op a b)) (in_expression k.visible a ++ in_expression k.visible b) k.clean in
      let two = none_in schema read r (in_expression k.visible a) (in_expression k.visible b) n.right in
      (part_seen (tree.Binary at op a b) a k two.left, part_seen (tree.Binary at op a b) b k two.right)

  pub texts_seen : (at : Span) (a b : Expression) → SeenExpression (tree.Equals at a b) → SeenExpression a × SeenExpression b
  texts_seen at a b k =
      let n = none_at schema read r (value k.visible (tree.Equals at a b)) (in_expression k.visible a ++ in_expression k.visible b) k.clean in
      let two = none_in schema read r (in_expression k.visible a) (in_expression k.visible b) n.right in
      (part_seen (tree.Equals at a b) a k two.left, part_seen (tree.Equals at a b) b k two.right)

  negated_seen : (at : Span) (e : Expression) → SeenExpression (tree.Not at e) → SeenExpression e
  negated_seen at e k =
      let n = none_at schema read r (value k.visible (tree.Not at e)) (in_expression k.visible e) k.clean in
      part_seen (tree.Not at e) e k n.right

  pub set_of_seen : (at : Span) (e : Expression) → SeenExpression (tree.NewSetOf at e) → SeenExpression e
  set_of_seen at e k =
      let n = none_at schema read r (value k.visible (tree.NewSetOf at e)) (in_expression k.visible e) k.clean in
      part_seen (tree.NewSetOf at e) e k n.right

  abbrev pub AllSeenIn : Visible → Types → Expressions → Type 0
  AllSeenIn vs there NoMore = Unit {0}
  AllSeenIn vs there (And e es) = SeenExpression e × AllSeenIn vs there es

  all_seen_in : (vs : Visible) (there : Types) (es : Expressions) → Sees vs there → ((x : List ℕ) (j k : JavaType) → there x ≡ Some j → types x ≡ Some k → j ≡ k) → faults_in schema read r (in_expressions vs es) ≡ [] → AllSeenIn vs there es
  all_seen_in vs there NoMore s a h = tt
  all_seen_in vs there (And e es) s a h =
      let two = none_in schema read r (in_expression vs e) (in_expressions vs es) h in
      (record { visible = vs; there = there; sees = s; agrees = a; clean = two.left }, all_seen_in vs there es s a two.right)

  pub arguments_seen : (at : Span) (ty : Spelled) (text : List ℕ) (es : Expressions) (k : SeenExpression (tree.Query at ty text es)) → AllSeenIn k.visible k.there es
  arguments_seen at ty text es k =
      let n = none_at schema read r (value k.visible (tree.Query at ty text es)) (in_expressions k.visible es) k.clean in
      all_seen_in k.visible k.there es k.sees k.agrees n.right

  -- ---- Fields of entry rows

  column_there : (columns : List Column) (o : Option ℕ) → is_none (type_at_number columns o) ≡ false → (i : ℕ) × (c : Column) × (o ≡ Some i) × (slice_get columns i ≡ Some c)
  column_there columns None h = absurd cc
  column_there columns (Some i) h = found_column columns i (slice_get columns i) refl h
    where
      found_column : (columns : List Column) (i : ℕ) (o : Option Column) → slice_get columns i ≡ o → is_none (option_map (λ (c : Column). c.ty) o) ≡ false → (j : ℕ) × (c : Column) × (Some i ≡ Some j) × (slice_get columns j ≡ Some c)
      found_column columns i None e h = absurd cc
      found_column columns i (Some c) e h = (i, c, refl, e)

  known_column : (n : ℕ) (f : List ℕ) (at : Span) (o : Option Kindred) → o ≡ Some (Only (Of (RowOf n))) → unknown_column schema o f at ≡ [] → IsColumn schema n f
  known_column n f at o e h =
      let there : is_none (column_type (columns_at schema n) f) ≡ false = only_none (is_none (column_type (columns_at schema n) f)) at (ap (λ z. unknown_column schema z f at) (sym e) ∙ h) in
      let c = column_there (columns_at schema n) (column_number (columns_at schema n) f) there in
      record { number = c.0; column = c.1; numbered = c.2; there = c.3 }

  field_seen : (at at' : Span) (x f : List ℕ) → SeenExpression (tree.Field at (tree.Var at' x) f) → (n : ℕ) → types x ≡ Some (Of (RowOf n)) → IsColumn schema n f
  field_seen at at' x f k n e =
      let h = none_at schema read r (value k.visible (tree.Field at (tree.Var at' x) f)) (in_expression k.visible (tree.Var at' x)) k.clean in
      let v = none_at schema read r (value k.visible (tree.Var at' x)) [] h.right in
      let j = seen k.visible k.there x k.sees (not_none (is_visible k.visible x) at' v.left.known) in
      let type : type_of schema k.visible (tree.Var at' x) ≡ Some (Only (Of (RowOf n))) = ap (option_map Only) (k.sees.same x ∙ j.is ∙ ap Some (k.agrees x j.value (Of (RowOf n)) j.is e)) in
      known_column n f at (type_of schema k.visible (tree.Var at' x)) type h.left.known

  -- the field of a row that is visible at the loop is a column of its table
  pub field_known : (e : Expression) → SeenExpression e → FieldKnown schema types e
  field_known (tree.Field at (tree.Var at' x) f) k = field_seen at at' x f k
  field_known (tree.Field at (tree.Lit at' x) f) k = tt
  field_known (tree.Field at (tree.Field at' e n) f) k = tt
  field_known (tree.Field at (tree.Binary at' op a b) f) k = tt
  field_known (tree.Field at (tree.Not at' e) f) k = tt
  field_known (tree.Field at (tree.Equals at' a b) f) k = tt
  field_known (tree.Field at (tree.Size at' x) f) k = tt
  field_known (tree.Field at (tree.Get at' x e) f) k = tt
  field_known (tree.Field at (tree.Contains at' x e) f) k = tt
  field_known (tree.Field at (tree.Fetch at' n) f) k = tt
  field_known (tree.Field at (tree.Query at' ty text es) f) k = tt
  field_known (tree.Field at (tree.QueryLong at' text es) f) k = tt
  field_known (tree.Field at (tree.QueryBoolean at' text es) f) k = tt
  field_known (tree.Field at (tree.NewList at') f) k = tt
  field_known (tree.Field at (tree.NewSet at') f) k = tt
  field_known (tree.Field at (tree.NewSetOf at' e) f) k = tt
  field_known (tree.Lit at x) k = tt
  field_known (tree.Var at x) k = tt
  field_known (tree.Binary at op a b) k = tt
  field_known (tree.Not at e) k = tt
  field_known (tree.Equals at a b) k = tt
  field_known (tree.Size at x) k = tt
  field_known (tree.Get at x e) k = tt
  field_known (tree.Contains at x e) k = tt
  field_known (tree.Fetch at n) k = tt
  field_known (tree.Query at ty text es) k = tt
  field_known (tree.QueryLong at text es) k = tt
  field_known (tree.QueryBoolean at text es) k = tt
  field_known (tree.NewList at) k = tt
  field_known (tree.NewSet at) k = tt
  field_known (tree.NewSetOf at e) k = tt

  -- ---- Leaves

  leaves_where : (e a b : Expression) (t : Bool) → AllByRecursion SeenExpression (leaves a) → AllByRecursion SeenExpression (leaves b) → SeenExpression e → AllByRecursion SeenExpression (cond t (leaves a ++ leaves b) (e ∷ []))
  leaves_where e a b true p q k = all_append SeenExpression (leaves a) (leaves b) p q
  leaves_where e a b false p q k = (k, tt)

  leaves_seen : (e : Expression) → SeenExpression e → AllByRecursion SeenExpression (leaves e)
  leaves_seen (tree.Binary at op a b) k =
      let two = operands_seen at op a b k in
      leaves_where (tree.Binary at op a b) a b (is_and op || is_or op) (leaves_seen a two.0) (leaves_seen b two.1) k
  leaves_seen (tree.Not at e) k = leaves_seen e (negated_seen at e k)
  leaves_seen (tree.Lit at x) k = (k, tt)
  leaves_seen (tree.Var at x) k = (k, tt)
  leaves_seen (tree.Field at e n) k = (k, tt)
  leaves_seen (tree.Equals at a b) k = (k, tt)
  leaves_seen (tree.Size at x) k = (k, tt)
  leaves_seen (tree.Get at x e) k = (k, tt)
  leaves_seen (tree.Contains at x e) k = (k, tt)
  leaves_seen (tree.Fetch at n) k = (k, tt)
  leaves_seen (tree.Query at ty text es) k = (k, tt)
  leaves_seen (tree.QueryLong at text es) k = (k, tt)
  leaves_seen (tree.QueryBoolean at text es) k = (k, tt)
  leaves_seen (tree.NewList at) k = (k, tt)
  leaves_seen (tree.NewSet at) k = (k, tt)
  leaves_seen (tree.NewSetOf at e) k = (k, tt)

  some_same : (o : Option JavaType) (j k : JavaType) → o ≡ Some j → o ≡ Some k → j ≡ k
  some_same o j k e h = cc

  inner_agrees : (g : Types) → Extends g types → (x : List ℕ) (j k : JavaType) → g x ≡ Some j → types x ≡ Some k → j ≡ k
  inner_agrees g i x j k e h = some_same (g x) j k e (i x k h)

  -- the condition of a statement that breaks no rule of types
  condition_seen : (a : Statement) (c : Expression) → SeenStatement schema read r types a → condition_of a ≡ Some c → SeenExpression c
  condition_seen (tree.If at d p) c k e =
      let same : d ≡ c = (let l : Some d ≡ Some c = e in cc) in
      let n = none_at schema read r (step k.visible k.around k.last (tree.If at d p)) (in_expression k.visible d ++ in_statements schema k.visible (in_branch k.around) p) k.clean in
      let two = none_in schema read r (in_expression k.visible d) (in_statements schema k.visible (in_branch k.around) p) n.right in
      subst SeenExpression same (record { visible = k.visible; there = k.types; sees = k.sees; agrees = inner_agrees k.types k.extends; clean = two.left })
  condition_seen (tree.IfElse at d p q) c k e =
      let same : d ≡ c = (let l : Some d ≡ Some c = e in cc) in
      let n = none_at schema read r (step k.visible k.around k.last (tree.IfElse at d p q)) (in_expression k.visible d ++ (in_statements schema k.visible (in_branch k.around) p ++ in_statements schema k.visible (in_branch k.around) q)) k.clean in
      let two = none_in schema read r (in_expression k.visible d) (in_statements schema k.visible (in_branch k.around) p ++ in_statements schema k.visible (in_branch k.around) q) n.right in
      subst SeenExpression same (record { visible = k.visible; there = k.types; sees = k.sees; agrees = inner_agrees k.types k.extends; clean = two.left })
  condition_seen (tree.Declare at ty x e) c k e' = absurd cc
  condition_seen (tree.Assign at x e) c k e' = absurd cc
  condition_seen (tree.Add at x e) c k e' = absurd cc
  condition_seen (tree.Sort at x keys downs) c k e' = absurd cc
  condition_seen (tree.ForEach at ty x e p) c k e' = absurd cc
  condition_seen (tree.While at d p) c k e' = absurd cc
  condition_seen (tree.Print at e) c k e' = absurd cc
  condition_seen (tree.Return at e) c k e' = absurd cc
  condition_seen (tree.Break at) c k e' = absurd cc

  -- ---- The leaves of all conditions

  -- a leaf has a kernel form and breaks no rule of types
  pub record IsGoodLeaf (w : Setting) (l : Leaf) : Type 0 where
    pub form : broken_leaf w l.number l.expression ≡ None
    pub seen : SeenExpression l.expression

  kept_where : (w : Setting) (n : ℕ) (e : Expression) (rest : List Leaf) (t : Bool) → cond t None (broken_leaf w n e) ≡ None → SeenExpression e → AllByRecursion (IsGoodLeaf w) rest → AllByRecursion (IsGoodLeaf w) (cond t rest (record { number = n; expression = e } ∷ rest))
  kept_where w n e rest true h k all = all
  kept_where w n e rest false h k all = (record { form = h; seen = k }, all)

  kept_good : (w : Setting) (n : ℕ) (es : List Expression) → broken_leaves w n es ≡ None → AllByRecursion SeenExpression es → AllByRecursion (IsGoodLeaf w) (leaves_kept w.sites n es)
  kept_good w n [] h all = tt
  kept_good w n (e ∷ es) h all =
      let two = first_none (broken_unless_excepted w n e) (broken_leaves w n es) h in
      kept_where w n e (leaves_kept w.sites n es) (is_excepted w.sites n e) two.0 all.0 (kept_good w n es two.1 all.1)

  condition_good : (w : Setting) (n : ℕ) (a : Statement) (o : Option Expression) → condition_of a ≡ o → broken_condition w n o ≡ None → SeenStatement schema read r types a → AllByRecursion (IsGoodLeaf w) (leaves_of w.sites n o)
  condition_good w n a None e h k = tt
  condition_good w n a (Some c) e h k = kept_good w n (leaves c) h (leaves_seen c (condition_seen a c k e))

  leaves_good : (w : Setting) (n : ℕ) (sites : List Site) → first_broken (broken_condition_at w) n sites ≡ None → AllByRecursion (SeenSite schema read r types) sites → AllByRecursion (IsGoodLeaf w) (leaves_from w.sites n sites)
  leaves_good w n [] h all = tt
  leaves_good w n (s ∷ sites) h all =
      let two = first_none (broken_condition_at w n s) (first_broken (broken_condition_at w) (suc n) sites) h in
      all_append (IsGoodLeaf w) (leaves_of w.sites n (condition_of s.statement)) (leaves_from w.sites (suc n) sites) (condition_good w n s.statement (condition_of s.statement) refl two.0 all.0) (leaves_good w (suc n) sites two.1 all.1)

  -- Each leaf of a fragment that breaks no rule of conditions is of a kernel form.
  pub all_leaves_good : (w : Setting) → broken_conditions w ≡ None → AllByRecursion (SeenSite schema read r types) w.sites → AllByRecursion (IsGoodLeaf w) (all_leaves w.sites)
  all_leaves_good w h all = leaves_good w 0 w.sites h all
