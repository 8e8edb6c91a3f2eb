-- Faults of statements go by what is said of the names that these mention or declare.
use Rattle.std.proofs.Common.{◌≡◌, ℕ, Bool, true, false, List, [], ◌∷◌, ◌++◌, Option, Some, None, refl, sym, ap, ◌∙◌, cond}
use Rattle.std.specs.Prelude.{◌&&◌, ◌||◌, bytes_eq}
use Rattle.std.specs.Option.{option_map}
use Rattle.qbs_base.specs.declared.span.Span.{Span}
use Rattle.qbs_base.specs.declared.scalar.Ty.{Ty}
use Rattle.qbs_base.specs.Values.{Schema}
use Rattle.sql_ast.specs.Tree.{PlainQuery}
use Rattle.java_ast.specs.declared.tree.Op.{Op}
use Rattle.java_ast.specs.declared.tree.Op.TheVariants as ops
use Rattle.java_ast.specs.Tree as tree
use Rattle.java_ast.specs.Tree.{Spelled, Expression, Expressions, Statement, Statements}
use Rattle.java_mean.specs.Fits.{IsSeenAlike, in_first}
use Rattle.java_mean.specs.Mentions.{EachIn, EachAmong, EachReturned, EachMentionedIn, EachMentioned, EachDeclaredIn, EachDeclared}
use Rattle.java_mean.specs.Places.{Around, Place, value, step, in_operands, in_expressions, in_expression, in_parts, in_statement, in_statements, in_for_each, in_while, in_branch, is_nothing}
use Rattle.java_mean.specs.Rules.{Kindred, Only, type_of, column_in, listed_in, set_of, operands, arguments, copied_row, given, returned, text_identity, params_of}
use Rattle.java_mean.specs.Types.{Single, ScalarOf, JavaType, Of, type_spelled}
use Rattle.java_mean.specs.Visible.{Visible, is_visible, type_at, declared_in, after}
use Rattle.java_mean.specs.WellTyped.{faults_at, faults_in}
use Rattle.java_mean.specs.declared.rule.TypeFault.{TypeFault}
use Rattle.java_mean.proofs.Faultless.{faults_in-append, new_type, new_visible}

-- ---- What is declared on both sides

-- both lists say the same of each of these names
pub record SameOn (P : List ℕ → Type 0) (vs us : Visible) : Type 0 where
  pub alike : (x : List ℕ) → P x → IsSeenAlike vs us x

stays : (vs : Visible) (x : List ℕ) (o : Option JavaType) → is_visible vs x ≡ true → declared_in vs x o ≡ vs
stays vs x o e = rw e refl

visible_by : (vs us : Visible) (x y : List ℕ) (o : Option JavaType) (b : Bool) → is_visible vs x ≡ b → is_visible us x ≡ b → is_visible vs y ≡ is_visible us y → is_visible (declared_in vs x o) y ≡ is_visible (declared_in us x o) y
visible_by vs us x y o true p q e = ap (λ (ws : Visible). is_visible ws y) (stays vs x o p) ∙ e ∙ sym (ap (λ (ws : Visible). is_visible ws y) (stays us x o q))
visible_by vs us x y o false p q e = new_visible vs x y o p ∙ ap (λ (v : Bool). v || bytes_eq x y) e ∙ sym (new_visible us x y o q)

type_by : (vs us : Visible) (x y : List ℕ) (o : Option JavaType) (b : Bool) → is_visible vs x ≡ b → is_visible us x ≡ b → is_visible vs y ≡ is_visible us y → type_at vs y ≡ type_at us y → type_at (declared_in vs x o) y ≡ type_at (declared_in us x o) y
type_by vs us x y o true p q e f = ap (λ (ws : Visible). type_at ws y) (stays vs x o p) ∙ f ∙ sym (ap (λ (ws : Visible). type_at ws y) (stays us x o q))
type_by vs us x y o false p q e f = new_type vs x y o p ∙ ap (λ (v : Bool). cond v (type_at vs y) (cond (bytes_eq x y) o None)) e ∙ ap (λ (t : Option JavaType). cond (is_visible us y) t (cond (bytes_eq x y) o None)) f ∙ sym (new_type us x y o q)

same_declared : (P : List ℕ → Type 0) (vs us : Visible) (x : List ℕ) (o : Option JavaType) → SameOn P vs us → P x → SameOn P (declared_in vs x o) (declared_in us x o)
same_declared P vs us x o s n =
    let at_name = s.alike x n in
    record {
      alike = λ y m. (let other = s.alike y m in
          record {
            visible = visible_by vs us x y o (is_visible us x) at_name.visible refl other.visible;
            type = type_by vs us x y o (is_visible us x) at_name.visible refl other.visible other.type;
          });
    }

-- ---- Lists of places

joined_same : (schema : Schema) (read : List ℕ → Option PlainQuery) (r : Option Spelled) (ps ps' qs qs' : List Place) → faults_in schema read r ps ≡ faults_in schema read r ps' → faults_in schema read r qs ≡ faults_in schema read r qs' → faults_in schema read r (ps ++ qs) ≡ faults_in schema read r (ps' ++ qs')
joined_same schema read r ps ps' qs qs' h k = rw (faults_in-append schema read r ps qs, faults_in-append schema read r ps' qs', h, k) refl

place_same : (schema : Schema) (read : List ℕ → Option PlainQuery) (r : Option Spelled) (p p' : Place) (ps ps' : List Place) → faults_at schema read r p ≡ faults_at schema read r p' → faults_in schema read r ps ≡ faults_in schema read r ps' → faults_in schema read r (p ∷ ps) ≡ faults_in schema read r (p' ∷ ps')
place_same schema read r p p' ps ps' h k = ap (λ (l : List TypeFault). l ++ faults_in schema read r ps) h ∙ ap (λ (l : List TypeFault). faults_at schema read r p' ++ l) k

-- ---- Expressions

module _ (schema : Schema) (P : List ℕ → Type 0) (vs us : Visible) (s : SameOn P vs us) where
  kind_same : (e : Expression) → EachIn P e → type_of schema vs e ≡ type_of schema us e
  kind_same (tree.Lit at x) m = refl
  kind_same (tree.Var at x) m = ap (option_map Only) (s.alike x m).type
  kind_same (tree.Field at e f) m = ap (λ (k : Option Kindred). option_map (λ (ty : Ty). Only (Of (ScalarOf ty))) (column_in schema k f)) (kind_same e m)
  kind_same (tree.Binary at op a b) m = refl
  kind_same (tree.Not at e) m = refl
  kind_same (tree.Equals at a b) m = refl
  kind_same (tree.Size at x) m = refl
  kind_same (tree.Get at x e) m = ap (λ (k : Option JavaType). option_map (λ (a : Single). Only (Of a)) (listed_in k)) (s.alike x m.0).type
  kind_same (tree.Contains at x e) m = refl
  kind_same (tree.Fetch at t) m = refl
  kind_same (tree.Query at ty text es) m = refl
  kind_same (tree.QueryLong at text es) m = refl
  kind_same (tree.QueryBoolean at text es) m = refl
  kind_same (tree.NewList at) m = refl
  kind_same (tree.NewSet at) m = refl
  kind_same (tree.NewSetOf at e) m = ap set_of (kind_same e m)

  operands_same : (at : Span) (op : Op) (a b : Expression) → type_of schema vs a ≡ type_of schema us a → type_of schema vs b ≡ type_of schema us b → operands schema vs at op a b ≡ operands schema us at op a b
  operands_same at op a b p q = elim op as (λ op. operands schema vs at op a b ≡ operands schema us at op a b) [
    | ops.Or ↦ rw (p, q) refl
    | ops.And ↦ rw (p, q) refl
    | ops.Eq ↦ rw (p, q) refl
    | ops.Ne ↦ rw (p, q) refl
    | ops.Lt ↦ rw (p, q) refl
    | ops.Le ↦ rw (p, q) refl
    | ops.Gt ↦ rw (p, q) refl
    | ops.Ge ↦ rw (p, q) refl
    | ops.Add ↦ rw (p, q) refl
    | ops.Sub ↦ rw (p, q) refl
    | ops.Mul ↦ rw (p, q) refl
  ]

  arguments_same : (types : List Ty) (es : Expressions) → EachAmong P es → arguments schema vs types es ≡ arguments schema us types es
  arguments_same [] es m = refl
  arguments_same (ty ∷ types) tree.NoMore m = refl
  arguments_same (ty ∷ types) (tree.And e es) m = rw (kind_same e m.0, arguments_same types es m.1) refl

  copied_same : (e : Expression) → EachIn P e → copied_row vs e ≡ copied_row us e
  copied_same (tree.Var at x) m = rw (s.alike x m).type refl
  copied_same _ m = refl

  identity_same : (at : Span) (op : Op) (a b : Expression) → type_of schema vs a ≡ type_of schema us a → type_of schema vs b ≡ type_of schema us b → text_identity schema (value vs (tree.Binary at op a b)) ≡ text_identity schema (value us (tree.Binary at op a b))
  identity_same at op a b p q = elim op as (λ op. text_identity schema (value vs (tree.Binary at op a b)) ≡ text_identity schema (value us (tree.Binary at op a b))) [
    | ops.Or ↦ refl
    | ops.And ↦ refl
    | ops.Eq ↦ rw (p, q) refl
    | ops.Ne ↦ rw (p, q) refl
    | ops.Lt ↦ refl
    | ops.Le ↦ refl
    | ops.Gt ↦ refl
    | ops.Ge ↦ refl
    | ops.Add ↦ refl
    | ops.Sub ↦ refl
    | ops.Mul ↦ refl
  ]

  given_same : (k : Option JavaType) (e : Expression) → EachIn P e → given schema vs k e ≡ given schema us k e
  given_same k e m = rw (kind_same e m, copied_same e m) refl

  module _ (read : List ℕ → Option PlainQuery) (r : Option Spelled) where
    value_same : (e : Expression) → EachIn P e → faults_at schema read r (value vs e) ≡ faults_at schema read r (value us e)
    value_same (tree.Lit at x) m = refl
    value_same (tree.Var at x) m = rw ((s.alike x m).visible) refl
    value_same (tree.Field at e f) m = rw (kind_same e m) refl
    value_same (tree.Binary at op a b) m = rw (operands_same at op a b (kind_same a m.0) (kind_same b m.1), identity_same at op a b (kind_same a m.0) (kind_same b m.1)) refl
    value_same (tree.Not at e) m = rw (kind_same e m) refl
    value_same (tree.Equals at a b) m = rw (kind_same a m.0, kind_same b m.1) refl
    value_same (tree.Size at x) m = rw ((s.alike x m).visible, (s.alike x m).type) refl
    value_same (tree.Get at x e) m = rw ((s.alike x m.0).visible, (s.alike x m.0).type, kind_same e m.1) refl
    value_same (tree.Contains at x e) m = rw ((s.alike x m.0).visible, (s.alike x m.0).type, kind_same e m.1) refl
    value_same (tree.Fetch at t) m = refl
    value_same (tree.Query at ty text es) m = rw (arguments_same (params_of (read text)) es m) refl
    value_same (tree.QueryLong at text es) m = rw (arguments_same (params_of (read text)) es m) refl
    value_same (tree.QueryBoolean at text es) m = rw (arguments_same (params_of (read text)) es m) refl
    value_same (tree.NewList at) m = refl
    value_same (tree.NewSet at) m = refl
    value_same (tree.NewSetOf at e) m = rw (kind_same e m) refl

    -- an expression and its parts, of which the parts have the same faults
    whole_same : (e : Expression) → EachIn P e → faults_in schema read r (in_operands vs e) ≡ faults_in schema read r (in_operands us e) → faults_in schema read r (in_expression vs e) ≡ faults_in schema read r (in_expression us e)
    whole_same e m h = rw (value_same e m, h) refl

    mutual
      parts_of_same : (e : Expression) → EachIn P e → faults_in schema read r (in_operands vs e) ≡ faults_in schema read r (in_operands us e)
      parts_of_same (tree.Lit at x) m = refl
      parts_of_same (tree.Var at x) m = refl
      parts_of_same (tree.Field at e f) m = whole_same e m (parts_of_same e m)
      parts_of_same (tree.Binary at op a b) m = joined_same schema read r (in_expression vs a) (in_expression us a) (in_expression vs b) (in_expression us b) (whole_same a m.0 (parts_of_same a m.0)) (whole_same b m.1 (parts_of_same b m.1))
      parts_of_same (tree.Not at e) m = whole_same e m (parts_of_same e m)
      parts_of_same (tree.Equals at a b) m = joined_same schema read r (in_expression vs a) (in_expression us a) (in_expression vs b) (in_expression us b) (whole_same a m.0 (parts_of_same a m.0)) (whole_same b m.1 (parts_of_same b m.1))
      parts_of_same (tree.Size at x) m = refl
      parts_of_same (tree.Get at x e) m = whole_same e m.1 (parts_of_same e m.1)
      parts_of_same (tree.Contains at x e) m = whole_same e m.1 (parts_of_same e m.1)
      parts_of_same (tree.Fetch at t) m = refl
      parts_of_same (tree.Query at ty text es) m = list_same es m
      parts_of_same (tree.QueryLong at text es) m = list_same es m
      parts_of_same (tree.QueryBoolean at text es) m = list_same es m
      parts_of_same (tree.NewList at) m = refl
      parts_of_same (tree.NewSet at) m = refl
      parts_of_same (tree.NewSetOf at e) m = whole_same e m (parts_of_same e m)

      list_same : (es : Expressions) → EachAmong P es → faults_in schema read r (in_expressions vs es) ≡ faults_in schema read r (in_expressions us es)
      list_same tree.NoMore m = refl
      list_same (tree.And e es) m = joined_same schema read r (in_expression vs e) (in_expression us e) (in_expressions vs es) (in_expressions us es) (whole_same e m.0 (parts_of_same e m.0)) (list_same es m.1)

    expression_same : (e : Expression) → EachIn P e → faults_in schema read r (in_expression vs e) ≡ faults_in schema read r (in_expression us e)
    expression_same e m = whole_same e m (parts_of_same e m)

    -- ---- Statements

    returned_same : (at : Span) (o : Option Spelled) (e : Option Expression) → EachReturned P e → returned schema vs o at e ≡ returned schema us o at e
    returned_same at None None m = refl
    returned_same at None (Some e) m = refl
    returned_same at (Some ty) None m = refl
    returned_same at (Some ty) (Some e) m = rw (kind_same e m) refl

    step_same : (w : Around) (last : Bool) (a : Statement) → EachMentionedIn P a → EachDeclaredIn P a → faults_at schema read r (step vs w last a) ≡ faults_at schema read r (step us w last a)
    step_same w last (tree.Declare at ty x e) m d = rw ((s.alike x d).visible, kind_same e m, copied_same e m) refl
    step_same w last (tree.Assign at x e) m d = rw ((s.alike x m.0).visible, (s.alike x m.0).type, kind_same e m.1, copied_same e m.1) refl
    step_same w last (tree.Add at x e) m d = rw ((s.alike x m.0).visible, (s.alike x m.0).type, kind_same e m.1) refl
    step_same w last (tree.Sort at x keys down) m d = rw ((s.alike x m).visible, (s.alike x m).type) refl
    step_same w last (tree.If at c a) m d = rw (kind_same c m.0) refl
    step_same w last (tree.IfElse at c a b) m d = rw (kind_same c m.0) refl
    step_same w last (tree.ForEach at ty x e body) m d = rw ((s.alike x d.0).visible, kind_same e m.0) refl
    step_same w last (tree.While at c body) m d = rw (kind_same c m.0) refl
    step_same w last (tree.Print at e) m d = rw (kind_same e m) refl
    step_same w last (tree.Return at e) m d = rw (returned_same at r e m) refl
    step_same w last (tree.Break at) m d = refl

  after_same : (a : Statement) → EachDeclaredIn P a → SameOn P (after schema vs a) (after schema us a)
  after_same (tree.Declare at ty x e) d = same_declared P vs us x (type_spelled schema ty) s d
  after_same _ d = s

module _ (schema : Schema) (read : List ℕ → Option PlainQuery) (r : Option Spelled) (P : List ℕ → Type 0) where
  -- a statement whose parts have the same faults
  statement_same : (a : Statement) (vs us : Visible) (w : Around) (last : Bool) → SameOn P vs us → EachMentionedIn P a → EachDeclaredIn P a → faults_in schema read r (in_parts schema vs w a) ≡ faults_in schema read r (in_parts schema us w a) → faults_in schema read r (in_statement schema vs w last a) ≡ faults_in schema read r (in_statement schema us w last a)
  statement_same a vs us w last s m d h = place_same schema read r (step vs w last a) (step us w last a) (in_parts schema vs w a) (in_parts schema us w a) (step_same schema P vs us s read r w last a m d) h

  mutual
    parts_same : (a : Statement) (vs us : Visible) (w : Around) → SameOn P vs us → EachMentionedIn P a → EachDeclaredIn P a → faults_in schema read r (in_parts schema vs w a) ≡ faults_in schema read r (in_parts schema us w a)
    parts_same (tree.Declare at ty x e) vs us w s m d = expression_same schema P vs us s read r e m
    parts_same (tree.Assign at x e) vs us w s m d = expression_same schema P vs us s read r e m.1
    parts_same (tree.Add at x e) vs us w s m d = expression_same schema P vs us s read r e m.1
    parts_same (tree.Sort at x keys down) vs us w s m d = refl
    parts_same (tree.If at c a) vs us w s m d = joined_same schema read r (in_expression vs c) (in_expression us c) (in_statements schema vs (in_branch w) a) (in_statements schema us (in_branch w) a) (expression_same schema P vs us s read r c m.0) (statements_same a vs us (in_branch w) s m.1 d)
    parts_same (tree.IfElse at c a b) vs us w s m d =
        let both = joined_same schema read r (in_statements schema vs (in_branch w) a) (in_statements schema us (in_branch w) a) (in_statements schema vs (in_branch w) b) (in_statements schema us (in_branch w) b) (statements_same a vs us (in_branch w) s m.1.0 d.0) (statements_same b vs us (in_branch w) s m.1.1 d.1) in
        joined_same schema read r (in_expression vs c) (in_expression us c) (in_statements schema vs (in_branch w) a ++ in_statements schema vs (in_branch w) b) (in_statements schema us (in_branch w) a ++ in_statements schema us (in_branch w) b) (expression_same schema P vs us s read r c m.0) both
    parts_same (tree.ForEach at ty x e body) vs us w s m d =
        let of_x = type_spelled schema ty in
        let inner = statements_same body (declared_in vs x of_x) (declared_in us x of_x) (in_for_each e w) (same_declared P vs us x of_x s d.0) m.1 d.1 in
        joined_same schema read r (in_expression vs e) (in_expression us e) (in_statements schema (declared_in vs x of_x) (in_for_each e w) body) (in_statements schema (declared_in us x of_x) (in_for_each e w) body) (expression_same schema P vs us s read r e m.0) inner
    parts_same (tree.While at c body) vs us w s m d = joined_same schema read r (in_expression vs c) (in_expression us c) (in_statements schema vs (in_while w) body) (in_statements schema us (in_while w) body) (expression_same schema P vs us s read r c m.0) (statements_same body vs us (in_while w) s m.1 d)
    parts_same (tree.Print at e) vs us w s m d = expression_same schema P vs us s read r e m
    parts_same (tree.Return at None) vs us w s m d = refl
    parts_same (tree.Return at (Some e)) vs us w s m d = expression_same schema P vs us s read r e m
    parts_same (tree.Break at) vs us w s m d = refl

    pub statements_same : (p : Statements) (vs us : Visible) (w : Around) → SameOn P vs us → EachMentioned P p → EachDeclared P p → faults_in schema read r (in_statements schema vs w p) ≡ faults_in schema read r (in_statements schema us w p)
    statements_same tree.Nothing vs us w s m d = refl
    statements_same (tree.Then a p) vs us w s m d = joined_same schema read r (in_statement schema vs w (is_nothing p) a) (in_statement schema us w (is_nothing p) a) (in_statements schema (after schema vs a) w p) (in_statements schema (after schema us a) w p) (statement_same a vs us w (is_nothing p) s m.0 d.0 (parts_same a vs us w s m.0 d.0)) (statements_same p (after schema vs a) (after schema us a) w (after_same schema P vs us s a d.0) m.1 d.1)

  pub first_same : (p : Statements) (vs us : Visible) (w : Around) (ends : Bool) → SameOn P vs us → EachMentioned P p → EachDeclared P p → faults_in schema read r (in_first schema vs w ends p) ≡ faults_in schema read r (in_first schema us w ends p)
  first_same tree.Nothing vs us w ends s m d = refl
  first_same (tree.Then a p) vs us w ends s m d = joined_same schema read r (in_statement schema vs w (is_nothing p && ends) a) (in_statement schema us w (is_nothing p && ends) a) (in_first schema (after schema vs a) w ends p) (in_first schema (after schema us a) w ends p) (statement_same a vs us w (is_nothing p && ends) s m.0 d.0 (parts_same a vs us w s m.0 d.0)) (first_same p (after schema vs a) (after schema us a) w ends (after_same schema P vs us s a d.0) m.1 d.1)

pub faults_by_names : (schema : Schema) (read : List ℕ → Option PlainQuery) (r : Option Spelled) (vs us : Visible) (w : Around) (part : Statements) → EachMentioned (IsSeenAlike vs us) part → EachDeclared (IsSeenAlike vs us) part → faults_in schema read r (in_statements schema vs w part) ≡ faults_in schema read r (in_statements schema us w part)
faults_by_names schema read r vs us w part m d = statements_same schema read r (IsSeenAlike vs us) part vs us w (record { alike = λ x a. a }) m d

pub first_by_names : (schema : Schema) (read : List ℕ → Option PlainQuery) (r : Option Spelled) (vs us : Visible) (w : Around) (ends : Bool) (part : Statements) → EachMentioned (IsSeenAlike vs us) part → EachDeclared (IsSeenAlike vs us) part → faults_in schema read r (in_first schema vs w ends part) ≡ faults_in schema read r (in_first schema us w ends part)
first_by_names schema read r vs us w ends part m d = first_same schema read r (IsSeenAlike vs us) part vs us w ends (record { alike = λ x a. a }) m d
