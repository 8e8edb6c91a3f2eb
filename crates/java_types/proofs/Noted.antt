-- What is kept after the rules at a statement of each kind, one rule after the other.
use Rattle.std.proofs.Common.{◌≡◌, ℕ, List, [], ◌++◌, Bool, sym, ap, refl, ◌∙◌, Option, Some, None}
use Rattle.std.specs.Prelude.{not, ◌&&◌, Vec}
use Rattle.std.specs.declared.alloc.Global.{Global}
use Rattle.qbs_base.specs.declared.span.Span.{Span}
use Rattle.qbs_base.specs.Values.{Schema}
use Rattle.sql_ast.specs.Tree.{PlainQuery}
use Rattle.java_ast.specs.declared.tree.Expr.{Expr}
use Rattle.java_ast.specs.declared.tree.Stmt.{Stmt, out-Stmt}
use Rattle.java_ast.specs.declared.tree.StmtNode.{If}
use Rattle.java_ast.specs.Reading.{expression, statement}
use Rattle.java_ast.specs.Tree as plain
use Rattle.java_ast.specs.Tree.{Spelled, Expression, Statement}
use Rattle.java_ast.proofs.Nodes.{if_is, if_else_is}
use Rattle.java_mean.specs.declared.rule.TypeFault.{TypeFault}
use Rattle.java_mean.specs.declared.rule.TypeRule.{TypeRule}
use Rattle.java_mean.specs.declared.rule.TypeRule.TheVariants as broken
use Rattle.java_mean.specs.declared.types.JavaType.{JavaType}
use Rattle.java_mean.specs.Types.{type_spelled}
use Rattle.java_mean.specs.Rules.{type_of, at_of, only_if, is_none, of_bool, unless, unless_single, unless_passes, set_of_rows, is_many, is_listed, element_of, listed_in, taken, given, aliased, is_walked, returned, unknown_keys}
use Rattle.java_mean.specs.Places.{Around, step}
use Rattle.java_mean.specs.Visible.{Visible, is_visible, type_at}
use Rattle.java_mean.specs.WellTyped.{marked, faults_at}
use Rattle.java_mean.specs.Least.{least}
use Rattle.java_types.proofs.Kept.{least-append, marked-append}

-- one rule after others
joined : (k0 k1 k2 : Option TypeFault) (A B : List TypeFault) → k1 ≡ least k0 A → k2 ≡ least k1 B → k2 ≡ least k0 (A ++ B)
joined k0 k1 k2 A B a b = b ∙ ap (λ (k : Option TypeFault). least k B) a ∙ sym (least-append k0 A B)

-- the last rule
pub alone : (k0 k1 : Option TypeFault) (A : List TypeFault) → k1 ≡ least k0 A → k1 ≡ least k0 (A ++ [])
alone k0 k1 A a = a ∙ sym (least-append k0 A [])

-- two places of one rule
pub alike : (r : TypeRule) (k0 k1 k2 : Option TypeFault) (xs ys : List Span) → k1 ≡ least k0 (marked r xs) → k2 ≡ least k1 (marked r ys) → k2 ≡ least k0 (marked r (xs ++ ys))
alike r k0 k1 k2 xs ys a b = joined k0 k1 k2 (marked r xs) (marked r ys) a b ∙ ap (λ (l : List TypeFault). least k0 l) (sym (marked-append r xs ys))

-- the second place is none
pub alike_none : (r : TypeRule) (k0 k1 : Option TypeFault) (xs ys : List Span) → ys ≡ [] → k1 ≡ least k0 (marked r xs) → k1 ≡ least k0 (marked r (xs ++ ys))
alike_none r k0 k1 xs ys none a = alike r k0 k1 k1 xs ys a (ap (λ (l : List Span). least k1 (marked r l)) (sym none))

two : (k0 k1 k2 : Option TypeFault) (A B : List TypeFault) → k1 ≡ least k0 A → k2 ≡ least k1 B → k2 ≡ least k0 (A ++ (B ++ []))
two k0 k1 k2 A B a b = joined k0 k1 k2 A (B ++ []) a (alone k1 k2 B b)

three : (k0 k1 k2 k3 : Option TypeFault) (A B C : List TypeFault) → k1 ≡ least k0 A → k2 ≡ least k1 B → k3 ≡ least k2 C → k3 ≡ least k0 (A ++ (B ++ (C ++ [])))
three k0 k1 k2 k3 A B C a b c = joined k0 k1 k3 A (B ++ (C ++ [])) a (two k1 k2 k3 B C b c)

four : (k0 k1 k2 k3 k4 : Option TypeFault) (A B C D : List TypeFault) → k1 ≡ least k0 A → k2 ≡ least k1 B → k3 ≡ least k2 C → k4 ≡ least k3 D → k4 ≡ least k0 (A ++ (B ++ (C ++ (D ++ []))))
four k0 k1 k2 k3 k4 A B C D a b c d = joined k0 k1 k4 A (B ++ (C ++ (D ++ []))) a (three k1 k2 k3 k4 B C D b c d)

module _ (schema : Schema) (read : List ℕ → Option PlainQuery) (r : Option Spelled) (vs : Visible) (w : Around) (last : Bool) (at : Span) where
  pub declare_noted : (ty : Spelled) (x : List ℕ) (e : Expression) (k : Option JavaType) (k0 k1 k2 k3 k4 k5 : Option TypeFault) → k ≡ type_spelled schema ty → k1 ≡ least k0 (marked broken.Unknown (only_if (is_none k) at)) → k2 ≡ least k1 (marked broken.Mismatch (set_of_rows ty at)) → k3 ≡ least k2 (marked broken.Mismatch (given schema vs k e)) → k4 ≡ least k3 (marked broken.DoubleName (only_if (taken vs x) at)) → k5 ≡ least k4 (marked broken.ListAlias (aliased k x e)) → k5 ≡ least k0 (faults_at schema read r (step vs w last (plain.Declare at ty x e)))
  declare_noted ty x e k k0 k1 k2 k3 k4 k5 ek h1 h2 h3 h4 h5 =
      four k0 k1 k3 k4 k5 (marked broken.Unknown (only_if (is_none k) at)) (marked broken.Mismatch (set_of_rows ty at ++ given schema vs k e)) (marked broken.DoubleName (only_if (taken vs x) at)) (marked broken.ListAlias (aliased k x e))
      h1 (alike broken.Mismatch k1 k2 k3 (set_of_rows ty at) (given schema vs k e) h2 h3) h4 h5
      ∙ ap (λ (j : Option JavaType). least k0 (marked broken.Unknown (only_if (is_none j) at) ++ (marked broken.Mismatch (set_of_rows ty at ++ given schema vs j e) ++ (marked broken.DoubleName (only_if (taken vs x) at) ++ (marked broken.ListAlias (aliased j x e) ++ []))))) ek

  pub assign_noted : (x : List ℕ) (e : Expression) (k : Option JavaType) (k0 k1 k2 k3 k4 : Option TypeFault) → k ≡ type_at vs x → k1 ≡ least k0 (marked broken.Unknown (only_if (not (is_visible vs x)) at)) → k2 ≡ least k1 (marked broken.Mismatch (given schema vs k e)) → k3 ≡ least k2 (marked broken.ListAlias (aliased k x e)) → k4 ≡ least k3 (marked broken.ModifiedInLoop (only_if (is_walked w x) at)) → k4 ≡ least k0 (faults_at schema read r (step vs w last (plain.Assign at x e)))
  assign_noted x e k k0 k1 k2 k3 k4 ek h1 h2 h3 h4 =
      four k0 k1 k2 k3 k4 (marked broken.Unknown (only_if (not (is_visible vs x)) at)) (marked broken.Mismatch (given schema vs k e)) (marked broken.ListAlias (aliased k x e)) (marked broken.ModifiedInLoop (only_if (is_walked w x) at)) h1 h2 h3 h4
      ∙ ap (λ (j : Option JavaType). least k0 (marked broken.Unknown (only_if (not (is_visible vs x)) at) ++ (marked broken.Mismatch (given schema vs j e) ++ (marked broken.ListAlias (aliased j x e) ++ (marked broken.ModifiedInLoop (only_if (is_walked w x) at) ++ []))))) ek

  pub add_noted : (x : List ℕ) (e : Expression) (k : Option JavaType) (k0 k1 k2 k3 k4 : Option TypeFault) → k ≡ type_at vs x → k1 ≡ least k0 (marked broken.Unknown (only_if (not (is_visible vs x)) at)) → k2 ≡ least k1 (marked broken.Mismatch (unless_passes is_many k at)) → k3 ≡ least k2 (marked broken.Mismatch (unless_single (type_of schema vs e) (element_of k) (at_of e))) → k4 ≡ least k3 (marked broken.ModifiedInLoop (only_if (is_walked w x) at)) → k4 ≡ least k0 (faults_at schema read r (step vs w last (plain.Add at x e)))
  add_noted x e k k0 k1 k2 k3 k4 ek h1 h2 h3 h4 =
      three k0 k1 k3 k4 (marked broken.Unknown (only_if (not (is_visible vs x)) at)) (marked broken.Mismatch (unless_passes is_many k at ++ unless_single (type_of schema vs e) (element_of k) (at_of e))) (marked broken.ModifiedInLoop (only_if (is_walked w x) at))
      h1 (alike broken.Mismatch k1 k2 k3 (unless_passes is_many k at) (unless_single (type_of schema vs e) (element_of k) (at_of e)) h2 h3) h4
      ∙ ap (λ (j : Option JavaType). least k0 (marked broken.Unknown (only_if (not (is_visible vs x)) at) ++ (marked broken.Mismatch (unless_passes is_many j at ++ unless_single (type_of schema vs e) (element_of j) (at_of e)) ++ (marked broken.ModifiedInLoop (only_if (is_walked w x) at) ++ [])))) ek

  pub sort_noted : (x : List ℕ) (keys : List (List ℕ)) (down : List Bool) (k : Option JavaType) (k0 k1 k2 k3 k4 : Option TypeFault) → k ≡ type_at vs x → k1 ≡ least k0 (marked broken.Unknown (only_if (not (is_visible vs x)) at)) → k2 ≡ least k1 (marked broken.Unknown (unknown_keys schema (listed_in k) keys at)) → k3 ≡ least k2 (marked broken.Mismatch (unless_passes is_listed k at)) → k4 ≡ least k3 (marked broken.ModifiedInLoop (only_if (is_walked w x) at)) → k4 ≡ least k0 (faults_at schema read r (step vs w last (plain.Sort at x keys down)))
  sort_noted x keys down k k0 k1 k2 k3 k4 ek h1 h2 h3 h4 =
      three k0 k2 k3 k4 (marked broken.Unknown (only_if (not (is_visible vs x)) at ++ unknown_keys schema (listed_in k) keys at)) (marked broken.Mismatch (unless_passes is_listed k at)) (marked broken.ModifiedInLoop (only_if (is_walked w x) at))
      (alike broken.Unknown k0 k1 k2 (only_if (not (is_visible vs x)) at) (unknown_keys schema (listed_in k) keys at) h1 h2) h3 h4
      ∙ ap (λ (j : Option JavaType). least k0 (marked broken.Unknown (only_if (not (is_visible vs x)) at ++ unknown_keys schema (listed_in j) keys at) ++ (marked broken.Mismatch (unless_passes is_listed j at) ++ (marked broken.ModifiedInLoop (only_if (is_walked w x) at) ++ [])))) ek

  pub return_noted : (e : Option Expression) (k0 k1 k2 : Option TypeFault) → k1 ≡ least k0 (marked broken.Mismatch (returned schema vs r at e)) → k2 ≡ least k1 (marked broken.ReturnPlace (only_if (not (w.final && last)) at)) → k2 ≡ least k0 (faults_at schema read r (step vs w last (plain.Return at e)))
  return_noted e k0 k1 k2 h1 h2 = two k0 k1 k2 (marked broken.Mismatch (returned schema vs r at e)) (marked broken.ReturnPlace (only_if (not (w.final && last)) at)) h1 h2

module _ (schema : Schema) (read : List ℕ → Option PlainQuery) (r : Option Spelled) (vs : Visible) (w : Around) (last : Bool) where
  -- a condition, of a branch with another one or without
  pub if_noted : (s : Stmt) (cond : Expr) (v : Vec Stmt Global) (o : Option (Vec Stmt Global)) (k0 k1 : Option TypeFault) → (out-Stmt s).node ≡ If cond v o → k1 ≡ least k0 (marked broken.Mismatch (unless (type_of schema vs (expression cond)) of_bool (at_of (expression cond)))) → k1 ≡ least k0 (faults_at schema read r (step vs w last (statement s)))
  if_noted s cond v None k0 k1 is h =
      alone k0 k1 (marked broken.Mismatch (unless (type_of schema vs (expression cond)) of_bool (at_of (expression cond)))) h
      ∙ ap (λ (a : Statement). least k0 (faults_at schema read r (step vs w last a))) (sym (if_is s cond v None is refl))
  if_noted s cond v (Some p) k0 k1 is h =
      alone k0 k1 (marked broken.Mismatch (unless (type_of schema vs (expression cond)) of_bool (at_of (expression cond)))) h
      ∙ ap (λ (a : Statement). least k0 (faults_at schema read r (step vs w last a))) (sym (if_else_is s cond v p (Some p) is refl))
