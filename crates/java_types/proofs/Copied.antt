-- Whether an expression copies a row, by its node.
use Rattle.std.proofs.Common.{◌≡◌, ℕ, List, [], refl, sym, ap, ◌∙◌}
use Rattle.qbs_base.specs.declared.span.Span.{Span}
use Rattle.java_ast.specs.declared.tree.Expr.{Expr, out-Expr}
use Rattle.java_ast.specs.declared.tree.ExprNode.{ExprNode}
use Rattle.java_ast.specs.declared.tree.ExprNode as exprs
use Rattle.java_ast.specs.Reading.{expression, node_expression}
use Rattle.java_mean.specs.Rules.{at_of, only_if, is_row, copied_row}
use Rattle.java_mean.specs.Visible.{Visible, type_at}
use Rattle.java_types.proofs.Nodes.{place_is}

not_copied : (vs : Visible) (n : ExprNode) (at : Span) → ((x : List ℕ) → n ≡ exprs.Var x → ⊥) → copied_row vs (node_expression n at) ≡ []
not_copied vs (exprs.Lit value) at h = refl
not_copied vs (exprs.Var name) at h = absurd (h name refl)
not_copied vs (exprs.Field' _ s e name) at h = refl
not_copied vs (exprs.Binary' op _ s a _ t b) at h = refl
not_copied vs (exprs.Not' _ s e) at h = refl
not_copied vs (exprs.Equals' _ s a _ t b) at h = refl
not_copied vs (exprs.Size name) at h = refl
not_copied vs (exprs.Get' name _ s e) at h = refl
not_copied vs (exprs.Contains' name _ s e) at h = refl
not_copied vs (exprs.Fetch name) at h = refl
not_copied vs (exprs.Query' ty text _ row) at h = refl
not_copied vs (exprs.QueryLong' text _ row) at h = refl
not_copied vs (exprs.QueryBoolean' text _ row) at h = refl
not_copied vs exprs.NewList at h = refl
not_copied vs (exprs.NewSet' exprs.None') at h = refl
not_copied vs (exprs.NewSet' (exprs.Some' _ s e)) at h = refl

-- what is no variable is no copy of a row
pub no_copy : (vs : Visible) (e : Expr) → ((x : List ℕ) → (out-Expr e).node ≡ exprs.Var x → ⊥) → copied_row vs (expression e) ≡ []
no_copy vs e h = not_copied vs (out-Expr e).node (out-Expr e).span h

pub copy_is : (vs : Visible) (e : Expr) (x : List ℕ) → (out-Expr e).node ≡ exprs.Var x → only_if (is_row (type_at vs x)) (at_of (expression e)) ≡ copied_row vs (expression e)
copy_is vs e x is =
    ap (λ (p : Span). only_if (is_row (type_at vs x)) p) (place_is e)
    ∙ ap (λ (n : ExprNode). copied_row vs (node_expression n (out-Expr e).span)) (sym is)
