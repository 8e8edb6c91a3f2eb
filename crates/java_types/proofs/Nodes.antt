-- The place of an expression is that of its node.
use Rattle.std.proofs.Common.{◌≡◌, refl}
use Rattle.qbs_base.specs.declared.span.Span.{Span}
use Rattle.java_ast.specs.declared.tree.Expr.{Expr, out-Expr}
use Rattle.java_ast.specs.declared.tree.ExprNode.{ExprNode}
use Rattle.java_ast.specs.declared.tree.ExprNode as exprs
use Rattle.java_ast.specs.Reading.{expression, node_expression}
use Rattle.java_mean.specs.Rules.{at_of}

placed : (n : ExprNode) (at : Span) → at_of (node_expression n at) ≡ at
placed (exprs.Lit value) at = refl
placed (exprs.Var name) at = refl
placed (exprs.Field' _ s e name) at = refl
placed (exprs.Binary' op _ s a _ t b) at = refl
placed (exprs.Not' _ s e) at = refl
placed (exprs.Equals' _ s a _ t b) at = refl
placed (exprs.Size name) at = refl
placed (exprs.Get' name _ s e) at = refl
placed (exprs.Contains' name _ s e) at = refl
placed (exprs.Fetch name) at = refl
placed (exprs.Query' ty text _ row) at = refl
placed (exprs.QueryLong' text _ row) at = refl
placed (exprs.QueryBoolean' text _ row) at = refl
placed exprs.NewList at = refl
placed (exprs.NewSet' exprs.None') at = refl
placed (exprs.NewSet' (exprs.Some' _ s e)) at = refl

pub place_is : (e : Expr) → at_of (expression e) ≡ (out-Expr e).span
place_is e = placed (out-Expr e).node (out-Expr e).span
