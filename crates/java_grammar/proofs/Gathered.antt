-- The arguments of a query, gathered from a list.
use Rattle.std.specs.Prelude.{Vec}
use Rattle.std.proofs.Common.{◌≡◌, ℕ, List, [], ◌∷◌, map, refl, ap, ◌∙◌}
use Rattle.std.specs.declared.alloc.Global.{Global}
use Rattle.java_ast.specs.declared.tree.Expr.{Expr}
use Rattle.java_ast.specs.declared.tree.ExprNode.TheBlock.{hidden-the_row-Expr-0}
use Rattle.java_ast.specs.declared.tree.ExprNode as exprs
use Rattle.java_ast.specs.declared.tree.JTy.{JTy}
use Rattle.java_ast.specs.Reading.{spelled, row_expressions, expressions, expression, node_expression}
use Rattle.java_ast.specs.Tree.{Expression, Expressions, And}
use Rattle.qbs_base.specs.declared.span.Span.{Span}
use Rattle.java_ast.specs.Tree as plain
use Rattle.java_ast.proofs.Rows.{expressions_hidden}
use Rattle.java_grammar.specs.ReadingExpressions.{gathered}

all_gathered : (es : List Expr) → expressions es ≡ gathered (map expression es)
all_gathered [] = refl
all_gathered (e ∷ es) = ap (And (expression e)) (all_gathered es)

pub hidden_gathered : (v : Vec Expr Global) → row_expressions (hidden-the_row-Expr-0 v) ≡ gathered (map expression v.items)
hidden_gathered v = expressions_hidden v ∙ all_gathered v.items

-- a query of a copy of its text
pub query_node : (ty : JTy) (text w : List ℕ) (v : Vec Expr Global) → text ≡ w → node_expression (exprs.Query ty text v) ≡ (λ at. plain.Query at (spelled ty) w (gathered (map expression v.items)))
query_node ty text w v e = ap (λ (u : List ℕ). node_expression (exprs.Query ty u v)) e ∙ ap {B = Span → Expression} (λ (es : Expressions) at. plain.Query at (spelled ty) w es) (hidden_gathered v)

pub query_long_node : (text w : List ℕ) (v : Vec Expr Global) → text ≡ w → node_expression (exprs.QueryLong text v) ≡ (λ at. plain.QueryLong at w (gathered (map expression v.items)))
query_long_node text w v e = ap (λ (u : List ℕ). node_expression (exprs.QueryLong u v)) e ∙ ap {B = Span → Expression} (λ (es : Expressions) at. plain.QueryLong at w es) (hidden_gathered v)

pub query_boolean_node : (text w : List ℕ) (v : Vec Expr Global) → text ≡ w → node_expression (exprs.QueryBoolean text v) ≡ (λ at. plain.QueryBoolean at w (gathered (map expression v.items)))
query_boolean_node text w v e = ap (λ (u : List ℕ). node_expression (exprs.QueryBoolean u v)) e ∙ ap {B = Span → Expression} (λ (es : Expressions) at. plain.QueryBoolean at w es) (hidden_gathered v)
