-- Where statements and expressions stand.
use Rattle.std.proofs.Common.{◌≡◌, refl}
use Rattle.qbs_base.specs.declared.span.Span.{Span}
use Rattle.java_ast.specs.declared.tree.Expr.{Expr, out-Expr}
use Rattle.java_ast.specs.declared.tree.ExprNode.{ExprNode}
use Rattle.java_ast.specs.declared.tree.ExprNode as exprs
use Rattle.java_ast.specs.declared.tree.Stmt.{Stmt, out-Stmt}
use Rattle.java_ast.specs.declared.tree.StmtNode.{StmtNode}
use Rattle.java_ast.specs.declared.tree.StmtNode as stmts
use Rattle.java_ast.specs.Reading.{expression, node_expression, statement, node_statement}
use Rattle.java_ast.specs.Spans.{place_of}
use Rattle.java_mean.specs.Rules.{at_of}

expression_placed : (n : ExprNode) (at : Span) → at_of (node_expression n at) ≡ at
expression_placed (exprs.Lit value) at = refl
expression_placed (exprs.Var name) at = refl
expression_placed (exprs.Field' _ s e name) at = refl
expression_placed (exprs.Binary' op _ s a _ t b) at = refl
expression_placed (exprs.Not' _ s e) at = refl
expression_placed (exprs.Equals' _ s a _ t b) at = refl
expression_placed (exprs.Size name) at = refl
expression_placed (exprs.Get' name _ s e) at = refl
expression_placed (exprs.Contains' name _ s e) at = refl
expression_placed (exprs.Fetch name) at = refl
expression_placed (exprs.Query' ty text _ row) at = refl
expression_placed (exprs.QueryLong' text _ row) at = refl
expression_placed (exprs.QueryBoolean' text _ row) at = refl
expression_placed exprs.NewList at = refl
expression_placed (exprs.NewSet' exprs.None') at = refl
expression_placed (exprs.NewSet' (exprs.Some' _ s e)) at = refl

pub expression_place : (e : Expr) → at_of (expression e) ≡ (out-Expr e).span
expression_place e = expression_placed (out-Expr e).node (out-Expr e).span

statement_placed : (n : StmtNode) (at : Span) → place_of (node_statement n at) ≡ at
statement_placed (stmts.Declare ty name value) at = refl
statement_placed (stmts.Assign name value) at = refl
statement_placed (stmts.Add name value) at = refl
statement_placed (stmts.Sort name keys down) at = refl
statement_placed (stmts.If' cond _ first stmts.None') at = refl
statement_placed (stmts.If' cond _ first (stmts.Some' _ other)) at = refl
statement_placed (stmts.ForEach' ty name list _ body) at = refl
statement_placed (stmts.While' cond _ body) at = refl
statement_placed (stmts.Print value) at = refl
statement_placed (stmts.Return value) at = refl
statement_placed stmts.Break at = refl

pub statement_place : (s : Stmt) → place_of (statement s) ≡ (out-Stmt s).span
statement_place s = statement_placed (out-Stmt s).node (out-Stmt s).span
