-- The lists inside a tree are the lists of its vectors.
use Rattle.std.specs.Prelude.{Vec}
use Rattle.std.proofs.Common.{◌≡◌, refl, ap, ◌∙◌}
use Rattle.std.specs.declared.alloc.Global.{Global}
use Rattle.java_ast.specs.declared.tree.Expr.{Expr}
use Rattle.java_ast.specs.declared.tree.ExprNode.{Row_of-Expr, end_of-Expr, more_of-Expr, items-the_row-Expr, items_hidden-the_row-Expr-0}
use Rattle.java_ast.specs.declared.tree.ExprNode.TheBlock.{hidden-the_row-Expr-0}
use Rattle.java_ast.specs.declared.tree.Stmt.{Stmt}
use Rattle.java_ast.specs.declared.tree.StmtNode.{Row_of-Stmt, end_of-Stmt, more_of-Stmt, items-the_row-Stmt, items_hidden-the_row-Stmt-0}
use Rattle.java_ast.specs.declared.tree.StmtNode.TheBlock.{hidden-the_row-Stmt-0}
use Rattle.java_ast.specs.Reading.{row_expressions, expressions, node_expression, row_statements, statements, node_statement}
use Rattle.java_ast.specs.Tree.{And, Then}

expressions_row : {n : _} (row : Row_of-Expr n) → row_expressions row ≡ expressions (items-the_row-Expr n row)
expressions_row end_of-Expr = refl
expressions_row (more_of-Expr at node rest) = ap (And (node_expression node at)) (expressions_row rest)

pub expressions_hidden : (v : Vec Expr Global) → row_expressions (hidden-the_row-Expr-0 v) ≡ expressions v.items
expressions_hidden v = expressions_row (hidden-the_row-Expr-0 v) ∙ ap expressions (items_hidden-the_row-Expr-0 v)

statements_row : {n : _} (row : Row_of-Stmt n) → row_statements row ≡ statements (items-the_row-Stmt n row)
statements_row end_of-Stmt = refl
statements_row (more_of-Stmt at node rest) = ap (Then (node_statement node at)) (statements_row rest)

pub statements_hidden : (v : Vec Stmt Global) → row_statements (hidden-the_row-Stmt-0 v) ≡ statements v.items
statements_hidden v = statements_row (hidden-the_row-Stmt-0 v) ∙ ap statements (items_hidden-the_row-Stmt-0 v)

pub ruleset rows = (expressions_hidden, statements_hidden)
