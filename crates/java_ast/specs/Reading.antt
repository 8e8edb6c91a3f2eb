-- The plain tree of each tree of the code.
use Rattle.std.specs.Prelude.{List, [], ◌∷◌, map}
use Rattle.std.specs.Option.{option_map}
use Rattle.qbs_base.specs.declared.span.Span.{Span}
use Rattle.java_ast.specs.declared.tree.JTy.{JTy}
use Rattle.java_ast.specs.declared.tree.JTy as types
use Rattle.java_ast.specs.declared.tree.Expr.{Expr, out-Expr}
use Rattle.java_ast.specs.declared.tree.ExprNode.{ExprNode, Row_of-Expr, end_of-Expr, more_of-Expr}
use Rattle.java_ast.specs.declared.tree.ExprNode as exprs
use Rattle.java_ast.specs.declared.tree.Stmt.{Stmt, out-Stmt}
use Rattle.java_ast.specs.declared.tree.StmtNode.{StmtNode, Row_of-Stmt, end_of-Stmt, more_of-Stmt}
use Rattle.java_ast.specs.declared.tree.StmtNode as stmts
use Rattle.java_ast.specs.declared.tree.Param.{Param}
use Rattle.java_ast.specs.declared.tree.Method.{Method}
use Rattle.java_ast.specs.declared.tree.Program.{Program}
use Rattle.java_ast.specs.Tree.{Spelled, Expression, Expressions, Statement, Statements, NoMore, And, Nothing, Then, PlainParam, PlainMethod, PlainProgram}
use Rattle.java_ast.specs.Tree as plain

abbrev pub spelled : JTy → Spelled
spelled types.Int = plain.Int
spelled types.Long = plain.Long
spelled types.Boolean = plain.Boolean
spelled types.String = plain.String
spelled types.BoxedInteger = plain.BoxedInteger
spelled types.BoxedLong = plain.BoxedLong
spelled types.BoxedBoolean = plain.BoxedBoolean
spelled (types.Table name) = plain.Table name
spelled (types.List' _ element) = plain.ListOf (spelled element)
spelled (types.Set' _ element) = plain.SetOf (spelled element)

abbrev mutual
  pub node_expression : ExprNode → Span → Expression
  node_expression (exprs.Lit value) at = plain.Lit at value
  node_expression (exprs.Var name) at = plain.Var at name
  node_expression (exprs.Field' _ s e name) at = plain.Field at (node_expression e s) name
  node_expression (exprs.Binary' op _ s a _ t b) at = plain.Binary at op (node_expression a s) (node_expression b t)
  node_expression (exprs.Not' _ s e) at = plain.Not at (node_expression e s)
  node_expression (exprs.Equals' _ s a _ t b) at = plain.Equals at (node_expression a s) (node_expression b t)
  node_expression (exprs.Size name) at = plain.Size at name
  node_expression (exprs.Get' name _ s e) at = plain.Get at name (node_expression e s)
  node_expression (exprs.Contains' name _ s e) at = plain.Contains at name (node_expression e s)
  node_expression (exprs.Fetch name) at = plain.Fetch at name
  node_expression (exprs.Query' ty text _ row) at = plain.Query at (spelled ty) text (row_expressions row)
  node_expression (exprs.QueryLong' text _ row) at = plain.QueryLong at text (row_expressions row)
  node_expression (exprs.QueryBoolean' text _ row) at = plain.QueryBoolean at text (row_expressions row)
  node_expression exprs.NewList at = plain.NewList at
  node_expression (exprs.NewSet' exprs.None') at = plain.NewSet at
  node_expression (exprs.NewSet' (exprs.Some' _ s e)) at = plain.NewSetOf at (node_expression e s)

  pub row_expressions : {n : _} → Row_of-Expr n → Expressions
  row_expressions end_of-Expr = NoMore
  row_expressions (more_of-Expr at node rest) = And (node_expression node at) (row_expressions rest)

abbrev pub expression : Expr → Expression
expression e = node_expression (out-Expr e).node (out-Expr e).span

abbrev pub expressions : List Expr → Expressions
expressions [] = NoMore
expressions (e ∷ es) = And (expression e) (expressions es)

abbrev mutual
  pub node_statement : StmtNode → Span → Statement
  node_statement (stmts.Declare ty name value) at = plain.Declare at (spelled ty) name (expression value)
  node_statement (stmts.Assign name value) at = plain.Assign at name (expression value)
  node_statement (stmts.Add name value) at = plain.Add at name (expression value)
  node_statement (stmts.Sort name keys down) at = plain.Sort at name keys down
  node_statement (stmts.If' cond _ first stmts.None') at = plain.If at (expression cond) (row_statements first)
  node_statement (stmts.If' cond _ first (stmts.Some' _ other)) at = plain.IfElse at (expression cond) (row_statements first) (row_statements other)
  node_statement (stmts.ForEach' ty name list _ body) at = plain.ForEach at (spelled ty) name (expression list) (row_statements body)
  node_statement (stmts.While' cond _ body) at = plain.While at (expression cond) (row_statements body)
  node_statement (stmts.Print value) at = plain.Print at (expression value)
  node_statement (stmts.Return value) at = plain.Return at (option_map expression value)
  node_statement stmts.Break at = plain.Break at

  pub row_statements : {n : _} → Row_of-Stmt n → Statements
  row_statements end_of-Stmt = Nothing
  row_statements (more_of-Stmt at node rest) = Then (node_statement node at) (row_statements rest)

abbrev pub statement : Stmt → Statement
statement s = node_statement (out-Stmt s).node (out-Stmt s).span

abbrev pub statements : List Stmt → Statements
statements [] = Nothing
statements (s ∷ ss) = Then (statement s) (statements ss)

abbrev pub param : Param → PlainParam
param p = record { ty = spelled p.ty; name = p.name }

abbrev pub method : Method → PlainMethod
method m =
    record {
      access = m.access;
      fixed = m.fixed;
      result = option_map spelled m.result;
      name = m.name;
      params = map param m.params;
      body = statements m.body;
      span = m.span;
    }

abbrev pub program : Program → PlainProgram
program p =
    record {
      «package» = p.package;
      imports = p.imports;
      public = p.public;
      name = p.name;
      methods = map method p.methods;
    }
