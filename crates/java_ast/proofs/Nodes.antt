-- The plain trees of nodes that hold lists.
use Rattle.std.specs.Prelude.{ℕ, List, Vec, Box, Option, Some, None}
use Rattle.std.proofs.Common.{◌≡◌, ap, ◌∙◌}
use Rattle.std.specs.declared.alloc.Global.{Global}
use Rattle.java_ast.specs.declared.tree.JTy.{JTy}
use Rattle.java_ast.specs.declared.tree.Expr.{Expr, out-Expr}
use Rattle.java_ast.specs.declared.tree.ExprNode.{Query, QueryLong, QueryBoolean, NewSet}
use Rattle.java_ast.specs.declared.tree.Stmt.{Stmt, out-Stmt}
use Rattle.java_ast.specs.declared.tree.StmtNode.{If, ForEach, While}
use Rattle.java_ast.specs.declared.tree.StmtNode.TheBlock.{hidden-the_row-Stmt-0}
use Rattle.java_ast.specs.Reading.{spelled, expressions, expression, node_expression, row_statements, statements, statement, node_statement}
use Rattle.java_ast.specs.Tree as plain
use Rattle.java_ast.specs.Tree.{Statements}
use Rattle.java_ast.proofs.Rows.{expressions_hidden, statements_hidden}

pub query_is : (e : Expr) (ty : JTy) (text : List ℕ) (v : Vec Expr Global) → (out-Expr e).node ≡ Query ty text v → expression e ≡ plain.Query (out-Expr e).span (spelled ty) text (expressions v.items)
query_is e ty text v is = ap (λ n. node_expression n (out-Expr e).span) is ∙ ap (plain.Query (out-Expr e).span (spelled ty) text) (expressions_hidden v)

pub query_long_is : (e : Expr) (text : List ℕ) (v : Vec Expr Global) → (out-Expr e).node ≡ QueryLong text v → expression e ≡ plain.QueryLong (out-Expr e).span text (expressions v.items)
query_long_is e text v is = ap (λ n. node_expression n (out-Expr e).span) is ∙ ap (plain.QueryLong (out-Expr e).span text) (expressions_hidden v)

pub query_boolean_is : (e : Expr) (text : List ℕ) (v : Vec Expr Global) → (out-Expr e).node ≡ QueryBoolean text v → expression e ≡ plain.QueryBoolean (out-Expr e).span text (expressions v.items)
query_boolean_is e text v is = ap (λ n. node_expression n (out-Expr e).span) is ∙ ap (plain.QueryBoolean (out-Expr e).span text) (expressions_hidden v)

pub new_set_is : (e : Expr) (o : Option (Box Expr Global)) (b : Box Expr Global) → (out-Expr e).node ≡ NewSet o → o ≡ Some b → expression e ≡ plain.NewSetOf (out-Expr e).span (expression b.value)
new_set_is e o b is some = ap (λ n. node_expression n (out-Expr e).span) (is ∙ ap NewSet some)

pub if_is : (s : Stmt) (cond : Expr) (v : Vec Stmt Global) (o : Option (Vec Stmt Global)) → (out-Stmt s).node ≡ If cond v o → o ≡ None → statement s ≡ plain.If (out-Stmt s).span (expression cond) (statements v.items)
if_is s cond v o is none = ap (λ n. node_statement n (out-Stmt s).span) (is ∙ ap (λ (p : Option (Vec Stmt Global)). If cond v p) none) ∙ ap (plain.If (out-Stmt s).span (expression cond)) (statements_hidden v)

pub if_else_is : (s : Stmt) (cond : Expr) (v w : Vec Stmt Global) (o : Option (Vec Stmt Global)) → (out-Stmt s).node ≡ If cond v o → o ≡ Some w → statement s ≡ plain.IfElse (out-Stmt s).span (expression cond) (statements v.items) (statements w.items)
if_else_is s cond v w o is some =
    ap (λ n. node_statement n (out-Stmt s).span) (is ∙ ap (λ (p : Option (Vec Stmt Global)). If cond v p) some)
    ∙ ap (λ (ss : Statements). plain.IfElse (out-Stmt s).span (expression cond) ss (row_statements (hidden-the_row-Stmt-0 w))) (statements_hidden v)
    ∙ ap (plain.IfElse (out-Stmt s).span (expression cond) (statements v.items)) (statements_hidden w)

pub for_each_is : (s : Stmt) (ty : JTy) (name : List ℕ) (list : Expr) (v : Vec Stmt Global) → (out-Stmt s).node ≡ ForEach ty name list v → statement s ≡ plain.ForEach (out-Stmt s).span (spelled ty) name (expression list) (statements v.items)
for_each_is s ty name list v is = ap (λ n. node_statement n (out-Stmt s).span) is ∙ ap (plain.ForEach (out-Stmt s).span (spelled ty) name (expression list)) (statements_hidden v)

pub while_is : (s : Stmt) (cond : Expr) (v : Vec Stmt Global) → (out-Stmt s).node ≡ While cond v → statement s ≡ plain.While (out-Stmt s).span (expression cond) (statements v.items)
while_is s cond v is = ap (λ n. node_statement n (out-Stmt s).span) is ∙ ap (plain.While (out-Stmt s).span (expression cond)) (statements_hidden v)

pub ruleset nodes = (query_is, query_long_is, query_boolean_is, if_is, if_else_is, for_each_is, while_is)
