-- Copies of nodes that hold lists, and a copy in a list.
use Rattle.std.specs.Prelude.{ℕ, List, [], ◌∷◌, ◌++◌, Vec, Option, Some, None}
use Rattle.std.proofs.Common.{◌≡◌, ap, sym, ◌∙◌}
use Rattle.std.specs.declared.alloc.Global.{Global}
use Rattle.java_ast.specs.declared.tree.JTy.{JTy}
use Rattle.java_ast.specs.declared.tree.Expr.{Expr, out-Expr}
use Rattle.java_ast.specs.declared.tree.ExprNode.{Query, QueryLong, QueryBoolean}
use Rattle.java_ast.specs.declared.tree.Stmt.{Stmt, out-Stmt}
use Rattle.java_ast.specs.declared.tree.StmtNode.{If, ForEach, While}
use Rattle.java_ast.specs.Reading.{spelled, expression, expressions, statement, statements}
use Rattle.java_ast.specs.Tree as plain
use Rattle.java_ast.specs.Tree.{Expression, Statement, Statements}
use Rattle.java_ast.proofs.Nodes.{query_is, query_long_is, query_boolean_is, if_is, if_else_is, for_each_is, while_is}

pub expression_in : (xs : List Expr) (c e : Expr) (rest : List Expr) → expression c ≡ expression e → expressions ((xs ++ c ∷ []) ++ rest) ≡ expressions (xs ++ e ∷ rest)
expression_in [] c e rest h = ap (λ (x : Expression). plain.And x (expressions rest)) h
expression_in (x ∷ xs) c e rest h = ap (plain.And (expression x)) (expression_in xs c e rest h)

pub statement_in_list : (xs : List Stmt) (c s : Stmt) (rest : List Stmt) → statement c ≡ statement s → statements ((xs ++ c ∷ []) ++ rest) ≡ statements (xs ++ s ∷ rest)
statement_in_list [] c s rest h = ap (λ (x : Statement). plain.Then x (statements rest)) h
statement_in_list (x ∷ xs) c s rest h = ap (plain.Then (statement x)) (statement_in_list xs c s rest h)

pub query_copied : (e r : Expr) (ty : JTy) (text : List ℕ) (v v' : Vec Expr Global) (es : List Expr) → (out-Expr e).node ≡ Query ty text v → es ≡ v.items → expression r ≡ plain.Query (out-Expr e).span (spelled ty) text (expressions v'.items) → expressions v'.items ≡ expressions es → expression r ≡ expression e
query_copied e r ty text v v' es is lent built hes =
    built
    ∙ ap (plain.Query (out-Expr e).span (spelled ty) text) (hes ∙ ap expressions lent)
    ∙ sym (query_is e ty text v is)

pub query_long_copied : (e r : Expr) (text : List ℕ) (v v' : Vec Expr Global) (es : List Expr) → (out-Expr e).node ≡ QueryLong text v → es ≡ v.items → expression r ≡ plain.QueryLong (out-Expr e).span text (expressions v'.items) → expressions v'.items ≡ expressions es → expression r ≡ expression e
query_long_copied e r text v v' es is lent built hes =
    built
    ∙ ap (plain.QueryLong (out-Expr e).span text) (hes ∙ ap expressions lent)
    ∙ sym (query_long_is e text v is)

pub query_boolean_copied : (e r : Expr) (text : List ℕ) (v v' : Vec Expr Global) (es : List Expr) → (out-Expr e).node ≡ QueryBoolean text v → es ≡ v.items → expression r ≡ plain.QueryBoolean (out-Expr e).span text (expressions v'.items) → expressions v'.items ≡ expressions es → expression r ≡ expression e
query_boolean_copied e r text v v' es is lent built hes =
    built
    ∙ ap (plain.QueryBoolean (out-Expr e).span text) (hes ∙ ap expressions lent)
    ∙ sym (query_boolean_is e text v is)

-- each body is what was lent, or what stands there in its place
pub if_of : (s r : Stmt) (cond : Expr) (v v' : Vec Stmt Global) (o : Option (Vec Stmt Global)) (ss : List Stmt) → (out-Stmt s).node ≡ If cond v o → o ≡ None → ss ≡ v.items → statement r ≡ plain.If (out-Stmt s).span (expression cond) (statements v'.items) → statements v'.items ≡ statements ss → statement r ≡ statement s
if_of s r cond v v' o ss is is_none lent built hss =
    built
    ∙ ap (plain.If (out-Stmt s).span (expression cond)) (hss ∙ ap statements lent)
    ∙ sym (if_is s cond v o is is_none)

pub if_else_of : (s r : Stmt) (cond : Expr) (v v' w w' : Vec Stmt Global) (o : Option (Vec Stmt Global)) (ss ts : List Stmt) → (out-Stmt s).node ≡ If cond v o → o ≡ Some w → ss ≡ v.items → ts ≡ w.items → statement r ≡ plain.IfElse (out-Stmt s).span (expression cond) (statements v'.items) (statements w'.items) → statements v'.items ≡ statements ss → statements w'.items ≡ statements ts → statement r ≡ statement s
if_else_of s r cond v v' w w' o ss ts is some lent lent' built hss hts =
    built
    ∙ ap (λ (x : Statements). plain.IfElse (out-Stmt s).span (expression cond) x (statements w'.items)) (hss ∙ ap statements lent)
    ∙ ap (plain.IfElse (out-Stmt s).span (expression cond) (statements v.items)) (hts ∙ ap statements lent')
    ∙ sym (if_else_is s cond v w o is some)

pub for_each_of : (s r : Stmt) (ty : JTy) (name : List ℕ) (list : Expr) (v v' : Vec Stmt Global) (ss : List Stmt) → (out-Stmt s).node ≡ ForEach ty name list v → ss ≡ v.items → statement r ≡ plain.ForEach (out-Stmt s).span (spelled ty) name (expression list) (statements v'.items) → statements v'.items ≡ statements ss → statement r ≡ statement s
for_each_of s r ty name list v v' ss is lent built hss =
    built
    ∙ ap (plain.ForEach (out-Stmt s).span (spelled ty) name (expression list)) (hss ∙ ap statements lent)
    ∙ sym (for_each_is s ty name list v is)

pub while_of : (s r : Stmt) (cond : Expr) (v v' : Vec Stmt Global) (ss : List Stmt) → (out-Stmt s).node ≡ While cond v → ss ≡ v.items → statement r ≡ plain.While (out-Stmt s).span (expression cond) (statements v'.items) → statements v'.items ≡ statements ss → statement r ≡ statement s
while_of s r cond v v' ss is lent built hss =
    built
    ∙ ap (plain.While (out-Stmt s).span (expression cond)) (hss ∙ ap statements lent)
    ∙ sym (while_is s cond v is)
