-- Names that are noted one behind the other.
use Rattle.std.specs.Prelude.{ℕ, List, [], ◌∷◌, ◌++◌, Vec, Option, Some, None, Bool, true, false, if◌then◌else◌}
use Rattle.std.proofs.Common.{◌≡◌, refl, sym, ap, ◌∙◌, append_assoc}
use Rattle.std.specs.declared.alloc.Global.{Global}
use Rattle.java_ast.specs.declared.tree.JTy.{JTy}
use Rattle.java_ast.specs.declared.tree.Expr.{Expr, out-Expr}
use Rattle.java_ast.specs.declared.tree.ExprNode.{Query, QueryLong, QueryBoolean}
use Rattle.java_ast.specs.declared.tree.Stmt.{Stmt, out-Stmt}
use Rattle.java_ast.specs.declared.tree.StmtNode.{If, ForEach, While}
use Rattle.java_ast.specs.Names.{Names}
use Rattle.java_ast.specs.Reading.{spelled, expression, expressions, statement, statements}
use Rattle.java_ast.specs.Tree.{Expression, Statement}
use Rattle.java_ast.proofs.Nodes.{query_is, query_long_is, query_boolean_is, if_is, if_else_is, for_each_is, while_is}
use Rattle.call_parts.specs.Called.{is_single_name}
use Rattle.java_calls.specs.ProgramNames.{type_names, expression_names, argument_names, statement_names, block_names}
use Rattle.inlining.specs.Endings.{Endings, noted, all_noted, called_names}

pub noted_append : (t : Endings) (xs ys : Names) → all_noted t (xs ++ ys) ≡ all_noted (all_noted t xs) ys
noted_append t [] ys = refl
noted_append t (x ∷ xs) ys = noted_append (noted t x) xs ys

pub two : (xs ys : Names) (old middle new : Endings) → middle ≡ all_noted old xs → new ≡ all_noted middle ys → new ≡ all_noted old (xs ++ ys)
two xs ys old middle new e h = h ∙ ap (λ (t : Endings). all_noted t ys) e ∙ sym (noted_append old xs ys)

pub ruleset joined = (two)

-- the names of one item are noted, and those of the rest are left
pub one_listed : (xs ys : Names) (t next whole : Endings) → next ≡ all_noted t xs → all_noted t (xs ++ ys) ≡ whole → all_noted next ys ≡ whole
one_listed xs ys t next whole e h = ap (λ (t : Endings). all_noted t ys) e ∙ sym (noted_append t xs ys) ∙ h

pub one_named : (x : List ℕ) (xs ys : Names) (t first next whole : Endings) → first ≡ noted t x → next ≡ all_noted first xs → all_noted t ((x ∷ xs) ++ ys) ≡ whole → all_noted next ys ≡ whole
one_named x xs ys t first next whole e f h = one_listed (x ∷ xs) ys t next whole (f ∙ ap (λ (t : Endings). all_noted t xs) e) h

called_by : (b : Bool) (text : List ℕ) (xs : Names) → (if b then text ∷ [] else []) ++ xs ≡ (if b then text ∷ xs else xs)
called_by true text xs = refl
called_by false text xs = refl

pub query_noted : (e : Expr) (ty : JTy) (text : List ℕ) (v : Vec Expr Global) (list : List Expr) (old middle new : Endings) → (out-Expr e).node ≡ Query ty text v → list ≡ v.items
    → middle ≡ all_noted old (type_names (spelled ty)) → new ≡ all_noted middle (argument_names (expressions list)) → new ≡ all_noted old (expression_names (expression e))
query_noted e ty text v list old middle new is lent first h =
    two (type_names (spelled ty)) (argument_names (expressions v.items)) old middle new first (h ∙ ap (λ (l : List Expr). all_noted middle (argument_names (expressions l))) lent)
    ∙ ap (λ (x : Expression). all_noted old (expression_names x)) (sym (query_is e ty text v is))

pub query_boolean_noted : (e : Expr) (text : List ℕ) (v : Vec Expr Global) (list : List Expr) (old new : Endings) → (out-Expr e).node ≡ QueryBoolean text v → list ≡ v.items
    → new ≡ all_noted old (argument_names (expressions list)) → new ≡ all_noted old (expression_names (expression e))
query_boolean_noted e text v list old new is lent h =
    h ∙ ap (λ (l : List Expr). all_noted old (argument_names (expressions l))) lent ∙ ap (λ (x : Expression). all_noted old (expression_names x)) (sym (query_boolean_is e text v is))

pub query_long_noted : (e : Expr) (text : List ℕ) (v : Vec Expr Global) (list : List Expr) (old middle new : Endings) → (out-Expr e).node ≡ QueryLong text v → list ≡ v.items
    → middle ≡ all_noted old (called_names text) → new ≡ all_noted middle (argument_names (expressions list)) → new ≡ all_noted old (expression_names (expression e))
query_long_noted e text v list old middle new is lent first h =
    two (called_names text) (argument_names (expressions v.items)) old middle new first (h ∙ ap (λ (l : List Expr). all_noted middle (argument_names (expressions l))) lent)
    ∙ ap (all_noted old) (called_by (is_single_name text) text (argument_names (expressions v.items)))
    ∙ ap (λ (x : Expression). all_noted old (expression_names x)) (sym (query_long_is e text v is))

pub if_noted : (s : Stmt) (cond : Expr) (v : Vec Stmt Global) (o : Option (Vec Stmt Global)) (list : List Stmt) (old middle new : Endings) → (out-Stmt s).node ≡ If cond v o → o ≡ None → list ≡ v.items
    → middle ≡ all_noted old (expression_names (expression cond)) → new ≡ all_noted middle (block_names (statements list)) → new ≡ all_noted old (statement_names (statement s))
if_noted s cond v o list old middle new is none lent first h =
    two (expression_names (expression cond)) (block_names (statements v.items)) old middle new first (h ∙ ap (λ (l : List Stmt). all_noted middle (block_names (statements l))) lent)
    ∙ ap (λ (x : Statement). all_noted old (statement_names x)) (sym (if_is s cond v o is none))

pub if_else_noted : (s : Stmt) (cond : Expr) (v w : Vec Stmt Global) (o : Option (Vec Stmt Global)) (list others : List Stmt) (old middle between new : Endings) → (out-Stmt s).node ≡ If cond v o → o ≡ Some w → list ≡ v.items → others ≡ w.items
    → middle ≡ all_noted old (expression_names (expression cond)) → between ≡ all_noted middle (block_names (statements list)) → new ≡ all_noted between (block_names (statements others)) → new ≡ all_noted old (statement_names (statement s))
if_else_noted s cond v w o list others old middle between new is some lent lent' first second h =
    two (expression_names (expression cond)) (block_names (statements v.items) ++ block_names (statements w.items)) old middle new first
    (two (block_names (statements v.items)) (block_names (statements w.items)) middle between new
    (second ∙ ap (λ (l : List Stmt). all_noted middle (block_names (statements l))) lent) (h ∙ ap (λ (l : List Stmt). all_noted between (block_names (statements l))) lent'))
    ∙ ap (λ (x : Statement). all_noted old (statement_names x)) (sym (if_else_is s cond v w o is some))

pub for_each_noted : (s : Stmt) (ty : JTy) (name : List ℕ) (e : Expr) (v : Vec Stmt Global) (list : List Stmt) (old middle new : Endings) → (out-Stmt s).node ≡ ForEach ty name e v → list ≡ v.items
    → middle ≡ all_noted old (name ∷ type_names (spelled ty) ++ expression_names (expression e)) → new ≡ all_noted middle (block_names (statements list)) → new ≡ all_noted old (statement_names (statement s))
for_each_noted s ty name e v list old middle new is lent first h =
    two (name ∷ type_names (spelled ty) ++ expression_names (expression e)) (block_names (statements v.items)) old middle new first (h ∙ ap (λ (l : List Stmt). all_noted middle (block_names (statements l))) lent)
    ∙ ap (λ (l : Names). all_noted old (name ∷ l)) (append_assoc (type_names (spelled ty)) (expression_names (expression e)) (block_names (statements v.items)))
    ∙ ap (λ (x : Statement). all_noted old (statement_names x)) (sym (for_each_is s ty name e v is))

pub while_noted : (s : Stmt) (cond : Expr) (v : Vec Stmt Global) (list : List Stmt) (old middle new : Endings) → (out-Stmt s).node ≡ While cond v → list ≡ v.items
    → middle ≡ all_noted old (expression_names (expression cond)) → new ≡ all_noted middle (block_names (statements list)) → new ≡ all_noted old (statement_names (statement s))
while_noted s cond v list old middle new is lent first h =
    two (expression_names (expression cond)) (block_names (statements v.items)) old middle new first (h ∙ ap (λ (l : List Stmt). all_noted middle (block_names (statements l))) lent)
    ∙ ap (λ (x : Statement). all_noted old (statement_names x)) (sym (while_is s cond v is))

-- ---- Three and four parts

-- a name, a type's names, and those of a value
pub given_noted : (x : List ℕ) (xs ys : Names) (old first second new : Endings) → first ≡ noted old x → second ≡ all_noted first xs → new ≡ all_noted second ys → new ≡ all_noted old (x ∷ xs ++ ys)
given_noted x xs ys old first second new e h k = two (x ∷ xs) ys old second new (h ∙ ap (λ (t : Endings). all_noted t xs) e) k

-- a name, and two lists behind it
pub method_noted : (x : List ℕ) (xs ys zs : Names) (old first second third new : Endings) → first ≡ noted old x → second ≡ all_noted first xs → third ≡ all_noted second ys → new ≡ all_noted third zs → new ≡ all_noted old (x ∷ xs ++ (ys ++ zs))
method_noted x xs ys zs old first second third new e h k l = given_noted x xs (ys ++ zs) old first second new e h (two ys zs second third new k l)

-- two lists, a name, and a list behind it
pub program_noted : (xs ys : Names) (x : List ℕ) (zs : Names) (old first second third new : Endings) → first ≡ all_noted old xs → second ≡ all_noted first ys → third ≡ noted second x → new ≡ all_noted third zs → new ≡ all_noted old (xs ++ (ys ++ (x ∷ zs)))
program_noted xs ys x zs old first second third new e h k l =
    two xs (ys ++ (x ∷ zs)) old first new e (two ys (x ∷ zs) first second new h (l ∙ ap (λ (t : Endings). all_noted t zs) k))
