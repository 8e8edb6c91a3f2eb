-- What is noted of the parts of expressions and statements, one behind the other.
use Rattle.std.specs.Prelude.{ℕ, List, ◌++◌, map, Vec, Option, Some, None}
use Rattle.std.proofs.Common.{◌≡◌, refl, sym, ap, ◌∙◌, append_assoc}
use Rattle.std.proofs.lemmas.List.{map-append}
use Rattle.std.specs.declared.alloc.Global.{Global}
use Rattle.java_ast.specs.declared.tree.JTy.{JTy}
use Rattle.java_ast.specs.declared.tree.Expr.{Expr, out-Expr}
use Rattle.java_ast.specs.declared.tree.ExprNode.{Query, QueryLong, QueryBoolean}
use Rattle.java_ast.specs.declared.tree.Stmt.{Stmt, out-Stmt}
use Rattle.java_ast.specs.declared.tree.StmtNode.{If, ForEach, While}
use Rattle.java_ast.specs.Reading.{spelled, expression, expressions, statement, statements}
use Rattle.java_ast.specs.Tree as plain
use Rattle.java_ast.specs.Tree.{Expression, Statement, PlainMethod}
use Rattle.java_calls.specs.Called.{call_of}
use Rattle.java_calls.specs.Rules.{sites_in, sites_among, sites_of, site_of}
use Rattle.call_rules.specs.declared.notes.Noted.{Noted}
use Rattle.call_rules.specs.Noted.{noted, notes_in, notes_among, notes_at, notes_of}
use Rattle.java_ast.proofs.Nodes.{query_is, query_long_is, query_boolean_is, if_is, if_else_is, for_each_is, while_is}

pub two : {A B : Type 0} (f : A → B) (xs ys : List A) (old middle new : List B) → middle ≡ old ++ map f xs → new ≡ middle ++ map f ys → new ≡ old ++ map f (xs ++ ys)
two f xs ys old middle new e h = h ∙ ap (λ l. l ++ map f ys) e ∙ append_assoc old (map f xs) (map f ys) ∙ ap (λ l. old ++ l) (sym (map-append f xs ys))

pub ruleset joined = (two)

pub query_noted : (ms : List PlainMethod) (whole : Option Statement) (e : Expr) (ty : JTy) (text : List ℕ) (v : Vec Expr Global) (list : List Expr) (old new : List Noted) → (out-Expr e).node ≡ Query ty text v → list ≡ v.items → new ≡ old ++ notes_among ms (expressions list) → new ≡ old ++ notes_in ms whole (expression e)
query_noted ms whole e ty text v list old new is lent h =
    h ∙ ap (λ (l : List Expr). old ++ notes_among ms (expressions l)) lent ∙ ap (λ (x : Expression). old ++ notes_in ms whole x) (sym (query_is e ty text v is))

pub query_boolean_noted : (ms : List PlainMethod) (whole : Option Statement) (e : Expr) (text : List ℕ) (v : Vec Expr Global) (list : List Expr) (old new : List Noted) → (out-Expr e).node ≡ QueryBoolean text v → list ≡ v.items → new ≡ old ++ notes_among ms (expressions list) → new ≡ old ++ notes_in ms whole (expression e)
query_boolean_noted ms whole e text v list old new is lent h =
    h ∙ ap (λ (l : List Expr). old ++ notes_among ms (expressions l)) lent ∙ ap (λ (x : Expression). old ++ notes_in ms whole x) (sym (query_boolean_is e text v is))

pub query_long_noted : (ms : List PlainMethod) (whole : Option Statement) (e : Expr) (text : List ℕ) (v : Vec Expr Global) (list again : List Expr) (old middle new : List Noted) → (out-Expr e).node ≡ QueryLong text v → list ≡ v.items → again ≡ v.items
    → middle ≡ old ++ map (noted ms) (site_of whole (out-Expr e).span (call_of (plain.QueryLong (out-Expr e).span text (expressions list)))) → new ≡ middle ++ notes_among ms (expressions again) → new ≡ old ++ notes_in ms whole (expression e)
query_long_noted ms whole e text v list again old middle new is lent lent' first h =
    two (noted ms) (site_of whole (out-Expr e).span (call_of (plain.QueryLong (out-Expr e).span text (expressions v.items)))) (sites_among (expressions v.items)) old middle new
    (first ∙ ap (λ (l : List Expr). old ++ map (noted ms) (site_of whole (out-Expr e).span (call_of (plain.QueryLong (out-Expr e).span text (expressions l))))) lent)
    (h ∙ ap (λ (l : List Expr). middle ++ notes_among ms (expressions l)) lent')
    ∙ ap (λ (x : Expression). old ++ notes_in ms whole x) (sym (query_long_is e text v is))

pub if_noted : (ms : List PlainMethod) (s : Stmt) (cond : Expr) (v : Vec Stmt Global) (o : Option (Vec Stmt Global)) (list : List Stmt) (old middle new : List Noted) → (out-Stmt s).node ≡ If cond v o → o ≡ None → list ≡ v.items
    → middle ≡ old ++ notes_in ms None (expression cond) → new ≡ middle ++ notes_of ms (statements list) → new ≡ old ++ notes_at ms (statement s)
if_noted ms s cond v o list old middle new is none lent first h =
    two (noted ms) (sites_in None (expression cond)) (sites_of (statements v.items)) old middle new first (h ∙ ap (λ (l : List Stmt). middle ++ notes_of ms (statements l)) lent)
    ∙ ap (λ (x : Statement). old ++ notes_at ms x) (sym (if_is s cond v o is none))

pub if_else_noted : (ms : List PlainMethod) (s : Stmt) (cond : Expr) (v w : Vec Stmt Global) (o : Option (Vec Stmt Global)) (list others : List Stmt) (old middle between new : List Noted) → (out-Stmt s).node ≡ If cond v o → o ≡ Some w → list ≡ v.items → others ≡ w.items
    → middle ≡ old ++ notes_in ms None (expression cond) → between ≡ middle ++ notes_of ms (statements list) → new ≡ between ++ notes_of ms (statements others) → new ≡ old ++ notes_at ms (statement s)
if_else_noted ms s cond v w o list others old middle between new is some lent lent' first second h =
    two (noted ms) (sites_in None (expression cond)) (sites_of (statements v.items) ++ sites_of (statements w.items)) old middle new first
    (two (noted ms) (sites_of (statements v.items)) (sites_of (statements w.items)) middle between new
    (second ∙ ap (λ (l : List Stmt). middle ++ notes_of ms (statements l)) lent) (h ∙ ap (λ (l : List Stmt). between ++ notes_of ms (statements l)) lent'))
    ∙ ap (λ (x : Statement). old ++ notes_at ms x) (sym (if_else_is s cond v w o is some))

pub for_each_noted : (ms : List PlainMethod) (s : Stmt) (ty : JTy) (name : List ℕ) (e : Expr) (v : Vec Stmt Global) (list : List Stmt) (old middle new : List Noted) → (out-Stmt s).node ≡ ForEach ty name e v → list ≡ v.items
    → middle ≡ old ++ notes_in ms None (expression e) → new ≡ middle ++ notes_of ms (statements list) → new ≡ old ++ notes_at ms (statement s)
for_each_noted ms s ty name e v list old middle new is lent first h =
    two (noted ms) (sites_in None (expression e)) (sites_of (statements v.items)) old middle new first (h ∙ ap (λ (l : List Stmt). middle ++ notes_of ms (statements l)) lent)
    ∙ ap (λ (x : Statement). old ++ notes_at ms x) (sym (for_each_is s ty name e v is))

pub while_noted : (ms : List PlainMethod) (s : Stmt) (cond : Expr) (v : Vec Stmt Global) (list : List Stmt) (old middle new : List Noted) → (out-Stmt s).node ≡ While cond v → list ≡ v.items
    → middle ≡ old ++ notes_in ms None (expression cond) → new ≡ middle ++ notes_of ms (statements list) → new ≡ old ++ notes_at ms (statement s)
while_noted ms s cond v list old middle new is lent first h =
    two (noted ms) (sites_in None (expression cond)) (sites_of (statements v.items)) old middle new first (h ∙ ap (λ (l : List Stmt). middle ++ notes_of ms (statements l)) lent)
    ∙ ap (λ (x : Statement). old ++ notes_at ms x) (sym (while_is s cond v is))
