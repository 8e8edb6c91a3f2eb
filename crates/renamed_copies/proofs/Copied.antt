-- Copies in which variables are renamed.
use Rattle.std.specs.Prelude.{ℕ, List, [], ◌∷◌, Vec, map}
use Rattle.std.proofs.Common.{◌≡◌, refl, sym, ap, ◌∙◌}
use Rattle.std.specs.declared.alloc.Global.{Global}
use Rattle.java_ast.specs.declared.tree.JTy.{JTy}
use Rattle.java_ast.specs.declared.tree.Expr.{Expr, out-Expr}
use Rattle.java_ast.specs.declared.tree.ExprNode.{Query, QueryLong, QueryBoolean}
use Rattle.java_ast.specs.Reading.{spelled, expression, expressions}
use Rattle.java_ast.specs.Tree as plain
use Rattle.java_ast.specs.Tree.{Expression, Expressions}
use Rattle.java_calls.specs.Renaming.{Renaming, renamed, all_renamed}
use Rattle.java_ast.proofs.Nodes.{query_is, query_long_is, query_boolean_is}

abbrev of_list : List Expression → Expressions
of_list [] = plain.NoMore
of_list (e ∷ es) = plain.And e (of_list es)

expressions_listed : (es : List Expr) → expressions es ≡ of_list (map expression es)
expressions_listed [] = refl
expressions_listed (e ∷ es) = ap (plain.And (expression e)) (expressions_listed es)

renamed_listed : (f : Renaming) (es : List Expr) → all_renamed f (expressions es) ≡ of_list (map (λ (e : Expr). renamed f (expression e)) es)
renamed_listed f [] = refl
renamed_listed f (e ∷ es) = ap (plain.And (renamed f (expression e))) (renamed_listed f es)

all_are_renamed : (f : Renaming) (copies es : List Expr) → map expression copies ≡ map (λ (e : Expr). renamed f (expression e)) es → expressions copies ≡ all_renamed f (expressions es)
all_are_renamed f copies es same = expressions_listed copies ∙ ap of_list same ∙ sym (renamed_listed f es)

pub query_renamed : (f : Renaming) (e r : Expr) (ty : JTy) (text : List ℕ) (v v' : Vec Expr Global) (es : List Expr) → (out-Expr e).node ≡ Query ty text v → es ≡ v.items → expression r ≡ plain.Query (out-Expr e).span (spelled ty) text (expressions v'.items) → map expression v'.items ≡ map (λ (e : Expr). renamed f (expression e)) es → expression r ≡ renamed f (expression e)
query_renamed f e r ty text v v' es is lent built copied =
    built
    ∙ ap (plain.Query (out-Expr e).span (spelled ty) text) (all_are_renamed f v'.items es copied ∙ ap (λ (es : List Expr). all_renamed f (expressions es)) lent)
    ∙ ap (renamed f) (sym (query_is e ty text v is))

pub query_long_renamed : (f : Renaming) (e r : Expr) (text : List ℕ) (v v' : Vec Expr Global) (es : List Expr) → (out-Expr e).node ≡ QueryLong text v → es ≡ v.items → expression r ≡ plain.QueryLong (out-Expr e).span text (expressions v'.items) → map expression v'.items ≡ map (λ (e : Expr). renamed f (expression e)) es → expression r ≡ renamed f (expression e)
query_long_renamed f e r text v v' es is lent built copied =
    built
    ∙ ap (plain.QueryLong (out-Expr e).span text) (all_are_renamed f v'.items es copied ∙ ap (λ (es : List Expr). all_renamed f (expressions es)) lent)
    ∙ ap (renamed f) (sym (query_long_is e text v is))

pub query_boolean_renamed : (f : Renaming) (e r : Expr) (text : List ℕ) (v v' : Vec Expr Global) (es : List Expr) → (out-Expr e).node ≡ QueryBoolean text v → es ≡ v.items → expression r ≡ plain.QueryBoolean (out-Expr e).span text (expressions v'.items) → map expression v'.items ≡ map (λ (e : Expr). renamed f (expression e)) es → expression r ≡ renamed f (expression e)
query_boolean_renamed f e r text v v' es is lent built copied =
    built
    ∙ ap (plain.QueryBoolean (out-Expr e).span text) (all_are_renamed f v'.items es copied ∙ ap (λ (es : List Expr). all_renamed f (expressions es)) lent)
    ∙ ap (renamed f) (sym (query_boolean_is e text v is))
