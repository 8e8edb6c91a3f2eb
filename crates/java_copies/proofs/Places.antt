-- Copies whose nodes have one place, and places that are replaced twice.
use Rattle.std.specs.Prelude.{ℕ, List, [], ◌∷◌, Vec, map}
use Rattle.std.proofs.Common.{◌≡◌, refl, sym, ap, ◌∙◌}
use Rattle.std.specs.declared.alloc.Global.{Global}
use Rattle.qbs_base.specs.declared.span.Span.{Span}
use Rattle.java_ast.specs.declared.tree.JTy.{JTy}
use Rattle.java_ast.specs.declared.tree.Expr.{Expr, out-Expr}
use Rattle.java_ast.specs.declared.tree.ExprNode.{Query, QueryLong, QueryBoolean}
use Rattle.java_ast.specs.Reading.{spelled, expression, expressions}
use Rattle.java_ast.specs.Tree as plain
use Rattle.java_ast.specs.Tree.{Expression, Expressions}
use Rattle.java_ast.specs.Placed.{placed, placed_all}
use Rattle.java_ast.specs.Unplaced.{nowhere, unplaced, unplaced_all}
use Rattle.java_ast.proofs.Nodes.{query_is, query_long_is, query_boolean_is}

-- ---- copies

abbrev of_list : List Expression → Expressions
of_list [] = plain.NoMore
of_list (e ∷ es) = plain.And e (of_list es)

expressions_listed : (es : List Expr) → expressions es ≡ of_list (map expression es)
expressions_listed [] = refl
expressions_listed (e ∷ es) = ap (plain.And (expression e)) (expressions_listed es)

placed_listed : (to : Span) (es : List Expr) → placed_all to (expressions es) ≡ of_list (map (λ (e : Expr). placed to (expression e)) es)
placed_listed to [] = refl
placed_listed to (e ∷ es) = ap (plain.And (placed to (expression e))) (placed_listed to es)

pub all_placed : (to : Span) (copies es : List Expr) → map expression copies ≡ map (λ (e : Expr). placed to (expression e)) es → expressions copies ≡ placed_all to (expressions es)
all_placed to copies es same = expressions_listed copies ∙ ap of_list same ∙ sym (placed_listed to es)

pub query_placed : (to : Span) (e r : Expr) (ty : JTy) (text : List ℕ) (v v' : Vec Expr Global) (es : List Expr) → (out-Expr e).node ≡ Query ty text v → es ≡ v.items → expression r ≡ plain.Query to (spelled ty) text (expressions v'.items) → map expression v'.items ≡ map (λ (e : Expr). placed to (expression e)) es → expression r ≡ placed to (expression e)
query_placed to e r ty text v v' es is lent built copied =
    built
    ∙ ap (plain.Query to (spelled ty) text) (all_placed to v'.items es copied ∙ ap (λ (es : List Expr). placed_all to (expressions es)) lent)
    ∙ ap (placed to) (sym (query_is e ty text v is))

pub query_long_placed : (to : Span) (e r : Expr) (text : List ℕ) (v v' : Vec Expr Global) (es : List Expr) → (out-Expr e).node ≡ QueryLong text v → es ≡ v.items → expression r ≡ plain.QueryLong to text (expressions v'.items) → map expression v'.items ≡ map (λ (e : Expr). placed to (expression e)) es → expression r ≡ placed to (expression e)
query_long_placed to e r text v v' es is lent built copied =
    built
    ∙ ap (plain.QueryLong to text) (all_placed to v'.items es copied ∙ ap (λ (es : List Expr). placed_all to (expressions es)) lent)
    ∙ ap (placed to) (sym (query_long_is e text v is))

pub query_boolean_placed : (to : Span) (e r : Expr) (text : List ℕ) (v v' : Vec Expr Global) (es : List Expr) → (out-Expr e).node ≡ QueryBoolean text v → es ≡ v.items → expression r ≡ plain.QueryBoolean to text (expressions v'.items) → map expression v'.items ≡ map (λ (e : Expr). placed to (expression e)) es → expression r ≡ placed to (expression e)
query_boolean_placed to e r text v v' es is lent built copied =
    built
    ∙ ap (plain.QueryBoolean to text) (all_placed to v'.items es copied ∙ ap (λ (es : List Expr). placed_all to (expressions es)) lent)
    ∙ ap (placed to) (sym (query_boolean_is e text v is))

-- ---- places replaced twice

mutual
  pub placed_twice : (to at : Span) (e : Expression) → placed to (placed at e) ≡ placed to e
  placed_twice to at (plain.Lit old value) = refl
  placed_twice to at (plain.Var old name) = refl
  placed_twice to at (plain.Field old row name) = ap (λ (e : Expression). plain.Field to e name) (placed_twice to at row)
  placed_twice to at (plain.Binary old op a b) = ap (λ (e : Expression). plain.Binary to op e (placed to (placed at b))) (placed_twice to at a) ∙ ap (plain.Binary to op (placed to a)) (placed_twice to at b)
  placed_twice to at (plain.Not old e) = ap (plain.Not to) (placed_twice to at e)
  placed_twice to at (plain.Equals old a b) = ap (λ (e : Expression). plain.Equals to e (placed to (placed at b))) (placed_twice to at a) ∙ ap (plain.Equals to (placed to a)) (placed_twice to at b)
  placed_twice to at (plain.Size old name) = refl
  placed_twice to at (plain.Get old name e) = ap (plain.Get to name) (placed_twice to at e)
  placed_twice to at (plain.Contains old name e) = ap (plain.Contains to name) (placed_twice to at e)
  placed_twice to at (plain.Fetch old table) = refl
  placed_twice to at (plain.Query old element text arguments) = ap (plain.Query to element text) (all_placed_twice to at arguments)
  placed_twice to at (plain.QueryLong old text arguments) = ap (plain.QueryLong to text) (all_placed_twice to at arguments)
  placed_twice to at (plain.QueryBoolean old text arguments) = ap (plain.QueryBoolean to text) (all_placed_twice to at arguments)
  placed_twice to at (plain.NewList old) = refl
  placed_twice to at (plain.NewSet old) = refl
  placed_twice to at (plain.NewSetOf old query) = ap (plain.NewSetOf to) (placed_twice to at query)

  pub all_placed_twice : (to at : Span) (es : Expressions) → placed_all to (placed_all at es) ≡ placed_all to es
  all_placed_twice to at plain.NoMore = refl
  all_placed_twice to at (plain.And e es) = ap (λ (e : Expression). plain.And e (placed_all to (placed_all at es))) (placed_twice to at e) ∙ ap (plain.And (placed to e)) (all_placed_twice to at es)

-- ---- places left aside

mutual
  pub unplaced_is : (e : Expression) → placed nowhere e ≡ unplaced e
  unplaced_is (plain.Lit old value) = refl
  unplaced_is (plain.Var old name) = refl
  unplaced_is (plain.Field old row name) = ap (λ (e : Expression). plain.Field nowhere e name) (unplaced_is row)
  unplaced_is (plain.Binary old op a b) = ap (λ (e : Expression). plain.Binary nowhere op e (placed nowhere b)) (unplaced_is a) ∙ ap (plain.Binary nowhere op (unplaced a)) (unplaced_is b)
  unplaced_is (plain.Not old e) = ap (plain.Not nowhere) (unplaced_is e)
  unplaced_is (plain.Equals old a b) = ap (λ (e : Expression). plain.Equals nowhere e (placed nowhere b)) (unplaced_is a) ∙ ap (plain.Equals nowhere (unplaced a)) (unplaced_is b)
  unplaced_is (plain.Size old name) = refl
  unplaced_is (plain.Get old name e) = ap (plain.Get nowhere name) (unplaced_is e)
  unplaced_is (plain.Contains old name e) = ap (plain.Contains nowhere name) (unplaced_is e)
  unplaced_is (plain.Fetch old table) = refl
  unplaced_is (plain.Query old element text arguments) = ap (plain.Query nowhere element text) (all_unplaced_is arguments)
  unplaced_is (plain.QueryLong old text arguments) = ap (plain.QueryLong nowhere text) (all_unplaced_is arguments)
  unplaced_is (plain.QueryBoolean old text arguments) = ap (plain.QueryBoolean nowhere text) (all_unplaced_is arguments)
  unplaced_is (plain.NewList old) = refl
  unplaced_is (plain.NewSet old) = refl
  unplaced_is (plain.NewSetOf old query) = ap (plain.NewSetOf nowhere) (unplaced_is query)

  all_unplaced_is : (es : Expressions) → placed_all nowhere es ≡ unplaced_all es
  all_unplaced_is plain.NoMore = refl
  all_unplaced_is (plain.And e es) = ap (λ (e : Expression). plain.And e (placed_all nowhere es)) (unplaced_is e) ∙ ap (plain.And (unplaced e)) (all_unplaced_is es)

pub unplaced_same : (at : Span) (e : Expression) → unplaced (placed at e) ≡ unplaced e
unplaced_same at e = sym (unplaced_is (placed at e)) ∙ placed_twice nowhere at e ∙ unplaced_is e

pub all_unplaced_same : (at : Span) (es : Expressions) → unplaced_all (placed_all at es) ≡ unplaced_all es
all_unplaced_same at es = sym (all_unplaced_is (placed_all at es)) ∙ all_placed_twice nowhere at es ∙ all_unplaced_is es

pub ruleset laws = (placed_twice, all_placed_twice, unplaced_same, all_unplaced_same)
