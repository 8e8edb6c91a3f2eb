-- A variable that is walked is named once where nothing else names it.
use Rattle.std.proofs.Common.{◌≡◌, ℕ, suc, Bool, true, false, cond, not, ◌&&◌, ◌||◌, List, [], ◌∷◌, length, refl, sym, ap, ◌∙◌, nat_eq, arith}
use Rattle.std.specs.List.{filter, list_any}
use Rattle.std.specs.Str.{bytes_eq}
use Rattle.std.specs.declared.alloc.Global.{Global}
use Rattle.std.specs.Prelude.{Vec, Option, Some}
use Rattle.std.proofs.lemmas.Bool.Decides.{nat_tests}
use Rattle.qbs_base.specs.declared.span.Span.{Span}
use Rattle.java_ast.specs.declared.tree.JTy.{JTy}
use Rattle.java_ast.specs.declared.tree.Expr.{Expr}
use Rattle.java_ast.specs.declared.tree.Stmt.{Stmt, out-Stmt}
use Rattle.java_ast.specs.declared.tree.StmtNode as stmts
use Rattle.java_ast.specs.Names.{Names, is_among}
use Rattle.java_ast.specs.Reading.{spelled, expression, statement, statements}
use Rattle.java_ast.specs.Tree.{Spelled, Expression, Var, ForEach, Statement, Statements, Then}
use Rattle.java_ast.proofs.Among.{among_both}
use Rattle.java_ast.proofs.Nodes.{if_else_is, for_each_is}
use Rattle.spreads.specs.Alone.{declared_within, all_declared_within, is_variable, walks_alone}
use Rattle.spreads.specs.Beside.{beside}

twice : (n : ℕ) → nat_eq (suc (suc n)) 1 ≡ false
twice n = grind (arith, nat_tests)

-- one more than those that pass a test is one where none passes it
once : (f : List ℕ → Bool) (xs : Names) → nat_eq (suc (length (filter f xs))) 1 ≡ not (list_any f xs)
once f [] = refl
once f (x ∷ xs) = go (f x) (once f xs)
  where
    go : (b : Bool) → nat_eq (suc (length (filter f xs))) 1 ≡ not (list_any f xs) → nat_eq (suc (length (cond b (x ∷ filter f xs) (filter f xs)))) 1 ≡ not (b || list_any f xs)
    go true h = twice (length (filter f xs))
    go false h = h

alone_is : (x y : List ℕ) (at : Span) (ty : Spelled) (e : Expression) (body p : Statements) → (is_variable x e && not (is_among (beside y body p) x)) ≡ walks_alone x (Then (ForEach at ty y e body) p)
alone_is x y at ty (Var at' z) body p = go (bytes_eq x z)
  where
    go : (b : Bool) → (b && not (list_any (bytes_eq x) (beside y body p))) ≡ (b && nat_eq (length (cond b (z ∷ filter (bytes_eq x) (beside y body p)) (filter (bytes_eq x) (beside y body p)))) 1)
    go true = sym (once (bytes_eq x) (beside y body p))
    go false = refl
alone_is x y at ty e body p = refl

pub walked_alone : (x : List ℕ) (block rest : List Stmt) (s : Stmt) (ty : JTy) (y : List ℕ) (list : Expr) (v : Vec Stmt Global) (b : Bool) → block ≡ s ∷ rest → (out-Stmt s).node ≡ stmts.ForEach ty y list v → b ≡ (is_variable x (expression list) && not (is_among (beside y (statements v.items) (statements rest)) x)) → b ≡ walks_alone x (statements block)
walked_alone x block rest s ty y list v b is node e =
    e
    ∙ alone_is x y (out-Stmt s).span (spelled ty) (expression list) (statements v.items) (statements rest)
    ∙ ap (λ (t : Statement). walks_alone x (Then t (statements rest))) (sym (for_each_is s ty y list v node))
    ∙ ap (λ (l : List Stmt). walks_alone x (statements l)) (sym is)

pub declared_in_either : (s : Stmt) (cond : Expr) (v w : Vec Stmt Global) (o : Option (Vec Stmt Global)) (x : List ℕ) → (out-Stmt s).node ≡ stmts.If cond v o → o ≡ Some w → (is_among (all_declared_within (statements v.items)) x || is_among (all_declared_within (statements w.items)) x) ≡ is_among (declared_within (statement s)) x
declared_in_either s cond v w o x is some =
    sym (among_both (all_declared_within (statements v.items)) (all_declared_within (statements w.items)) x)
    ∙ ap (λ (t : Statement). is_among (declared_within t) x) (sym (if_else_is s cond v w o is some))
