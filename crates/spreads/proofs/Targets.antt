-- Names that are put one behind the other, and the blocks of statements that put theirs.
use Rattle.std.specs.Prelude.{ℕ, List, [], ◌∷◌, ◌++◌, Vec, Option, Some}
use Rattle.std.proofs.Common.{◌≡◌, refl, sym, ap, ◌∙◌}
use Rattle.std.specs.declared.alloc.Global.{Global}
use Rattle.java_ast.specs.declared.tree.Expr.{Expr}
use Rattle.java_ast.specs.declared.tree.JTy.{JTy}
use Rattle.java_ast.specs.declared.tree.Stmt.{Stmt, out-Stmt}
use Rattle.java_ast.specs.declared.tree.StmtNode.{If, ForEach}
use Rattle.java_ast.specs.Names.{Names, with_name, with_names}
use Rattle.java_ast.specs.Reading.{statement, statements}
use Rattle.java_ast.specs.Tree.{Statement}
use Rattle.java_ast.proofs.Nodes.{if_else_is, for_each_is}
use Rattle.spreads.specs.Staying.{assigned_in, assigned_among}

names_append : (t xs ys : Names) → with_names t (xs ++ ys) ≡ with_names (with_names t xs) ys
names_append t [] ys = refl
names_append t (x ∷ xs) ys = names_append (with_name t x) xs ys

pub two : (xs ys old middle new : Names) → middle ≡ with_names old xs → new ≡ with_names middle ys → new ≡ with_names old (xs ++ ys)
two xs ys old middle new e h = h ∙ ap (λ (t : Names). with_names t ys) e ∙ sym (names_append old xs ys)

-- the targets of one statement are put, and those of the rest are left
pub one_listed : (xs ys t next whole : Names) → next ≡ with_names t xs → with_names t (xs ++ ys) ≡ whole → with_names next ys ≡ whole
one_listed xs ys t next whole e h = ap (λ (t : Names). with_names t ys) e ∙ sym (names_append t xs ys) ∙ h

pub if_else_put : (s : Stmt) (cond : Expr) (v w : Vec Stmt Global) (o : Option (Vec Stmt Global)) (list others : List Stmt) (old middle new : Names) → (out-Stmt s).node ≡ If cond v o → o ≡ Some w → list ≡ v.items → others ≡ w.items
    → middle ≡ with_names old (assigned_among (statements list)) → new ≡ with_names middle (assigned_among (statements others)) → new ≡ with_names old (assigned_in (statement s))
if_else_put s cond v w o list others old middle new is some lent lent' first h =
    two (assigned_among (statements v.items)) (assigned_among (statements w.items)) old middle new
    (first ∙ ap (λ (l : List Stmt). with_names old (assigned_among (statements l))) lent) (h ∙ ap (λ (l : List Stmt). with_names middle (assigned_among (statements l))) lent')
    ∙ ap (λ (x : Statement). with_names old (assigned_in x)) (sym (if_else_is s cond v w o is some))

pub for_each_put : (s : Stmt) (ty : JTy) (name : List ℕ) (e : Expr) (v : Vec Stmt Global) (list : List Stmt) (old new : Names) → (out-Stmt s).node ≡ ForEach ty name e v → list ≡ v.items
    → new ≡ with_names old (assigned_among (statements list)) → new ≡ with_names old (assigned_in (statement s))
for_each_put s ty name e v list old new is lent h =
    h ∙ ap (λ (l : List Stmt). with_names old (assigned_among (statements l))) lent ∙ ap (λ (x : Statement). with_names old (assigned_in x)) (sym (for_each_is s ty name e v is))

pub ruleset joined = (two)
