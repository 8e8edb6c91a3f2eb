-- Blocks of which a part is looked at, and statements with another branch.
use Rattle.std.specs.Prelude.{ℕ, zero, suc, List, [], ◌∷◌, Vec, Option, Some, None, Bool, ◌==◌}
use Rattle.std.proofs.Common.{◌≡◌, refl, sym, ap, ◌∙◌, cond, take, drop}
use Rattle.std.specs.declared.alloc.Global.{Global}
use Rattle.java_ast.specs.declared.tree.JTy.{JTy}
use Rattle.java_ast.specs.declared.tree.Expr.{Expr}
use Rattle.java_ast.specs.declared.tree.Stmt.{Stmt, out-Stmt}
use Rattle.java_ast.specs.declared.tree.StmtNode.{If, ForEach, While}
use Rattle.java_ast.specs.Reading.{spelled, expression, statement, statements}
use Rattle.java_ast.specs.Tree as plain
use Rattle.java_ast.specs.Tree.{Statement, Statements, Nothing, Then}
use Rattle.java_ast.specs.Path.{numbered, first_of, behind_of, with_numbered, with_branch, replaced_in}
use Rattle.java_ast.proofs.Nodes.{if_is, if_else_is, for_each_is, while_is}

pub front_is : (n : ℕ) (block : List Stmt) → statements (take n block) ≡ first_of n (statements block)
front_is zero block = refl
front_is (suc n) [] = refl
front_is (suc n) (s ∷ block) = ap (Then (statement s)) (front_is n block)

pub back_is : (n : ℕ) (block : List Stmt) → statements (drop n block) ≡ behind_of n (statements block)
back_is zero block = refl
back_is (suc n) [] = refl
back_is (suc n) (s ∷ block) = back_is n block

with_none : (n : ℕ) (change : Statement → Statement) (block : Statements) → None ≡ numbered n block → with_numbered n change block ≡ block
with_none n change Nothing e = refl
with_none zero change (Then t block) e = absurd cc
with_none (suc n) change (Then t block) e = ap (Then t) (with_none n change block e)

pub not_placed : (path below rest : List ℕ) (at further n first : ℕ) (others block : Statements) → path ≡ at ∷ below → below ≡ further ∷ rest → None ≡ numbered n block → block ≡ replaced_in path n first others block
not_placed path below rest at further n first others block is is_below found =
    sym (with_none n (with_branch at (replaced_in rest further first others)) block found)
    ∙ ap (λ (p : List ℕ). replaced_in p n first others block) (sym (is ∙ ap (λ (p : List ℕ). at ∷ p) is_below))

-- ---- branches

abbrev chosen : Bool → (Statements → Statements) → List Stmt → Statements
chosen b change ss = cond b (change (statements ss)) (statements ss)

pub if_with : (s r : Stmt) (cond : Expr) (v v' : Vec Stmt Global) (o : Option (Vec Stmt Global)) (ss : List Stmt) (b : ℕ) (change : Statements → Statements) → (out-Stmt s).node ≡ If cond v o → o ≡ None → ss ≡ v.items → statement r ≡ plain.If (out-Stmt s).span (expression cond) (statements v'.items) → statements v'.items ≡ chosen (b == 0) change ss → statement r ≡ with_branch b change (statement s)
if_with s r cond v v' o ss b change is is_none lent built hss =
    built
    ∙ ap (plain.If (out-Stmt s).span (expression cond)) (hss ∙ ap (chosen (b == 0) change) lent)
    ∙ ap (with_branch b change) (sym (if_is s cond v o is is_none))

pub if_else_with : (s r : Stmt) (cond : Expr) (v v' w w' : Vec Stmt Global) (o : Option (Vec Stmt Global)) (ss ts : List Stmt) (b : ℕ) (change : Statements → Statements) → (out-Stmt s).node ≡ If cond v o → o ≡ Some w → ss ≡ v.items → ts ≡ w.items → statement r ≡ plain.IfElse (out-Stmt s).span (expression cond) (statements v'.items) (statements w'.items) → statements v'.items ≡ chosen (b == 0) change ss → statements w'.items ≡ chosen (b == 1) change ts → statement r ≡ with_branch b change (statement s)
if_else_with s r cond v v' w w' o ss ts b change is some lent lent' built hss hts =
    built
    ∙ ap (λ (x : Statements). plain.IfElse (out-Stmt s).span (expression cond) x (statements w'.items)) (hss ∙ ap (chosen (b == 0) change) lent)
    ∙ ap (plain.IfElse (out-Stmt s).span (expression cond) (chosen (b == 0) change v.items)) (hts ∙ ap (chosen (b == 1) change) lent')
    ∙ ap (with_branch b change) (sym (if_else_is s cond v w o is some))

pub for_each_with : (s r : Stmt) (ty : JTy) (name : List ℕ) (list : Expr) (v v' : Vec Stmt Global) (ss : List Stmt) (b : ℕ) (change : Statements → Statements) → (out-Stmt s).node ≡ ForEach ty name list v → ss ≡ v.items → statement r ≡ plain.ForEach (out-Stmt s).span (spelled ty) name (expression list) (statements v'.items) → statements v'.items ≡ chosen (b == 0) change ss → statement r ≡ with_branch b change (statement s)
for_each_with s r ty name list v v' ss b change is lent built hss =
    built
    ∙ ap (plain.ForEach (out-Stmt s).span (spelled ty) name (expression list)) (hss ∙ ap (chosen (b == 0) change) lent)
    ∙ ap (with_branch b change) (sym (for_each_is s ty name list v is))

pub while_with : (s r : Stmt) (cond : Expr) (v v' : Vec Stmt Global) (ss : List Stmt) (b : ℕ) (change : Statements → Statements) → (out-Stmt s).node ≡ While cond v → ss ≡ v.items → statement r ≡ plain.While (out-Stmt s).span (expression cond) (statements v'.items) → statements v'.items ≡ chosen (b == 0) change ss → statement r ≡ with_branch b change (statement s)
while_with s r cond v v' ss b change is lent built hss =
    built
    ∙ ap (plain.While (out-Stmt s).span (expression cond)) (hss ∙ ap (chosen (b == 0) change) lent)
    ∙ ap (with_branch b change) (sym (while_is s cond v is))
