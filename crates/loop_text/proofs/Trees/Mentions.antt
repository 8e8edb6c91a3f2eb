-- What the first branch of an `if` mentions and updates.
use Rattle.std.specs.Prelude.{ℕ, Bool, true, false, ◌||◌, List, ◌++◌, Vec, Option, Some}
use Rattle.std.specs.declared.alloc.Global.{Global}
use Rattle.std.proofs.Common.{◌≡◌, refl, ap, ◌∙◌}
use Rattle.java_ast.specs.declared.tree.Expr.{Expr}
use Rattle.java_ast.specs.declared.tree.Stmt.{Stmt, out-Stmt}
use Rattle.java_ast.specs.declared.tree.StmtNode.{If}
use Rattle.java_ast.specs.Reading.{expression, statement, statements}
use Rattle.java_ast.specs.Tree.{Statement}
use Rattle.java_ast.specs.Names.{is_among, names_in, mentioned_in, mentioned_among, updated_in, updated_among}
use Rattle.java_ast.proofs.Among.{among_both}
use Rattle.java_ast.proofs.Nodes.{if_else_is}

or_true : (b : Bool) → (b || true) ≡ true
or_true true = refl
or_true false = refl

-- the first branch of an `if` with two mentions the name
pub in_first_branch : (s : Stmt) (cond : Expr) (v w : Vec Stmt Global) (o : Option (Vec Stmt Global)) (x : List ℕ) → (out-Stmt s).node ≡ If cond v o → o ≡ Some w → is_among (mentioned_among (statements v.items)) x ≡ true → is_among (mentioned_in (statement s)) x ≡ true
in_first_branch s cond v w o x is some h =
    ap (λ (t : Statement). is_among (mentioned_in t) x) (if_else_is s cond v w o is some)
    ∙ among_both (names_in (expression cond)) (mentioned_among (statements v.items) ++ mentioned_among (statements w.items)) x
    ∙ ap (λ (b : Bool). is_among (names_in (expression cond)) x || b)
    (among_both (mentioned_among (statements v.items)) (mentioned_among (statements w.items)) x
    ∙ ap (λ (b : Bool). b || is_among (mentioned_among (statements w.items)) x) h)
    ∙ or_true (is_among (names_in (expression cond)) x)

-- the first branch of an `if` with two updates the name
pub in_first_updated : (s : Stmt) (cond : Expr) (v w : Vec Stmt Global) (o : Option (Vec Stmt Global)) (x : List ℕ) → (out-Stmt s).node ≡ If cond v o → o ≡ Some w → is_among (updated_among (statements v.items)) x ≡ true → is_among (updated_in (statement s)) x ≡ true
in_first_updated s cond v w o x is some h =
    ap (λ (t : Statement). is_among (updated_in t) x) (if_else_is s cond v w o is some)
    ∙ among_both (updated_among (statements v.items)) (updated_among (statements w.items)) x
    ∙ ap (λ (b : Bool). b || is_among (updated_among (statements w.items)) x) h

pub ruleset mentions = (among_both, in_first_branch)
