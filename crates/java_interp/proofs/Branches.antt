-- Statements that hold others, by what they choose.
use Rattle.std.proofs.Common.{◌≡◌, ℕ, true, false, List, Option, Some, None, Result, Ok, Err, refl, sym, ap, ◌∙◌}
use Rattle.std.specs.Prelude.{Vec}
use Rattle.std.specs.declared.alloc.Global.{Global}
use Rattle.qbs_base.specs.declared.scalar.Row.{Row}
use Rattle.java_ast.specs.declared.tree.Expr.{Expr}
use Rattle.java_ast.specs.declared.tree.JTy.{JTy}
use Rattle.java_ast.specs.declared.tree.Stmt.{Stmt, out-Stmt}
use Rattle.java_ast.specs.declared.tree.StmtNode as stmts
use Rattle.java_ast.specs.Reading.{expression, statement, statements}
use Rattle.java_ast.proofs.Nodes.{if_is, if_else_is, for_each_is}
use Rattle.java_mean.specs.declared.ending.Ending.{Ending}
use Rattle.java_mean.specs.Endings.{◌>>=◌}
use Rattle.qbs_base.specs.declared.scalar.Value.{Value}
use Rattle.java_mean.specs.Expression.{value_of, as_rows}
use Rattle.java_mean.specs.Statement.{State, Passed, each, test_of, meaning, meanings}
use Rattle.java_mean.specs.World.{World}
use Rattle.java_interp.specs.declared.way.Way.{Way}
use Rattle.java_interp.specs.Passing.{Passes}
use Rattle.java_steps.specs.declared.machine.Machine.{Machine}
use Rattle.java_steps.specs.declared.stop.Stop.{Stop}
use Rattle.java_steps.specs.Words.{rows_given}
use Rattle.java_steps.proofs.Stopped.{stops_same}

pub passes_same : (r : Result Way Stop) (m : Machine) (run other : Result Passed Ending) → other ≡ run → Passes r m run → Passes r m other
passes_same (Ok way) m run other e h = e ∙ h
passes_same (Err stop) m run other e h = stops_same stop other run e h

-- a condition that is true
chosen : (s : Stmt) (cond : Expr) (v : Vec Stmt Global) (o : Option (Vec Stmt Global)) (w : World) (st : State) → (out-Stmt s).node ≡ stmts.If cond v o → test_of (expression cond) w st.store ≡ Ok true → meaning (statement s) w st ≡ meanings (statements v.items) w st
chosen s cond v None w st is t = ap (λ a. meaning a w st) (if_is s cond v None is refl) ∙ rw t refl
chosen s cond v (Some u) w st is t = ap (λ a. meaning a w st) (if_else_is s cond v u (Some u) is refl) ∙ rw t refl

pub if_true : (s : Stmt) (cond : Expr) (v : Vec Stmt Global) (o : Option (Vec Stmt Global)) (lent : List Stmt) (w : World) (st : State) (r : Result Way Stop) (m : Machine) → (out-Stmt s).node ≡ stmts.If cond v o → lent ≡ v.items → test_of (expression cond) w st.store ≡ Ok true → Passes r m (meanings (statements lent) w st) → Passes r m (meaning (statement s) w st)
if_true s cond v o lent w st r m is l t h =
    passes_same r m (meanings (statements lent) w st) (meaning (statement s) w st) (chosen s cond v o w st is t ∙ ap (λ (b : List Stmt). meanings (statements b) w st) (sym l)) h

-- a condition that is false, with another branch
pub if_false : (s : Stmt) (cond : Expr) (v u : Vec Stmt Global) (o : Option (Vec Stmt Global)) (lent : List Stmt) (w : World) (st : State) (r : Result Way Stop) (m : Machine) → (out-Stmt s).node ≡ stmts.If cond v o → o ≡ Some u → lent ≡ u.items → test_of (expression cond) w st.store ≡ Ok false → Passes r m (meanings (statements lent) w st) → Passes r m (meaning (statement s) w st)
if_false s cond v u o lent w st r m is some l t h =
    passes_same r m (meanings (statements lent) w st) (meaning (statement s) w st)
    (ap (λ a. meaning a w st) (if_else_is s cond v u o is some) ∙ rw t (ap (λ (b : List Stmt). meanings (statements b) w st) (sym l))) h

-- a loop over the rows that an expression gives
pub for_each_over : (s : Stmt) (ty : JTy) (name : List ℕ) (list : Expr) (v : Vec Stmt Global) (lent : List Stmt) (rows : List Row) (w : World) (st : State) (r : Result Way Stop) (m : Machine) → (out-Stmt s).node ≡ stmts.ForEach ty name list v → lent ≡ v.items → rows_given (expression list) w st.store ≡ Ok rows → Passes r m (each rows name (meanings (statements lent) w) st) → Passes r m (meaning (statement s) w st)
for_each_over s ty name list v lent rows w st r m is l given h =
    passes_same r m (each rows name (meanings (statements lent) w) st) (meaning (statement s) w st)
    (ap (λ a. meaning a w st) (for_each_is s ty name list v is)
    ∙ over (value_of (expression list) w st.store) given
    ∙ ap (λ (b : List Stmt). each rows name (meanings (statements b) w) st) (sym l)) h
  where
    over : (q : Result Value Ending) → (q >>= λ u. as_rows u) ≡ Ok rows → (q >>= λ u. as_rows u >>= λ rs. each rs name (meanings (statements v.items) w) st) ≡ each rows name (meanings (statements v.items) w) st
    over (Ok u) e = ap (λ (p : Result (List Row) Ending). p >>= λ rs. each rs name (meanings (statements v.items) w) st) e
    over (Err f) e = absurd cc
