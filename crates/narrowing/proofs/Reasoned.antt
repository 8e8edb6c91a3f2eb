-- Why for-eachs stay.
use Rattle.std.specs.Prelude.{ℕ, zero, suc, Bool, true, false, ◌&&◌, ◌||◌, List, [], ◌∷◌, Some, None, Vec, if◌then◌else◌}
use Rattle.std.proofs.Common.{◌≡◌, ◌-◌, ◌<◌, length, refl, sym, ap, ◌∙◌, arith}
use Rattle.std.specs.declared.alloc.Global.{Global}
use Rattle.qbs_base.specs.declared.span.Span.{Span}
use Rattle.java_ast.specs.declared.tree.JTy.{JTy}
use Rattle.java_ast.specs.declared.tree.Expr.{Expr}
use Rattle.java_ast.specs.declared.tree.Stmt.{Stmt, out-Stmt}
use Rattle.java_ast.specs.declared.tree.StmtNode as stmts
use Rattle.java_ast.specs.Path.{behind_of, last_of}
use Rattle.java_ast.specs.Reading.{spelled, expression, statement, node_statement, statements}
use Rattle.java_ast.specs.Tree.{Spelled, Expression, Declare, If, ForEach, Statement, Statements, Nothing, Then, PlainProgram}
use Rattle.java_ast.proofs.Nodes.{for_each_is}
use Rattle.spreads.specs.Alone.{walks_alone}
use Rattle.spreads.specs.Narrowed.{outer_block_at}
use Rattle.narrowing.specs.declared.walk.Reason.{Reason}
use Rattle.narrowing.specs.declared.walk.Reason.TheVariants as reasons
use Rattle.narrowing.specs.Reasons.{is_fetch, declares_fetch, is_declared_before, reason_of_body, reason_of, reason_in, reason_at}

-- ---- Declared before

neither : (b : Bool) → (b && false) ≡ false
neither true = refl
neither false = refl

declares_for : (at : Span) (ty : Spelled) (v : List ℕ) (value : Expression) (p : Statements) → (is_fetch value && walks_alone v p) ≡ declares_fetch (Then (Declare at ty v value) p)
declares_for at ty v value (Then (ForEach at' ty' x e body) p) = refl
declares_for at ty v value p = neither (is_fetch value)

pub fetch_declared : (block rest : List Stmt) (s : Stmt) (ty : JTy) (v : List ℕ) (value : Expr) (b : Bool) → block ≡ s ∷ rest → (out-Stmt s).node ≡ stmts.Declare ty v value → b ≡ (is_fetch (expression value) && walks_alone v (statements rest)) → b ≡ declares_fetch (statements block)
fetch_declared block rest s ty v value b is node e =
    e
    ∙ declares_for (out-Stmt s).span (spelled ty) v (expression value) (statements rest)
    ∙ ap (λ n. declares_fetch (Then (node_statement n (out-Stmt s).span) (statements rest))) (sym node)
    ∙ ap (λ (l : List Stmt). declares_fetch (statements l)) (sym is)

pub none_before : (n : ℕ) (block : Statements) → n ≡ 0 → false ≡ is_declared_before n block
none_before zero block e = refl
none_before (suc n) block e = absurd (omega arith)

pub one_before : (n : ℕ) (block rest : Statements) (b : Bool) → 0 < n → rest ≡ behind_of (n - 1) block → b ≡ declares_fetch rest → b ≡ is_declared_before n block
one_before zero block rest b above is e = absurd (omega arith)
one_before (suc n) block rest b above is e =
    let k : suc n - 1 ≡ n = omega arith in
    e ∙ ap declares_fetch (is ∙ ap (λ (m : ℕ). behind_of m block) k)

-- ---- The body

pub more_than_one : (s t : Statement) (p : Statements) → reasons.Body ≡ reason_of_body (Then s (Then t p))
more_than_one (If at c a) t p = refl
more_than_one s t p = refl

pub of_more : (body behind rest : List Stmt) (s t : Stmt) → body ≡ s ∷ behind → behind ≡ t ∷ rest → reasons.Body ≡ reason_of_body (statements body)
of_more body behind rest s t is is_behind =
    more_than_one (statement s) (statement t) (statements rest)
    ∙ ap (λ (l : List Stmt). reason_of_body (Then (statement s) (statements l))) (sym is_behind)
    ∙ ap (λ (l : List Stmt). reason_of_body (statements l)) (sym is)

pub of_one : (body behind : List Stmt) (s : Stmt) (r : Reason) → body ≡ s ∷ behind → length behind ≡ 0 → r ≡ reason_of_body (Then (statement s) Nothing) → r ≡ reason_of_body (statements body)
of_one body [] s r is none e = e ∙ ap (λ (l : List Stmt). reason_of_body (statements l)) (sym is)
of_one body (t ∷ behind) s r is none e = absurd (omega arith)

-- ---- The for-each

pub for_each_reason : (declared : Bool) (block rest : List Stmt) (s : Stmt) (ty : JTy) (x : List ℕ) (list : Expr) (v : Vec Stmt Global) (r : Reason) → block ≡ s ∷ rest → (out-Stmt s).node ≡ stmts.ForEach ty x list v → r ≡ (if is_fetch (expression list) || declared then reason_of_body (statements v.items) else reasons.List) → r ≡ reason_of declared (statements block)
for_each_reason declared block rest s ty x list v r is node e =
    e
    ∙ ap (λ (t : Statement). reason_of declared (Then t (statements rest))) (sym (for_each_is s ty x list v node))
    ∙ ap (λ (l : List Stmt). reason_of declared (statements l)) (sym is)

pub reason_inside : (path : List ℕ) (p : PlainProgram) → None ≡ outer_block_at path p → reasons.Inside ≡ reason_at path p
reason_inside path p e = ap (reason_in (last_of path)) e

pub reason_there : (path : List ℕ) (p : PlainProgram) (block rest : Statements) (n : ℕ) (declared : Bool) (r : Reason) → Some block ≡ outer_block_at path p → n ≡ last_of path → declared ≡ is_declared_before n block → rest ≡ behind_of n block → r ≡ reason_of declared rest → r ≡ reason_at path p
reason_there path p block rest n declared r there is is_declared is_rest e =
    e
    ∙ ap (reason_of declared) is_rest
    ∙ ap (λ (d : Bool). reason_of d (behind_of n block)) is_declared
    ∙ ap (λ (n : ℕ). reason_in n (Some block)) is
    ∙ ap (reason_in (last_of path)) there
