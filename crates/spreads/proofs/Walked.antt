-- The spread of a for-each, by the names that are assigned in it.
use Rattle.std.specs.Prelude.{ℕ, Bool, true, false, not, List, Vec, if◌then◌else◌, nat_eq}
use Rattle.std.specs.declared.alloc.Global.{Global}
use Rattle.std.specs.declared.option.Option.{Option}
use Rattle.std.specs.declared.option.Option.TheVariants.{Some, None}
use Rattle.std.proofs.Common.{◌≡◌, refl, sym, ap, ◌∙◌}
use Rattle.qbs_base.specs.declared.span.Span.{Span}
use Rattle.qbs_base.specs.Values.{Schema}
use Rattle.java_ast.specs.declared.tree.Expr.{Expr}
use Rattle.java_ast.specs.declared.tree.JTy.{JTy}
use Rattle.java_ast.specs.declared.tree.Stmt.{Stmt, out-Stmt}
use Rattle.java_ast.specs.declared.tree.StmtNode as stmts
use Rattle.java_ast.specs.Names.{Names}
use Rattle.java_ast.specs.Reading.{spelled, expression, statement, statements}
use Rattle.java_ast.specs.Tree.{Spelled, Expression, Statement, ForEach, Statements}
use Rattle.java_ast.proofs.Nodes.{for_each_is}
use Rattle.spreads.specs.Inner.{have_select}
use Rattle.spreads.specs.Spread.{Reads, spread_among, selects_among, spread_of}
use Rattle.spreads.specs.Staying.{assigned_among}
use Rattle.spreads.proofs.Members.{Same, same_among, same_number}

abbrev none_if : Bool → Statement → Option Statement
none_if b s = if b then None else Some s

abbrev spread_if : Bool → Statement → Option Statement
spread_if b s = if b then Some s else None

by_test : (b c : Bool) (s : Statement) → not b ≡ c → none_if b s ≡ spread_if c s
by_test true true s h = absurd cc
by_test true false s h = refl
by_test false true s h = refl
by_test false false s h = absurd cc

is_spread : (schema : Schema) (read : Reads) (A : Names) (at : Span) (ty : Spelled) (x : List ℕ) (e : Expression) (body : Statements) (c : Bool) → Same A (assigned_among body) → have_select schema read A body ≡ c
    → spread_of schema read (ForEach at ty x e body) ≡ spread_if c (ForEach at ty x e (spread_among schema read A None body))
is_spread schema read A at ty x e body c same h =
    ap (λ (n : ℕ). none_if (nat_eq n 0) (ForEach at ty x e (spread_among schema read (assigned_among body) None body))) (sym (same_number schema read A (assigned_among body) same None body))
    ∙ ap (λ (p : Statements). none_if (nat_eq (selects_among schema read A None body) 0) (ForEach at ty x e p)) (sym (same_among schema read A (assigned_among body) same None body))
    ∙ by_test (nat_eq (selects_among schema read A None body) 0) c (ForEach at ty x e (spread_among schema read A None body)) h

pub not_spread : (schema : Schema) (read : Reads) (A : Names) (at : Span) (ty : Spelled) (x : List ℕ) (e : Expression) (body : Statements) → Same A (assigned_among body) → have_select schema read A body ≡ false
    → None ≡ spread_of schema read (ForEach at ty x e body)
not_spread schema read A at ty x e body same h = sym (is_spread schema read A at ty x e body false same h)

pub spread : (schema : Schema) (read : Reads) (A : Names) (at : Span) (ty : Spelled) (x : List ℕ) (e : Expression) (body : Statements) (s : Statement) → Same A (assigned_among body) → have_select schema read A body ≡ true
    → s ≡ ForEach at ty x e (spread_among schema read A None body)
    → Some s ≡ spread_of schema read (ForEach at ty x e body)
spread schema read A at ty x e body s same h is = ap (λ (t : Statement). Some t) is ∙ sym (is_spread schema read A at ty x e body true same h)

pub spread_of_code : (schema : Schema) (read : Reads) (s : Stmt) (ty : JTy) (name : List ℕ) (list : Expr) (v : Vec Stmt Global) (ss : List Stmt) (o : Option Statement) → (out-Stmt s).node ≡ stmts.ForEach ty name list v → ss ≡ v.items
    → o ≡ spread_of schema read (ForEach (out-Stmt s).span (spelled ty) name (expression list) (statements ss)) → o ≡ spread_of schema read (statement s)
spread_of_code schema read s ty name list v ss o is lent e =
    e
    ∙ ap (λ (l : List Stmt). spread_of schema read (ForEach (out-Stmt s).span (spelled ty) name (expression list) (statements l))) lent
    ∙ ap (spread_of schema read) (sym (for_each_is s ty name list v is))
