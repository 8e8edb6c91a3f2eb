-- The spread of a statement of the code that holds blocks.
use Rattle.std.specs.Prelude.{ℕ, List, Vec, Bool, ◌||◌}
use Rattle.std.specs.declared.option.Option.{Option}
use Rattle.std.specs.declared.option.Option.TheVariants.{Some, None}
use Rattle.std.proofs.Common.{◌≡◌, sym, ap, ap₂, ◌∙◌}
use Rattle.std.specs.declared.alloc.Global.{Global}
use Rattle.qbs_base.specs.Values.{Schema}
use Rattle.java_ast.specs.declared.tree.Expr.{Expr}
use Rattle.java_ast.specs.declared.tree.JTy.{JTy}
use Rattle.java_ast.specs.declared.tree.Stmt.{Stmt, out-Stmt}
use Rattle.java_ast.specs.declared.tree.StmtNode.{If, ForEach, While}
use Rattle.java_ast.specs.Names.{Names}
use Rattle.java_ast.specs.Reading.{spelled, expression, statement, statements}
use Rattle.java_ast.specs.Tree as plain
use Rattle.java_ast.specs.Tree.{Expression, Statements}
use Rattle.java_ast.proofs.Nodes.{if_is, if_else_is, for_each_is, while_is}
use Rattle.spreads.specs.Inner.{has_select, have_select}
use Rattle.spreads.specs.Spread.{Reads, select_of, is_there, value_or, walked_or, spread_in, spread_among}
use Rattle.spreads.proofs.Counted.{select_in_either, select_in_each}

module _ (schema : Schema) (read : Reads) (A : Names) where
  abbrev spread_list : List Stmt → Statements
  spread_list ss = spread_among schema read A None (statements ss)

  pub if_spread : (d : Option Expression) (s : Stmt) (cond : Expr) (v : Vec Stmt Global) (o : Option (Vec Stmt Global)) (ss : List Stmt) (first : Statements) → (out-Stmt s).node ≡ If cond v o → o ≡ None → ss ≡ v.items → first ≡ spread_list ss
      → plain.If (out-Stmt s).span (expression cond) first ≡ spread_in schema read A d (statement s)
  if_spread d s cond v o ss first is none lent e =
      ap (plain.If (out-Stmt s).span (expression cond)) (e ∙ ap spread_list lent) ∙ ap (spread_in schema read A d) (sym (if_is s cond v o is none))

  pub if_else_spread : (d : Option Expression) (s : Stmt) (cond : Expr) (v w : Vec Stmt Global) (o : Option (Vec Stmt Global)) (ss ts : List Stmt) (first other : Statements) → (out-Stmt s).node ≡ If cond v o → o ≡ Some w → ss ≡ v.items → ts ≡ w.items
      → first ≡ spread_list ss → other ≡ spread_list ts → plain.IfElse (out-Stmt s).span (expression cond) first other ≡ spread_in schema read A d (statement s)
  if_else_spread d s cond v w o ss ts first other is some lent lent' e f =
      ap₂ (plain.IfElse (out-Stmt s).span (expression cond)) (e ∙ ap spread_list lent) (f ∙ ap spread_list lent') ∙ ap (spread_in schema read A d) (sym (if_else_is s cond v w o is some))

  pub each_spread : (d : Option Expression) (s : Stmt) (ty : JTy) (name : List ℕ) (list : Expr) (v : Vec Stmt Global) (ss : List Stmt) (body : Statements) → (out-Stmt s).node ≡ ForEach ty name list v → ss ≡ v.items → body ≡ spread_list ss
      → walked_or schema (out-Stmt s).span (spelled ty) name (expression list) (select_of schema read A (value_or d (expression list))) body ≡ spread_in schema read A d (statement s)
  each_spread d s ty name list v ss body is lent e =
      ap (walked_or schema (out-Stmt s).span (spelled ty) name (expression list) (select_of schema read A (value_or d (expression list)))) (e ∙ ap spread_list lent)
      ∙ ap (spread_in schema read A d) (sym (for_each_is s ty name list v is))

  pub while_spread : (d : Option Expression) (s : Stmt) (cond : Expr) (v : Vec Stmt Global) (ss : List Stmt) (body : Statements) → (out-Stmt s).node ≡ While cond v → ss ≡ v.items → body ≡ spread_list ss
      → plain.While (out-Stmt s).span (expression cond) body ≡ spread_in schema read A d (statement s)
  while_spread d s cond v ss body is lent e = ap (plain.While (out-Stmt s).span (expression cond)) (e ∙ ap spread_list lent) ∙ ap (spread_in schema read A d) (sym (while_is s cond v is))

  -- ---- Whether there is a select

  abbrev some_of : List Stmt → Bool
  some_of ss = have_select schema read A (statements ss)

  pub either_has : (s : Stmt) (cond : Expr) (v w : Vec Stmt Global) (o : Option (Vec Stmt Global)) (ss ts : List Stmt) → (out-Stmt s).node ≡ If cond v o → o ≡ Some w → ss ≡ v.items → ts ≡ w.items
      → (some_of ss || some_of ts) ≡ has_select schema read A (statement s)
  either_has s cond v w o ss ts is some lent lent' =
      ap₂ (λ (a b : List Stmt). some_of a || some_of b) lent lent'
      ∙ sym (select_in_either schema read A (out-Stmt s).span (expression cond) (statements v.items) (statements w.items))
      ∙ ap (has_select schema read A) (sym (if_else_is s cond v w o is some))

  pub each_has : (s : Stmt) (ty : JTy) (name : List ℕ) (list : Expr) (v : Vec Stmt Global) (ss : List Stmt) → (out-Stmt s).node ≡ ForEach ty name list v → ss ≡ v.items
      → (is_there (select_of schema read A (expression list)) || some_of ss) ≡ has_select schema read A (statement s)
  each_has s ty name list v ss is lent =
      ap (λ (l : List Stmt). is_there (select_of schema read A (expression list)) || some_of l) lent
      ∙ sym (select_in_each schema read A (out-Stmt s).span (spelled ty) name (expression list) (statements v.items))
      ∙ ap (has_select schema read A) (sym (for_each_is s ty name list v is))
