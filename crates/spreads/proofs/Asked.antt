-- The select that a query of the code is, and a comparison of its operands.
use Rattle.std.specs.Prelude.{ℕ, Bool, List, Vec}
use Rattle.std.specs.declared.alloc.Global.{Global}
use Rattle.std.proofs.Common.{◌≡◌, sym, ap, ap₂, ◌∙◌}
use Rattle.qbs_base.specs.declared.span.Span.{Span}
use Rattle.qbs_base.specs.Values.{Schema}
use Rattle.sql_ast.specs.declared.tree.Cmp.{Cmp}
use Rattle.java_ast.specs.declared.tree.Expr.{Expr, out-Expr}
use Rattle.java_ast.specs.declared.tree.ExprNode.{Query}
use Rattle.java_ast.specs.declared.tree.JTy.{JTy, Table}
use Rattle.java_ast.specs.Names.{Names}
use Rattle.java_ast.specs.Reading.{spelled, expression, expressions}
use Rattle.java_ast.specs.Tree as plain
use Rattle.java_ast.specs.Tree.{Expression}
use Rattle.java_ast.proofs.Nodes.{query_is}
use Rattle.spreads.specs.Conditions.{compared_in}
use Rattle.spreads.specs.Spread.{Reads, select_of_rows, select_of}

pub asked_is : (schema : Schema) (read : Reads) (A : Names) (e : Expr) (ty : JTy) (name text : List ℕ) (v : Vec Expr Global) (es : List Expr) → (out-Expr e).node ≡ Query ty text v → ty ≡ Table name → es ≡ v.items
    → select_of_rows schema A (read text) (expressions es) ≡ select_of schema read A (expression e)
asked_is schema read A e ty name text v es is table lent =
    ap (λ (l : List Expr). select_of_rows schema A (read text) (expressions l)) lent
    ∙ ap (λ (t : JTy). select_of schema read A (plain.Query (out-Expr e).span (spelled t) text (expressions v.items))) (sym table)
    ∙ ap (select_of schema read A) (sym (query_is e ty text v is))

pub compared : (t u : Bool) (at : Span) (cmp : Cmp) (a a' b b' e : Expression) → t ≡ u → a ≡ a' → b ≡ b' → e ≡ compared_in t at cmp a b → e ≡ compared_in u at cmp a' b'
compared t u at cmp a a' b b' e p q r h = h ∙ ap (λ (v : Bool). compared_in v at cmp a b) p ∙ ap₂ (compared_in u at cmp) q r
