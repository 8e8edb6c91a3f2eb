-- Expressions that are lent.
use Rattle.std.specs.Prelude.{List, map}
use Rattle.std.specs.Borrow.{Bor}
use Rattle.java_ast.specs.declared.tree.Expr.{Expr}
use Rattle.java_ast.specs.Tree.{Expression}
use Rattle.java_ast.specs.Reading.{expression}

abbrev pub expressions_lent : List (Bor Expr) → List Expression
expressions_lent es = map (λ e. expression e.now) es
