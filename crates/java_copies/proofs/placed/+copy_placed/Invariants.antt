use Rattle.std.proofs.Common.{◌≡◌, ◌++◌, drop, map}
use Rattle.java_ast.specs.declared.tree.Expr.{Expr}
use Rattle.java_ast.specs.Reading.{expression}
use Rattle.java_ast.specs.Placed.{placed}
use Rattle.java_copies.proofs.placed.+copy_placed.Given as goal

abbrev pub invariant-placed_list-loop-e : goal.invariant-placed_list-loop-e
invariant-placed_list-loop-e l = map expression l.all.items ++ map (λ (e : Expr). placed l.at (expression e)) (drop l.e-index l.list) ≡ map (λ (e : Expr). placed l.at (expression e)) l.list
