use Rattle.std.proofs.Common.{◌≡◌, ◌++◌, drop, map}
use Rattle.java_ast.specs.declared.tree.Expr.{Expr}
use Rattle.java_ast.specs.Reading.{expression}
use Rattle.java_calls.specs.Renaming.{renamed}
use Rattle.renamed_copies.specs.Renamings.{renaming_of}
use Rattle.renamed_copies.proofs.renamed.+renamed.Given as goal

abbrev pub invariant-renamed_list-loop-e : goal.invariant-renamed_list-loop-e
invariant-renamed_list-loop-e l = map expression l.all.items ++ map (λ (e : Expr). renamed (renaming_of l.f) (expression e)) (drop l.e-index l.list) ≡ map (λ (e : Expr). renamed (renaming_of l.f) (expression e)) l.list
