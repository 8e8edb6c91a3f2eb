-- One pushed statement.
use Rattle.std.proofs.Common.{◌≡◌, List, [], ◌∷◌, ◌++◌, ap, ◌∙◌, subst}
use Rattle.java_ast.specs.declared.tree.Stmt.{Stmt}
use Rattle.java_ast.specs.Reading.{statement, statements}
use Rattle.java_ast.specs.Tree.{Statement, Statements, Nothing, Then}
use Rattle.java_mean.specs.Refines.{followed_by}
use Rattle.inlining.specs.declared.counts.Counts.{Counts}
use Rattle.inlining.specs.declared.counts.Walked.{Walked}
use Rattle.inlining.specs.declared.counts.Walked.TheVariants as answers
use Rattle.inlining.specs.Walked.{IsOne, IsSpent}
use Rattle.inlining.proofs.Totals.{statements_behind}

-- what is pushed behind others
pub pushed_behind : (xs ys : List Stmt) (s : Stmt) (t : Statement) → ys ≡ xs ++ s ∷ [] → statement s ≡ t → statements ys ≡ followed_by (statements xs) (Then t Nothing)
pushed_behind xs ys s t is same = ap statements is ∙ statements_behind xs (s ∷ []) ∙ ap (λ (x : Statement). followed_by (statements xs) (Then x Nothing)) same

pub one_by : (old new : Counts) (xs ys : List Stmt) (s : Stmt) (t : Statement) → ys ≡ xs ++ s ∷ [] → statement s ≡ t → IsSpent answers.Pushed old new → IsOne answers.Pushed t old new (statements xs) (statements ys)
one_by old new xs ys s t is same spent = (pushed_behind xs ys s t is same, spent.0, spent.1)

pub one_as : (w : Walked) (s t : Statement) (old new : Counts) (before after : Statements) → s ≡ t → IsOne w s old new before after → IsOne w t old new before after
one_as w s t old new before after same h = subst (λ (x : Statement). IsOne w x old new before after) same h
