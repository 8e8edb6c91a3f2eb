-- Blocks that end with a statement.
use Rattle.std.specs.Prelude.{List, [], ◌∷◌, ◌++◌}
use Rattle.std.proofs.Common.{◌≡◌, refl, ap, not, ◌&&◌, Bool}
use Rattle.java_ast.specs.declared.tree.Stmt.{Stmt}
use Rattle.java_ast.specs.Reading.{statement, statements}
use Rattle.java_ast.specs.Tree.{Statements, Then}
use Rattle.java_mean.specs.Rules.{is_none, returns}
use Rattle.java_calls.specs.Inlining.{without_last, last_value, returned_by}
use Rattle.call_rules.specs.Noted.{has_value, ends_well}

pub all_but_last : (xs : List Stmt) (s : Stmt) → without_last (statements (xs ++ s ∷ [])) ≡ statements xs
all_but_last [] s = refl
all_but_last (x ∷ []) s = refl
all_but_last (x ∷ y ∷ xs) s = ap (Then (statement x)) (all_but_last (y ∷ xs) s)

pub last_is : (xs : List Stmt) (s : Stmt) → last_value (statements (xs ++ s ∷ [])) ≡ returned_by (statement s)
last_is [] s = refl
last_is (x ∷ []) s = refl
last_is (x ∷ y ∷ xs) s = last_is (y ∷ xs) s

pub ends_with : (xs : List Stmt) (s : Stmt) → ends_well (statements (xs ++ s ∷ [])) ≡ (has_value (statement s) && not (returns (statements xs)))
ends_with xs s = rw (all_but_last xs s, last_is xs s) refl

pub ruleset ends = (ends_with, all_but_last, last_is)
