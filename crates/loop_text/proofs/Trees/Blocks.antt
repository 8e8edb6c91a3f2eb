-- Blocks that end with a statement.
use Rattle.std.specs.Prelude.{ℕ, List, [], ◌∷◌, ◌++◌, Some}
use Rattle.std.proofs.Common.{◌≡◌, refl, ap}
use Rattle.java_ast.specs.declared.tree.Stmt.{Stmt}
use Rattle.java_ast.specs.Reading.{statement, statements}
use Rattle.java_ast.specs.Tree.{Statement, Then}
use Rattle.loop_text.specs.Kernel.KernelLoop.{ends, goes_on}
use Rattle.loop_text.specs.Kernel.Counting.{Counting}
use Rattle.loop_text.specs.Sites.Sites.{without_last, before_last, innermost}

pub ends_with : (k : Counting) (xs : List Stmt) (s : Stmt) → ends k (statements (xs ++ s ∷ [])) ≡ goes_on k (statement s)
ends_with k [] s = refl
ends_with k (x ∷ []) s = refl
ends_with k (x ∷ y ∷ xs) s = ends_with k (y ∷ xs) s

before_end : (x : Statement) (xs : List Stmt) (s : Stmt) → before_last x (statements (xs ++ s ∷ [])) ≡ Then x (statements xs)
before_end x [] s = refl
before_end x (y ∷ xs) s = ap (Then x) (before_end (statement y) xs s)

pub all_but_last : (xs : List Stmt) (s : Stmt) → without_last (statements (xs ++ s ∷ [])) ≡ statements xs
all_but_last [] s = refl
all_but_last (x ∷ xs) s = before_end (statement x) xs s

pub innermost_last : (ns : List ℕ) (n : ℕ) → innermost (ns ++ n ∷ []) ≡ Some n
innermost_last [] n = refl
innermost_last (m ∷ []) n = refl
innermost_last (m ∷ k ∷ ns) n = innermost_last (k ∷ ns) n

pub ruleset blocks = (ends_with, all_but_last)
