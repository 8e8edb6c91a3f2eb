-- Statements one behind another, and how many they are.
use Rattle.std.proofs.Common.{◌≡◌, ℕ, ◌+◌, List, [], ◌∷◌, ◌++◌, refl, sym, ap, arith}
use Rattle.java_ast.specs.declared.tree.Stmt.{Stmt}
use Rattle.java_ast.specs.Reading.{statement, statements}
use Rattle.java_ast.specs.Tree.{Statements, Nothing, Then, PlainMethod}
use Rattle.java_mean.specs.Refines.{followed_by}
use Rattle.java_calls.specs.Rules.{size_of, total_of, sum_of}

pub followed_assoc : (a b c : Statements) → followed_by (followed_by a b) c ≡ followed_by a (followed_by b c)
followed_assoc Nothing b c = refl
followed_assoc (Then s a) b c = ap (Then s) (followed_assoc a b c)

pub followed_nothing : (a : Statements) → followed_by a Nothing ≡ a
followed_nothing Nothing = refl
followed_nothing (Then s a) = ap (Then s) (followed_nothing a)

plus_assoc : (a b c d : ℕ) → d ≡ b + c → a + d ≡ a + b + c
plus_assoc a b c d h = omega arith

pub total_followed : (a b : Statements) → total_of (followed_by a b) ≡ total_of a + total_of b
total_followed Nothing b = let z : 0 + total_of b ≡ total_of b = omega arith in sym z
total_followed (Then s a) b = plus_assoc (size_of s) (total_of a) (total_of b) (total_of (followed_by a b)) (total_followed a b)

pub sum_appended : (xs ys : List PlainMethod) → sum_of (xs ++ ys) ≡ sum_of xs + sum_of ys
sum_appended [] ys = let z : 0 + sum_of ys ≡ sum_of ys = omega arith in sym z
sum_appended (m ∷ xs) ys = plus_assoc (total_of m.body) (sum_of xs) (sum_of ys) (sum_of (xs ++ ys)) (sum_appended xs ys)

pub statements_behind : (xs ys : List Stmt) → statements (xs ++ ys) ≡ followed_by (statements xs) (statements ys)
statements_behind [] ys = refl
statements_behind (x ∷ xs) ys = ap (Then (statement x)) (statements_behind xs ys)
