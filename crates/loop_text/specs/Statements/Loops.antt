-- The loops of a program, each by its path.
use Rattle.std.specs.Prelude.{ℕ, suc, Bool, true, false, List, [], ◌∷◌, ◌++◌}
use Rattle.java_ast.specs.Tree.{Declare, Assign, Add, Sort, If, IfElse, ForEach, While, Print, Return, Break, Statement, Statements, Nothing, Then, PlainMethod, PlainProgram}

abbrev pub is_loop : Statement → Bool
is_loop (ForEach at ty x e b) = true
is_loop (While at c b) = true
is_loop _ = false

-- The loops of a statement that a path leads to, and of the statements behind the number n of a block
-- that a path and a branch lead to. A loop comes before those inside it.
abbrev mutual
  pub loops_in : List ℕ → Statement → List (List ℕ)
  loops_in path (Declare at ty x e) = []
  loops_in path (Assign at x e) = []
  loops_in path (Add at x e) = []
  loops_in path (Sort at x keys downs) = []
  loops_in path (If at c a) = loops_among (path ++ 0 ∷ []) 0 a
  loops_in path (IfElse at c a b) = loops_among (path ++ 0 ∷ []) 0 a ++ loops_among (path ++ 1 ∷ []) 0 b
  loops_in path (ForEach at ty x e b) = path ∷ loops_among (path ++ 0 ∷ []) 0 b
  loops_in path (While at c b) = path ∷ loops_among (path ++ 0 ∷ []) 0 b
  loops_in path (Print at e) = []
  loops_in path (Return at e) = []
  loops_in path (Break at) = []

  pub loops_among : List ℕ → ℕ → Statements → List (List ℕ)
  loops_among path n Nothing = []
  loops_among path n (Then s ss) = loops_in (path ++ n ∷ []) s ++ loops_among path (suc n) ss

abbrev pub loops_of_methods : ℕ → List PlainMethod → List (List ℕ)
loops_of_methods n [] = []
loops_of_methods n (m ∷ ms) = loops_among (n ∷ []) 0 m.body ++ loops_of_methods (suc n) ms

-- the loops of a program in text order
abbrev pub loops_of : PlainProgram → List (List ℕ)
loops_of p = loops_of_methods 0 p.methods
