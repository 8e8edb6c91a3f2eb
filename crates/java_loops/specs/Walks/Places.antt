-- Where in a block a run and its loop stand, by the path that leads to the loop.
use Rattle.std.specs.Prelude.{ℕ, suc, List, [], ◌∷◌, ◌==◌, if◌then◌else◌}
use Rattle.std.specs.declared.option.Option.{Option}
use Rattle.std.specs.declared.option.Option.TheVariants.{Some, None}
use Rattle.java_ast.specs.Path.{numbered, branch_of, first_of, behind_of}
use Rattle.java_ast.specs.Tree.{Statement, If, IfElse, ForEach, While, Statements, Nothing, Then}
use Rattle.java_mean.specs.Refines.{Hole, Here, Past, InIf, InThen, InElse, InEach, InWhile}

-- the place behind these statements
abbrev pub past : Statements → Hole → Hole
past Nothing h = h
past (Then a p) h = Past a (past p h)

-- the place in a branch of a statement, before the rest of the block
abbrev pub inside : ℕ → Option Statement → (Statements → Hole) → Statements → Hole
inside b (Some (If at c p)) f rest = InIf at c (f p) rest
inside b (Some (IfElse at c p q)) f rest = if b == 0 then InThen at c (f p) q rest else InElse at c p (f q) rest
inside b (Some (ForEach at ty x e p)) f rest = InEach at ty x e (f p) rest
inside b (Some (While at c p)) f rest = InWhile at c (f p) rest
inside b _ f rest = Here rest

-- The place of the statements from the number first to the one that a path leads to behind the number n of a
-- statement of this block.
abbrev pub place_in : List ℕ → ℕ → ℕ → Statements → Hole
place_in [] n first block = past (first_of first block) (Here (behind_of (suc n) block))
place_in (b ∷ []) n first block = Here block
place_in (b ∷ m ∷ path) n first block = past (first_of n block) (inside b (numbered n block) (place_in path m first) (behind_of (suc n) block))

abbrev pub of_branch : (Statements → Statements) → Option Statements → Statements
of_branch f (Some p) = f p
of_branch f None = Nothing

abbrev pub branch_there : ℕ → Option Statement → Option Statements
branch_there b (Some s) = branch_of b s
branch_there b None = None

-- the statements from the number first to the one before that to which the path leads
abbrev pub run_in : List ℕ → ℕ → ℕ → Statements → Statements
run_in [] n first block = behind_of first (first_of n block)
run_in (b ∷ []) n first block = Nothing
run_in (b ∷ m ∷ path) n first block = of_branch (run_in path m first) (branch_there b (numbered n block))
