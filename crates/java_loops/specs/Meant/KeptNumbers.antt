-- The numbers of the statements of a run that a rewrite keeps, as a function.
use Rattle.std.specs.Prelude.{ℕ, suc, List, [], ◌∷◌, if◌then◌else◌}
use Rattle.java_ast.specs.Tree.{Statements, Nothing, Then}
use Rattle.java_loops.specs.Walks.Needed.{needed, keeping}
use Rattle.java_loops.specs.Walks.Reads.{Set}
use Rattle.loop_text.specs.Statements.Fragment.{Fragment, drops, live_or, set_by}
use Rattle.java_ast.specs.Names.{Names}

-- the needed variables whose statements aren't dropped
abbrev pub kept_set : Fragment → Names → Set
kept_set f further = keeping (needed (live_or f further) (drops f) f.run) (drops f)

-- the numbers of the statements that set a variable of the set, of a run whose first one has this number
abbrev pub numbers_setting : Set → ℕ → Statements → List ℕ
numbers_setting r n Nothing = []
numbers_setting r n (Then s ss) = if r (set_by s) then n ∷ numbers_setting r (suc n) ss else numbers_setting r (suc n) ss

-- the numbers of the kept ones of the statements of a run, of which the first one has this number
abbrev pub kept_numbers : Fragment → Names → ℕ → Statements → List ℕ
kept_numbers f further n run = numbers_setting (kept_set f further) n run
