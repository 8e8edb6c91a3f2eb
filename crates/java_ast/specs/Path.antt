-- The statement that a path leads to, and the program in which some statements are replaced. A path
-- has a method's number, a statement's number, and for each level down a branch and a statement's
-- number, all counted from 0.
use Rattle.std.specs.Prelude.{ℕ, zero, suc, List, [], ◌∷◌, ◌==◌, slice_get, if◌then◌else◌}
use Rattle.std.specs.declared.option.Option.{Option}
use Rattle.std.specs.declared.option.Option.TheVariants.{Some, None}
use Rattle.java_ast.specs.Tree.{Statement, If, IfElse, ForEach, While, Statements, Nothing, Then, PlainMethod, PlainProgram}

-- what is found there in what was found, if there is something
abbrev pub found_in : {A B : Type 0} → (A → Option B) → Option A → Option B
found_in f None = None
found_in f (Some x) = f x

-- the statement of a block with this number
abbrev pub numbered : ℕ → Statements → Option Statement
numbered n Nothing = None
numbered zero (Then s ss) = Some s
numbered (suc n) (Then s ss) = numbered n ss

abbrev pub first_branch : ℕ → Statements → Option Statements
first_branch b first = if b == 0 then Some first else None

abbrev pub either_branch : ℕ → Statements → Statements → Option Statements
either_branch b first other = if b == 0 then Some first else (if b == 1 then Some other else None)

-- branch 0 of a statement is its body, or what is done where its condition holds; branch 1 is what is done else
abbrev pub branch_of : ℕ → Statement → Option Statements
branch_of b (If at cond first) = first_branch b first
branch_of b (IfElse at cond first other) = either_branch b first other
branch_of b (ForEach at ty name list body) = first_branch b body
branch_of b (While at cond body) = first_branch b body
branch_of b s = None

-- where a path leads behind the number n of a statement of this block
abbrev pub statement_in : List ℕ → ℕ → Statements → Option Statement
statement_in [] n block = numbered n block
statement_in (b ∷ []) n block = None
statement_in (b ∷ m ∷ path) n block = found_in (λ s. found_in (statement_in path m) (branch_of b s)) (numbered n block)

-- the statement that a path leads to, if it leads to one
abbrev pub statement_at : List ℕ → PlainProgram → Option Statement
statement_at (m ∷ n ∷ path) p = found_in (λ method. statement_in path n method.body) (slice_get p.methods m)
statement_at _ p = None

-- ---- replacement

-- the first statements, and then the others
abbrev pub and_then : Statements → Statements → Statements
and_then Nothing others = others
and_then (Then s ss) others = Then s (and_then ss others)

-- the first n statements
abbrev pub first_of : ℕ → Statements → Statements
first_of zero block = Nothing
first_of (suc n) Nothing = Nothing
first_of (suc n) (Then s ss) = Then s (first_of n ss)

-- the statements behind the first n
abbrev pub behind_of : ℕ → Statements → Statements
behind_of zero block = block
behind_of (suc n) Nothing = Nothing
behind_of (suc n) (Then s ss) = behind_of n ss

-- others in place of the statements from the number first to the number last
abbrev pub with_range : ℕ → ℕ → Statements → Statements → Statements
with_range first last others block = and_then (first_of first block) (and_then others (behind_of (suc last) block))

-- the statement with this number changed
abbrev pub with_numbered : ℕ → (Statement → Statement) → Statements → Statements
with_numbered n change Nothing = Nothing
with_numbered zero change (Then s ss) = Then (change s) ss
with_numbered (suc n) change (Then s ss) = Then s (with_numbered n change ss)

-- a branch of a statement changed
abbrev pub with_branch : ℕ → (Statements → Statements) → Statement → Statement
with_branch b change (If at cond first) = If at cond (if b == 0 then change first else first)
with_branch b change (IfElse at cond first other) = IfElse at cond (if b == 0 then change first else first) (if b == 1 then change other else other)
with_branch b change (ForEach at ty name list body) = ForEach at ty name list (if b == 0 then change body else body)
with_branch b change (While at cond body) = While at cond (if b == 0 then change body else body)
with_branch b change s = s

-- In a block, others in place of the statements from the number first to the one that a path leads to
-- behind the number n of a statement. All else is as it was, places too.
abbrev pub replaced_in : List ℕ → ℕ → ℕ → Statements → Statements → Statements
replaced_in [] n first others block = with_range first n others block
replaced_in (b ∷ []) n first others block = block
replaced_in (b ∷ m ∷ path) n first others block = with_numbered n (with_branch b (replaced_in path m first others)) block

abbrev pub with_body : PlainMethod → Statements → PlainMethod
with_body m body = record m { body = body }

abbrev pub with_methods : PlainProgram → List PlainMethod → PlainProgram
with_methods p methods = record p { methods = methods }

-- the method with this number changed
abbrev pub with_method : ℕ → (PlainMethod → PlainMethod) → List PlainMethod → List PlainMethod
with_method n change [] = []
with_method zero change (m ∷ ms) = change m ∷ ms
with_method (suc n) change (m ∷ ms) = m ∷ with_method n change ms

-- others in place of the statements from the number first to the one that the path leads to
abbrev pub replaced_at : List ℕ → ℕ → Statements → PlainProgram → PlainProgram
replaced_at (m ∷ n ∷ path) first others p = with_methods p (with_method m (λ method. with_body method (replaced_in path n first others method.body)) p.methods)
replaced_at _ first others p = p

-- the number of the statement in its block that a path leads to
abbrev pub last_of : List ℕ → ℕ
last_of [] = 0
last_of (n ∷ []) = n
last_of (n ∷ m ∷ path) = last_of (m ∷ path)
