-- The place of a run and its loop, filled with them and with others.
use Rattle.std.proofs.Common.{◌≡◌, ℕ, zero, suc, ◌≤◌, Bool, true, false, List, [], ◌∷◌, Option, Some, None, refl, sym, ap, ◌∙◌, cond, subst, arith}
use Rattle.std.specs.Prelude.{◌==◌}
use Rattle.std.proofs.lemmas.Bool.Decides.{nat_tests}
use Rattle.qbs_base.specs.declared.span.Span.{Span}
use Rattle.qbs_base.specs.Values.{Schema}
use Rattle.java_ast.specs.Path.{found_in, numbered, branch_of, statement_in, and_then, first_of, behind_of, with_numbered, with_branch, replaced_in, last_of}
use Rattle.java_ast.specs.Tree as tree
use Rattle.java_ast.specs.Tree.{Expression, Statement, Statements, Nothing, Then, PlainMethod, PlainProgram}
use Rattle.java_mean.specs.Refines.{Hole, Here, InThen, InElse, fill, followed_by, types_at}
use Rattle.java_mean.specs.Types.{Types, types_after, types_past}
use Rattle.java_loops.specs.Walks.Places.{past, inside, place_in, of_branch, branch_there, run_in}
use Rattle.java_loops.specs.Walks.Replacing.{run_and_loop}

-- ---- Statements in two parts

same_and : (p q : Statements) → and_then p q ≡ followed_by p q
same_and Nothing q = refl
same_and (Then a p) q = ap (Then a) (same_and p q)

fill_past : (p : Statements) (h : Hole) (q : Statements) → fill (past p h) q ≡ followed_by p (fill h q)
fill_past Nothing h q = refl
fill_past (Then a p) h q = ap (Then a) (fill_past p h q)

-- what is visible at a place behind statements
pub types_behind : (schema : Schema) (g : Types) (p : Statements) (h : Hole) → types_at schema g (past p h) ≡ types_at schema (types_past schema g p) h
types_behind schema g Nothing h = refl
types_behind schema g (Then a p) h = types_behind schema (types_after schema g a) p h

followed_twice : (p q r : Statements) → followed_by (followed_by p q) r ≡ followed_by p (followed_by q r)
followed_twice Nothing q r = refl
followed_twice (Then a p) q r = ap (Then a) (followed_twice p q r)

split_numbered : (n : ℕ) (block : Statements) (s : Statement) → numbered n block ≡ Some s → block ≡ followed_by (first_of n block) (Then s (behind_of (suc n) block))
split_numbered zero Nothing s e = absurd cc
split_numbered (suc n) Nothing s e = absurd cc
split_numbered zero (Then a p) s e = let q : a ≡ s = cc in ap (λ z. Then z p) q
split_numbered (suc n) (Then a p) s e = ap (Then a) (split_numbered n p s e)

changed : (n : ℕ) (change : Statement → Statement) (block : Statements) (s : Statement) → numbered n block ≡ Some s → with_numbered n change block ≡ followed_by (first_of n block) (Then (change s) (behind_of (suc n) block))
changed zero change Nothing s e = absurd cc
changed (suc n) change Nothing s e = absurd cc
changed zero change (Then a p) s e = let q : a ≡ s = cc in ap (λ z. Then (change z) p) q
changed (suc n) change (Then a p) s e = ap (Then a) (changed n change p s e)

split_first : (n : ℕ) (block : Statements) → block ≡ followed_by (first_of n block) (behind_of n block)
split_first zero block = refl
split_first (suc n) Nothing = refl
split_first (suc n) (Then a p) = ap (Then a) (split_first n p)

first_first : (m n : ℕ) (block : Statements) → m ≤ n → first_of m (first_of n block) ≡ first_of m block
first_first zero n block h = refl
first_first (suc m) zero block h = absurd (omega (arith, h))
first_first (suc m) (suc n) Nothing h = refl
first_first (suc m) (suc n) (Then a p) h = ap (Then a) (first_first m n p (omega (arith, h)))

-- ---- A branch

zero_not_one : (b : ℕ) → (b == 0) ≡ true → (b == 1) ≡ false
zero_not_one b e = grind (arith, nat_tests)

first_filled : (t : Bool) (a p : Statements) (f : Statements → Hole) (q : Statements) (change : Statements → Statements) → cond t (Some a) None ≡ Some p → change p ≡ fill (f p) q → cond t (change a) a ≡ fill (f a) q
first_filled true a p f q change e h = let k : a ≡ p = cc in subst (λ z. change z ≡ fill (f z) q) (sym k) h
first_filled false a p f q change e h = absurd cc

either_filled : (t u : Bool) (at : Span) (c : Expression) (a o p : Statements) (f : Statements → Hole) (rest q : Statements) (change : Statements → Statements) → (t ≡ true → u ≡ false) → cond t (Some a) (cond u (Some o) None) ≡ Some p → change p ≡ fill (f p) q → Then (tree.IfElse at c (cond t (change a) a) (cond u (change o) o)) rest ≡ fill (cond t (InThen at c (f a) o rest) (InElse at c a (f o) rest)) q
either_filled true true at c a o p f rest q change n e h = let k : true ≡ false = n refl in absurd cc
either_filled true false at c a o p f rest q change n e h = ap (λ z. Then (tree.IfElse at c z o) rest) (first_filled true a p f q change e h)
either_filled false u at c a o p f rest q change n e h = ap (λ z. Then (tree.IfElse at c a z) rest) (first_filled u o p f q change e h)

-- the branch of a statement that is there
filled_branch : (b : ℕ) (s : Statement) (p : Statements) (f : Statements → Hole) (rest q : Statements) (change : Statements → Statements) → branch_of b s ≡ Some p → change p ≡ fill (f p) q → Then (with_branch b change s) rest ≡ fill (inside b (Some s) f rest) q
filled_branch b (tree.If at c a) p f rest q change e h = ap (λ z. Then (tree.If at c z) rest) (first_filled (b == 0) a p f q change e h)
filled_branch b (tree.IfElse at c a o) p f rest q change e h = either_filled (b == 0) (b == 1) at c a o p f rest q change (zero_not_one b) e h
filled_branch b (tree.ForEach at ty x l a) p f rest q change e h = ap (λ z. Then (tree.ForEach at ty x l z) rest) (first_filled (b == 0) a p f q change e h)
filled_branch b (tree.While at c a) p f rest q change e h = ap (λ z. Then (tree.While at c z) rest) (first_filled (b == 0) a p f q change e h)
filled_branch b (tree.Declare at ty x l) p f rest q change e h = absurd cc
filled_branch b (tree.Assign at x l) p f rest q change e h = absurd cc
filled_branch b (tree.Add at x l) p f rest q change e h = absurd cc
filled_branch b (tree.Sort at x keys down) p f rest q change e h = absurd cc
filled_branch b (tree.Print at l) p f rest q change e h = absurd cc
filled_branch b (tree.Return at l) p f rest q change e h = absurd cc
filled_branch b (tree.Break at) p f rest q change e h = absurd cc

-- what isn't changed
same_cond : (c : Bool) (p : Statements) → cond c p p ≡ p
same_cond true p = refl
same_cond false p = refl

with_same : (b : ℕ) (s : Statement) → with_branch b (λ p. p) s ≡ s
with_same b (tree.If at c a) = ap (λ z. tree.If at c z) (same_cond (b == 0) a)
with_same b (tree.IfElse at c a o) = ap (λ z. tree.IfElse at c z (cond (b == 1) o o)) (same_cond (b == 0) a) ∙ ap (λ z. tree.IfElse at c a z) (same_cond (b == 1) o)
with_same b (tree.ForEach at ty x l a) = ap (λ z. tree.ForEach at ty x l z) (same_cond (b == 0) a)
with_same b (tree.While at c a) = ap (λ z. tree.While at c z) (same_cond (b == 0) a)
with_same b (tree.Declare at ty x l) = refl
with_same b (tree.Assign at x l) = refl
with_same b (tree.Add at x l) = refl
with_same b (tree.Sort at x keys down) = refl
with_same b (tree.Print at l) = refl
with_same b (tree.Return at l) = refl
with_same b (tree.Break at) = refl

-- ---- A block

-- the statement with this number, and a branch of it, to which a path leads on
record Further (b m n : ℕ) (path : List ℕ) (block : Statements) (loop : Statement) : Type 0 where
  statement : Statement
  there : numbered n block ≡ Some statement
  branch : Statements
  below : branch_of b statement ≡ Some branch
  leads : statement_in path m branch ≡ Some loop

further_in : (b m : ℕ) (path : List ℕ) (s loop : Statement) (o : Option Statements) → branch_of b s ≡ o → found_in (statement_in path m) o ≡ Some loop → (p : Statements) × (branch_of b s ≡ Some p) × (statement_in path m p ≡ Some loop)
further_in b m path s loop (Some p) e h = (p, e, h)
further_in b m path s loop None e h = absurd cc

further : (b m n : ℕ) (path : List ℕ) (block : Statements) (loop : Statement) (o : Option Statement) → numbered n block ≡ o → found_in (λ s. found_in (statement_in path m) (branch_of b s)) o ≡ Some loop → Further b m n path block loop
further b m n path block loop (Some s) e h =
    let k = further_in b m path s loop (branch_of b s) refl h in
    record { statement = s; there = e; branch = k.0; below = k.1; leads = k.2 }
further b m n path block loop None e h = absurd cc

replaced_here : (n first : ℕ) (others block : Statements) → and_then (first_of first block) (and_then others (behind_of (suc n) block)) ≡ fill (past (first_of first block) (Here (behind_of (suc n) block))) others
replaced_here n first others block =
    same_and (first_of first block) (and_then others (behind_of (suc n) block))
    ∙ ap (followed_by (first_of first block)) (same_and others (behind_of (suc n) block))
    ∙ sym (fill_past (first_of first block) (Here (behind_of (suc n) block)) others)

-- others fill the place
pub replaced_fills : (path : List ℕ) (n first : ℕ) (others block : Statements) (loop : Statement) → statement_in path n block ≡ Some loop → replaced_in path n first others block ≡ fill (place_in path n first block) others
replaced_fills [] n first others block loop e = replaced_here n first others block
replaced_fills (b ∷ []) n first others block loop e = absurd cc
replaced_fills (b ∷ m ∷ path) n first others block loop e =
    let k : Further b m n path block loop = further b m n path block loop (numbered n block) refl e in
    let rest : Statements = behind_of (suc n) block in
    changed n (with_branch b (replaced_in path m first others)) block k.statement k.there
    ∙ ap (followed_by (first_of n block)) (filled_branch b k.statement k.branch (place_in path m first) rest others (replaced_in path m first others) k.below (replaced_fills path m first others k.branch loop k.leads))
    ∙ ap (λ o. followed_by (first_of n block) (fill (inside b o (place_in path m first) rest) others)) (sym k.there)
    ∙ sym (fill_past (first_of n block) (inside b (numbered n block) (place_in path m first) rest) others)

whole_here : (n first : ℕ) (block : Statements) (loop : Statement) → first ≤ n → numbered n block ≡ Some loop → block ≡ fill (past (first_of first block) (Here (behind_of (suc n) block))) (run_and_loop (behind_of first (first_of n block)) loop)
whole_here n first block loop h e =
    let rest : Statements = behind_of (suc n) block in
    let run : Statements = behind_of first (first_of n block) in
    split_numbered n block loop e
    ∙ ap (λ p. followed_by p (Then loop rest)) (split_first first (first_of n block) ∙ ap (λ p. followed_by p run) (first_first first n block h))
    ∙ followed_twice (first_of first block) run (Then loop rest)
    ∙ ap (followed_by (first_of first block)) (sym (followed_twice run (Then loop Nothing) rest))
    ∙ sym (fill_past (first_of first block) (Here rest) (run_and_loop run loop))

-- the run and the loop fill it
pub whole_fills : (path : List ℕ) (n first : ℕ) (block : Statements) (loop : Statement) → first ≤ last_of (n ∷ path) → statement_in path n block ≡ Some loop → block ≡ fill (place_in path n first block) (run_and_loop (run_in path n first block) loop)
whole_fills [] n first block loop h e = whole_here n first block loop h e
whole_fills (b ∷ []) n first block loop h e = absurd cc
whole_fills (b ∷ m ∷ path) n first block loop h e =
    let k : Further b m n path block loop = further b m n path block loop (numbered n block) refl e in
    let rest : Statements = behind_of (suc n) block in
    let old : Statements = run_and_loop (run_in path m first k.branch) loop in
    split_numbered n block k.statement k.there
    ∙ ap (λ s. followed_by (first_of n block) (Then s rest)) (sym (with_same b k.statement))
    ∙ ap (followed_by (first_of n block)) (filled_branch b k.statement k.branch (place_in path m first) rest old (λ p. p) k.below (whole_fills path m first k.branch loop h k.leads))
    ∙ ap (λ o. followed_by (first_of n block) (fill (inside b o (place_in path m first) rest) old)) (sym k.there)
    ∙ ap (λ o. followed_by (first_of n block) (fill (inside b (numbered n block) (place_in path m first) rest) (run_and_loop (of_branch (run_in path m first) o) loop))) (sym (ap (branch_there b) k.there ∙ k.below))
    ∙ sym (fill_past (first_of n block) (inside b (numbered n block) (place_in path m first) rest) (run_and_loop (of_branch (run_in path m first) (branch_there b (numbered n block))) loop))
