-- Others in place of a statement and of those before it make the same program where another statement was put in its place before.
use Rattle.std.proofs.Common.{◌≡◌, ℕ, zero, suc, ◌≤◌, Bool, true, false, List, [], ◌∷◌, Option, Some, None, refl, sym, ap, ◌∙◌, subst, cond, arith}
use Rattle.std.specs.Prelude.{◌==◌, slice_get}
use Rattle.std.proofs.lemmas.Bool.Decides.{nat_tests}
use Rattle.qbs_base.specs.declared.span.Span.{Span}
use Rattle.java_ast.specs.Path.{found_in, numbered, branch_of, statement_in, statement_at, and_then, first_of, behind_of, with_range, with_numbered, with_branch, replaced_in, with_method, replaced_at, last_of, with_body, with_methods}
use Rattle.java_ast.specs.Tree as tree
use Rattle.java_ast.specs.Tree.{Expression, Statement, Statements, Nothing, Then, PlainMethod, PlainProgram}
use Rattle.java_loops.specs.Walks.Places.{of_branch, branch_there, run_in}
use Rattle.java_loops.specs.Walks.Replacing.{run_and_loop}
use Rattle.java_loops.proofs.Walks.Placed.{replaced_fills, whole_fills}

-- ---- A statement of a block

pub numbered_changed : (n : ℕ) (f : Statement → Statement) (block : Statements) (s : Statement) → numbered n block ≡ Some s → numbered n (with_numbered n f block) ≡ Some (f s)
numbered_changed zero f Nothing s e = absurd cc
numbered_changed (suc n) f Nothing s e = absurd cc
numbered_changed zero f (Then a p) s e = let q : a ≡ s = cc in ap (λ z. Some (f z)) q
numbered_changed (suc n) f (Then a p) s e = numbered_changed n f p s e

numbered_again : (n : ℕ) (f g : Statement → Statement) (block : Statements) (s : Statement) → numbered n block ≡ Some s → f (g s) ≡ f s → with_numbered n f (with_numbered n g block) ≡ with_numbered n f block
numbered_again zero f g Nothing s e h = absurd cc
numbered_again (suc n) f g Nothing s e h = absurd cc
numbered_again zero f g (Then a p) s e h = let q : a ≡ s = cc in subst (λ z. Then (f (g z)) p ≡ Then (f z) p) (sym q) (ap (λ z. Then z p) h)
numbered_again (suc n) f g (Then a p) s e h = ap (Then a) (numbered_again n f g p s e h)

pub first_unchanged : (m n : ℕ) (f : Statement → Statement) (block : Statements) → m ≤ n → first_of m (with_numbered n f block) ≡ first_of m block
first_unchanged zero n f block h = refl
first_unchanged (suc m) zero f block h = absurd (omega (arith, h))
first_unchanged (suc m) (suc n) f Nothing h = refl
first_unchanged (suc m) (suc n) f (Then a p) h = ap (Then a) (first_unchanged m n f p (omega (arith, h)))

pub behind_unchanged : (n : ℕ) (f : Statement → Statement) (block : Statements) → behind_of (suc n) (with_numbered n f block) ≡ behind_of (suc n) block
behind_unchanged zero f Nothing = refl
behind_unchanged (suc n) f Nothing = refl
behind_unchanged zero f (Then a p) = refl
behind_unchanged (suc n) f (Then a p) = behind_unchanged n f p

-- one statement in place of one
pub put_there : (n : ℕ) (z : Statement) (block : Statements) (s : Statement) → numbered n block ≡ Some s → with_range n n (Then z Nothing) block ≡ with_numbered n (λ a. z) block
put_there zero z Nothing s e = absurd cc
put_there (suc n) z Nothing s e = absurd cc
put_there zero z (Then a p) s e = refl
put_there (suc n) z (Then a p) s e = ap (Then a) (put_there n z p s e)

-- nothing is behind the first n of the first n
none_behind : (n : ℕ) (block : Statements) → behind_of n (first_of n block) ≡ Nothing
none_behind zero block = refl
none_behind (suc n) Nothing = refl
none_behind (suc n) (Then a p) = none_behind n p

range_again : (first n : ℕ) (x block : Statements) (z s : Statement) → first ≤ n → numbered n block ≡ Some s → with_range first n x (with_range n n (Then z Nothing) block) ≡ with_range first n x block
range_again first n x block z s h e =
    ap (with_range first n x) (put_there n z block s e)
    ∙ ap (λ q. and_then q (and_then x (behind_of (suc n) (with_numbered n (λ a. z) block)))) (first_unchanged first n (λ a. z) block h)
    ∙ ap (λ q. and_then (first_of first block) (and_then x q)) (behind_unchanged n (λ a. z) block)

-- ---- A branch

zero_not_one : (b : ℕ) → (b == 0) ≡ true → (b == 1) ≡ false
zero_not_one b e = grind (arith, nat_tests)

first_changed : (t : Bool) (a p : Statements) (g : Statements → Statements) → cond t (Some a) None ≡ Some p → cond t (Some (cond t (g a) a)) None ≡ Some (g p)
first_changed true a p g e = let k : a ≡ p = cc in ap (λ z. Some (g z)) k
first_changed false a p g e = absurd cc

either_changed : (t u : Bool) (a o p : Statements) (g : Statements → Statements) → cond t (Some a) (cond u (Some o) None) ≡ Some p → cond t (Some (cond t (g a) a)) (cond u (Some (cond u (g o) o)) None) ≡ Some (g p)
either_changed true u a o p g e = let k : a ≡ p = cc in ap (λ z. Some (g z)) k
either_changed false u a o p g e = first_changed u o p g e

pub branch_changed : (b : ℕ) (g : Statements → Statements) (s : Statement) (p : Statements) → branch_of b s ≡ Some p → branch_of b (with_branch b g s) ≡ Some (g p)
branch_changed b g (tree.If at c a) p e = first_changed (b == 0) a p g e
branch_changed b g (tree.IfElse at c a o) p e = either_changed (b == 0) (b == 1) a o p g e
branch_changed b g (tree.ForEach at ty x l a) p e = first_changed (b == 0) a p g e
branch_changed b g (tree.While at c a) p e = first_changed (b == 0) a p g e
branch_changed b g (tree.Declare at ty x l) p e = absurd cc
branch_changed b g (tree.Assign at x l) p e = absurd cc
branch_changed b g (tree.Add at x l) p e = absurd cc
branch_changed b g (tree.Sort at x keys down) p e = absurd cc
branch_changed b g (tree.Print at l) p e = absurd cc
branch_changed b g (tree.Return at l) p e = absurd cc
branch_changed b g (tree.Break at) p e = absurd cc

first_again : (t : Bool) (a p : Statements) (f g : Statements → Statements) → cond t (Some a) None ≡ Some p → f (g p) ≡ f p → cond t (f (cond t (g a) a)) (cond t (g a) a) ≡ cond t (f a) a
first_again true a p f g e h = let k : a ≡ p = cc in subst (λ z. f (g z) ≡ f z) (sym k) h
first_again false a p f g e h = absurd cc

either_again : (t u : Bool) (at : Span) (c : Expression) (a o p : Statements) (f g : Statements → Statements) → (t ≡ true → u ≡ false) → cond t (Some a) (cond u (Some o) None) ≡ Some p → f (g p) ≡ f p → tree.IfElse at c (cond t (f (cond t (g a) a)) (cond t (g a) a)) (cond u (f (cond u (g o) o)) (cond u (g o) o)) ≡ tree.IfElse at c (cond t (f a) a) (cond u (f o) o)
either_again true true at c a o p f g n e h = let k : true ≡ false = n refl in absurd cc
either_again true false at c a o p f g n e h = ap (λ z. tree.IfElse at c z o) (first_again true a p f g e h)
either_again false u at c a o p f g n e h = ap (λ z. tree.IfElse at c a z) (first_again u o p f g e h)

branch_again : (b : ℕ) (f g : Statements → Statements) (s : Statement) (p : Statements) → branch_of b s ≡ Some p → f (g p) ≡ f p → with_branch b f (with_branch b g s) ≡ with_branch b f s
branch_again b f g (tree.If at c a) p e h = ap (tree.If at c) (first_again (b == 0) a p f g e h)
branch_again b f g (tree.IfElse at c a o) p e h = either_again (b == 0) (b == 1) at c a o p f g (zero_not_one b) e h
branch_again b f g (tree.ForEach at ty x l a) p e h = ap (tree.ForEach at ty x l) (first_again (b == 0) a p f g e h)
branch_again b f g (tree.While at c a) p e h = ap (tree.While at c) (first_again (b == 0) a p f g e h)
branch_again b f g (tree.Declare at ty x l) p e h = absurd cc
branch_again b f g (tree.Assign at x l) p e h = absurd cc
branch_again b f g (tree.Add at x l) p e h = absurd cc
branch_again b f g (tree.Sort at x keys down) p e h = absurd cc
branch_again b f g (tree.Print at l) p e h = absurd cc
branch_again b f g (tree.Return at l) p e h = absurd cc
branch_again b f g (tree.Break at) p e h = absurd cc

-- ---- A block

-- a statement, and a branch of it, to which a path leads on
pub record Further (b m : ℕ) (path : List ℕ) (o : Option Statement) (s : Statement) : Type 0 where
  pub statement : Statement
  pub there : o ≡ Some statement
  pub branch : Statements
  pub below : branch_of b statement ≡ Some branch
  pub leads : statement_in path m branch ≡ Some s

further_in : (b m : ℕ) (path : List ℕ) (a s : Statement) (o : Option Statements) → branch_of b a ≡ o → found_in (statement_in path m) o ≡ Some s → Further b m path (Some a) s
further_in b m path a s (Some p) e h = record { statement = a; there = refl; branch = p; below = e; leads = h }
further_in b m path a s None e h = absurd cc

pub further : (b m : ℕ) (path : List ℕ) (s : Statement) (o : Option Statement) → found_in (λ a. found_in (statement_in path m) (branch_of b a)) o ≡ Some s → Further b m path o s
further b m path s (Some a) h = further_in b m path a s (branch_of b a) refl h
further b m path s None h = absurd cc

replaced_again : (path : List ℕ) (n first : ℕ) (x block : Statements) (z s : Statement) → first ≤ last_of (n ∷ path) → statement_in path n block ≡ Some s → replaced_in path n first x (replaced_in path n (last_of (n ∷ path)) (Then z Nothing) block) ≡ replaced_in path n first x block
replaced_again [] n first x block z s h e = range_again first n x block z s h e
replaced_again (b ∷ []) n first x block z s h e = absurd cc
replaced_again (b ∷ m ∷ path) n first x block z s h e =
    let k : Further b m path (numbered n block) s = further b m path s (numbered n block) e in
    let f : Statements → Statements = replaced_in path m first x in
    let g : Statements → Statements = replaced_in path m (last_of (m ∷ path)) (Then z Nothing) in
    numbered_again n (with_branch b f) (with_branch b g) block k.statement k.there (branch_again b f g k.statement k.branch k.below (replaced_again path m first x k.branch z s h k.leads))

run_again : (path : List ℕ) (n first : ℕ) (block : Statements) (z s : Statement) → statement_in path n block ≡ Some s → run_in path n first (replaced_in path n (last_of (n ∷ path)) (Then z Nothing) block) ≡ run_in path n first block
run_again [] n first block z s e = ap (λ q. behind_of first (first_of n q)) (put_there n z block s e) ∙ ap (behind_of first) (first_unchanged n n (λ a. z) block (omega arith))
run_again (b ∷ []) n first block z s e = refl
run_again (b ∷ m ∷ path) n first block z s e =
    let k : Further b m path (numbered n block) s = further b m path s (numbered n block) e in
    let g : Statements → Statements = replaced_in path m (last_of (m ∷ path)) (Then z Nothing) in
    ap (λ o. of_branch (run_in path m first) (branch_there b o)) (numbered_changed n (with_branch b g) block k.statement k.there)
    ∙ ap (of_branch (run_in path m first)) (branch_changed b g k.statement k.branch k.below)
    ∙ run_again path m first k.branch z s k.leads
    ∙ sym (ap (λ o. of_branch (run_in path m first) (branch_there b o)) k.there ∙ ap (of_branch (run_in path m first)) k.below)

no_run : (path : List ℕ) (n : ℕ) (block : Statements) (s : Statement) → statement_in path n block ≡ Some s → run_in path n (last_of (n ∷ path)) block ≡ Nothing
no_run [] n block s e = none_behind n block
no_run (b ∷ []) n block s e = refl
no_run (b ∷ m ∷ path) n block s e =
    let k : Further b m path (numbered n block) s = further b m path s (numbered n block) e in
    let run : Statements → Statements = run_in path m (last_of (m ∷ path)) in
    ap (λ o. of_branch run (branch_there b o)) k.there ∙ ap (of_branch run) k.below ∙ no_run path m k.branch s k.leads

statement_again : (path : List ℕ) (n : ℕ) (block : Statements) (z s : Statement) → statement_in path n block ≡ Some s → statement_in path n (replaced_in path n (last_of (n ∷ path)) (Then z Nothing) block) ≡ Some z
statement_again [] n block z s e = ap (numbered n) (put_there n z block s e) ∙ numbered_changed n (λ a. z) block s e
statement_again (b ∷ []) n block z s e = absurd cc
statement_again (b ∷ m ∷ path) n block z s e =
    let k : Further b m path (numbered n block) s = further b m path s (numbered n block) e in
    let g : Statements → Statements = replaced_in path m (last_of (m ∷ path)) (Then z Nothing) in
    ap (found_in (λ a. found_in (statement_in path m) (branch_of b a))) (numbered_changed n (with_branch b g) block k.statement k.there)
    ∙ ap (found_in (statement_in path m)) (branch_changed b g k.statement k.branch k.below)
    ∙ statement_again path m k.branch z s k.leads

-- ---- A method of a program

pub method_changed : (i : ℕ) (g : PlainMethod → PlainMethod) (ms : List PlainMethod) (m : PlainMethod) → slice_get ms i ≡ Some m → slice_get (with_method i g ms) i ≡ Some (g m)
method_changed zero g [] m e = absurd cc
method_changed (suc i) g [] m e = absurd cc
method_changed zero g (a ∷ ms) m e = let q : a ≡ m = cc in ap (λ z. Some (g z)) q
method_changed (suc i) g (a ∷ ms) m e = method_changed i g ms m e

method_again : (i : ℕ) (f g : PlainMethod → PlainMethod) (ms : List PlainMethod) (m : PlainMethod) → slice_get ms i ≡ Some m → f (g m) ≡ f m → with_method i f (with_method i g ms) ≡ with_method i f ms
method_again zero f g [] m e h = refl
method_again (suc i) f g [] m e h = refl
method_again zero f g (a ∷ ms) m e h = let q : a ≡ m = cc in subst (λ z. f (g z) ∷ ms ≡ f z ∷ ms) (sym q) (ap (λ z. z ∷ ms) h)
method_again (suc i) f g (a ∷ ms) m e h = ap (λ l. a ∷ l) (method_again i f g ms m e h)

method_same : (i : ℕ) (f : PlainMethod → PlainMethod) (ms : List PlainMethod) (m : PlainMethod) → slice_get ms i ≡ Some m → f m ≡ m → with_method i f ms ≡ ms
method_same zero f [] m e h = refl
method_same (suc i) f [] m e h = refl
method_same zero f (a ∷ ms) m e h = let q : a ≡ m = cc in subst (λ z. f z ∷ ms ≡ z ∷ ms) (sym q) (ap (λ z. z ∷ ms) h)
method_same (suc i) f (a ∷ ms) m e h = ap (λ l. a ∷ l) (method_same i f ms m e h)

-- the method in which a path leads to a statement
pub record MethodThere (p : PlainProgram) (i n : ℕ) (path : List ℕ) (s : Statement) : Type 0 where
  pub method : PlainMethod
  pub found : slice_get p.methods i ≡ Some method
  pub leads : statement_in path n method.body ≡ Some s

method_found : (p : PlainProgram) (i n : ℕ) (path : List ℕ) (s : Statement) (o : Option PlainMethod) → slice_get p.methods i ≡ o → found_in (λ (m : PlainMethod). statement_in path n m.body) o ≡ Some s → MethodThere p i n path s
method_found p i n path s (Some m) e h = record { method = m; found = e; leads = h }
method_found p i n path s None e h = absurd cc

pub method_there : (p : PlainProgram) (i n : ℕ) (path : List ℕ) (s : Statement) → statement_at (i ∷ n ∷ path) p ≡ Some s → MethodThere p i n path s
method_there p i n path s e = method_found p i n path s (slice_get p.methods i) refl e

-- ---- A program

abbrev pub run_found : List ℕ → ℕ → ℕ → Option PlainMethod → Statements
run_found path n first (Some m) = run_in path n first m.body
run_found path n first None = Nothing

-- the statements from the number first to the one before that to which the path leads
abbrev pub run_at : List ℕ → ℕ → PlainProgram → Statements
run_at (i ∷ n ∷ path) first p = run_found path n first (slice_get p.methods i)
run_at _ first p = Nothing

-- What is put in place of a statement and those before it is the same where another statement was put in its place alone.
pub unnested_is_replaced : (p : PlainProgram) (path : List ℕ) (first : ℕ) (z : Statement) (x : Statements) → first ≤ last_of path → (s : Statement) → statement_at path p ≡ Some s → replaced_at path first x (replaced_at path (last_of path) (Then z Nothing) p) ≡ replaced_at path first x p
unnested_is_replaced p [] first z x h s e = absurd cc
unnested_is_replaced p (i ∷ []) first z x h s e = absurd cc
unnested_is_replaced p (i ∷ n ∷ path) first z x h s e =
    let k : MethodThere p i n path s = method_there p i n path s e in
    ap (with_methods p)
    (method_again i (λ (m : PlainMethod). with_body m (replaced_in path n first x m.body)) (λ (m : PlainMethod). with_body m (replaced_in path n (last_of (n ∷ path)) (Then z Nothing) m.body)) p.methods k.method k.found
    (ap (with_body k.method) (replaced_again path n first x k.method.body z s h k.leads)))

-- the statements before it stay
pub run_stays : (p : PlainProgram) (path : List ℕ) (first : ℕ) (z s : Statement) → statement_at path p ≡ Some s → run_at path first (replaced_at path (last_of path) (Then z Nothing) p) ≡ run_at path first p
run_stays p [] first z s e = absurd cc
run_stays p (i ∷ []) first z s e = absurd cc
run_stays p (i ∷ n ∷ path) first z s e =
    let k : MethodThere p i n path s = method_there p i n path s e in
    ap (run_found path n first) (method_changed i (λ (m : PlainMethod). with_body m (replaced_in path n (last_of (n ∷ path)) (Then z Nothing) m.body)) p.methods k.method k.found)
    ∙ run_again path n first k.method.body z s k.leads
    ∙ sym (ap (run_found path n first) k.found)

-- and the path leads to the other statement
pub statement_put : (p : PlainProgram) (path : List ℕ) (z s : Statement) → statement_at path p ≡ Some s → statement_at path (replaced_at path (last_of path) (Then z Nothing) p) ≡ Some z
statement_put p [] z s e = absurd cc
statement_put p (i ∷ []) z s e = absurd cc
statement_put p (i ∷ n ∷ path) z s e =
    let k : MethodThere p i n path s = method_there p i n path s e in
    ap (found_in (λ (m : PlainMethod). statement_in path n m.body)) (method_changed i (λ (m : PlainMethod). with_body m (replaced_in path n (last_of (n ∷ path)) (Then z Nothing) m.body)) p.methods k.method k.found)
    ∙ statement_again path n k.method.body z s k.leads

-- the statement and those before it in their own place
pub itself_put : (p : PlainProgram) (path : List ℕ) (first : ℕ) (s : Statement) → first ≤ last_of path → statement_at path p ≡ Some s → replaced_at path first (run_and_loop (run_at path first p) s) p ≡ p
itself_put p [] first s h e = absurd cc
itself_put p (i ∷ []) first s h e = absurd cc
itself_put p (i ∷ n ∷ path) first s h e =
    let k : MethodThere p i n path s = method_there p i n path s e in
    let old : Statements = run_and_loop (run_in path n first k.method.body) s in
    ap (λ q. replaced_at (i ∷ n ∷ path) first (run_and_loop q s) p) (ap (run_found path n first) k.found)
    ∙ ap (with_methods p)
    (method_same i (λ (m : PlainMethod). with_body m (replaced_in path n first old m.body)) p.methods k.method k.found
    (ap (with_body k.method) (replaced_fills path n first old k.method.body s k.leads ∙ sym (whole_fills path n first k.method.body s h k.leads))))

no_run_at : (p : PlainProgram) (path : List ℕ) (s : Statement) → statement_at path p ≡ Some s → run_at path (last_of path) p ≡ Nothing
no_run_at p [] s e = refl
no_run_at p (i ∷ []) s e = refl
no_run_at p (i ∷ n ∷ path) s e =
    let k : MethodThere p i n path s = method_there p i n path s e in
    ap (run_found path n (last_of (n ∷ path))) k.found ∙ no_run path n k.method.body s k.leads

-- A statement that is put back leaves the program as it was.
pub put_back : (p : PlainProgram) (path : List ℕ) (z s : Statement) → statement_at path p ≡ Some s → replaced_at path (last_of path) (Then s Nothing) (replaced_at path (last_of path) (Then z Nothing) p) ≡ p
put_back p path z s e =
    unnested_is_replaced p path (last_of path) z (Then s Nothing) (omega arith) s e
    ∙ ap (λ q. replaced_at path (last_of path) (run_and_loop q s) p) (sym (no_run_at p path s e))
    ∙ itself_put p path (last_of path) s (omega arith) e
