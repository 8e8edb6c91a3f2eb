-- The run before the loop to which a path leads.
use Rattle.std.specs.Prelude.{ℕ, zero, suc, Bool, true, false, List, [], ◌∷◌, slice_get}
use Rattle.std.proofs.Common.{◌≡◌, ◌<◌, ◌≤◌, Option, Some, None, refl, sym, ap, ◌∙◌, length, drop, get_or, arith}
use Rattle.java_ast.specs.declared.tree.Stmt.{Stmt}
use Rattle.java_ast.specs.Path.{found_in, numbered, branch_of, first_of, behind_of}
use Rattle.java_ast.specs.Reading.{statement, statements}
use Rattle.java_ast.specs.Tree.{Statement, Statements, Nothing, Then, PlainMethod, PlainProgram}
use Rattle.loop_text.specs.Statements.Fragment.{Fragment, run_of, fragment_of, fragment_where, fragment_here, fragment_in, fragment_at}
use Rattle.loop_text.specs.Statements.Loops.{is_loop}
use Rattle.java_ast.specs.Names.{Names, with_names, declared_among, walking, names_of_params}
use Rattle.loop_text.proofs.Trees.Walked.{next_item}
use Rattle.loop_places.specs.Runs.{run_where, run_here, run_in, run_at}
use Rattle.loop_places.specs.RunsThere.{run_of_fragment, run_or_nothing}

-- ---- What stands behind a number

pub statements_behind : (n : ℕ) (xs : List Stmt) → statements (drop n xs) ≡ behind_of n (statements xs)
statements_behind zero xs = refl
statements_behind (suc n) [] = refl
statements_behind (suc n) (x ∷ xs) = statements_behind n xs

pub past_end : (n : ℕ) (xs : List Stmt) → length xs ≤ n → behind_of n (statements xs) ≡ Nothing
past_end zero [] h = refl
past_end zero (x ∷ xs) h = absurd (omega arith)
past_end (suc n) [] h = refl
past_end (suc n) (x ∷ xs) h = past_end n xs (omega arith)

-- ---- It is that of the fragment

same_where : (b : Bool) (names : Names) (before ss : Statements) (s : Statement) → run_where b (run_of before) ≡ run_of_fragment (fragment_where b (fragment_of names before s ss))
same_where true names before ss s = refl
same_where false names before ss s = refl

same_here : (names : Names) (before rest : Statements) → run_here before rest ≡ run_of_fragment (fragment_here names before rest)
same_here names before Nothing = refl
same_here names before (Then s ss) = same_where (is_loop s) names before ss s

same_found : {A : Type 0} (f : A → Option Statements) (g : A → Option Fragment) (o : Option A) → ((x : A) → f x ≡ run_of_fragment (g x)) → found_in f o ≡ run_of_fragment (found_in g o)
same_found f g None h = refl
same_found f g (Some x) h = h x

same_in : (path : List ℕ) (names : Names) (n : ℕ) (block : Statements) → run_in path n block ≡ run_of_fragment (fragment_in names path n block)
same_in [] names n block = same_here names (first_of n block) (behind_of n block)
same_in (b ∷ []) names n block = refl
same_in (b ∷ m ∷ path) names n block =
    same_found (λ (s : Statement). found_in (run_in path m) (branch_of b s)) (λ (s : Statement). found_in (fragment_in (with_names (with_names names (declared_among (first_of n block))) (walking s)) path m) (branch_of b s)) (numbered n block)
    (λ s. same_found (run_in path m) (fragment_in (with_names (with_names names (declared_among (first_of n block))) (walking s)) path m) (branch_of b s) (same_in path (with_names (with_names names (declared_among (first_of n block))) (walking s)) m))

pub run_same : (path : List ℕ) (p : PlainProgram) → run_at path p ≡ run_of_fragment (fragment_at path p)
run_same [] p = refl
run_same (m ∷ []) p = refl
run_same (m ∷ n ∷ path) p =
    same_found (λ (k : PlainMethod). run_in path n k.body) (λ (k : PlainMethod). fragment_in (names_of_params k.params) path n k.body) (slice_get p.methods m) (λ k. same_in path (names_of_params k.params) n k.body)

-- ---- As the code finds it

-- there is no statement with the number
pub no_statement : (n : ℕ) (block : List Stmt) → length block ≤ n → None ≡ run_here (first_of n (statements block)) (behind_of n (statements block))
no_statement n block h = sym (ap (run_here (first_of n (statements block))) (past_end n block h))

-- what begins with the statement that has the number
begins_with : (n : ℕ) (block : List Stmt) (s : Stmt) → n < length block → s ≡ get_or block n s → run_here (first_of n (statements block)) (behind_of n (statements block)) ≡ run_where (is_loop (statement s)) (run_of (first_of n (statements block)))
begins_with n block s below is = ap (run_here (first_of n (statements block))) (sym (statements_behind n block) ∙ ap statements (next_item block n s below is))

pub no_loop : (n : ℕ) (block : List Stmt) (s : Stmt) → n < length block → s ≡ get_or block n s → is_loop (statement s) ≡ false → None ≡ run_here (first_of n (statements block)) (behind_of n (statements block))
no_loop n block s below is other = sym (begins_with n block s below is ∙ ap (λ (b : Bool). run_where b (run_of (first_of n (statements block)))) other)

pub run_before : (n : ℕ) (block before run : List Stmt) (s : Stmt) → n < length block → s ≡ get_or block n s → is_loop (statement s) ≡ true → statements before ≡ first_of n (statements block) → run_of (statements before) ≡ statements run → Some (statements run) ≡ run_here (first_of n (statements block)) (behind_of n (statements block))
run_before n block before run s below is loops first ran =
    ap Some (sym ran ∙ ap run_of first) ∙ sym (begins_with n block s below is ∙ ap (λ (b : Bool). run_where b (run_of (first_of n (statements block)))) loops)

-- one step down the path
pub step_run : (path below rest : List ℕ) (b m n : ℕ) (block body : Statements) (s : Statement) (r : Option Statements) → path ≡ b ∷ below → below ≡ m ∷ rest → Some s ≡ numbered n block → Some body ≡ branch_of b s → r ≡ run_in rest m body → r ≡ run_in path n block
step_run path below rest b m n block body s r is more number branch there =
    let whole : path ≡ b ∷ m ∷ rest = is ∙ ap (λ (q : List ℕ). b ∷ q) more in
    there
    ∙ ap (found_in (run_in rest m)) branch
    ∙ ap (found_in (λ (t : Statement). found_in (run_in rest m) (branch_of b t))) number
    ∙ ap (λ (q : List ℕ). run_in q n block) (sym whole)

-- ---- Where there may be none

pub found_there : (o : Option Fragment) (run : Statements) → Some run ≡ run_of_fragment o → run ≡ run_or_nothing o
found_there None run e = absurd cc
found_there (Some f) run e = cc

pub nothing_there : (o : Option Fragment) → None ≡ run_of_fragment o → Nothing ≡ run_or_nothing o
nothing_there None e = refl
nothing_there (Some f) e = absurd cc
