-- The loop to which a path leads, as the code finds it.
use Rattle.std.specs.Prelude.{ℕ, zero, suc, Bool, true, false, ◌&&◌, List, [], ◌∷◌, if◌then◌else◌}
use Rattle.std.proofs.Common.{◌≡◌, ◌+◌, ◌≤◌, refl, sym, ap, ◌∙◌, length, take, drop, get_or, arith}
use Rattle.java_ast.specs.declared.tree.Stmt.{Stmt}
use Rattle.java_ast.specs.Path.{first_of}
use Rattle.java_ast.specs.Reading.{statement, statements}
use Rattle.java_ast.specs.Tree.{Statement, Statements, Nothing, Then}
use Rattle.loop_text.specs.Statements.Fragment.{is_simple, are_simple, before_run, run_of}
use Rattle.loop_text.proofs.Trees.Walked.{next_item}

-- ---- The first statements, and those behind them

pub statements_first : (n : ℕ) (xs : List Stmt) → statements (take n xs) ≡ first_of n (statements xs)
statements_first zero xs = refl
statements_first (suc n) [] = refl
statements_first (suc n) (x ∷ xs) = ap (Then (statement x)) (statements_first n xs)

pub statements_all : (n : ℕ) (xs : List Stmt) → length xs ≤ n → statements xs ≡ first_of n (statements xs)
statements_all zero [] h = refl
statements_all zero (x ∷ xs) h = absurd (omega arith)
statements_all (suc n) [] h = refl
statements_all (suc n) (x ∷ xs) h = ap (Then (statement x)) (statements_all n xs (omega arith))

-- ---- Where a run begins

abbrev chosen : Bool → Statements → Statements → Statements
chosen b p q = if b then p else q

pub simple_front : (ss : Statements) → are_simple ss ≡ true → before_run ss ≡ Nothing
simple_front Nothing h = refl
simple_front (Then s ss) h = ap (λ (b : Bool). chosen b Nothing (Then s (before_run ss))) h

pub simple_run : (ss : Statements) → are_simple ss ≡ true → run_of ss ≡ ss
simple_run Nothing h = refl
simple_run (Then s ss) h = ap (λ (b : Bool). chosen b (Then s ss) (run_of ss)) h

other_front : (s : Statement) (ss : Statements) → are_simple (Then s ss) ≡ false → before_run (Then s ss) ≡ Then s (before_run ss)
other_front s ss h = ap (λ (b : Bool). chosen b Nothing (Then s (before_run ss))) h

other_run : (s : Statement) (ss : Statements) → are_simple (Then s ss) ≡ false → run_of (Then s ss) ≡ run_of ss
other_run s ss h = ap (λ (b : Bool). chosen b (Then s ss) (run_of ss)) h

and_false : (a b : Bool) → b ≡ false → (a && b) ≡ false
and_false true b h = h
and_false false b h = refl

not_simple : (n : ℕ) (xs rest : List Stmt) (s : Stmt) → drop n xs ≡ s ∷ rest → is_simple (statement s) ≡ false → are_simple (statements xs) ≡ false
not_simple zero [] rest s e h = absurd cc
not_simple (suc n) [] rest s e h = absurd cc
not_simple zero (x ∷ xs) rest s e h =
    let l : x ∷ xs ≡ s ∷ rest = e in
    let same : x ≡ s = cc in
    ap (λ (t : Stmt). is_simple (statement t) && are_simple (statements xs)) same ∙ ap (λ (b : Bool). b && are_simple (statements xs)) h
not_simple (suc n) (x ∷ xs) rest s e h = and_false (is_simple (statement x)) (are_simple (statements xs)) (not_simple n xs rest s e h)

front_split : (n : ℕ) (xs rest : List Stmt) (s : Stmt) → drop n xs ≡ s ∷ rest → is_simple (statement s) ≡ false → are_simple (statements rest) ≡ true → before_run (statements xs) ≡ statements (take (suc n) xs)
front_split zero [] rest s e h k = absurd cc
front_split (suc n) [] rest s e h k = absurd cc
front_split zero (x ∷ xs) rest s e h k =
    let l : x ∷ xs ≡ s ∷ rest = e in
    let same : xs ≡ rest = cc in
    other_front (statement x) (statements xs) (not_simple zero (x ∷ xs) rest s e h)
    ∙ ap (Then (statement x)) (simple_front (statements xs) (ap (λ (ys : List Stmt). are_simple (statements ys)) same ∙ k))
front_split (suc n) (x ∷ xs) rest s e h k =
    other_front (statement x) (statements xs) (not_simple (suc n) (x ∷ xs) rest s e h) ∙ ap (Then (statement x)) (front_split n xs rest s e h k)

run_split : (n : ℕ) (xs rest : List Stmt) (s : Stmt) → drop n xs ≡ s ∷ rest → is_simple (statement s) ≡ false → are_simple (statements rest) ≡ true → run_of (statements xs) ≡ statements (drop (suc n) xs)
run_split zero [] rest s e h k = absurd cc
run_split (suc n) [] rest s e h k = absurd cc
run_split zero (x ∷ xs) rest s e h k =
    let l : x ∷ xs ≡ s ∷ rest = e in
    let same : xs ≡ rest = cc in
    other_run (statement x) (statements xs) (not_simple zero (x ∷ xs) rest s e h)
    ∙ simple_run (statements xs) (ap (λ (ys : List Stmt). are_simple (statements ys)) same ∙ k)
run_split (suc n) (x ∷ xs) rest s e h k =
    other_run (statement x) (statements xs) (not_simple (suc n) (x ∷ xs) rest s e h) ∙ run_split n xs rest s e h k

pub next_of : (before : List Stmt) (start last : ℕ) (s : Stmt) → start ≡ last + 1 → start ≤ length before → s ≡ get_or before last s → drop last before ≡ s ∷ drop start before
next_of before start last s one within is = next_item before last s (omega arith) is ∙ ap (λ (n : ℕ). s ∷ drop n before) (sym one)

-- the statement before the run is none of its own
pub front_begins : (before : List Stmt) (start last : ℕ) (s : Stmt) → start ≡ last + 1 → start ≤ length before → s ≡ get_or before last s → is_simple (statement s) ≡ false → are_simple (statements (drop start before)) ≡ true → before_run (statements before) ≡ statements (take start before)
front_begins before start last s one within is other simple =
    front_split last before (drop start before) s (next_of before start last s one within is) other simple
    ∙ ap (λ (n : ℕ). statements (take n before)) (let e : suc last ≡ start = omega arith in e)

pub run_begins : (before : List Stmt) (start last : ℕ) (s : Stmt) → start ≡ last + 1 → start ≤ length before → s ≡ get_or before last s → is_simple (statement s) ≡ false → are_simple (statements (drop start before)) ≡ true → run_of (statements before) ≡ statements (drop start before)
run_begins before start last s one within is other simple =
    run_split last before (drop start before) s (next_of before start last s one within is) other simple
    ∙ ap (λ (n : ℕ). statements (drop n before)) (let e : suc last ≡ start = omega arith in e)

-- all statements are the run
pub front_whole : (before : List Stmt) (start : ℕ) → start ≤ 0 → are_simple (statements (drop start before)) ≡ true → before_run (statements before) ≡ statements (take start before)
front_whole before zero none simple = simple_front (statements before) simple
front_whole before (suc start) none simple = absurd (omega arith)

pub run_whole : (before : List Stmt) (start : ℕ) → start ≤ 0 → are_simple (statements (drop start before)) ≡ true → run_of (statements before) ≡ statements (drop start before)
run_whole before zero none simple = simple_run (statements before) simple
run_whole before (suc start) none simple = absurd (omega arith)
