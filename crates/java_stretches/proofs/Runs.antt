-- Where a run begins, and what is kept of it.
use Rattle.std.proofs.Common.{◌≡◌, ℕ, zero, suc, ◌≤◌, ◌<◌, Bool, true, false, cond, List, [], ◌∷◌, Option, Some, None, refl, sym, ap, subst, ◌∙◌, arith}
use Rattle.std.specs.Prelude.{slice_get}
use Rattle.std.proofs.lemmas.Bool.{and_parts, and_from}
use Rattle.java_ast.specs.Path.{found_in, numbered, branch_of, and_then, first_of, behind_of, last_of}
use Rattle.java_ast.specs.Spans.{place_of}
use Rattle.java_ast.specs.Tree.{Statement, Declare, Assign, Add, Sort, If, IfElse, ForEach, While, Print, Return, Break, Statements, Nothing, Then, PlainMethod, PlainProgram}
use Rattle.java_stretches.specs.Lines.{IsSimple, AreSimple, AreLines}
use Rattle.loop_text.specs.Sites.Sites.{has_number}
use Rattle.loop_text.specs.Statements.Fragment.{Fragment, is_simple, are_simple, run_of, before_run, fragment_of, fragment_where, fragment_here, fragment_in, fragment_at}
use Rattle.loop_text.specs.Statements.KeptStatements.{how_many, first_in, first_at, with_numbers}
use Rattle.loop_text.specs.Statements.Loops.{is_loop}
use Rattle.java_ast.specs.Names.{Names, with_names, declared_among, walking, names_of_params}
use Rattle.java_stretches.specs.Focus.{Chain}

-- ---- Where a run begins

-- a run that isn't empty begins before the loop
shorter : (front : Statements) → (run_of front ≡ Nothing → ⊥) → how_many (before_run front) < how_many front
shorter Nothing some = absurd (some refl)
shorter (Then s ss) some = by (are_simple (Then s ss)) some (λ few. shorter ss few)
  where
    by : (c : Bool) → (cond c (Then s ss) (run_of ss) ≡ Nothing → ⊥) → ((run_of ss ≡ Nothing → ⊥) → how_many (before_run ss) < how_many ss) → how_many (cond c Nothing (Then s (before_run ss))) < suc (how_many ss)
    by true few again = omega arith
    by false few again = omega (arith, again few)

as_many : (n : ℕ) (block : Statements) (s : Statement) (rest : Statements) → behind_of n block ≡ Then s rest → how_many (first_of n block) ≡ n
as_many zero block s rest e = refl
as_many (suc n) Nothing s rest e = absurd cc
as_many (suc n) (Then r block) s rest e = ap suc (as_many n block s rest e)

begins_here : (names : Names) (n : ℕ) (block : Statements) (f : Fragment) (rest : Statements) → behind_of n block ≡ rest → fragment_here names (first_of n block) rest ≡ Some f → (f.run ≡ Nothing → ⊥) → how_many (before_run (first_of n block)) < n
begins_here names n block f Nothing e h some = absurd cc
begins_here names n block f (Then s rest) e h some = by (is_loop s) h
  where
    by : (c : Bool) → fragment_where c (fragment_of names (first_of n block) s rest) ≡ Some f → how_many (before_run (first_of n block)) < n
    by true k =
        let is : fragment_of names (first_of n block) s rest ≡ f = cc in
        let run : run_of (first_of n block) ≡ f.run = ap (λ (g : Fragment). g.run) is in
        subst (λ (i : ℕ). how_many (before_run (first_of n block)) < i) (as_many n block s rest e) (shorter (first_of n block) (λ none. some (sym run ∙ none)))
    by false k = absurd cc

begins_in : (path : List ℕ) (names : Names) (n : ℕ) (block : Statements) (f : Fragment) (first : ℕ) → fragment_in names path n block ≡ Some f → first_in path n block ≡ Some first → (f.run ≡ Nothing → ⊥) → first < last_of (n ∷ path)
begins_in [] names n block f first h e some =
    let is : how_many (before_run (first_of n block)) ≡ first = cc in
    subst (λ (k : ℕ). k < n) is (begins_here names n block f (behind_of n block) refl h some)
begins_in (b ∷ []) names n block f first h e some = absurd cc
begins_in (b ∷ m ∷ path) names n block f first h e some = by (λ seen body g k. begins_in path seen m body f first g k some) (numbered n block) h e
  where
    by_branch : ((seen : Names) (body : Statements) → fragment_in seen path m body ≡ Some f → first_in path m body ≡ Some first → first < last_of (m ∷ path)) → (seen : Names) (o : Option Statements) → found_in (fragment_in seen path m) o ≡ Some f → found_in (first_in path m) o ≡ Some first → first < last_of (m ∷ path)
    by_branch again seen None g k = absurd cc
    by_branch again seen (Some body) g k = again seen body g k

    by : ((seen : Names) (body : Statements) → fragment_in seen path m body ≡ Some f → first_in path m body ≡ Some first → first < last_of (m ∷ path)) → (o : Option Statement)
        → found_in (λ s. found_in (fragment_in (with_names (with_names names (declared_among (first_of n block))) (walking s)) path m) (branch_of b s)) o ≡ Some f → found_in (λ s. found_in (first_in path m) (branch_of b s)) o ≡ Some first → first < last_of (m ∷ path)
    by again None g k = absurd cc
    by again (Some s) g k = by_branch again (with_names (with_names names (declared_among (first_of n block))) (walking s)) (branch_of b s) g k

-- A run that isn't empty begins before its loop.
pub run_begins : (path : List ℕ) (p : PlainProgram) (f : Fragment) (first : ℕ) → fragment_at path p ≡ Some f → first_at path p ≡ Some first → (f.run ≡ Nothing → ⊥) → first < last_of path
run_begins [] p f first h e some = absurd cc
run_begins (i ∷ []) p f first h e some = absurd cc
run_begins (i ∷ n ∷ path) p f first h e some = by (slice_get p.methods i) h e
  where
    by : (o : Option PlainMethod) → found_in (λ (m : PlainMethod). fragment_in (names_of_params m.params) path n m.body) o ≡ Some f → found_in (λ (m : PlainMethod). first_in path n m.body) o ≡ Some first → first < last_of (n ∷ path)
    by None g k = absurd cc
    by (Some m) g k = begins_in path (names_of_params m.params) n m.body f first g k some

-- ---- What is kept

chain_from : (q lo hi : ℕ) (block : Statements) → q ≤ lo → Chain lo hi block → Chain q hi block
chain_from q lo hi Nothing less h = omega (arith, less, h)
chain_from q lo hi (Then s ss) less h = (omega (arith, less, h.0), h.1, h.2)

pub chain_joined : (lo m hi : ℕ) (a b : Statements) → Chain lo m a → Chain m hi b → Chain lo hi (and_then a b)
chain_joined lo m hi Nothing b h k = chain_from lo m hi b h k
chain_joined lo m hi (Then s ss) b h k = (h.0, h.1, chain_joined (place_of s).start m hi ss b h.2 k)

pub chain_kept : (numbers : List ℕ) (n lo hi : ℕ) (run : Statements) → Chain lo hi run → Chain lo hi (with_numbers numbers n run)
chain_kept numbers n lo hi Nothing h = h
chain_kept numbers n lo hi (Then s ss) h = by (has_number numbers n) (chain_kept numbers (suc n) (place_of s).start hi ss h.2)
  where
    by : (c : Bool) → Chain (place_of s).start hi (with_numbers numbers (suc n) ss) → Chain lo hi (cond c (Then s (with_numbers numbers (suc n) ss)) (with_numbers numbers (suc n) ss))
    by true k = (h.0, h.1, k)
    by false k = chain_from lo (place_of s).start hi (with_numbers numbers (suc n) ss) h.0 k

pub simple_joined : (a b : Statements) → are_simple a ≡ true → are_simple b ≡ true → are_simple (and_then a b) ≡ true
simple_joined Nothing b h k = k
simple_joined (Then s ss) b h k =
    let two = and_parts (is_simple s) (are_simple ss) h in
    and_from (is_simple s) (are_simple (and_then ss b)) two.0 (simple_joined ss b two.1 k)

pub simple_kept : (numbers : List ℕ) (n : ℕ) (run : Statements) → are_simple run ≡ true → are_simple (with_numbers numbers n run) ≡ true
simple_kept numbers n Nothing h = h
simple_kept numbers n (Then s ss) h =
    let two = and_parts (is_simple s) (are_simple ss) h in
    by (has_number numbers n) two.0 (simple_kept numbers (suc n) ss two.1)
  where
    by : (c : Bool) → is_simple s ≡ true → are_simple (with_numbers numbers (suc n) ss) ≡ true → are_simple (cond c (Then s (with_numbers numbers (suc n) ss)) (with_numbers numbers (suc n) ss)) ≡ true
    by true one k = and_from (is_simple s) (are_simple (with_numbers numbers (suc n) ss)) one k
    by false one k = k

-- ---- Lines

one_line : (s : Statement) → is_simple s ≡ true → IsSimple s
one_line (Declare at ty name value) e = tt
one_line (Assign at name value) e = tt
one_line (Add at name value) e = tt
one_line (Sort at name keys downs) e = tt
one_line (If at test first) e = absurd cc
one_line (IfElse at test first other) e = absurd cc
one_line (ForEach at ty name list body) e = absurd cc
one_line (While at test body) e = absurd cc
one_line (Print at value) e = tt
one_line (Return at value) e = tt
one_line (Break at) e = tt

all_lines : (block : Statements) → are_simple block ≡ true → AreSimple block
all_lines Nothing e = tt
all_lines (Then s ss) e =
    let two = and_parts (is_simple s) (are_simple ss) e in
    (one_line s two.0, all_lines ss two.1)

-- such as a run may have are lines
pub are_lines : (block : Statements) (s : Statement) (ss : Statements) → block ≡ Then s ss → are_simple block ≡ true → AreLines block
are_lines block s ss is e = subst AreLines (sym is) (all_lines (Then s ss) (sym (ap are_simple is) ∙ e))
