-- Where the run and the loop of a fragment stand: a place in the method's body, with the loop behind the run.
use Rattle.std.proofs.Common.{◌≡◌, ℕ, zero, suc, ◌+◌, ◌≤◌, Bool, true, false, List, [], ◌∷◌, Option, Some, None, refl, sym, ap, ◌∙◌, subst, arith}
use Rattle.std.specs.Prelude.{◌++◌, ◌==◌, if◌then◌else◌, slice_get}
use Rattle.std.proofs.lemmas.Bool.Decides.{nat_tests}
use Rattle.java_ast.specs.Tree as tree
use Rattle.java_ast.specs.Tree.{Statement, Statements, Nothing, Then, PlainMethod, PlainProgram}
use Rattle.java_ast.specs.Path as paths
use Rattle.java_ast.specs.Path.{found_in, and_then, numbered, branch_of, first_branch, either_branch, behind_of, last_of, statement_in}
use Rattle.java_mean.specs.Refines.{Hole, Here, Past, InIf, InThen, InElse, InEach, InWhile, followed_by, fill, first_of, path_of}
use Rattle.java_loops.specs.Walks.Places.{past, inside, place_in, of_branch, branch_there, run_in}
use Rattle.java_loops.specs.Walks.Replacing.{run_and_loop}
use Rattle.loop_text.specs.Statements.Fragment.{Fragment, are_simple, before_run, run_of, fragment_of, fragment_where, fragment_here, fragment_in, fragment_at}
use Rattle.loop_text.specs.Statements.Loops.{is_loop}
use Rattle.java_ast.specs.Names.{Names, with_name, with_names, declared_by, declared_among, walking, names_of_params}
use Rattle.java_loops.proofs.Kept.Longest.{run_splits, run_is_simple}

-- ---- Places

-- the place behind these statements, where they are the first at a place
abbrev pub behind_all : Statements → Hole → Hole
behind_all p (Here q) = past p (Here q)
behind_all p (Past a h) = Past a (behind_all p h)
behind_all p (InIf at e h q) = InIf at e (behind_all p h) q
behind_all p (InThen at e h b q) = InThen at e (behind_all p h) b q
behind_all p (InElse at e a h q) = InElse at e a (behind_all p h) q
behind_all p (InEach at ty x e h q) = InEach at ty x e (behind_all p h) q
behind_all p (InWhile at e h q) = InWhile at e (behind_all p h) q

-- what stands behind a place in its block
abbrev pub rest_of : Hole → Statements
rest_of (Here q) = q
rest_of (Past a h) = rest_of h
rest_of (InIf at e h q) = rest_of h
rest_of (InThen at e h b q) = rest_of h
rest_of (InElse at e a h q) = rest_of h
rest_of (InEach at ty x e h q) = rest_of h
rest_of (InWhile at e h q) = rest_of h

-- the names that are visible at a place
abbrev pub names_at : Names → Hole → Names
names_at names (Here q) = names
names_at names (Past a h) = names_at (with_names names (declared_by a)) h
names_at names (InIf at e h q) = names_at names h
names_at names (InThen at e h b q) = names_at names h
names_at names (InElse at e a h q) = names_at names h
names_at names (InEach at ty x e h q) = names_at (with_name names x) h
names_at names (InWhile at e h q) = names_at names h

-- The fragment's run and loop stand at a place of the block, and the loop there where the path leads: the place of the
-- statements from the number at which the run begins to the loop.
pub record IsPlaced (names : Names) (block : Statements) (n : ℕ) (path : List ℕ) (f : Fragment) : Type 0 where
  pub hole : Hole
  pub is : block ≡ fill hole (run_and_loop f.run f.loop)
  pub first : first_of (behind_all f.run hole) ≡ n
  pub down : path_of (behind_all f.run hole) ≡ path
  pub rest : rest_of hole ≡ f.behind
  pub visible : names_at names hole ≡ f.visible
  pub simple : are_simple f.run ≡ true
  pub loops : is_loop f.loop ≡ true
  pub number : ℕ
  pub before_loop : number ≤ last_of (n ∷ path)
  pub place : place_in path n number block ≡ hole
  pub run_there : run_in path n number block ≡ f.run
  pub loop_there : statement_in path n block ≡ Some f.loop

-- ---- Statements in parts

pub and_then_is : (p q : Statements) → and_then p q ≡ followed_by p q
and_then_is Nothing q = refl
and_then_is (Then a p) q = ap (Then a) (and_then_is p q)

pub followed_by-assoc : (p q r : Statements) → followed_by (followed_by p q) r ≡ followed_by p (followed_by q r)
followed_by-assoc Nothing q r = refl
followed_by-assoc (Then a p) q r = ap (Then a) (followed_by-assoc p q r)

pub run_followed : (ss : Statements) → followed_by (before_run ss) (run_of ss) ≡ ss
run_followed ss = sym (and_then_is (before_run ss) (run_of ss)) ∙ run_splits ss

front_and_rest : (n : ℕ) (block : Statements) (s : Statement) (ss : Statements) → behind_of n block ≡ Then s ss → followed_by (paths.first_of n block) (Then s ss) ≡ block
front_and_rest zero block s ss h = sym h
front_and_rest (suc n) Nothing s ss h = absurd cc
front_and_rest (suc n) (Then a p) s ss h = ap (Then a) (front_and_rest n p s ss h)

some_is : {A : Type 0} (a b : A) → Some a ≡ Some b → a ≡ b
some_is a b e = cc

numbered_split : (n : ℕ) (block : Statements) (s : Statement) → numbered n block ≡ Some s → behind_of n block ≡ Then s (behind_of (suc n) block)
numbered_split zero Nothing s h = absurd cc
numbered_split (suc n) Nothing s h = absurd cc
numbered_split zero (Then a p) s h = ap (λ z. Then z p) (some_is a s h)
numbered_split (suc n) (Then a p) s h = numbered_split n p s h

-- ---- Places behind statements

pub fill_past : (p : Statements) (h : Hole) (x : Statements) → fill (past p h) x ≡ followed_by p (fill h x)
fill_past Nothing h x = refl
fill_past (Then a p) h x = ap (Then a) (fill_past p h x)

first_past : (n : ℕ) (block : Statements) (s : Statement) (ss : Statements) (h : Hole) → behind_of n block ≡ Then s ss → first_of h ≡ zero → first_of (past (paths.first_of n block) h) ≡ n
first_past zero block s ss h e z = z
first_past (suc n) Nothing s ss h e z = absurd cc
first_past (suc n) (Then a p) s ss h e z = ap suc (first_past n p s ss h e z)

path_past : (p : Statements) (h : Hole) → path_of (past p h) ≡ path_of h
path_past Nothing h = refl
path_past (Then a p) h = path_past p h

rest_past : (p : Statements) (h : Hole) → rest_of (past p h) ≡ rest_of h
rest_past Nothing h = refl
rest_past (Then a p) h = rest_past p h

behind_past : (p run : Statements) (h : Hole) → behind_all run (past p h) ≡ past p (behind_all run h)
behind_past Nothing run h = refl
behind_past (Then a p) run h = ap (Past a) (behind_past p run h)

past_joined : (p q : Statements) (h : Hole) → past p (past q h) ≡ past (followed_by p q) h
past_joined Nothing q h = refl
past_joined (Then a p) q h = ap (Past a) (past_joined p q h)

with_names_joined : (xs ys zs : Names) → with_names xs (ys ++ zs) ≡ with_names (with_names xs ys) zs
with_names_joined xs [] zs = refl
with_names_joined xs (y ∷ ys) zs = with_names_joined (with_name xs y) ys zs

names_past : (p : Statements) (names : Names) (h : Hole) → names_at names (past p h) ≡ names_at (with_names names (declared_among p)) h
names_past Nothing names h = refl
names_past (Then a p) names h =
    names_past p (with_names names (declared_by a)) h ∙ ap (λ (ns : Names). names_at ns h) (sym (with_names_joined names (declared_by a) (declared_among p)))

-- statements at a place are those behind it, and before them what it is behind
pub fill_behind : (h : Hole) (p x : Statements) → fill h (followed_by p x) ≡ fill (behind_all p h) x
fill_behind (Here q) p x = followed_by-assoc p x q ∙ sym (fill_past p (Here q) x)
fill_behind (Past a h) p x = ap (Then a) (fill_behind h p x)
fill_behind (InIf at e h q) p x = ap (λ z. Then (tree.If at e z) q) (fill_behind h p x)
fill_behind (InThen at e h b q) p x = ap (λ z. Then (tree.IfElse at e z b) q) (fill_behind h p x)
fill_behind (InElse at e a h q) p x = ap (λ z. Then (tree.IfElse at e a z) q) (fill_behind h p x)
fill_behind (InEach at ty x' e h q) p x = ap (λ z. Then (tree.ForEach at ty x' e z) q) (fill_behind h p x)
fill_behind (InWhile at e h q) p x = ap (λ z. Then (tree.While at e z) q) (fill_behind h p x)

-- ---- The numbers of statements

abbrev count : Statements → ℕ
count Nothing = 0
count (Then a p) = suc (count p)

count_followed : (p q : Statements) → count (followed_by p q) ≡ count p + count q
count_followed Nothing q = omega arith
count_followed (Then a p) q = let ih : count (followed_by p q) ≡ count p + count q = count_followed p q in omega arith

front_of : (p q : Statements) → paths.first_of (count p) (followed_by p q) ≡ p
front_of Nothing q = refl
front_of (Then a p) q = ap (Then a) (front_of p q)

back_of : (p q : Statements) → behind_of (count p) (followed_by p q) ≡ q
back_of Nothing q = refl
back_of (Then a p) q = back_of p q

count_front : (n : ℕ) (block : Statements) (s : Statement) (ss : Statements) → behind_of n block ≡ Then s ss → count (paths.first_of n block) ≡ n
count_front zero block s ss e = refl
count_front (suc n) Nothing s ss e = absurd cc
count_front (suc n) (Then a p) s ss e = ap suc (count_front n p s ss e)

statement_there : (n : ℕ) (block : Statements) (s : Statement) (ss : Statements) → behind_of n block ≡ Then s ss → numbered n block ≡ Some s
statement_there zero Nothing s ss e = absurd cc
statement_there zero (Then a p) s ss e = ap Some (let l : Then a p ≡ Then s ss = e in cc)
statement_there (suc n) Nothing s ss e = absurd cc
statement_there (suc n) (Then a p) s ss e = statement_there n p s ss e

rest_there : (n : ℕ) (block : Statements) (s : Statement) (ss : Statements) → behind_of n block ≡ Then s ss → behind_of (suc n) block ≡ ss
rest_there zero Nothing s ss e = absurd cc
rest_there zero (Then a p) s ss e = let l : Then a p ≡ Then s ss = e in cc
rest_there (suc n) Nothing s ss e = absurd cc
rest_there (suc n) (Then a p) s ss e = rest_there n p s ss e

-- ---- A loop of the block itself

placed_loop : (names : Names) (n : ℕ) (block : Statements) (s : Statement) (ss : Statements) → behind_of n block ≡ Then s ss → is_loop s ≡ true → IsPlaced names block n [] (fragment_of names (paths.first_of n block) s ss)
placed_loop names n block s ss e l =
    let before : Statements = paths.first_of n block in
    let front : Statements = before_run before in
    let run : Statements = run_of before in
    let whole : block ≡ followed_by front (followed_by run (Then s ss)) = sym (front_and_rest n block s ss e) ∙ ap (λ p. followed_by p (Then s ss)) (sym (run_followed before)) ∙ followed_by-assoc front run (Then s ss) in
    let hole : Hole = past (before_run before) (Here ss) in
    let there : behind_all (run_of before) hole ≡ past before (Here ss) = behind_past (before_run before) (run_of before) (Here ss) ∙ past_joined (before_run before) (run_of before) (Here ss) ∙ ap (λ p. past p (Here ss)) (run_followed before) in
    record {
      hole = hole;
      is = sym (fill_behind hole (run_of before) (Then s Nothing) ∙ ap (λ h. fill h (Then s Nothing)) there ∙ fill_past before (Here ss) (Then s Nothing) ∙ front_and_rest n block s ss e);
      first = ap first_of there ∙ first_past n block s ss (Here ss) e refl;
      down = ap path_of there ∙ path_past before (Here ss);
      rest = rest_past (before_run before) (Here ss);
      visible = names_past (before_run before) names (Here ss);
      simple = run_is_simple before;
      loops = l;
      number = count front;
      before_loop = (let sum : count (followed_by front run) ≡ count front + count run = count_followed front run in let all : count (followed_by front run) ≡ n = ap count (run_followed before) ∙ count_front n block s ss e in omega arith);
      place = ap (λ q. past (paths.first_of (count front) block) (Here q)) (rest_there n block s ss e) ∙ ap (λ p. past p (Here ss)) (ap (paths.first_of (count front)) whole ∙ front_of front (followed_by run (Then s ss)));
      run_there = ap (behind_of (count front)) (sym (run_followed before)) ∙ back_of front run;
      loop_there = statement_there n block s ss e;
    }

placed_where : (b : Bool) (names : Names) (n : ℕ) (block : Statements) (s : Statement) (ss : Statements) (f : Fragment) → behind_of n block ≡ Then s ss → is_loop s ≡ b → fragment_where b (fragment_of names (paths.first_of n block) s ss) ≡ Some f → IsPlaced names block n [] f
placed_where true names n block s ss f e l h = subst (IsPlaced names block n []) (some_is (fragment_of names (paths.first_of n block) s ss) f h) (placed_loop names n block s ss e l)
placed_where false names n block s ss f e l h = absurd cc

placed_here : (names : Names) (n : ℕ) (block : Statements) (f : Fragment) (rest : Statements) → behind_of n block ≡ rest → fragment_here names (paths.first_of n block) rest ≡ Some f → IsPlaced names block n [] f
placed_here names n block f Nothing e h = absurd cc
placed_here names n block f (Then s ss) e h = placed_where (is_loop s) names n block s ss f e refl h

-- ---- A loop further down

-- a way from a place in a branch of a statement to one in a block that begins with the statement
record Wraps (s : Statement) (b : ℕ) (body rest : Statements) (wrap : Hole → Hole) : Type 0 where
  fills : (h : Hole) (x : Statements) → body ≡ fill h x → Then s rest ≡ fill (wrap h) x
  first : (h : Hole) → first_of (wrap h) ≡ zero
  down : (h : Hole) → path_of (wrap h) ≡ b ∷ first_of h ∷ path_of h
  behind : (p : Statements) (h : Hole) → behind_all p (wrap h) ≡ wrap (behind_all p h)
  last : (h : Hole) → rest_of (wrap h) ≡ rest_of h
  names : (ns : Names) (h : Hole) → names_at ns (wrap h) ≡ names_at (with_names ns (walking s)) h
  leads : (f : Statements → Hole) → inside b (Some s) f rest ≡ wrap (f body)
  branch : branch_of b s ≡ Some body

abbrev names_in_branch : Names → ℕ → Statements → Statement → Names
names_in_branch names n block s = with_names (with_names names (declared_among (paths.first_of n block))) (walking s)

placed_deeper : (names : Names) (b m n : ℕ) (path : List ℕ) (block : Statements) (f : Fragment) (s : Statement) (body : Statements) (wrap : Hole → Hole) → Wraps s b body (behind_of (suc n) block) wrap → numbered n block ≡ Some s → IsPlaced (names_in_branch names n block s) body m path f → IsPlaced names block n (b ∷ m ∷ path) f
placed_deeper names b m n path block f s body wrap w e k =
    let front : Statements = paths.first_of n block in
    let rest : Statements = behind_of (suc n) block in
    let split : behind_of n block ≡ Then s rest = numbered_split n block s e in
    let hole : Hole = past front (wrap k.hole) in
    let there : behind_all f.run hole ≡ past front (wrap (behind_all f.run k.hole)) = behind_past front f.run (wrap k.hole) ∙ ap (past front) (w.behind f.run k.hole) in
    record {
      hole = hole;
      is = sym (front_and_rest n block s rest split) ∙ ap (followed_by front) (w.fills k.hole (run_and_loop f.run f.loop) k.is) ∙ sym (fill_past front (wrap k.hole) (run_and_loop f.run f.loop));
      first = ap first_of there ∙ first_past n block s rest (wrap (behind_all f.run k.hole)) split (w.first (behind_all f.run k.hole));
      down = ap path_of there ∙ path_past front (wrap (behind_all f.run k.hole)) ∙ w.down (behind_all f.run k.hole) ∙ ap (λ j. b ∷ j ∷ path_of (behind_all f.run k.hole)) k.first ∙ ap (λ ps. b ∷ m ∷ ps) k.down;
      rest = rest_past front (wrap k.hole) ∙ w.last k.hole ∙ k.rest;
      visible = names_past front names (wrap k.hole) ∙ w.names (with_names names (declared_among front)) k.hole ∙ k.visible;
      simple = k.simple;
      loops = k.loops;
      number = k.number;
      before_loop = k.before_loop;
      place = ap (λ o. past front (inside b o (place_in path m k.number) rest)) e ∙ ap (past front) (w.leads (place_in path m k.number) ∙ ap wrap k.place);
      run_there = ap (λ o. of_branch (run_in path m k.number) (branch_there b o)) e ∙ ap (of_branch (run_in path m k.number)) w.branch ∙ k.run_there;
      loop_there = ap (found_in (λ z. found_in (statement_in path m) (branch_of b z))) e ∙ ap (found_in (statement_in path m)) w.branch ∙ k.loop_there;
    }

not_zero : (b : ℕ) → (suc b == 0) ≡ false
not_zero b = grind (arith, nat_tests)

not_one : (b : ℕ) → (suc (suc b) == 1) ≡ false
not_one b = grind (arith, nat_tests)

no_branch : (b : ℕ) (p : Statements) → first_branch (suc b) p ≡ None
no_branch b p = ap (λ (t : Bool). if t then Some p else None) (not_zero b)

no_other : (b : ℕ) (p q : Statements) → either_branch (suc (suc b)) p q ≡ None
no_other b p q = ap (λ (t : Bool). if t then Some p else (if suc (suc b) == 1 then Some q else None)) (not_zero (suc b)) ∙ ap (λ (t : Bool). if t then Some q else None) (not_one b)

module _ (names : Names) (m n : ℕ) (path : List ℕ) (block : Statements) (f : Fragment) (ih : (ns : Names) (body : Statements) → fragment_in ns path m body ≡ Some f → IsPlaced ns body m path f) where
  abbrev at_branch : Statement → Option Statements → Option Fragment
  at_branch s o = found_in (fragment_in (names_in_branch names n block s) path m) o

  nowhere : (s : Statement) (o : Option Statements) → o ≡ None → at_branch s o ≡ Some f → ⊥
  nowhere s None e h = absurd cc
  nowhere s (Some p) e h = absurd cc

  placed_branch : (s : Statement) (b : ℕ) → numbered n block ≡ Some s → at_branch s (branch_of b s) ≡ Some f → IsPlaced names block n (b ∷ m ∷ path) f
  placed_branch (tree.If at e p) zero e' h =
      placed_deeper names zero m n path block f (tree.If at e p) p (λ k. InIf at e k (behind_of (suc n) block)) (record { fills = λ k x q. ap (λ z. Then (tree.If at e z) (behind_of (suc n) block)) q; first = λ k. refl; down = λ k. refl; behind = λ r k. refl; last = λ k. refl; names = λ ns k. refl; leads = λ z. refl; branch = refl }) e' (ih (names_in_branch names n block (tree.If at e p)) p h)
  placed_branch (tree.If at e p) (suc b) e' h = elim (nowhere (tree.If at e p) (first_branch (suc b) p) (no_branch b p) h) [ ]
  placed_branch (tree.IfElse at e p q) zero e' h =
      placed_deeper names zero m n path block f (tree.IfElse at e p q) p (λ k. InThen at e k q (behind_of (suc n) block)) (record { fills = λ k x r. ap (λ z. Then (tree.IfElse at e z q) (behind_of (suc n) block)) r; first = λ k. refl; down = λ k. refl; behind = λ r k. refl; last = λ k. refl; names = λ ns k. refl; leads = λ z. refl; branch = refl }) e' (ih (names_in_branch names n block (tree.IfElse at e p q)) p h)
  placed_branch (tree.IfElse at e p q) (suc zero) e' h =
      placed_deeper names (suc zero) m n path block f (tree.IfElse at e p q) q (λ k. InElse at e p k (behind_of (suc n) block)) (record { fills = λ k x r. ap (λ z. Then (tree.IfElse at e p z) (behind_of (suc n) block)) r; first = λ k. refl; down = λ k. refl; behind = λ r k. refl; last = λ k. refl; names = λ ns k. refl; leads = λ z. refl; branch = refl }) e' (ih (names_in_branch names n block (tree.IfElse at e p q)) q h)
  placed_branch (tree.IfElse at e p q) (suc (suc b)) e' h = elim (nowhere (tree.IfElse at e p q) (either_branch (suc (suc b)) p q) (no_other b p q) h) [ ]
  placed_branch (tree.ForEach at ty x e p) zero e' h =
      placed_deeper names zero m n path block f (tree.ForEach at ty x e p) p (λ k. InEach at ty x e k (behind_of (suc n) block)) (record { fills = λ k y q. ap (λ z. Then (tree.ForEach at ty x e z) (behind_of (suc n) block)) q; first = λ k. refl; down = λ k. refl; behind = λ r k. refl; last = λ k. refl; names = λ ns k. refl; leads = λ z. refl; branch = refl }) e' (ih (names_in_branch names n block (tree.ForEach at ty x e p)) p h)
  placed_branch (tree.ForEach at ty x e p) (suc b) e' h = elim (nowhere (tree.ForEach at ty x e p) (first_branch (suc b) p) (no_branch b p) h) [ ]
  placed_branch (tree.While at e p) zero e' h =
      placed_deeper names zero m n path block f (tree.While at e p) p (λ k. InWhile at e k (behind_of (suc n) block)) (record { fills = λ k x q. ap (λ z. Then (tree.While at e z) (behind_of (suc n) block)) q; first = λ k. refl; down = λ k. refl; behind = λ r k. refl; last = λ k. refl; names = λ ns k. refl; leads = λ z. refl; branch = refl }) e' (ih (names_in_branch names n block (tree.While at e p)) p h)
  placed_branch (tree.While at e p) (suc b) e' h = elim (nowhere (tree.While at e p) (first_branch (suc b) p) (no_branch b p) h) [ ]
  placed_branch (tree.Declare at ty x e) b e' h = absurd cc
  placed_branch (tree.Assign at x e) b e' h = absurd cc
  placed_branch (tree.Add at x e) b e' h = absurd cc
  placed_branch (tree.Sort at x keys downs) b e' h = absurd cc
  placed_branch (tree.Print at e) b e' h = absurd cc
  placed_branch (tree.Return at e) b e' h = absurd cc
  placed_branch (tree.Break at) b e' h = absurd cc

  placed_number : (b : ℕ) (o : Option Statement) → numbered n block ≡ o → found_in (λ s. at_branch s (branch_of b s)) o ≡ Some f → IsPlaced names block n (b ∷ m ∷ path) f
  placed_number b None e h = absurd cc
  placed_number b (Some s) e h = placed_branch s b e h

-- the fragment to whose loop a path leads stands there
pub placed : (path : List ℕ) (names : Names) (n : ℕ) (block : Statements) (f : Fragment) → fragment_in names path n block ≡ Some f → IsPlaced names block n path f
placed [] names n block f h = placed_here names n block f (behind_of n block) refl h
placed (b ∷ []) names n block f h = absurd cc
placed (b ∷ m ∷ path) names n block f h = placed_number names m n path block f (λ ns body k. placed path ns m body f k) b (numbered n block) refl h

-- ---- In a program

-- the fragment stands in this method of the program, at the method's number and further down as the path says
pub record IsPlacedIn (p : PlainProgram) (path : List ℕ) (f : Fragment) : Type 0 where
  pub number : ℕ
  pub first : ℕ
  pub down : List ℕ
  pub is : path ≡ number ∷ first ∷ down
  pub method : PlainMethod
  pub found : slice_get p.methods number ≡ Some method
  pub placed : IsPlaced (names_of_params method.params) method.body first down f

placed_method : (p : PlainProgram) (m n : ℕ) (path : List ℕ) (f : Fragment) (o : Option PlainMethod) → slice_get p.methods m ≡ o → found_in (λ (method : PlainMethod). fragment_in (names_of_params method.params) path n method.body) o ≡ Some f → IsPlacedIn p (m ∷ n ∷ path) f
placed_method p m n path f None e h = absurd cc
placed_method p m n path f (Some method) e h = record { number = m; first = n; down = path; is = refl; method = method; found = e; placed = placed path (names_of_params method.params) n method.body f h }

pub placed_at : (path : List ℕ) (p : PlainProgram) (f : Fragment) → fragment_at path p ≡ Some f → IsPlacedIn p path f
placed_at [] p f h = absurd cc
placed_at (m ∷ []) p f h = absurd cc
placed_at (m ∷ n ∷ path) p f h = placed_method p m n path f (slice_get p.methods m) refl h
