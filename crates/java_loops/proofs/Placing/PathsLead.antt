-- The path of a loop of a program leads to a fragment, and to the number of its run's first statement.
use Rattle.std.specs.Prelude.{ℕ, zero, suc, Bool, true, false, ◌||◌, List, [], ◌∷◌, ◌++◌, slice_get}
use Rattle.std.specs.List.{AllByRecursion, list_any}
use Rattle.std.proofs.Common.{◌≡◌, ◌+◌, Option, Some, None, refl, sym, ap, ◌∙◌, subst, append_assoc, arith}
use Rattle.std.proofs.lemmas.Bool.{or_left, or_right}
use Rattle.std.proofs.lemmas.List.{append-nil}
use Rattle.tor_terms.specs.Same.{same_numbers}
use Rattle.java_ast.specs.Path.{found_in, numbered, branch_of, first_of, behind_of, statement_in}
use Rattle.java_ast.specs.Tree.{Statement, Statements, Nothing, Then, PlainMethod, PlainProgram}
use Rattle.java_ast.specs.Tree as tree
use Rattle.loop_text.specs.Statements.Fragment.{Fragment, fragment_of, fragment_where, fragment_here, fragment_in, fragment_at, before_run}
use Rattle.loop_text.specs.Statements.KeptStatements.{how_many, first_in, first_at}
use Rattle.loop_text.specs.Statements.Loops.{is_loop, loops_in, loops_among, loops_of_methods, loops_of}
use Rattle.java_ast.specs.Names.{Names, with_names, declared_among, walking, names_of_params}
use Rattle.loop_text.specs.Statements.Walking.{IsLoopOf}
use Rattle.java_loops.proofs.Valid.ValidNumbers.{numbers_self, numbers_true}

-- ---- From the statement at a path to the fragment there

abbrev pub HasValue : {A : Type 0} → Option A → Type 0
HasValue {A} o = (x : A) × (o ≡ Some x)

record Found {A B : Type 0} (f : A → Option B) (o : Option A) (y : B) : Type 0 where
  value : A
  is : o ≡ Some value
  gives : f value ≡ Some y

found_some : {A B : Type 0} (f : A → Option B) (o : Option A) (y : B) → found_in f o ≡ Some y → Found f o y
found_some f None y e = absurd cc
found_some f (Some x) y e = record { value = x; is = refl; gives = e }

split_at : (n : ℕ) (block : Statements) (s : Statement) → numbered n block ≡ Some s → behind_of n block ≡ Then s (behind_of (suc n) block)
split_at zero Nothing s e = absurd cc
split_at (suc n) Nothing s e = absurd cc
split_at zero (Then a p) s e = let same : a ≡ s = cc in ap (λ (t : Statement). Then t p) same
split_at (suc n) (Then a p) s e = split_at n p s e

fragment_lies : (path : List ℕ) (names : Names) (n : ℕ) (block : Statements) (s : Statement) → statement_in path n block ≡ Some s → is_loop s ≡ true → HasValue (fragment_in names path n block)
fragment_lies [] names n block s e l =
    let f : Fragment = fragment_of names (first_of n block) s (behind_of (suc n) block) in
    (f, ap (fragment_here names (first_of n block)) (split_at n block s e) ∙ ap (λ (b : Bool). fragment_where b f) l)
fragment_lies (b ∷ []) names n block s e l = absurd cc
fragment_lies (b ∷ m ∷ path) names n block s e l =
    let a = found_some (λ (t : Statement). found_in (statement_in path m) (branch_of b t)) (numbered n block) s e in
    let d = found_some (statement_in path m) (branch_of b a.value) s a.gives in
    let within : Names = with_names (with_names names (declared_among (first_of n block))) (walking a.value) in
    let there = fragment_lies path within m d.value s d.gives l in
    (there.0, ap (found_in (λ (t : Statement). found_in (fragment_in (with_names (with_names names (declared_among (first_of n block))) (walking t)) path m) (branch_of b t))) a.is ∙ ap (found_in (fragment_in within path m)) d.is ∙ there.1)

first_lies : (path : List ℕ) (n : ℕ) (block : Statements) (s : Statement) → statement_in path n block ≡ Some s → HasValue (first_in path n block)
first_lies [] n block s e = (how_many (before_run (first_of n block)), refl)
first_lies (b ∷ []) n block s e = absurd cc
first_lies (b ∷ m ∷ path) n block s e =
    let a = found_some (λ (t : Statement). found_in (statement_in path m) (branch_of b t)) (numbered n block) s e in
    let d = found_some (statement_in path m) (branch_of b a.value) s a.gives in
    let there = first_lies path m d.value s d.gives in
    (there.0, ap (found_in (λ (t : Statement). found_in (first_in path m) (branch_of b t))) a.is ∙ ap (found_in (first_in path m)) d.is ∙ there.1)

-- ---- Where the paths of loops lead

-- a path leads from a statement to a loop: itself, or one further down
record LeadsDown (here q : List ℕ) (s : Statement) : Type 0 where
  rest : List ℕ
  is : q ≡ here ++ rest
  loop : Statement
  there : statement_in rest zero (Then s Nothing) ≡ Some loop
  loops : is_loop loop ≡ true

-- a path leads to a loop in a block whose first statement has the number n
record LeadsIn (here q : List ℕ) (n : ℕ) (block : Statements) : Type 0 where
  number : ℕ
  place : ℕ
  sum : place ≡ n + number
  rest : List ℕ
  is : q ≡ here ++ place ∷ rest
  loop : Statement
  there : statement_in rest number block ≡ Some loop
  loops : is_loop loop ≡ true

first_same : (rest : List ℕ) (s : Statement) (ss : Statements) → statement_in rest zero (Then s ss) ≡ statement_in rest zero (Then s Nothing)
first_same [] s ss = refl
first_same (b ∷ []) s ss = refl
first_same (b ∷ m ∷ rest) s ss = refl

later_same : (rest : List ℕ) (n : ℕ) (s : Statement) (ss : Statements) → statement_in rest (suc n) (Then s ss) ≡ statement_in rest n ss
later_same [] n s ss = refl
later_same (b ∷ []) n s ss = refl
later_same (b ∷ m ∷ rest) n s ss = refl

leads_first : (here q : List ℕ) (n : ℕ) (s : Statement) (ss : Statements) → LeadsDown (here ++ n ∷ []) q s → LeadsIn here q n (Then s ss)
leads_first here q n s ss k =
    record {
      number = zero;
      place = n;
      sum = omega arith;
      rest = k.rest;
      is = k.is ∙ append_assoc here (n ∷ []) k.rest;
      loop = k.loop;
      there = first_same k.rest s ss ∙ k.there;
      loops = k.loops;
    }

leads_later : (here q : List ℕ) (n : ℕ) (s : Statement) (ss : Statements) → LeadsIn here q (suc n) ss → LeadsIn here q n (Then s ss)
leads_later here q n s ss k =
    record {
      number = suc k.number;
      place = k.place;
      sum = (let sum : k.place ≡ suc n + k.number = k.sum in omega arith);
      rest = k.rest;
      is = k.is;
      loop = k.loop;
      there = later_same k.rest k.number s ss ∙ k.there;
      loops = k.loops;
    }

leads_itself : (here : List ℕ) (s : Statement) → is_loop s ≡ true → LeadsDown here here s
leads_itself here s l = record { rest = []; is = sym (append-nil here); loop = s; there = refl; loops = l }

leads_branch : (here q : List ℕ) (b : ℕ) (s : Statement) (body : Statements) → branch_of b s ≡ Some body → LeadsIn (here ++ b ∷ []) q 0 body → LeadsDown here q s
leads_branch here q b s body e k =
    record {
      rest = b ∷ k.place ∷ k.rest;
      is = k.is ∙ append_assoc here (b ∷ []) (k.place ∷ k.rest);
      loop = k.loop;
      there = ap (found_in (statement_in k.rest k.place)) e ∙ ap (λ (n : ℕ). statement_in k.rest n body) (let sum : k.place ≡ 0 + k.number = k.sum in let zero_sum : k.place ≡ k.number = omega arith in zero_sum) ∙ k.there;
      loops = k.loops;
    }

-- ---- All of them

all_both : {A : Type 0} (P : A → Type 0) (xs ys : List A) → AllByRecursion P xs → AllByRecursion P ys → AllByRecursion P (xs ++ ys)
all_both P [] ys h k = k
all_both P (x ∷ xs) ys h k = (h.0, all_both P xs ys h.1 k)

all_weaker : {A : Type 0} (P Q : A → Type 0) (xs : List A) → ((x : A) → P x → Q x) → AllByRecursion P xs → AllByRecursion Q xs
all_weaker P Q [] w h = tt
all_weaker P Q (x ∷ xs) w h = (w x h.0, all_weaker P Q xs w h.1)

abbrev AllDown : List ℕ → Statement → Type 0
AllDown here s = AllByRecursion (λ (q : List ℕ). LeadsDown here q s) (loops_in here s)

abbrev AllIn : List ℕ → ℕ → Statements → Type 0
AllIn here n block = AllByRecursion (λ (q : List ℕ). LeadsIn here q n block) (loops_among here n block)

all_branch : (here : List ℕ) (b : ℕ) (s : Statement) (body : Statements) → branch_of b s ≡ Some body → AllIn (here ++ b ∷ []) 0 body → AllByRecursion (λ (q : List ℕ). LeadsDown here q s) (loops_among (here ++ b ∷ []) 0 body)
all_branch here b s body e = all_weaker (λ (q : List ℕ). LeadsIn (here ++ b ∷ []) q 0 body) (λ (q : List ℕ). LeadsDown here q s) (loops_among (here ++ b ∷ []) 0 body) (λ q. leads_branch here q b s body e)

mutual
  all_down : (s : Statement) (here : List ℕ) → AllDown here s
  all_down (tree.Declare at ty x e) here = tt
  all_down (tree.Assign at x e) here = tt
  all_down (tree.Add at x e) here = tt
  all_down (tree.Sort at x keys down) here = tt
  all_down (tree.If at c a) here = all_branch here 0 (tree.If at c a) a refl (all_in a (here ++ 0 ∷ []) 0)
  all_down (tree.IfElse at c a b) here =
      all_both (λ (q : List ℕ). LeadsDown here q (tree.IfElse at c a b)) (loops_among (here ++ 0 ∷ []) 0 a) (loops_among (here ++ 1 ∷ []) 0 b)
      (all_branch here 0 (tree.IfElse at c a b) a refl (all_in a (here ++ 0 ∷ []) 0))
      (all_branch here 1 (tree.IfElse at c a b) b refl (all_in b (here ++ 1 ∷ []) 0))
  all_down (tree.ForEach at ty x e b) here = (leads_itself here (tree.ForEach at ty x e b) refl, all_branch here 0 (tree.ForEach at ty x e b) b refl (all_in b (here ++ 0 ∷ []) 0))
  all_down (tree.While at c b) here = (leads_itself here (tree.While at c b) refl, all_branch here 0 (tree.While at c b) b refl (all_in b (here ++ 0 ∷ []) 0))
  all_down (tree.Print at e) here = tt
  all_down (tree.Return at e) here = tt
  all_down (tree.Break at) here = tt

  all_in : (block : Statements) (here : List ℕ) (n : ℕ) → AllIn here n block
  all_in Nothing here n = tt
  all_in (Then s ss) here n =
      all_both (λ (q : List ℕ). LeadsIn here q n (Then s ss)) (loops_in (here ++ n ∷ []) s) (loops_among here (suc n) ss)
      (all_weaker (λ (q : List ℕ). LeadsDown (here ++ n ∷ []) q s) (λ (q : List ℕ). LeadsIn here q n (Then s ss)) (loops_in (here ++ n ∷ []) s) (λ q. leads_first here q n s ss) (all_down s (here ++ n ∷ [])))
      (all_weaker (λ (q : List ℕ). LeadsIn here q (suc n) ss) (λ (q : List ℕ). LeadsIn here q n (Then s ss)) (loops_among here (suc n) ss) (λ q. leads_later here q n s ss) (all_in ss here (suc n)))

-- ---- In a program

-- a path leads to a loop in one of the methods whose first one has the number n
record LeadsFrom (q : List ℕ) (n : ℕ) (ms : List PlainMethod) : Type 0 where
  number : ℕ
  place : ℕ
  sum : place ≡ n + number
  method : PlainMethod
  found : slice_get ms number ≡ Some method
  first : ℕ
  rest : List ℕ
  is : q ≡ place ∷ first ∷ rest
  loop : Statement
  there : statement_in rest first method.body ≡ Some loop
  loops : is_loop loop ≡ true

from_first : (q : List ℕ) (n : ℕ) (m : PlainMethod) (ms : List PlainMethod) → LeadsIn (n ∷ []) q 0 m.body → LeadsFrom q n (m ∷ ms)
from_first q n m ms k =
    record {
      number = zero;
      place = n;
      sum = omega arith;
      method = m;
      found = refl;
      first = k.place;
      rest = k.rest;
      is = k.is;
      loop = k.loop;
      there = ap (λ (i : ℕ). statement_in k.rest i m.body) (let sum : k.place ≡ 0 + k.number = k.sum in let zero_sum : k.place ≡ k.number = omega arith in zero_sum) ∙ k.there;
      loops = k.loops;
    }

from_later : (q : List ℕ) (n : ℕ) (m : PlainMethod) (ms : List PlainMethod) → LeadsFrom q (suc n) ms → LeadsFrom q n (m ∷ ms)
from_later q n m ms k =
    record {
      number = suc k.number;
      place = k.place;
      sum = (let sum : k.place ≡ suc n + k.number = k.sum in omega arith);
      method = k.method;
      found = k.found;
      first = k.first;
      rest = k.rest;
      is = k.is;
      loop = k.loop;
      there = k.there;
      loops = k.loops;
    }

all_from : (ms : List PlainMethod) (n : ℕ) → AllByRecursion (λ (q : List ℕ). LeadsFrom q n ms) (loops_of_methods n ms)
all_from [] n = tt
all_from (m ∷ ms) n =
    all_both (λ (q : List ℕ). LeadsFrom q n (m ∷ ms)) (loops_among (n ∷ []) 0 m.body) (loops_of_methods (suc n) ms)
    (all_weaker (λ (q : List ℕ). LeadsIn (n ∷ []) q 0 m.body) (λ (q : List ℕ). LeadsFrom q n (m ∷ ms)) (loops_among (n ∷ []) 0 m.body) (λ q. from_first q n m ms) (all_in m.body (n ∷ []) 0))
    (all_weaker (λ (q : List ℕ). LeadsFrom q (suc n) ms) (λ (q : List ℕ). LeadsFrom q n (m ∷ ms)) (loops_of_methods (suc n) ms) (λ q. from_later q n m ms) (all_from ms (suc n)))

any_by : (P : List ℕ → Type 0) (path x : List ℕ) (xs : List (List ℕ)) (b : Bool) → same_numbers path x ≡ b → (list_any (same_numbers path) xs ≡ true → P path) → P x → (b || list_any (same_numbers path) xs) ≡ true → P path
any_by P path x xs true e later here h = subst P (sym (numbers_true path x e)) here
any_by P path x xs false e later here h = later h

one_of_all : (P : List ℕ → Type 0) (path : List ℕ) (xs : List (List ℕ)) → AllByRecursion P xs → list_any (same_numbers path) xs ≡ true → P path
one_of_all P path [] all h = absurd cc
one_of_all P path (x ∷ xs) all h = any_by P path x xs (same_numbers path x) refl (one_of_all P path xs all.1) all.0 h

leads : (p : PlainProgram) (path : List ℕ) → IsLoopOf p path → LeadsFrom path 0 p.methods
leads p path = one_of_all (λ (q : List ℕ). LeadsFrom q 0 p.methods) path (loops_of p) (all_from p.methods 0)

at_place : (path : List ℕ) (ms : List PlainMethod) (k : LeadsFrom path 0 ms) → slice_get ms k.place ≡ Some k.method
at_place path ms k = ap (slice_get ms) (let sum : k.place ≡ 0 + k.number = k.sum in let zero_sum : k.place ≡ k.number = omega arith in zero_sum) ∙ k.found

-- The path of a loop leads to a fragment.
pub loop_has_fragment : (p : PlainProgram) (path : List ℕ) → IsLoopOf p path → (f : Fragment) × (fragment_at path p ≡ Some f)
loop_has_fragment p path h =
    let k : LeadsFrom path 0 p.methods = leads p path h in
    let there = fragment_lies k.rest (names_of_params k.method.params) k.first k.method.body k.loop k.there k.loops in
    (there.0, ap (λ (q : List ℕ). fragment_at q p) k.is ∙ ap (found_in (λ (m : PlainMethod). fragment_in (names_of_params m.params) k.rest k.first m.body)) (at_place path p.methods k) ∙ there.1)

-- It leads to the number of the run's first statement.
pub loop_has_first : (p : PlainProgram) (path : List ℕ) → IsLoopOf p path → (n : ℕ) × (first_at path p ≡ Some n)
loop_has_first p path h =
    let k : LeadsFrom path 0 p.methods = leads p path h in
    let there = first_lies k.rest k.first k.method.body k.loop k.there in
    (there.0, ap (λ (q : List ℕ). first_at q p) k.is ∙ ap (found_in (λ (m : PlainMethod). first_in k.rest k.first m.body)) (at_place path p.methods k) ∙ there.1)

-- ---- From the list of a program's loops

listed : (paths : List (List ℕ)) (n : ℕ) (path : List ℕ) → slice_get paths n ≡ Some path → list_any (same_numbers path) paths ≡ true
listed [] n path e = absurd cc
listed (q ∷ qs) zero path e = let same : q ≡ path = cc in or_left (same_numbers path q) (list_any (same_numbers path) qs) (ap (same_numbers path) same ∙ numbers_self path)
listed (q ∷ qs) (suc n) path e = or_right (same_numbers path q) (list_any (same_numbers path) qs) (listed qs n path e)

-- A path in the list is that of a loop.
pub listed_is_loop : (p : PlainProgram) (n : ℕ) (path : List ℕ) → slice_get (loops_of p) n ≡ Some path → IsLoopOf p path
listed_is_loop p n path e = listed (loops_of p) n path e
