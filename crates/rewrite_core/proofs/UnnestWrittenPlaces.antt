-- Where another statement stands for a loop, what stands before it and what leads to it is as it was.
use Rattle.std.proofs.Common.{◌≡◌, ℕ, zero, suc, ◌<◌, true, List, [], ◌∷◌, Option, Some, None, slice_get, refl, sym, ap, ap₂, ◌∙◌, subst, arith}
use Rattle.java_ast.specs.Names.{Names, with_names, declared_among, walking, names_of_params}
use Rattle.java_ast.specs.Path.{found_in, numbered, branch_of, statement_in, statement_at, first_of, behind_of, with_numbered, with_branch, replaced_in, replaced_at, last_of, with_body}
use Rattle.java_ast.specs.Tree as tree
use Rattle.java_ast.specs.Tree.{Spelled, Statement, Statements, Nothing, Then, PlainMethod, PlainProgram}
use Rattle.java_stretches.specs.Stretch.{sibling}
use Rattle.loop_text.specs.Statements.Fragment.{Fragment, before_run, fragment_of, fragment_where, fragment_here, fragment_in, fragment_at}
use Rattle.loop_text.specs.Statements.KeptStatements.{how_many, first_in, first_at}
use Rattle.loop_text.specs.Statements.Loops.{is_loop}
use Rattle.java_loops.specs.Lowering.Spelling.{spelled_past, spelled_inside, spelled_in, spelled_of_param, spelled_in_method, spelled_at}
use Rattle.rewrite_core.proofs.UnnestReplaced.{numbered_changed, first_unchanged, behind_unchanged, put_there, branch_changed, Further, further, method_changed, MethodThere, method_there}

-- ---- A statement of a block

rest_behind : (n : ℕ) (block : Statements) (s : Statement) → numbered n block ≡ Some s → behind_of n block ≡ Then s (behind_of (suc n) block)
rest_behind zero Nothing s e = absurd cc
rest_behind (suc n) Nothing s e = absurd cc
rest_behind zero (Then a p) s e = let q : a ≡ s = cc in ap (λ z. Then z p) q
rest_behind (suc n) (Then a p) s e = rest_behind n p s e

earlier_unchanged : (k n : ℕ) (f : Statement → Statement) (block : Statements) → k < n → numbered k (with_numbered n f block) ≡ numbered k block
earlier_unchanged k n f Nothing less = refl
earlier_unchanged zero zero f (Then a p) less = absurd (omega (arith, less))
earlier_unchanged (suc k) zero f (Then a p) less = absurd (omega (arith, less))
earlier_unchanged zero (suc n) f (Then a p) less = refl
earlier_unchanged (suc k) (suc n) f (Then a p) less = earlier_unchanged k n f p (omega (arith, less))

-- what is visible inside of a statement doesn't depend on what its branches have
walking_same : (b : ℕ) (g : Statements → Statements) (s : Statement) → walking (with_branch b g s) ≡ walking s
walking_same b g (tree.Declare at ty x e) = refl
walking_same b g (tree.Assign at x e) = refl
walking_same b g (tree.Add at x e) = refl
walking_same b g (tree.Sort at x keys downs) = refl
walking_same b g (tree.If at c a) = refl
walking_same b g (tree.IfElse at c a o) = refl
walking_same b g (tree.ForEach at ty x e a) = refl
walking_same b g (tree.While at c a) = refl
walking_same b g (tree.Print at e) = refl
walking_same b g (tree.Return at e) = refl
walking_same b g (tree.Break at) = refl

inside_same : (x : List ℕ) (o : Option Spelled) (b : ℕ) (g : Statements → Statements) (s : Statement) → spelled_inside x o (with_branch b g s) ≡ spelled_inside x o s
inside_same x o b g (tree.Declare at ty y e) = refl
inside_same x o b g (tree.Assign at y e) = refl
inside_same x o b g (tree.Add at y e) = refl
inside_same x o b g (tree.Sort at y keys downs) = refl
inside_same x o b g (tree.If at c a) = refl
inside_same x o b g (tree.IfElse at c a p) = refl
inside_same x o b g (tree.ForEach at ty y e a) = refl
inside_same x o b g (tree.While at c a) = refl
inside_same x o b g (tree.Print at e) = refl
inside_same x o b g (tree.Return at e) = refl
inside_same x o b g (tree.Break at) = refl

-- ---- A block

-- the statement to which a path leads in a block
abbrev led_to : List ℕ → Statements → Option Statement
led_to [] block = None
led_to (n ∷ path) block = statement_in path n block

-- the fragment of a loop
abbrev pub fragment_with : Names → Statements → Statements → Statement → Fragment
fragment_with seen run behind s = record { visible = seen; run = run; loop = s; behind = behind }

-- In the second block the one loop stands where the other does in the first, and all before it is the same.
record StandsFor (visible : Names) (path : List ℕ) (n : ℕ) (old new : Statements) (s z : Statement) : Type 0 where
  seen : Names
  run : Statements
  behind : Statements
  was : fragment_in visible path n old ≡ Some (fragment_with seen run behind s)
  is : fragment_in visible path n new ≡ Some (fragment_with seen run behind z)
  first : first_in path n new ≡ first_in path n old
  spelled : (x : List ℕ) (o : Option Spelled) → spelled_in x o path n new ≡ spelled_in x o path n old
  before : (k : ℕ) → k < last_of (n ∷ path) → led_to (sibling (n ∷ path) k) new ≡ led_to (sibling (n ∷ path) k) old

-- what is looked for in the branch that a path goes into
goes_down : {B : Type 0} (g : Statement → Statements → Option B) (b : ℕ) (o : Option Statement) (a : Statement) (body : Statements) → o ≡ Some a → branch_of b a ≡ Some body
    → found_in (λ s. found_in (g s) (branch_of b s)) o ≡ g a body
goes_down g b o a body e h = ap (found_in (λ s. found_in (g s) (branch_of b s))) e ∙ ap (found_in (g a)) h

module _ (visible : Names) (n : ℕ) (old : Statements) (s z : Statement) (loop : is_loop s ≡ true) (loop' : is_loop z ≡ true) (number : numbered n old ≡ Some s) where
  abbrev put : Statements
  put = with_numbered n (λ a. z) old

  front : first_of n put ≡ first_of n old
  front = first_unchanged n n (λ a. z) old (omega arith)

  rest_put : behind_of n put ≡ Then z (behind_of (suc n) old)
  rest_put = rest_behind n put z (numbered_changed n (λ a. z) old s number) ∙ ap (Then z) (behind_unchanged n (λ a. z) old)

  stands_here : StandsFor visible [] n old put s z
  stands_here = record {
    seen = with_names visible (declared_among (before_run (first_of n old)));
    run = (fragment_of visible (first_of n old) s (behind_of (suc n) old)).run;
    behind = behind_of (suc n) old;
    was = ap (fragment_here visible (first_of n old)) (rest_behind n old s number) ∙ ap (λ b. fragment_where b (fragment_of visible (first_of n old) s (behind_of (suc n) old))) loop;
    is = ap₂ (fragment_here visible) front rest_put ∙ ap (λ b. fragment_where b (fragment_of visible (first_of n old) z (behind_of (suc n) old))) loop';
    first = ap (λ p. Some (how_many (before_run p))) front;
    spelled = λ x o. ap (spelled_past x o) front;
    before = λ k less. earlier_unchanged k n (λ a. z) old less;
  }

-- what is visible in the branches of a statement behind these
abbrev inner : Names → Statements → Names → Names
inner visible before walked = with_names (with_names visible (declared_among before)) walked

module _ (visible : Names) (b m : ℕ) (path : List ℕ) (n : ℕ) (old : Statements) (s z a : Statement) (body : Statements) (change : Statements → Statements) (number : numbered n old ≡ Some a) (branch : branch_of b a ≡ Some body)
    (inside : StandsFor (inner visible (first_of n old) (walking a)) path m body (change body) s z) (further_down : last_of (n ∷ b ∷ m ∷ path) ≡ last_of (m ∷ path)) where
  abbrev changed : Statement
  changed = with_branch b change a

  abbrev new : Statements
  new = with_numbered n (with_branch b change) old

  front_same : first_of n new ≡ first_of n old
  front_same = first_unchanged n n (with_branch b change) old (omega arith)

  old_down : {B : Type 0} (g : Statement → Statements → Option B) → found_in (λ t. found_in (g t) (branch_of b t)) (numbered n old) ≡ g a body
  old_down g = goes_down g b (numbered n old) a body number branch

  new_down : {B : Type 0} (g : Statement → Statements → Option B) → found_in (λ t. found_in (g t) (branch_of b t)) (numbered n new) ≡ g changed (change body)
  new_down g = goes_down g b (numbered n new) changed (change body) (numbered_changed n (with_branch b change) old a number) (branch_changed b change a body branch)

  seen_same : inner visible (first_of n new) (walking changed) ≡ inner visible (first_of n old) (walking a)
  seen_same = ap₂ (inner visible) front_same (walking_same b change a)

  spelled_same : (x : List ℕ) (o : Option Spelled) → spelled_inside x (spelled_past x o (first_of n new)) changed ≡ spelled_inside x (spelled_past x o (first_of n old)) a
  spelled_same x o = inside_same x (spelled_past x o (first_of n new)) b change a ∙ ap (λ p. spelled_inside x (spelled_past x o p) a) front_same

  led_same : (r : List ℕ) → led_to r (change body) ≡ led_to r body → statement_in (b ∷ r) n new ≡ statement_in (b ∷ r) n old
  led_same [] h = refl
  led_same (k ∷ r) h = new_down (λ t. statement_in r k) ∙ h ∙ sym (old_down (λ t. statement_in r k))

  stands_below : StandsFor visible (b ∷ m ∷ path) n old new s z
  stands_below = record {
    seen = inside.seen;
    run = inside.run;
    behind = inside.behind;
    was = old_down (λ t. fragment_in (inner visible (first_of n old) (walking t)) path m) ∙ inside.was;
    is = new_down (λ t. fragment_in (inner visible (first_of n new) (walking t)) path m) ∙ ap (λ names. fragment_in names path m (change body)) seen_same ∙ inside.is;
    first = new_down (λ t. first_in path m) ∙ inside.first ∙ sym (old_down (λ t. first_in path m));
    spelled = λ x o.
        new_down (λ t. spelled_in x (spelled_inside x (spelled_past x o (first_of n new)) t) path m)
        ∙ ap (λ i. spelled_in x i path m (change body)) (spelled_same x o)
        ∙ inside.spelled x (spelled_inside x (spelled_past x o (first_of n old)) a)
        ∙ sym (old_down (λ t. spelled_in x (spelled_inside x (spelled_past x o (first_of n old)) t) path m));
    before = λ k less. led_same (sibling (m ∷ path) k) (inside.before k (subst (λ (i : ℕ). k < i) further_down less));
  }

stands_in : (path : List ℕ) (visible : Names) (n : ℕ) (old : Statements) (s z : Statement) → is_loop s ≡ true → is_loop z ≡ true → statement_in path n old ≡ Some s → StandsFor visible path n old (replaced_in path n (last_of (n ∷ path)) (Then z Nothing) old) s z
stands_in [] visible n old s z loop loop' e = subst (λ new. StandsFor visible [] n old new s z) (sym (put_there n z old s e)) (stands_here visible n old s z loop loop' e)
stands_in (b ∷ []) visible n old s z loop loop' e = absurd cc
stands_in (b ∷ m ∷ path) visible n old s z loop loop' e =
    let k : Further b m path (numbered n old) s = further b m path s (numbered n old) e in
    stands_below visible b m path n old s z k.statement k.branch (replaced_in path m (last_of (m ∷ path)) (Then z Nothing)) k.there k.below
    (stands_in path (inner visible (first_of n old) (walking k.statement)) m k.branch s z loop loop' k.leads) refl

-- ---- A program

-- In the second program the one loop stands where the other does in the first, and all before it is the same.
pub record StandsForIn (p q : PlainProgram) (path : List ℕ) (s z : Statement) : Type 0 where
  pub seen : Names
  pub run : Statements
  pub behind : Statements
  pub was : fragment_at path p ≡ Some (fragment_with seen run behind s)
  pub is : fragment_at path q ≡ Some (fragment_with seen run behind z)
  pub first : first_at path q ≡ first_at path p
  pub spelled : (x : List ℕ) → spelled_at x path q ≡ spelled_at x path p
  pub before : (k : ℕ) → k < last_of path → statement_at (sibling path k) q ≡ statement_at (sibling path k) p

module _ (p : PlainProgram) (i n : ℕ) (path : List ℕ) (s z : Statement) (m : PlainMethod) (found : slice_get p.methods i ≡ Some m) (body : Statements) (inside : StandsFor (names_of_params m.params) path n m.body body s z) where
  abbrev q : PlainProgram
  q = replaced_at (i ∷ n ∷ path) (last_of (i ∷ n ∷ path)) (Then z Nothing) p

  module _ (found' : slice_get q.methods i ≡ Some (with_body m body)) where
    old_method : {B : Type 0} (g : PlainMethod → Option B) → found_in g (slice_get p.methods i) ≡ g m
    old_method g = ap (found_in g) found

    new_method : {B : Type 0} (g : PlainMethod → Option B) → found_in g (slice_get q.methods i) ≡ g (with_body m body)
    new_method g = ap (found_in g) found'

    led_there : (r : List ℕ) → led_to r body ≡ led_to r m.body → statement_at (i ∷ r) q ≡ statement_at (i ∷ r) p
    led_there [] h = refl
    led_there (k ∷ r) h = new_method (λ (u : PlainMethod). statement_in r k u.body) ∙ h ∙ sym (old_method (λ (u : PlainMethod). statement_in r k u.body))

    stands_there : StandsForIn p q (i ∷ n ∷ path) s z
    stands_there = record {
      seen = inside.seen;
      run = inside.run;
      behind = inside.behind;
      was = old_method (λ (u : PlainMethod). fragment_in (names_of_params u.params) path n u.body) ∙ inside.was;
      is = new_method (λ (u : PlainMethod). fragment_in (names_of_params u.params) path n u.body) ∙ inside.is;
      first = new_method (λ (u : PlainMethod). first_in path n u.body) ∙ inside.first ∙ sym (old_method (λ (u : PlainMethod). first_in path n u.body));
      spelled = λ x. new_method (spelled_in_method x path n) ∙ inside.spelled x (spelled_of_param x m.params) ∙ sym (old_method (spelled_in_method x path n));
      before = λ k less. led_there (sibling (n ∷ path) k) (inside.before k less);
    }

-- Where a loop is put in place of one to which a path leads.
pub stands_for : (p : PlainProgram) (path : List ℕ) (s z : Statement) → is_loop s ≡ true → is_loop z ≡ true → statement_at path p ≡ Some s → StandsForIn p (replaced_at path (last_of path) (Then z Nothing) p) path s z
stands_for p [] s z loop loop' e = absurd cc
stands_for p (i ∷ []) s z loop loop' e = absurd cc
stands_for p (i ∷ n ∷ path) s z loop loop' e =
    let k : MethodThere p i n path s = method_there p i n path s e in
    let change : Statements → Statements = replaced_in path n (last_of (n ∷ path)) (Then z Nothing) in
    stands_there p i n path s z k.method k.found (change k.method.body) (stands_in path (names_of_params k.method.params) n k.method.body s z loop loop' k.leads)
    (method_changed i (λ (u : PlainMethod). with_body u (change u.body)) p.methods k.method k.found)
