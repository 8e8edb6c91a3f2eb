-- The loops round a place, by their paths and places: those before it, those of the statements there and behind them, and those after
-- their block.
use Rattle.std.proofs.Common.{◌≡◌, ℕ, zero, suc, ◌+◌, Bool, true, false, List, [], ◌∷◌, ◌++◌, length, slice_get, Option, Some, None, refl, sym, ap, ap₂, ◌∙◌, cond, arith, append_assoc, append-nil}
use Rattle.std.proofs.lemmas.Bool.{and_parts, and_from}
use Rattle.std.proofs.lemmas.List.{length-append}
use Rattle.qbs_base.specs.declared.span.Span.{Span}
use Rattle.java_ast.specs.Path.{with_body, with_method}
use Rattle.java_ast.specs.Spans.{place_of}
use Rattle.java_ast.specs.Tree as tree
use Rattle.java_ast.specs.Tree.{Spelled, Expression, Statement, Statements, Nothing, Then, PlainMethod}
use Rattle.java_mean.specs.Refines.{Hole, Here, Past, InIf, InThen, InElse, InEach, InWhile, followed_by, fill, first_of, path_of, behind}
use Rattle.loop_text.specs.Statements.Fragment.{set_by, is_simple, are_simple}
use Rattle.loop_text.specs.Statements.KeptStatements.{how_many}
use Rattle.loop_text.specs.Statements.Loops.{is_loop}
use Rattle.java_loops.specs.Walks.Reads.{Set}
use Rattle.java_loops.specs.Walks.Replacing.{Ask, asking, asked, replacement}
use Rattle.java_loops.specs.Walks.Runs.{kept}
use Rattle.java_loops.proofs.Placing.Place.{behind_all}
use Rattle.loop_lists.proofs.LoopSites.{Site, site, sites_in, sites_among, sites_of_methods}

-- ---- Joined statements

pub loops_followed : (p q : Statements) (pre : List ℕ) (j : ℕ) → sites_among pre j (followed_by p q) ≡ sites_among pre j p ++ sites_among pre (j + how_many p) q
loops_followed Nothing q pre j = ap (λ i. sites_among pre i q) (let e : j ≡ j + 0 = omega arith in e)
loops_followed (Then a p) q pre j =
    ap (λ xs. sites_in (pre ++ j ∷ []) a ++ xs) (loops_followed p q pre (suc j))
    ∙ sym (append_assoc (sites_in (pre ++ j ∷ []) a) (sites_among pre (suc j) p) (sites_among pre (suc j + how_many p) q))
    ∙ ap (λ i. (sites_in (pre ++ j ∷ []) a ++ sites_among pre (suc j) p) ++ sites_among pre i q) (let e : suc j + how_many p ≡ j + suc (how_many p) = omega arith in e)

-- ---- Statements without loops

no_loop : (a : Statement) (pre : List ℕ) → is_simple a ≡ true → sites_in pre a ≡ []
no_loop (tree.Declare at ty x e) pre h = refl
no_loop (tree.Assign at x e) pre h = refl
no_loop (tree.Sort at x keys downs) pre h = refl
no_loop (tree.Add at x e) pre h = absurd cc
no_loop (tree.If at c a) pre h = absurd cc
no_loop (tree.IfElse at c a b) pre h = absurd cc
no_loop (tree.ForEach at ty x e b) pre h = absurd cc
no_loop (tree.While at c b) pre h = absurd cc
no_loop (tree.Print at e) pre h = absurd cc
no_loop (tree.Return at e) pre h = absurd cc
no_loop (tree.Break at) pre h = absurd cc

pub no_loops : (p : Statements) (pre : List ℕ) (j : ℕ) → are_simple p ≡ true → sites_among pre j p ≡ []
no_loops Nothing pre j h = refl
no_loops (Then a p) pre j h =
    let two = and_parts (is_simple a) (are_simple p) h in
    ap (λ xs. xs ++ sites_among pre (suc j) p) (no_loop a (pre ++ j ∷ []) two.0) ∙ no_loops p pre (suc j) two.1

simple_followed : (p q : Statements) → are_simple p ≡ true → are_simple q ≡ true → are_simple (followed_by p q) ≡ true
simple_followed Nothing q h k = k
simple_followed (Then a p) q h k =
    let two = and_parts (is_simple a) (are_simple p) h in
    and_from (is_simple a) (are_simple (followed_by p q)) two.0 (simple_followed p q two.1 k)

kept_step : (r : Set) (a : Statement) (p : Statements) (b : Bool) → is_simple a ≡ true → are_simple (kept r p) ≡ true → are_simple (cond b (Then a (kept r p)) (kept r p)) ≡ true
kept_step r a p true h k = and_from (is_simple a) (are_simple (kept r p)) h k
kept_step r a p false h k = k

kept_simple : (r : Set) (p : Statements) → are_simple p ≡ true → are_simple (kept r p) ≡ true
kept_simple r Nothing h = refl
kept_simple r (Then a p) h = let two = and_parts (is_simple a) (are_simple p) h in kept_step r a p (r (set_by a)) two.0 (kept_simple r p two.1)

asking_simple : (ty : Option Spelled) (at : Span) (x : List ℕ) (e : Expression) → is_simple (asking ty at x e) ≡ true
asking_simple (Some ty) at x e = refl
asking_simple None at x e = refl

asked_simple : (ks : List Ask) → are_simple (asked ks) ≡ true
asked_simple [] = refl
asked_simple (k ∷ ks) = and_from (is_simple (asking k.ty k.at k.name k.value)) (are_simple (asked ks)) (asking_simple k.ty k.at k.name k.value) (asked_simple ks)

-- kept statements and asks are simple
pub replacement_simple : (r : Set) (run : Statements) (ks : List Ask) → are_simple run ≡ true → are_simple (replacement r run ks) ≡ true
replacement_simple r run ks h = simple_followed (kept r run) (asked ks) (kept_simple r run h) (asked_simple ks)

-- ---- How many loops

same_sum : {A : Type 0} (xs xs' ys ys' : List A) → length xs ≡ length xs' → length ys ≡ length ys' → length (xs ++ ys) ≡ length (xs' ++ ys')
same_sum xs xs' ys ys' h k = length-append xs ys ∙ ap₂ (λ a b. a + b) h k ∙ sym (length-append xs' ys')

mutual
  as_many_in : (s : Statement) (pre pre' : List ℕ) → length (sites_in pre s) ≡ length (sites_in pre' s)
  as_many_in (tree.If at c a) pre pre' = as_many a (pre ++ 0 ∷ []) (pre' ++ 0 ∷ []) 0 0
  as_many_in (tree.IfElse at c a b) pre pre' =
      same_sum (sites_among (pre ++ 0 ∷ []) 0 a) (sites_among (pre' ++ 0 ∷ []) 0 a) (sites_among (pre ++ 1 ∷ []) 0 b) (sites_among (pre' ++ 1 ∷ []) 0 b)
      (as_many a (pre ++ 0 ∷ []) (pre' ++ 0 ∷ []) 0 0) (as_many b (pre ++ 1 ∷ []) (pre' ++ 1 ∷ []) 0 0)
  as_many_in (tree.ForEach at ty x e b) pre pre' = ap suc (as_many b (pre ++ 0 ∷ []) (pre' ++ 0 ∷ []) 0 0)
  as_many_in (tree.While at c b) pre pre' = ap suc (as_many b (pre ++ 0 ∷ []) (pre' ++ 0 ∷ []) 0 0)
  as_many_in (tree.Declare at ty x e) pre pre' = refl
  as_many_in (tree.Assign at x e) pre pre' = refl
  as_many_in (tree.Add at x e) pre pre' = refl
  as_many_in (tree.Sort at x keys downs) pre pre' = refl
  as_many_in (tree.Print at e) pre pre' = refl
  as_many_in (tree.Return at e) pre pre' = refl
  as_many_in (tree.Break at) pre pre' = refl

  -- statements have as many loops wherever they stand
  pub as_many : (ss : Statements) (pre pre' : List ℕ) (j j' : ℕ) → length (sites_among pre j ss) ≡ length (sites_among pre' j' ss)
  as_many Nothing pre pre' j j' = refl
  as_many (Then s ss) pre pre' j j' =
      same_sum (sites_in (pre ++ j ∷ []) s) (sites_in (pre' ++ j' ∷ []) s) (sites_among pre (suc j) ss) (sites_among pre' (suc j') ss)
      (as_many_in s (pre ++ j ∷ []) (pre' ++ j' ∷ [])) (as_many ss pre pre' (suc j) (suc j'))

-- ---- A loop, and those inside it

pub record IsOuter (pre : List ℕ) (s : Statement) : Type 0 where
  pub inside : List Site
  pub is : sites_in pre s ≡ site pre (place_of s) ∷ inside

pub outer_first : (s : Statement) (pre : List ℕ) → is_loop s ≡ true → IsOuter pre s
outer_first (tree.ForEach at ty x e b) pre h = record { inside = sites_among (pre ++ 0 ∷ []) 0 b; is = refl }
outer_first (tree.While at c b) pre h = record { inside = sites_among (pre ++ 0 ∷ []) 0 b; is = refl }
outer_first (tree.Declare at ty x e) pre h = absurd cc
outer_first (tree.Assign at x e) pre h = absurd cc
outer_first (tree.Add at x e) pre h = absurd cc
outer_first (tree.Sort at x keys downs) pre h = absurd cc
outer_first (tree.If at c a) pre h = absurd cc
outer_first (tree.IfElse at c a b) pre h = absurd cc
outer_first (tree.Print at e) pre h = absurd cc
outer_first (tree.Return at e) pre h = absurd cc
outer_first (tree.Break at) pre h = absurd cc

-- ---- A place

-- The loops of a block with statements at a place of it: whatever these are, the same loops stand before them and after their
-- block. Where they are a run, what stands behind it has the path of the place behind the run.
pub record Spot (pre : List ℕ) (j : ℕ) (hole : Hole) : Type 0 where
  pub before : List Site
  pub after : List Site
  pub at : List ℕ
  pub number : ℕ
  pub loops : (part : Statements) → sites_among pre j (fill hole part) ≡ before ++ (sites_among at number (followed_by part (behind hole)) ++ after)
  pub path : (run : Statements) → at ++ (number + how_many run) ∷ [] ≡ pre ++ (j + first_of (behind_all run hole)) ∷ path_of (behind_all run hole)

-- a place in a branch of the first statement of a block
inner : (pre : List ℕ) (j b : ℕ) (hole wrapped : Hole) (front back : List Site)
    → ((part : Statements) → sites_among pre j (fill wrapped part) ≡ front ++ (sites_among ((pre ++ j ∷ []) ++ b ∷ []) 0 (fill hole part) ++ back))
    → ((run : Statements) → first_of (behind_all run wrapped) ≡ 0)
    → ((run : Statements) → path_of (behind_all run wrapped) ≡ b ∷ first_of (behind_all run hole) ∷ path_of (behind_all run hole))
    → behind wrapped ≡ behind hole
    → Spot ((pre ++ j ∷ []) ++ b ∷ []) 0 hole → Spot pre j wrapped
inner pre j b hole wrapped front back split first down same k =
    record {
      before = front ++ k.before;
      after = k.after ++ back;
      at = k.at;
      number = k.number;
      loops = λ part.
          split part
          ∙ ap (λ xs. front ++ (xs ++ back)) (k.loops part)
          ∙ ap (λ xs. front ++ xs) (append_assoc k.before (sites_among k.at k.number (followed_by part (behind hole)) ++ k.after) back)
          ∙ sym (append_assoc front k.before ((sites_among k.at k.number (followed_by part (behind hole)) ++ k.after) ++ back))
          ∙ ap (λ xs. (front ++ k.before) ++ xs) (append_assoc (sites_among k.at k.number (followed_by part (behind hole))) k.after back)
          ∙ ap (λ q. (front ++ k.before) ++ (sites_among k.at k.number (followed_by part q) ++ (k.after ++ back))) (sym same);
      path = λ run.
          k.path run
          ∙ ap (λ i. ((pre ++ j ∷ []) ++ b ∷ []) ++ i ∷ path_of (behind_all run hole)) (let e : 0 + first_of (behind_all run hole) ≡ first_of (behind_all run hole) = omega arith in e)
          ∙ append_assoc (pre ++ j ∷ []) (b ∷ []) (first_of (behind_all run hole) ∷ path_of (behind_all run hole))
          ∙ append_assoc pre (j ∷ []) (b ∷ first_of (behind_all run hole) ∷ path_of (behind_all run hole))
          ∙ ap (λ ps. pre ++ j ∷ ps) (sym (down run))
          ∙ ap (λ i. pre ++ i ∷ path_of (behind_all run wrapped)) (let e : j ≡ j + 0 = omega arith in e)
          ∙ ap (λ i. pre ++ (j + i) ∷ path_of (behind_all run wrapped)) (sym (first run));
    }

first_run : (run : Statements) (q : Statements) → first_of (behind_all run (Here q)) ≡ how_many run
first_run Nothing q = refl
first_run (Then a p) q = ap suc (first_run p q)

path_run : (run : Statements) (q : Statements) → path_of (behind_all run (Here q)) ≡ []
path_run Nothing q = refl
path_run (Then a p) q = path_run p q

-- the loops round a place
pub spot : (hole : Hole) (pre : List ℕ) (j : ℕ) → Spot pre j hole
spot (Here q) pre j =
    record {
      before = [];
      after = [];
      at = pre;
      number = j;
      loops = λ part. sym (append-nil (sites_among pre j (followed_by part q)));
      path = λ run. ap (λ i. pre ++ (j + i) ∷ []) (sym (first_run run q)) ∙ ap (λ ps. pre ++ (j + first_of (behind_all run (Here q))) ∷ ps) (sym (path_run run q));
    }
spot (Past a h) pre j =
    let k : Spot pre (suc j) h = spot h pre (suc j) in
    record {
      before = sites_in (pre ++ j ∷ []) a ++ k.before;
      after = k.after;
      at = k.at;
      number = k.number;
      loops = λ part.
          ap (λ xs. sites_in (pre ++ j ∷ []) a ++ xs) (k.loops part)
          ∙ sym (append_assoc (sites_in (pre ++ j ∷ []) a) k.before (sites_among k.at k.number (followed_by part (behind h)) ++ k.after));
      path = λ run.
          k.path run ∙ ap (λ i. pre ++ i ∷ path_of (behind_all run h)) (let e : suc j + first_of (behind_all run h) ≡ j + suc (first_of (behind_all run h)) = omega arith in e);
    }
spot (InIf at e h q) pre j =
    inner pre j 0 h (InIf at e h q) [] (sites_among pre (suc j) q) (λ part. refl) (λ run. refl) (λ run. refl) refl (spot h ((pre ++ j ∷ []) ++ 0 ∷ []) 0)
spot (InThen at e h b q) pre j =
    inner pre j 0 h (InThen at e h b q) [] (sites_among ((pre ++ j ∷ []) ++ 1 ∷ []) 0 b ++ sites_among pre (suc j) q)
    (λ part. append_assoc (sites_among ((pre ++ j ∷ []) ++ 0 ∷ []) 0 (fill h part)) (sites_among ((pre ++ j ∷ []) ++ 1 ∷ []) 0 b) (sites_among pre (suc j) q)) (λ run. refl) (λ run. refl) refl (spot h ((pre ++ j ∷ []) ++ 0 ∷ []) 0)
spot (InElse at e a h q) pre j =
    inner pre j 1 h (InElse at e a h q) (sites_among ((pre ++ j ∷ []) ++ 0 ∷ []) 0 a) (sites_among pre (suc j) q)
    (λ part. append_assoc (sites_among ((pre ++ j ∷ []) ++ 0 ∷ []) 0 a) (sites_among ((pre ++ j ∷ []) ++ 1 ∷ []) 0 (fill h part)) (sites_among pre (suc j) q)) (λ run. refl) (λ run. refl) refl (spot h ((pre ++ j ∷ []) ++ 1 ∷ []) 0)
spot (InEach at ty x e h q) pre j =
    inner pre j 0 h (InEach at ty x e h q) (site (pre ++ j ∷ []) at ∷ []) (sites_among pre (suc j) q) (λ part. refl) (λ run. refl) (λ run. refl) refl (spot h ((pre ++ j ∷ []) ++ 0 ∷ []) 0)
spot (InWhile at e h q) pre j =
    inner pre j 0 h (InWhile at e h q) (site (pre ++ j ∷ []) at ∷ []) (sites_among pre (suc j) q) (λ part. refl) (λ run. refl) (λ run. refl) refl (spot h ((pre ++ j ∷ []) ++ 0 ∷ []) 0)

-- ---- Methods

-- the loops of methods, one of which may have another body
pub record MethodLoops (j i : ℕ) (ms : List PlainMethod) (m : PlainMethod) : Type 0 where
  pub before : List Site
  pub after : List Site
  pub is : sites_of_methods j ms ≡ before ++ (sites_among ((j + i) ∷ []) 0 m.body ++ after)
  pub changed : (body : Statements) → sites_of_methods j (with_method i (λ z. with_body z body) ms) ≡ before ++ (sites_among ((j + i) ∷ []) 0 body ++ after)

pub method_loops : (j i : ℕ) (ms : List PlainMethod) (m : PlainMethod) → slice_get ms i ≡ Some m → MethodLoops j i ms m
method_loops j i [] m e = absurd cc
method_loops j zero (k ∷ ms) m e =
    let same : k ≡ m = cc in
    let number : j ≡ j + 0 = omega arith in
    record {
      before = [];
      after = sites_of_methods (suc j) ms;
      is = ap (λ (z : PlainMethod). sites_among (j ∷ []) 0 z.body ++ sites_of_methods (suc j) ms) same ∙ ap (λ n. sites_among (n ∷ []) 0 m.body ++ sites_of_methods (suc j) ms) number;
      changed = λ body. ap (λ n. sites_among (n ∷ []) 0 body ++ sites_of_methods (suc j) ms) number;
    }
method_loops j (suc i) (k ∷ ms) m e =
    let r : MethodLoops (suc j) i ms m = method_loops (suc j) i ms m e in
    let number : suc j + i ≡ j + suc i = omega arith in
    let here : List Site = sites_among (j ∷ []) 0 k.body in
    record {
      before = here ++ r.before;
      after = r.after;
      is =
          ap (λ xs. here ++ xs) (r.is ∙ ap (λ n. r.before ++ (sites_among (n ∷ []) 0 m.body ++ r.after)) number)
          ∙ sym (append_assoc here r.before (sites_among ((j + suc i) ∷ []) 0 m.body ++ r.after));
      changed = λ body.
          ap (λ xs. here ++ xs) (r.changed body ∙ ap (λ n. r.before ++ (sites_among (n ∷ []) 0 body ++ r.after)) number)
          ∙ sym (append_assoc here r.before (sites_among ((j + suc i) ∷ []) 0 body ++ r.after));
    }
