-- The loops of a program, each by its path and its place: a statement stands there at that place.
use Rattle.std.proofs.Common.{◌≡◌, ℕ, zero, suc, ◌+◌, List, [], ◌∷◌, ◌++◌, map, slice_get, Some, refl, sym, ap, ap₂, ◌∙◌, arith, append_assoc, append-nil}
use Rattle.std.proofs.lemmas.List.{map-append}
use Rattle.std.specs.List.{AllByRecursion}
use Rattle.qbs_base.specs.declared.span.Span.{Span}
use Rattle.qbs_base.proofs.Order.{all_more}
use Rattle.java_ast.specs.Path.{found_in, branch_of, statement_in, statement_at}
use Rattle.java_ast.specs.Spans.{place_of}
use Rattle.java_ast.specs.Tree as tree
use Rattle.java_ast.specs.Tree.{Statement, Statements, Nothing, Then, PlainMethod, PlainProgram}
use Rattle.loop_text.specs.Statements.Loops.{loops_in, loops_among, loops_of_methods, loops_of}

pub record Site : Type 0 where
  pub path : List ℕ
  pub at : Span

abbrev pub site : List ℕ → Span → Site
site path at = record { path = path; at = at }

-- as the paths of loops are listed
abbrev mutual
  pub sites_in : List ℕ → Statement → List Site
  sites_in path (tree.Declare at ty x e) = []
  sites_in path (tree.Assign at x e) = []
  sites_in path (tree.Add at x e) = []
  sites_in path (tree.Sort at x keys downs) = []
  sites_in path (tree.If at c a) = sites_among (path ++ 0 ∷ []) 0 a
  sites_in path (tree.IfElse at c a b) = sites_among (path ++ 0 ∷ []) 0 a ++ sites_among (path ++ 1 ∷ []) 0 b
  sites_in path (tree.ForEach at ty x e b) = site path at ∷ sites_among (path ++ 0 ∷ []) 0 b
  sites_in path (tree.While at c b) = site path at ∷ sites_among (path ++ 0 ∷ []) 0 b
  sites_in path (tree.Print at e) = []
  sites_in path (tree.Return at e) = []
  sites_in path (tree.Break at) = []

  pub sites_among : List ℕ → ℕ → Statements → List Site
  sites_among path n Nothing = []
  sites_among path n (Then s ss) = sites_in (path ++ n ∷ []) s ++ sites_among path (suc n) ss

abbrev pub sites_of_methods : ℕ → List PlainMethod → List Site
sites_of_methods n [] = []
sites_of_methods n (m ∷ ms) = sites_among (n ∷ []) 0 m.body ++ sites_of_methods (suc n) ms

abbrev pub sites_of : PlainProgram → List Site
sites_of p = sites_of_methods 0 p.methods

-- ---- Their paths

abbrev pub paths_of : List Site → List (List ℕ)
paths_of ss = map (λ (s : Site). s.path) ss

pub paths_joined : (xs ys : List Site) → paths_of (xs ++ ys) ≡ paths_of xs ++ paths_of ys
paths_joined xs ys = map-append (λ (s : Site). s.path) xs ys

both_paths : (xs ys : List Site) (ps qs : List (List ℕ)) → paths_of xs ≡ ps → paths_of ys ≡ qs → paths_of (xs ++ ys) ≡ ps ++ qs
both_paths xs ys ps qs e h = paths_joined xs ys ∙ ap₂ (λ vs ws. vs ++ ws) e h

mutual
  paths_in : (s : Statement) (path : List ℕ) → paths_of (sites_in path s) ≡ loops_in path s
  paths_in (tree.Declare at ty x e) path = refl
  paths_in (tree.Assign at x e) path = refl
  paths_in (tree.Add at x e) path = refl
  paths_in (tree.Sort at x keys downs) path = refl
  paths_in (tree.If at c a) path = paths_among a (path ++ 0 ∷ []) 0
  paths_in (tree.IfElse at c a b) path =
      both_paths (sites_among (path ++ 0 ∷ []) 0 a) (sites_among (path ++ 1 ∷ []) 0 b) (loops_among (path ++ 0 ∷ []) 0 a) (loops_among (path ++ 1 ∷ []) 0 b) (paths_among a (path ++ 0 ∷ []) 0) (paths_among b (path ++ 1 ∷ []) 0)
  paths_in (tree.ForEach at ty x e b) path = ap (λ ps. path ∷ ps) (paths_among b (path ++ 0 ∷ []) 0)
  paths_in (tree.While at c b) path = ap (λ ps. path ∷ ps) (paths_among b (path ++ 0 ∷ []) 0)
  paths_in (tree.Print at e) path = refl
  paths_in (tree.Return at e) path = refl
  paths_in (tree.Break at) path = refl

  paths_among : (ss : Statements) (path : List ℕ) (n : ℕ) → paths_of (sites_among path n ss) ≡ loops_among path n ss
  paths_among Nothing path n = refl
  paths_among (Then s ss) path n =
      both_paths (sites_in (path ++ n ∷ []) s) (sites_among path (suc n) ss) (loops_in (path ++ n ∷ []) s) (loops_among path (suc n) ss) (paths_in s (path ++ n ∷ [])) (paths_among ss path (suc n))

paths_of_methods : (ms : List PlainMethod) (n : ℕ) → paths_of (sites_of_methods n ms) ≡ loops_of_methods n ms
paths_of_methods [] n = refl
paths_of_methods (m ∷ ms) n =
    both_paths (sites_among (n ∷ []) 0 m.body) (sites_of_methods (suc n) ms) (loops_among (n ∷ []) 0 m.body) (loops_of_methods (suc n) ms) (paths_among m.body (n ∷ []) 0) (paths_of_methods ms (suc n))

-- The paths of the sites are those of the loops.
pub paths_are : (p : PlainProgram) → paths_of (sites_of p) ≡ loops_of p
paths_are p = paths_of_methods p.methods 0

-- ---- What stands there

all_joined : {X : Type 0} (P : X → Type 0) (xs ys : List X) → AllByRecursion P xs → AllByRecursion P ys → AllByRecursion P (xs ++ ys)
all_joined P [] ys a b = b
all_joined P (x ∷ xs) ys a b = (a.0, all_joined P xs ys a.1 b)

-- a site's path leads from a statement to one that stands at the site's place
record Down (here : List ℕ) (a : Statement) (s : Site) : Type 0 where
  rest : List ℕ
  is : s.path ≡ here ++ rest
  statement : Statement
  there : statement_in rest zero (Then a Nothing) ≡ Some statement
  place : place_of statement ≡ s.at

-- so it does in a block whose first statement has the number n
record Among (here : List ℕ) (n : ℕ) (block : Statements) (s : Site) : Type 0 where
  number : ℕ
  rest : List ℕ
  is : s.path ≡ here ++ (n + number) ∷ rest
  statement : Statement
  there : statement_in rest number block ≡ Some statement
  place : place_of statement ≡ s.at

first_same : (rest : List ℕ) (a : Statement) (block : Statements) → statement_in rest zero (Then a block) ≡ statement_in rest zero (Then a Nothing)
first_same [] a block = refl
first_same (b ∷ []) a block = refl
first_same (b ∷ m ∷ rest) a block = refl

later_same : (rest : List ℕ) (n : ℕ) (a : Statement) (block : Statements) → statement_in rest (suc n) (Then a block) ≡ statement_in rest n block
later_same [] n a block = refl
later_same (b ∷ []) n a block = refl
later_same (b ∷ m ∷ rest) n a block = refl

in_first : (here : List ℕ) (n : ℕ) (a : Statement) (block : Statements) (s : Site) → Down (here ++ n ∷ []) a s → Among here n (Then a block) s
in_first here n a block s k =
    record {
      number = zero;
      rest = k.rest;
      is = k.is ∙ append_assoc here (n ∷ []) k.rest ∙ ap (λ i. here ++ i ∷ k.rest) (let e : n ≡ n + zero = omega arith in e);
      statement = k.statement;
      there = first_same k.rest a block ∙ k.there;
      place = k.place;
    }

in_later : (here : List ℕ) (n : ℕ) (a : Statement) (block : Statements) (s : Site) → Among here (suc n) block s → Among here n (Then a block) s
in_later here n a block s k =
    record {
      number = suc k.number;
      rest = k.rest;
      is = k.is ∙ ap (λ i. here ++ i ∷ k.rest) (let e : suc n + k.number ≡ n + suc k.number = omega arith in e);
      statement = k.statement;
      there = later_same k.rest k.number a block ∙ k.there;
      place = k.place;
    }

in_branch : (here : List ℕ) (b : ℕ) (a : Statement) (body : Statements) → branch_of b a ≡ Some body → (s : Site) → Among (here ++ b ∷ []) 0 body s → Down here a s
in_branch here b a body e s k =
    record {
      rest = b ∷ k.number ∷ k.rest;
      is = k.is ∙ append_assoc here (b ∷ []) ((0 + k.number) ∷ k.rest) ∙ ap (λ i. here ++ b ∷ i ∷ k.rest) (let z : 0 + k.number ≡ k.number = omega arith in z);
      statement = k.statement;
      there = ap (found_in (statement_in k.rest k.number)) e ∙ k.there;
      place = k.place;
    }

itself : (here : List ℕ) (a : Statement) → Down here a (site here (place_of a))
itself here a = record { rest = []; is = sym (append-nil here); statement = a; there = refl; place = refl }

all_in_branch : (here : List ℕ) (b : ℕ) (a : Statement) (body : Statements) → branch_of b a ≡ Some body → AllByRecursion (Among (here ++ b ∷ []) 0 body) (sites_among (here ++ b ∷ []) 0 body) → AllByRecursion (Down here a) (sites_among (here ++ b ∷ []) 0 body)
all_in_branch here b a body e = all_more (Among (here ++ b ∷ []) 0 body) (Down here a) (in_branch here b a body e) (sites_among (here ++ b ∷ []) 0 body)

mutual
  all_down : (a : Statement) (here : List ℕ) → AllByRecursion (Down here a) (sites_in here a)
  all_down (tree.Declare at ty x e) here = tt
  all_down (tree.Assign at x e) here = tt
  all_down (tree.Add at x e) here = tt
  all_down (tree.Sort at x keys downs) here = tt
  all_down (tree.If at c a) here = all_in_branch here 0 (tree.If at c a) a refl (all_among a (here ++ 0 ∷ []) 0)
  all_down (tree.IfElse at c a b) here =
      all_joined (Down here (tree.IfElse at c a b)) (sites_among (here ++ 0 ∷ []) 0 a) (sites_among (here ++ 1 ∷ []) 0 b)
      (all_in_branch here 0 (tree.IfElse at c a b) a refl (all_among a (here ++ 0 ∷ []) 0))
      (all_in_branch here 1 (tree.IfElse at c a b) b refl (all_among b (here ++ 1 ∷ []) 0))
  all_down (tree.ForEach at ty x e b) here = (itself here (tree.ForEach at ty x e b), all_in_branch here 0 (tree.ForEach at ty x e b) b refl (all_among b (here ++ 0 ∷ []) 0))
  all_down (tree.While at c b) here = (itself here (tree.While at c b), all_in_branch here 0 (tree.While at c b) b refl (all_among b (here ++ 0 ∷ []) 0))
  all_down (tree.Print at e) here = tt
  all_down (tree.Return at e) here = tt
  all_down (tree.Break at) here = tt

  all_among : (block : Statements) (here : List ℕ) (n : ℕ) → AllByRecursion (Among here n block) (sites_among here n block)
  all_among Nothing here n = tt
  all_among (Then a block) here n =
      all_joined (Among here n (Then a block)) (sites_in (here ++ n ∷ []) a) (sites_among here (suc n) block)
      (all_more (Down (here ++ n ∷ []) a) (Among here n (Then a block)) (in_first here n a block) (sites_in (here ++ n ∷ []) a) (all_down a (here ++ n ∷ [])))
      (all_more (Among here (suc n) block) (Among here n (Then a block)) (in_later here n a block) (sites_among here (suc n) block) (all_among block here (suc n)))

-- so it does in methods of which the first has the number n
record OfMethods (n : ℕ) (ms : List PlainMethod) (s : Site) : Type 0 where
  number : ℕ
  method : PlainMethod
  found : slice_get ms number ≡ Some method
  first : ℕ
  rest : List ℕ
  is : s.path ≡ (n + number) ∷ first ∷ rest
  statement : Statement
  there : statement_in rest first method.body ≡ Some statement
  place : place_of statement ≡ s.at

in_method : (n : ℕ) (m : PlainMethod) (ms : List PlainMethod) (s : Site) → Among (n ∷ []) 0 m.body s → OfMethods n (m ∷ ms) s
in_method n m ms s k =
    record {
      number = zero;
      method = m;
      found = refl;
      first = k.number;
      rest = k.rest;
      is = k.is ∙ ap₂ (λ i j. i ∷ j ∷ k.rest) (let e : n ≡ n + zero = omega arith in e) (let e : 0 + k.number ≡ k.number = omega arith in e);
      statement = k.statement;
      there = k.there;
      place = k.place;
    }

in_others : (n : ℕ) (m : PlainMethod) (ms : List PlainMethod) (s : Site) → OfMethods (suc n) ms s → OfMethods n (m ∷ ms) s
in_others n m ms s k =
    record {
      number = suc k.number;
      method = k.method;
      found = k.found;
      first = k.first;
      rest = k.rest;
      is = k.is ∙ ap (λ i. i ∷ k.first ∷ k.rest) (let e : suc n + k.number ≡ n + suc k.number = omega arith in e);
      statement = k.statement;
      there = k.there;
      place = k.place;
    }

all_of_methods : (ms : List PlainMethod) (n : ℕ) → AllByRecursion (OfMethods n ms) (sites_of_methods n ms)
all_of_methods [] n = tt
all_of_methods (m ∷ ms) n =
    all_joined (OfMethods n (m ∷ ms)) (sites_among (n ∷ []) 0 m.body) (sites_of_methods (suc n) ms)
    (all_more (Among (n ∷ []) 0 m.body) (OfMethods n (m ∷ ms)) (in_method n m ms) (sites_among (n ∷ []) 0 m.body) (all_among m.body (n ∷ []) 0))
    (all_more (OfMethods (suc n) ms) (OfMethods n (m ∷ ms)) (in_others n m ms) (sites_of_methods (suc n) ms) (all_of_methods ms (suc n)))

-- a statement stands at the site's place, to which its path leads
abbrev pub StandsAt : PlainProgram → Site → Type 0
StandsAt p s = (a : Statement) × (statement_at s.path p ≡ Some a) × (place_of a ≡ s.at)

stands_at : (p : PlainProgram) (s : Site) → OfMethods 0 p.methods s → StandsAt p s
stands_at p s k = (
  k.statement,
  ap (λ path. statement_at path p) k.is
      ∙ ap (λ i. found_in (λ (m : PlainMethod). statement_in k.rest k.first m.body) (slice_get p.methods i)) (let e : 0 + k.number ≡ k.number = omega arith in e)
      ∙ ap (found_in (λ (m : PlainMethod). statement_in k.rest k.first m.body)) k.found
      ∙ k.there,
  k.place,
)

-- So it is of each site of a program.
pub all_stand_at : (p : PlainProgram) → AllByRecursion (StandsAt p) (sites_of p)
all_stand_at p = all_more (OfMethods 0 p.methods) (StandsAt p) (stands_at p) (sites_of p) (all_of_methods p.methods 0)
