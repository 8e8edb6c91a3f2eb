-- No two loops of a program have one path.
use Rattle.std.proofs.Common.{◌≡◌, ℕ, zero, suc, ◌≤◌, List, [], ◌∷◌, ◌++◌, slice_get, Some, refl, sym, ap, ◌∙◌, arith, append_assoc, append-nil}
use Rattle.std.specs.List.{AllByRecursion}
use Rattle.qbs_base.proofs.Order.{all_more}
use Rattle.sql_ast.proofs.Tools.{all_joined, all_at}
use Rattle.java_ast.specs.Tree as tree
use Rattle.java_ast.specs.Tree.{Statement, Statements, Nothing, Then, PlainMethod, PlainProgram}
use Rattle.loop_text.specs.Statements.Loops.{loops_in, loops_among, loops_of_methods, loops_of}

-- ---- How paths begin

-- a path that begins with another
record Begins (pre x : List ℕ) : Type 0 where
  rest : List ℕ
  is : x ≡ pre ++ rest

-- a path that goes on behind another with a number from this one on
record GoesOn (pre : List ℕ) (j : ℕ) (x : List ℕ) : Type 0 where
  number : ℕ
  from : j ≤ number
  begins : Begins (pre ++ number ∷ []) x

shorter : (pre q x : List ℕ) → Begins (pre ++ q) x → Begins pre x
shorter pre q x b = record { rest = q ++ b.rest; is = b.is ∙ append_assoc pre q b.rest }

-- what goes on in a branch of a statement begins with the statement's path
in_branch : (pre : List ℕ) (b j : ℕ) (x : List ℕ) → GoesOn (pre ++ b ∷ []) j x → Begins (pre ++ b ∷ []) x
in_branch pre b j x g = shorter (pre ++ b ∷ []) (g.number ∷ []) x g.begins

in_statement : (pre : List ℕ) (b j : ℕ) (x : List ℕ) → GoesOn (pre ++ b ∷ []) j x → Begins pre x
in_statement pre b j x g = shorter pre (b ∷ []) x (in_branch pre b j x g)

later : (pre : List ℕ) (j : ℕ) (x : List ℕ) → GoesOn pre (suc j) x → GoesOn pre j x
later pre j x g = let below : suc j ≤ g.number = g.from in record { number = g.number; from = omega arith; begins = g.begins }

here : (pre : List ℕ) (j : ℕ) (x : List ℕ) → Begins (pre ++ j ∷ []) x → GoesOn pre j x
here pre j x b = record { number = j; from = omega arith; begins = b }

-- the paths of loops begin with those of what they stand in
mutual
  begin_in : (s : Statement) (pre : List ℕ) → AllByRecursion (Begins pre) (loops_in pre s)
  begin_in (tree.If at c a) pre = all_more (GoesOn (pre ++ 0 ∷ []) 0) (Begins pre) (λ x g. in_statement pre 0 0 x g) (loops_among (pre ++ 0 ∷ []) 0 a) (go_on a (pre ++ 0 ∷ []) 0)
  begin_in (tree.IfElse at c a b) pre =
      all_joined (Begins pre) (loops_among (pre ++ 0 ∷ []) 0 a) (loops_among (pre ++ 1 ∷ []) 0 b)
      (all_more (GoesOn (pre ++ 0 ∷ []) 0) (Begins pre) (λ x g. in_statement pre 0 0 x g) (loops_among (pre ++ 0 ∷ []) 0 a) (go_on a (pre ++ 0 ∷ []) 0))
      (all_more (GoesOn (pre ++ 1 ∷ []) 0) (Begins pre) (λ x g. in_statement pre 1 0 x g) (loops_among (pre ++ 1 ∷ []) 0 b) (go_on b (pre ++ 1 ∷ []) 0))
  begin_in (tree.ForEach at ty x e b) pre = (
    record { rest = []; is = sym (append-nil pre) },
    all_more (GoesOn (pre ++ 0 ∷ []) 0) (Begins pre) (λ y g. in_statement pre 0 0 y g) (loops_among (pre ++ 0 ∷ []) 0 b) (go_on b (pre ++ 0 ∷ []) 0),
  )
  begin_in (tree.While at c b) pre = (
    record { rest = []; is = sym (append-nil pre) },
    all_more (GoesOn (pre ++ 0 ∷ []) 0) (Begins pre) (λ y g. in_statement pre 0 0 y g) (loops_among (pre ++ 0 ∷ []) 0 b) (go_on b (pre ++ 0 ∷ []) 0),
  )
  begin_in (tree.Declare at ty x e) pre = tt
  begin_in (tree.Assign at x e) pre = tt
  begin_in (tree.Add at x e) pre = tt
  begin_in (tree.Sort at x keys downs) pre = tt
  begin_in (tree.Print at e) pre = tt
  begin_in (tree.Return at e) pre = tt
  begin_in (tree.Break at) pre = tt

  go_on : (ss : Statements) (pre : List ℕ) (j : ℕ) → AllByRecursion (GoesOn pre j) (loops_among pre j ss)
  go_on Nothing pre j = tt
  go_on (Then s ss) pre j =
      all_joined (GoesOn pre j) (loops_in (pre ++ j ∷ []) s) (loops_among pre (suc j) ss)
      (all_more (Begins (pre ++ j ∷ [])) (GoesOn pre j) (λ x b. here pre j x b) (loops_in (pre ++ j ∷ []) s) (begin_in s (pre ++ j ∷ [])))
      (all_more (GoesOn pre (suc j)) (GoesOn pre j) (λ x g. later pre j x g) (loops_among pre (suc j) ss) (go_on ss pre (suc j)))

-- the paths of the loops of a method begin with its number
pub begin_with_method : (n : ℕ) (ss : Statements) (i : ℕ) (x : List ℕ) → slice_get (loops_among (n ∷ []) 0 ss) i ≡ Some x → (rest : List ℕ) × (x ≡ n ∷ rest)
begin_with_method n ss i x there =
    let g : GoesOn (n ∷ []) 0 x = all_at (GoesOn (n ∷ []) 0) (loops_among (n ∷ []) 0 ss) i x (go_on ss (n ∷ []) 0) there in
    let b : Begins (n ∷ []) x = shorter (n ∷ []) (g.number ∷ []) x g.begins in
    (b.rest, b.is)

go_on_methods : (ms : List PlainMethod) (j : ℕ) → AllByRecursion (GoesOn [] j) (loops_of_methods j ms)
go_on_methods [] j = tt
go_on_methods (m ∷ ms) j =
    all_joined (GoesOn [] j) (loops_among (j ∷ []) 0 m.body) (loops_of_methods (suc j) ms)
    (all_more (GoesOn (j ∷ []) 0) (GoesOn [] j) (λ x g. here [] j x (in_branch [] j 0 x g)) (loops_among (j ∷ []) 0 m.body) (go_on m.body (j ∷ []) 0))
    (all_more (GoesOn [] (suc j)) (GoesOn [] j) (λ x g. later [] j x g) (loops_of_methods (suc j) ms) (go_on_methods ms (suc j)))

-- ---- Different paths

-- two paths that go on with numbers behind one are the same only if the numbers are
one_number : (pre r s : List ℕ) (i k : ℕ) → (pre ++ i ∷ []) ++ r ≡ (pre ++ k ∷ []) ++ s → i ≡ k
one_number [] r s i k e = let h : i ∷ r ≡ k ∷ s = e in cc
one_number (y ∷ pre) r s i k e =
    let h : y ∷ ((pre ++ i ∷ []) ++ r) ≡ y ∷ ((pre ++ k ∷ []) ++ s) = e in
    let t : (pre ++ i ∷ []) ++ r ≡ (pre ++ k ∷ []) ++ s = cc in
    one_number pre r s i k t

no_longer : (pre r : List ℕ) (i : ℕ) → pre ≡ (pre ++ i ∷ []) ++ r → ⊥
no_longer [] r i e = let h : [] ≡ i ∷ r = e in absurd cc
no_longer (y ∷ pre) r i e =
    let h : y ∷ pre ≡ y ∷ ((pre ++ i ∷ []) ++ r) = e in
    let t : pre ≡ (pre ++ i ∷ []) ++ r = cc in
    no_longer pre r i t

abbrev Others : List ℕ → List (List ℕ) → Type 0
Others x ys = AllByRecursion (λ (y : List ℕ). x ≡ y → ⊥) ys

-- each stands once
abbrev Distinct : List (List ℕ) → Type 0
Distinct [] = Unit {0}
Distinct (x ∷ xs) = Others x xs × Distinct xs

abbrev Apart : List (List ℕ) → List (List ℕ) → Type 0
Apart xs ys = AllByRecursion (λ (x : List ℕ). Others x ys) xs

distinct_joined : (xs ys : List (List ℕ)) → Distinct xs → Distinct ys → Apart xs ys → Distinct (xs ++ ys)
distinct_joined [] ys d e a = e
distinct_joined (x ∷ xs) ys d e a = (all_joined (λ (y : List ℕ). x ≡ y → ⊥) xs ys d.0 a.0, distinct_joined xs ys d.1 e a.1)

apart_by : (P Q : List ℕ → Type 0) → ((x y : List ℕ) → P x → Q y → x ≡ y → ⊥) → (xs ys : List (List ℕ)) → AllByRecursion P xs → AllByRecursion Q ys → Apart xs ys
apart_by P Q differ xs ys p q = all_more P (λ (x : List ℕ). Others x ys) (λ x h. all_more Q (λ (y : List ℕ). x ≡ y → ⊥) (λ y k. differ x y h k) ys q) xs p

-- behind different numbers stand different paths
numbers_differ : (pre : List ℕ) (j : ℕ) (x y : List ℕ) → Begins (pre ++ j ∷ []) x → GoesOn pre (suc j) y → x ≡ y → ⊥
numbers_differ pre j x y b g e =
    let same : j ≡ g.number = one_number pre b.rest g.begins.rest j g.number (sym b.is ∙ e ∙ g.begins.is) in
    let below : suc j ≤ g.number = g.from in
    absurd (omega arith)

branches_differ : (pre : List ℕ) (x y : List ℕ) → GoesOn (pre ++ 0 ∷ []) 0 x → GoesOn (pre ++ 1 ∷ []) 0 y → x ≡ y → ⊥
branches_differ pre x y g h e =
    let b : Begins (pre ++ 0 ∷ []) x = in_branch pre 0 0 x g in
    let d : Begins (pre ++ 1 ∷ []) y = in_branch pre 1 0 y h in
    let same : zero ≡ suc zero = one_number pre b.rest d.rest zero (suc zero) (sym b.is ∙ e ∙ d.is) in
    absurd cc

outer_differs : (pre : List ℕ) (y : List ℕ) → GoesOn (pre ++ 0 ∷ []) 0 y → pre ≡ y → ⊥
outer_differs pre y g e = let b : Begins (pre ++ 0 ∷ []) y = in_branch pre 0 0 y g in no_longer pre b.rest 0 (e ∙ b.is)

mutual
  distinct_in : (s : Statement) (pre : List ℕ) → Distinct (loops_in pre s)
  distinct_in (tree.If at c a) pre = distinct_among a (pre ++ 0 ∷ []) 0
  distinct_in (tree.IfElse at c a b) pre =
      distinct_joined (loops_among (pre ++ 0 ∷ []) 0 a) (loops_among (pre ++ 1 ∷ []) 0 b) (distinct_among a (pre ++ 0 ∷ []) 0) (distinct_among b (pre ++ 1 ∷ []) 0)
      (apart_by (GoesOn (pre ++ 0 ∷ []) 0) (GoesOn (pre ++ 1 ∷ []) 0) (branches_differ pre) (loops_among (pre ++ 0 ∷ []) 0 a) (loops_among (pre ++ 1 ∷ []) 0 b) (go_on a (pre ++ 0 ∷ []) 0) (go_on b (pre ++ 1 ∷ []) 0))
  distinct_in (tree.ForEach at ty x e b) pre = (
    all_more (GoesOn (pre ++ 0 ∷ []) 0) (λ (y : List ℕ). pre ≡ y → ⊥) (outer_differs pre) (loops_among (pre ++ 0 ∷ []) 0 b) (go_on b (pre ++ 0 ∷ []) 0),
    distinct_among b (pre ++ 0 ∷ []) 0,
  )
  distinct_in (tree.While at c b) pre = (
    all_more (GoesOn (pre ++ 0 ∷ []) 0) (λ (y : List ℕ). pre ≡ y → ⊥) (outer_differs pre) (loops_among (pre ++ 0 ∷ []) 0 b) (go_on b (pre ++ 0 ∷ []) 0),
    distinct_among b (pre ++ 0 ∷ []) 0,
  )
  distinct_in (tree.Declare at ty x e) pre = tt
  distinct_in (tree.Assign at x e) pre = tt
  distinct_in (tree.Add at x e) pre = tt
  distinct_in (tree.Sort at x keys downs) pre = tt
  distinct_in (tree.Print at e) pre = tt
  distinct_in (tree.Return at e) pre = tt
  distinct_in (tree.Break at) pre = tt

  distinct_among : (ss : Statements) (pre : List ℕ) (j : ℕ) → Distinct (loops_among pre j ss)
  distinct_among Nothing pre j = tt
  distinct_among (Then s ss) pre j =
      distinct_joined (loops_in (pre ++ j ∷ []) s) (loops_among pre (suc j) ss) (distinct_in s (pre ++ j ∷ [])) (distinct_among ss pre (suc j))
      (apart_by (Begins (pre ++ j ∷ [])) (GoesOn pre (suc j)) (numbers_differ pre j) (loops_in (pre ++ j ∷ []) s) (loops_among pre (suc j) ss) (begin_in s (pre ++ j ∷ [])) (go_on ss pre (suc j)))

distinct_methods : (ms : List PlainMethod) (j : ℕ) → Distinct (loops_of_methods j ms)
distinct_methods [] j = tt
distinct_methods (m ∷ ms) j =
    distinct_joined (loops_among (j ∷ []) 0 m.body) (loops_of_methods (suc j) ms) (distinct_among m.body (j ∷ []) 0) (distinct_methods ms (suc j))
    (apart_by (GoesOn (j ∷ []) 0) (GoesOn [] (suc j)) (λ x y g h e. numbers_differ [] j x y (in_branch [] j 0 x g) h e) (loops_among (j ∷ []) 0 m.body) (loops_of_methods (suc j) ms) (go_on m.body (j ∷ []) 0) (go_on_methods ms (suc j)))

-- ---- Numbers of loops

one_place : (xs : List (List ℕ)) (x : List ℕ) (i k : ℕ) → Distinct xs → slice_get xs i ≡ Some x → slice_get xs k ≡ Some x → i ≡ k
one_place [] x i k d e h = absurd cc
one_place (y ∷ ys) x zero zero d e h = refl
one_place (y ∷ ys) x zero (suc k) d e h =
    let same : y ≡ x = cc in
    absurd (all_at (λ (z : List ℕ). y ≡ z → ⊥) ys k x d.0 h same)
one_place (y ∷ ys) x (suc i) zero d e h =
    let same : y ≡ x = cc in
    absurd (all_at (λ (z : List ℕ). y ≡ z → ⊥) ys i x d.0 e same)
one_place (y ∷ ys) x (suc i) (suc k) d e h = ap suc (one_place ys x i k d.1 e h)

-- A path is that of one loop at most.
pub loop_number : (p : PlainProgram) (path : List ℕ) (i k : ℕ) → slice_get (loops_of p) i ≡ Some path → slice_get (loops_of p) k ≡ Some path → i ≡ k
loop_number p path i k = one_place (loops_of p) path i k (distinct_methods p.methods 0)
