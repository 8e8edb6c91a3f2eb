-- Sites within a statement or a block: where a variable is set that is visible before it.
use Rattle.std.proofs.Common.{◌≡◌, ℕ, suc, ◌≤◌, Bool, true, false, List, [], ◌∷◌, ◌++◌, length, Option, Some, refl, sym, ◌∙◌, slice_get, append_assoc, ⊎_elim}
use Rattle.std.specs.List.{AllByRecursion}
use Rattle.std.proofs.lemmas.Bool.{or_cases, cond-false}
use Rattle.std.proofs.lemmas.List.{append-nil}
use Rattle.java_ast.specs.Tree as tree
use Rattle.java_ast.specs.Tree.{Spelled, Expression, Statement, Statements, Nothing, Then}
use Rattle.java_mean.specs.declared.types.JavaType.{JavaType}
use Rattle.java_mean.specs.declared.types.JavaType.TheVariants.{Of}
use Rattle.java_mean.specs.Types.{Types, with_type}
use Rattle.java_mean.specs.Typing.{Frame, TypedStatement, TypedStatements}
use Rattle.java_mean.proofs.TypedRuns.{extends_statement}
use Rattle.java_loops.specs.Walks.Effects.{sets, all_set}
use Rattle.loop_text.specs.Statements.Fragment.{is_name}
use Rattle.loop_text.specs.declared.sites.bindings.Binding.TheVariants.{Row}
use Rattle.loop_text.specs.Sites.Sites.{Test, Round, Site, binding_at, counted_row, in_loop, in_branch}
use Rattle.java_loops.proofs.Typing.BoundSteps.{bound_next, bound_other, new_row, bound_past}
use Rattle.java_loops.proofs.Typing.BoundTyping.{typed_next, typed_if, typed_choice, over, over_new, typed_each, typed_while, seen_with, row_new}
use Rattle.java_loops.proofs.Standing.Standing.{is_single, site_of, Stands, single, when, choose, walks, repeats, AllStand, nothing, next}

-- ---- Rounds

-- the second stands where the first does, and maybe further in
pub record Under (r q : Round) : Type 0 where
  pub loops : List ℕ
  pub tests : List Test
  pub is_loops : q.loops ≡ r.loops ++ loops
  pub is_tests : q.tests ≡ r.tests ++ tests

pub under_self : (r : Round) → Under r r
under_self r = record { loops = []; tests = []; is_loops = sym (append-nil r.loops); is_tests = sym (append-nil r.tests) }

pub under_loop : (r q : Round) (n : ℕ) → Under (in_loop r n) q → Under r q
under_loop r q n u = record { loops = n ∷ u.loops; tests = u.tests; is_loops = u.is_loops ∙ append_assoc r.loops (n ∷ []) u.loops; is_tests = u.is_tests }

abbrev pub test_of : Round → ℕ → Expression → Bool → Test
test_of r n c holds = record { number = n; level = length r.loops; condition = c; holds = holds }

pub under_branch : (r q : Round) (n : ℕ) (c : Expression) (holds : Bool) → Under (in_branch r n c holds) q → Under r q
under_branch r q n c holds u = record { loops = u.loops; tests = test_of r n c holds ∷ u.tests; is_loops = u.is_loops; is_tests = u.is_tests ∙ append_assoc r.tests (test_of r n c holds ∷ []) u.tests }

-- no `if` round a place has more loops round it than the place has
pub record Leveled (r : Round) : Type 0 where
  pub by : AllByRecursion (λ (t : Test). t.level ≤ length r.loops) r.tests

-- ---- Where a variable is set

-- a statement among the sites that sets a variable, which is bound there as at a site before it
pub record SetAt (sites : List Site) (r : Round) (n : ℕ) (y : List ℕ) : Type 0 where
  pub number : ℕ
  pub site : Site
  pub there : slice_get sites number ≡ Some site
  pub under : Under r site.round
  pub one : is_single site.statement ≡ true
  pub sets_it : sets site.statement y ≡ true
  pub bound : binding_at sites number y ≡ binding_at sites n y

set_further : (sites : List Site) (r q : Round) (n m : ℕ) (y : List ℕ) → ((k : Round) → Under q k → Under r k) → binding_at sites m y ≡ binding_at sites n y → SetAt sites q m y → SetAt sites r n y
set_further sites r q n m y outer same s = record { number = s.number; site = s.site; there = s.there; under = outer s.site.round s.under; one = s.one; sets_it = s.sets_it; bound = s.bound ∙ same }

mutual
  pub set_in : (c : Frame) (sites : List Site) (r : Round) (previous : Option Statement) (s : Statement) (n m : ℕ) → Stands sites r previous s n m → (l : Option Types) (g h : Types) → TypedStatement c l g s h → (y : List ℕ) (k : JavaType) → g y ≡ Some k → sets s y ≡ true → SetAt sites r n y
  set_in c sites _ _ _ _ _ (single r previous s n one get) l g h t y k i e =
      record { number = n; site = site_of r previous s; there = get; under = under_self r; one = one; sets_it = e; bound = refl }
  set_in c sites _ _ _ _ _ (when r previous at q p n m get all) l g h t y k i e =
      let u = typed_if c l g h at q p t in
      set_further sites r (in_branch r n q true) n (suc n) y (λ z w. under_branch r z n q true w) (bound_next sites n (site_of r previous (tree.If at q p)) y get) (all_set_in c sites _ _ p (suc n) m all l g u.branch.last u.branch.body y k i e)
  set_in c sites _ _ _ _ _ (choose r previous at q p o n m z get all other) l g h t y k i e =
      let u = typed_choice c l g h at q p o t in
      ⊎_elim
      (λ a. set_further sites r (in_branch r n q true) n (suc n) y (λ f w. under_branch r f n q true w) (bound_next sites n (site_of r previous (tree.IfElse at q p o)) y get) (all_set_in c sites _ _ p (suc n) m all l g u.branch.last u.branch.body y k i a))
      (λ a. set_further sites r (in_branch r n q false) n m y (λ f w. under_branch r f n q false w) (bound_other c sites r previous at q p o n m get all l g u.branch.last u.branch.body y k i) (all_set_in c sites _ _ o m z other l g u.other.last u.other.body y k i a))
      (or_cases (all_set p y) (all_set o y) e)
  set_in c sites _ _ _ _ _ (walks r previous at ty x q p n m get all) l g h t y k i e =
      elim (typed_each c l g h at ty x q p t) [
        | over z j a new v has u ↦ set_further sites r (in_loop r n) n (suc n) y (λ f w. under_loop r f n w) (bound_next sites n (site_of r previous (tree.ForEach at ty x q p)) y get ∙ new_row g y x k n (binding_at sites n y) new i) (all_set_in c sites _ _ p (suc n) m all (Some (with_type x (Some (Of a)) g)) (with_type x (Some (Of a)) g) z u y k (seen_with g y x (Some (Of a)) k new i) e)
        | over_new z j new isnew u ↦ set_further sites r (in_loop r n) n (suc n) y (λ f w. under_loop r f n w) (bound_next sites n (site_of r previous (tree.ForEach at ty x q p)) y get ∙ new_row g y x k n (binding_at sites n y) new i) (all_set_in c sites _ _ p (suc n) m all (Some (with_type x (Some j) g)) (with_type x (Some j) g) z u y k (seen_with g y x (Some j) k new i) e)
      ]
  set_in c sites _ _ _ _ _ (repeats r previous at q p n m get all) l g h t y k i e =
      let u = typed_while c l g h at q p t in
      set_further sites r (in_loop r n) n (suc n) y (λ f w. under_loop r f n w) (bound_next sites n (site_of r previous (tree.While at q p)) y get ∙ cond-false (is_name (counted_row p) y) (Row n) (binding_at sites n y) (row_new c (Some g) g u.branch.last p u.branch.body y k i)) (all_set_in c sites _ _ p (suc n) m all (Some g) g u.branch.last u.branch.body y k i e)

  pub all_set_in : (c : Frame) (sites : List Site) (r : Round) (previous : Option Statement) (p : Statements) (n m : ℕ) → AllStand sites r previous p n m → (l : Option Types) (g h : Types) → TypedStatements c l g p h → (y : List ℕ) (k : JavaType) → g y ≡ Some k → all_set p y ≡ true → SetAt sites r n y
  all_set_in c sites _ _ _ _ _ (nothing r previous n) l g h t y k i e = absurd cc
  all_set_in c sites _ _ _ _ _ (next r previous s p n m o first rest) l g h t y k i e =
      let u = typed_next c l g h s p t in
      ⊎_elim
      (λ a. set_in c sites _ _ s n m first l g u.middle u.first y k i a)
      (λ a. set_further sites r r n m y (λ f w. w) (bound_past c sites _ _ s n m first l g u.middle u.first y k i) (all_set_in c sites _ _ p m o rest l u.middle u.last u.rest y k (extends_statement c l g u.middle s u.first y k i) a))
      (or_cases (sets s y) (all_set p y) e)
