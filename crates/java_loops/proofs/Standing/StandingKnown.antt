-- What is known of each site of a loop: the conditions round it are those of its `if`s, and what stands before it
-- stands directly before it.
use Rattle.std.proofs.Common.{◌≡◌, ℕ, zero, suc, ◌<◌, ◌≤◌, Bool, true, false, List, length, Option, Some, None, refl, sym, ap, ◌∙◌, subst, slice_get, arith, ⊎_elim}
use Rattle.std.specs.List.{AllByRecursion}
use Rattle.std.proofs.lemmas.Bool.{cases_lt, cases_eq}
use Rattle.std.proofs.lemmas.Option.{slice_get_within}
use Rattle.java_ast.specs.Tree as tree
use Rattle.java_ast.specs.Tree.{Spelled, Expression, Statement, Statements}
use Rattle.java_mean.proofs.Members.{all_added}
use Rattle.loop_text.specs.Kernel.KernelConditions.{condition_of}
use Rattle.loop_text.specs.Sites.Sites.{Test, Round, Site, in_loop, in_branch, outside, kernel_body, sites_of}
use Rattle.java_loops.proofs.Standing.Standing.{is_single, site_of, Stands, single, when, choose, walks, repeats, AllStand, nothing, next}
use Rattle.java_loops.proofs.Standing.StandingRules.{get_same}
use Rattle.java_loops.proofs.Standing.StandingSites.{body_stands, loop_first}
use Rattle.java_loops.proofs.Standing.StandingWithin.{test_of}

-- the condition of a test is that of its `if`
pub record Tested (sites : List Site) (t : Test) : Type 0 where
  pub site : Site
  pub there : slice_get sites t.number ≡ Some site
  pub is : condition_of site.statement ≡ Some t.condition

pub record AllTested (sites : List Site) (r : Round) : Type 0 where
  pub by : AllByRecursion (Tested sites) r.tests

-- the site directly before one, in the same block
pub record Before (sites : List Site) (r : Round) (n : ℕ) (s : Statement) : Type 0 where
  pub number : ℕ
  pub previous : Option Statement
  pub next_one : suc number ≡ n
  pub there : slice_get sites number ≡ Some (site_of r previous s)

-- what stands before a place without statements in it has the site before it
pub record Follows (sites : List Site) (r : Round) (previous : Option Statement) (n : ℕ) : Type 0 where
  pub by : (s : Statement) → previous ≡ Some s → is_single s ≡ true → Before sites r n s

pub record Known (sites : List Site) (n : ℕ) (s : Site) : Type 0 where
  pub tested : AllTested sites s.round
  pub follows : Follows sites s.round s.previous n

-- a site that is known
record Located (sites : List Site) (n : ℕ) : Type 0 where
  site : Site
  there : slice_get sites n ≡ Some site
  known : Known sites n site

-- ---- Steps

tested_in : (sites : List Site) (r : Round) (n : ℕ) (c : Expression) (holds : Bool) (s : Site) → AllTested sites r → slice_get sites n ≡ Some s → condition_of s.statement ≡ Some c → AllTested sites (in_branch r n c holds)
tested_in sites r n c holds s a get is = record { by = all_added (Tested sites) r.tests (test_of r n c holds) a.by (record { site = s; there = get; is = is }) }

tested_loop : (sites : List Site) (r : Round) (n : ℕ) → AllTested sites r → AllTested sites (in_loop r n)
tested_loop sites r n a = record { by = a.by }

follows_none : (sites : List Site) (r : Round) (n : ℕ) → Follows sites r None n
follows_none sites r n = record { by = λ s e one. absurd cc }

pub record Ended (sites : List Site) (r : Round) (previous : Option Statement) (s : Statement) (n m : ℕ) : Type 0 where
  pub one_more : suc n ≡ m
  pub there : slice_get sites n ≡ Some (site_of r previous s)

pub ended : (sites : List Site) (r : Round) (previous : Option Statement) (s : Statement) (n m : ℕ) → Stands sites r previous s n m → is_single s ≡ true → Ended sites r previous s n m
ended sites _ _ _ _ _ (single r previous s n one get) e = record { one_more = refl; there = get }
ended sites _ _ _ _ _ (when r previous at q p n m get all) e = absurd cc
ended sites _ _ _ _ _ (choose r previous at q p o n m z get all other) e = absurd cc
ended sites _ _ _ _ _ (walks r previous at ty x q p n m get all) e = absurd cc
ended sites _ _ _ _ _ (repeats r previous at q p n m get all) e = absurd cc

follows_one : (sites : List Site) (r : Round) (previous : Option Statement) (s : Statement) (n m : ℕ) → Stands sites r previous s n m → Follows sites r (Some s) m
follows_one sites r previous s n m stands = record { by = λ p e one. let same : s ≡ p = cc in let d = ended sites r previous s n m stands (subst (λ z. is_single z ≡ true) (sym same) one) in record { number = n; previous = previous; next_one = d.one_more; there = d.there ∙ ap (λ z. Some (site_of r previous z)) same } }

here : (sites : List Site) (r : Round) (previous : Option Statement) (s : Statement) (n k : ℕ) → slice_get sites n ≡ Some (site_of r previous s) → AllTested sites r → Follows sites r previous n → n ≡ k → Located sites k
here sites r previous s n k get a f e = subst (λ i. Located sites i) e (record { site = site_of r previous s; there = get; known = record { tested = a; follows = f } })

-- ---- Each site of a statement or a block

later : (n k : ℕ) → n ≤ k → (n ≡ k → ⊥) → suc n ≤ k
later n k low other = ⊎_elim (λ l. l) (λ h. absurd (other (omega arith))) (cases_lt n k)

mutual
  located : (sites : List Site) (r : Round) (previous : Option Statement) (s : Statement) (n m : ℕ) → Stands sites r previous s n m → AllTested sites r → Follows sites r previous n → (k : ℕ) → n ≤ k → k < m → Located sites k
  located sites _ _ _ _ _ (single r previous s n one get) a f k low high = here sites r previous s n k get a f (omega arith)
  located sites _ _ _ _ _ (when r previous at q p n m get all) a f k low high =
      ⊎_elim (λ e. here sites r previous (tree.If at q p) n k get a f e) (λ e. all_located sites _ _ p (suc n) m all (tested_in sites r n q true (site_of r previous (tree.If at q p)) a get refl) (follows_none sites (in_branch r n q true) (suc n)) k (later n k low e) high) (cases_eq n k)
  located sites _ _ _ _ _ (choose r previous at q p o n m z get all other) a f k low high =
      ⊎_elim (λ e. here sites r previous (tree.IfElse at q p o) n k get a f e) (λ e. ⊎_elim (λ before. all_located sites _ _ p (suc n) m all (tested_in sites r n q true (site_of r previous (tree.IfElse at q p o)) a get refl) (follows_none sites (in_branch r n q true) (suc n)) k (later n k low e) before) (λ behind. all_located sites _ _ o m z other (tested_in sites r n q false (site_of r previous (tree.IfElse at q p o)) a get refl) (follows_none sites (in_branch r n q false) m) k behind high) (cases_lt k m)) (cases_eq n k)
  located sites _ _ _ _ _ (walks r previous at ty x q p n m get all) a f k low high =
      ⊎_elim (λ e. here sites r previous (tree.ForEach at ty x q p) n k get a f e) (λ e. all_located sites _ _ p (suc n) m all (tested_loop sites r n a) (follows_none sites (in_loop r n) (suc n)) k (later n k low e) high) (cases_eq n k)
  located sites _ _ _ _ _ (repeats r previous at q p n m get all) a f k low high =
      ⊎_elim (λ e. here sites r previous (tree.While at q p) n k get a f e) (λ e. all_located sites _ _ p (suc n) m all (tested_loop sites r n a) (follows_none sites (in_loop r n) (suc n)) k (later n k low e) high) (cases_eq n k)

  all_located : (sites : List Site) (r : Round) (previous : Option Statement) (p : Statements) (n m : ℕ) → AllStand sites r previous p n m → AllTested sites r → Follows sites r previous n → (k : ℕ) → n ≤ k → k < m → Located sites k
  all_located sites _ _ _ _ _ (nothing r previous n) a f k low high = absurd (omega arith)
  all_located sites _ _ _ _ _ (next r previous s p n m o first rest) a f k low high =
      ⊎_elim (λ before. located sites _ _ s n m first a f k low before) (λ behind. all_located sites _ _ p m o rest a (follows_one sites r previous s n m first) k behind high) (cases_lt k m)

-- ---- Each site of a loop

in_body : (loop : Statement) (k : ℕ) → 1 ≤ k → k < length (sites_of loop) → Located (sites_of loop) k
in_body loop k low high =
    all_located (sites_of loop) (in_loop outside 0) None (kernel_body loop) 1 (length (sites_of loop)) (body_stands loop) (record { by = tt }) (follows_none (sites_of loop) (in_loop outside 0) 1) k low high

site_located : (loop : Statement) (k : ℕ) → k < length (sites_of loop) → Located (sites_of loop) k
site_located loop zero high = record { site = site_of outside None loop; there = loop_first loop; known = record { tested = record { by = tt }; follows = follows_none (sites_of loop) outside 0 } }
site_located loop (suc k) high = in_body loop (suc k) (omega arith) high

pub site_known : (loop : Statement) (k : ℕ) (s : Site) → slice_get (sites_of loop) k ≡ Some s → Known (sites_of loop) k s
site_known loop k s get =
    let l : Located (sites_of loop) k = site_located loop k (slice_get_within (sites_of loop) k s get) in
    subst (λ z. Known (sites_of loop) k z) (get_same (sites_of loop) k l.site s l.there get) l.known
