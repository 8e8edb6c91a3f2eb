-- Chains of a lowered fragment: the numbers of the loops round a site are there, and rise.
use Rattle.std.proofs.Common.{◌≡◌, ℕ, zero, suc, ◌<◌, ◌≤◌, Bool, true, false, List, [], ◌∷◌, length, map, take, Option, Some, None, refl, sym, ap, ◌∙◌, subst, cond, slice_get, nat_lt, arith, ⊎_elim}
use Rattle.std.specs.List.{AllByRecursion, filter}
use Rattle.std.proofs.lemmas.Bool.{and_parts, lt-ltb, ltb-true, cases_lt, cases_eq}
use Rattle.java_ast.specs.Tree as tree
use Rattle.java_ast.specs.Tree.{Statement, Statements}
use Rattle.kernel_lang.specs.Validity.{rises, rises_after, loops_are_there}
use Rattle.kernel_lang.specs.Plain as kernel
use Rattle.loop_text.specs.Kernel.KernelLists.{count_loops}
use Rattle.loop_text.specs.Statements.Loops.{is_loop}
use Rattle.java_loops.specs.Lowering.Lowered.{list_of, lists_of}
use Rattle.java_loops.specs.Lowering.Numbering.{loop_number}
use Rattle.java_loops.specs.Kernel.Setting.{Setting}
use Rattle.loop_text.specs.Sites.Sites.{Site, Round, in_loop, in_branch, outside, kernel_body, sites_of}
use Rattle.java_loops.proofs.Standing.Standing.{site_of, Stands, single, when, choose, walks, repeats, AllStand, nothing, next}
use Rattle.java_loops.proofs.Standing.StandingRules.{get_same}
use Rattle.java_loops.proofs.Standing.StandingSites.{body_stands}
use Rattle.java_loops.proofs.Standing.StandingWithin.{Under, under_self, under_loop, under_branch}
use Rattle.java_loops.proofs.Valid.ValidVisits.{LoopStands}

-- ---- Numbers of loops

step_below : (t : Site) (xs ys : List Site) (b : Bool) → length (filter (λ (s : Site). is_loop s.statement) xs) < length (filter (λ (s : Site). is_loop s.statement) ys) → length (cond b (t ∷ filter (λ (s : Site). is_loop s.statement) xs) (filter (λ (s : Site). is_loop s.statement) xs)) < length (cond b (t ∷ filter (λ (s : Site). is_loop s.statement) ys) (filter (λ (s : Site). is_loop s.statement) ys))
step_below t xs ys true h = omega (arith, h)
step_below t xs ys false h = h

loop_here : (t s : Site) (ys : List Site) (b : Bool) → is_loop t.statement ≡ b → t ≡ s → is_loop s.statement ≡ true → 0 < length (cond b (t ∷ filter (λ (z : Site). is_loop z.statement) ys) (filter (λ (z : Site). is_loop z.statement) ys))
loop_here t s ys true e same h = omega arith
loop_here t s ys false e same h = let f : is_loop t.statement ≡ true = ap (λ (z : Site). is_loop z.statement) same ∙ h in absurd cc

-- a loop has a number below the count of loops
pub loop_counted : (sites : List Site) (j : ℕ) (s : Site) → slice_get sites j ≡ Some s → is_loop s.statement ≡ true → loop_number sites j < count_loops sites
loop_counted [] j s get h = absurd cc
loop_counted (t ∷ ss) zero s get h = let same : t ≡ s = cc in loop_here t s ss (is_loop t.statement) refl same h
loop_counted (t ∷ ss) (suc j) s get h = step_below t (take j ss) ss (is_loop t.statement) (loop_counted ss j s get h)

-- a loop behind another one has a greater number
pub numbers_rise : (sites : List Site) (j k : ℕ) (s : Site) → j < k → slice_get sites j ≡ Some s → is_loop s.statement ≡ true → loop_number sites j < loop_number sites k
numbers_rise [] j k s low get h = absurd cc
numbers_rise (t ∷ ss) zero zero s low get h = absurd (omega arith)
numbers_rise (t ∷ ss) zero (suc k) s low get h = let same : t ≡ s = cc in loop_here t s (take k ss) (is_loop t.statement) refl same h
numbers_rise (t ∷ ss) (suc j) zero s low get h = absurd (omega arith)
numbers_rise (t ∷ ss) (suc j) (suc k) s low get h = step_below t (take j ss) (take k ss) (is_loop t.statement) (numbers_rise ss j k s (omega arith) get h)

list_step : (w : Setting) (s : Site) (ss : List Site) (b : Bool) → length (lists_of w ss) ≡ length (filter (λ (z : Site). is_loop z.statement) ss) → length (cond b (list_of w s.statement ∷ lists_of w ss) (lists_of w ss)) ≡ length (cond b (s ∷ filter (λ (z : Site). is_loop z.statement) ss) (filter (λ (z : Site). is_loop z.statement) ss))
list_step w s ss true h = ap suc h
list_step w s ss false h = h

-- there is a list for each loop
pub lists_count : (w : Setting) (sites : List Site) → length (lists_of w sites) ≡ count_loops sites
lists_count w [] = refl
lists_count w (s ∷ ss) = list_step w s ss (is_loop s.statement) (lists_count w ss)

-- ---- Chains

chain_after : (sites : List Site) (n i : ℕ) (js : List ℕ) (s : Site) → slice_get sites i ≡ Some s → is_loop s.statement ≡ true → AllByRecursion (LoopStands sites n) js → rises_after i js ≡ true → rises_after (loop_number sites i) (map (loop_number sites) js) ≡ true
chain_after sites n i [] s get h a e = refl
chain_after sites n i (j ∷ js) s get h a e =
    let p = and_parts (nat_lt i j) (rises_after j js) e in
    rw (lt-ltb (loop_number sites i) (loop_number sites j) (numbers_rise sites i j s (ltb-true i j p.0) get h), chain_after sites n j js a.0.site a.0.there a.0.loops a.1 p.1) refl

pub chain_rises : (sites : List Site) (n : ℕ) (js : List ℕ) → AllByRecursion (LoopStands sites n) js → rises js ≡ true → rises (map (loop_number sites) js) ≡ true
chain_rises sites n [] a e = refl
chain_rises sites n (j ∷ js) a e = chain_after sites n j js a.0.site a.0.there a.0.loops a.1 e

pub chain_there : (f : kernel.Fragment) (sites : List Site) (n : ℕ) (js : List ℕ) → length f.lists ≡ count_loops sites → AllByRecursion (LoopStands sites n) js → loops_are_there f (map (loop_number sites) js) ≡ true
chain_there f sites n [] many a = refl
chain_there f sites n (j ∷ js) many a =
    let l : loop_number sites j < length f.lists = subst (λ z. loop_number sites j < z) (sym many) (loop_counted sites j a.0.site a.0.there a.0.loops) in
    rw (lt-ltb (loop_number sites j) (length f.lists) l, chain_there f sites n js many a.1) refl

-- ---- All sites of a statement stand in its round

at_round : (sites : List Site) (r : Round) (previous : Option Statement) (s : Statement) (n k : ℕ) (x : Site) → slice_get sites n ≡ Some (site_of r previous s) → n ≡ k → slice_get sites k ≡ Some x → Under r x.round
at_round sites r previous s n k x get e there =
    let same : site_of r previous s ≡ x = get_same sites k (site_of r previous s) x (subst (λ i. slice_get sites i ≡ Some (site_of r previous s)) e get) there in
    subst (λ (q : Round). Under r q) (ap (λ (z : Site). z.round) same) (under_self r)

past : (n k : ℕ) → n ≤ k → (n ≡ k → ⊥) → suc n ≤ k
past n k low other = ⊎_elim (λ l. l) (λ h. absurd (other (omega arith))) (cases_lt n k)

mutual
  pub stands_under : (sites : List Site) (r : Round) (previous : Option Statement) (s : Statement) (n m : ℕ) → Stands sites r previous s n m → (k : ℕ) (x : Site) → n ≤ k → k < m → slice_get sites k ≡ Some x → Under r x.round
  stands_under sites _ _ _ _ _ (single r previous s n one get) k x low high there = at_round sites r previous s n k x get (omega arith) there
  stands_under sites _ _ _ _ _ (when r previous at q p n m get all) k x low high there =
      ⊎_elim (λ e. at_round sites r previous (tree.If at q p) n k x get e there) (λ e. under_branch r x.round n q true (all_under sites (in_branch r n q true) None p (suc n) m all k x (past n k low e) high there)) (cases_eq n k)
  stands_under sites _ _ _ _ _ (choose r previous at q p o n m z get all other) k x low high there =
      ⊎_elim (λ e. at_round sites r previous (tree.IfElse at q p o) n k x get e there) (λ e. ⊎_elim (λ before. under_branch r x.round n q true (all_under sites (in_branch r n q true) None p (suc n) m all k x (past n k low e) before there)) (λ behind. under_branch r x.round n q false (all_under sites (in_branch r n q false) None o m z other k x behind high there)) (cases_lt k m)) (cases_eq n k)
  stands_under sites _ _ _ _ _ (walks r previous at ty y q p n m get all) k x low high there =
      ⊎_elim (λ e. at_round sites r previous (tree.ForEach at ty y q p) n k x get e there) (λ e. under_loop r x.round n (all_under sites (in_loop r n) None p (suc n) m all k x (past n k low e) high there)) (cases_eq n k)
  stands_under sites _ _ _ _ _ (repeats r previous at q p n m get all) k x low high there =
      ⊎_elim (λ e. at_round sites r previous (tree.While at q p) n k x get e there) (λ e. under_loop r x.round n (all_under sites (in_loop r n) None p (suc n) m all k x (past n k low e) high there)) (cases_eq n k)

  pub all_under : (sites : List Site) (r : Round) (previous : Option Statement) (p : Statements) (n m : ℕ) → AllStand sites r previous p n m → (k : ℕ) (x : Site) → n ≤ k → k < m → slice_get sites k ≡ Some x → Under r x.round
  all_under sites _ _ _ _ _ (nothing r previous n) k x low high there = absurd (omega arith)
  all_under sites _ _ _ _ _ (next r previous s p n m o one rest) k x low high there =
      ⊎_elim (λ before. stands_under sites r previous s n m one k x low before there) (λ behind. all_under sites r (Some s) p m o rest k x behind high there) (cases_lt k m)

-- all sites but the first stand in the loop
pub in_the_loop : (loop : Statement) (k : ℕ) (x : Site) → 1 ≤ k → k < length (sites_of loop) → slice_get (sites_of loop) k ≡ Some x → Under (in_loop outside 0) x.round
in_the_loop loop k x low high there = all_under (sites_of loop) (in_loop outside 0) None (kernel_body loop) 1 (length (sites_of loop)) (body_stands loop) k x low high there
