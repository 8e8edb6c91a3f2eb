-- The sites of a statement: they stand within it, and the update of a variable there sets the variable.
use Rattle.std.proofs.Common.{◌≡◌, ℕ, suc, ◌<◌, ◌≤◌, Bool, true, false, List, Option, Some, ap, ◌∙◌, subst, slice_get, bytes_eq, arith, ⊎_elim}
use Rattle.std.proofs.lemmas.Bool.{cases_lt, cases_eq}
use Rattle.java_ast.specs.Tree as tree
use Rattle.java_ast.specs.Tree.{Statement, Statements}
use Rattle.java_mean.proofs.Puts.{name_same}
use Rattle.java_loops.specs.Walks.Effects.{sets, all_set}
use Rattle.loop_text.specs.Sites.Sites.{Round, Site, target_of}
use Rattle.java_loops.proofs.Chained.ChainSight.{or_left, or_right}
use Rattle.java_loops.proofs.Standing.Standing.{site_of, Stands, single, when, choose, walks, repeats, AllStand, nothing, next}
use Rattle.java_loops.proofs.Standing.StandingRules.{get_same}
use Rattle.java_loops.proofs.Standing.StandingWithin.{Under, under_self, under_loop, under_branch}

-- what is known of a site of a statement that stands in a round
pub record Inside (r : Round) (set_there : List ℕ → Bool) (site : Site) : Type 0 where
  pub under : Under r site.round
  pub sets_it : (x : List ℕ) → target_of site.statement ≡ Some x → set_there x ≡ true

target_set : (s : Statement) (x : List ℕ) → target_of s ≡ Some x → sets s x ≡ true
target_set (tree.Assign at y e) x h = let same : y ≡ x = cc in ap (λ z. bytes_eq z x) same ∙ name_same x
target_set (tree.Add at y e) x h = let same : y ≡ x = cc in ap (λ z. bytes_eq z x) same ∙ name_same x
target_set (tree.Declare at ty y e) x h = absurd cc
target_set (tree.Sort at y keys downs) x h = absurd cc
target_set (tree.If at e p) x h = absurd cc
target_set (tree.IfElse at e p q) x h = absurd cc
target_set (tree.ForEach at ty y e p) x h = absurd cc
target_set (tree.While at e p) x h = absurd cc
target_set (tree.Print at e) x h = absurd cc
target_set (tree.Return at e) x h = absurd cc
target_set (tree.Break at) x h = absurd cc

itself : (sites : List Site) (r : Round) (previous : Option Statement) (s : Statement) (n k : ℕ) (site : Site) → slice_get sites n ≡ Some (site_of r previous s) → n ≡ k → slice_get sites k ≡ Some site → Inside r (sets s) site
itself sites r previous s n k site get e there =
    let same : site_of r previous s ≡ site = get_same sites n (site_of r previous s) site get (ap (slice_get sites) e ∙ there) in
    subst (λ z. Inside r (sets s) z) same (record { under = under_self r; sets_it = λ x h. target_set s x h })

behind : (n k : ℕ) → n ≤ k → (n ≡ k → ⊥) → suc n ≤ k
behind n k low other = ⊎_elim (λ l. l) (λ h. absurd (other (omega arith))) (cases_lt n k)

mutual
  pub at_site : (sites : List Site) (r : Round) (previous : Option Statement) (s : Statement) (n m : ℕ) → Stands sites r previous s n m → (k : ℕ) (site : Site) → n ≤ k → k < m → slice_get sites k ≡ Some site → Inside r (sets s) site
  at_site sites _ _ _ _ _ (single r previous s n one get) k site low high there = itself sites r previous s n k site get (omega arith) there
  at_site sites _ _ _ _ _ (when r previous at e p n m get all) k site low high there =
      ⊎_elim
      (λ same. itself sites r previous (tree.If at e p) n k site get same there)
      (λ other. let i = all_at_site sites _ _ p (suc n) m all k site (behind n k low other) high there in record { under = under_branch r site.round n e true i.under; sets_it = i.sets_it })
      (cases_eq n k)
  at_site sites _ _ _ _ _ (choose r previous at e p q n m z get all more) k site low high there =
      ⊎_elim
      (λ same. itself sites r previous (tree.IfElse at e p q) n k site get same there)
      (λ other. ⊎_elim
      (λ first. let i = all_at_site sites _ _ p (suc n) m all k site (behind n k low other) first there in record { under = under_branch r site.round n e true i.under; sets_it = λ x h. or_left (all_set p x) (all_set q x) (i.sets_it x h) })
      (λ second. let i = all_at_site sites _ _ q m z more k site second high there in record { under = under_branch r site.round n e false i.under; sets_it = λ x h. or_right (all_set p x) (all_set q x) (i.sets_it x h) })
      (cases_lt k m))
      (cases_eq n k)
  at_site sites _ _ _ _ _ (walks r previous at ty y e p n m get all) k site low high there =
      ⊎_elim
      (λ same. itself sites r previous (tree.ForEach at ty y e p) n k site get same there)
      (λ other. let i = all_at_site sites _ _ p (suc n) m all k site (behind n k low other) high there in record { under = under_loop r site.round n i.under; sets_it = i.sets_it })
      (cases_eq n k)
  at_site sites _ _ _ _ _ (repeats r previous at e p n m get all) k site low high there =
      ⊎_elim
      (λ same. itself sites r previous (tree.While at e p) n k site get same there)
      (λ other. let i = all_at_site sites _ _ p (suc n) m all k site (behind n k low other) high there in record { under = under_loop r site.round n i.under; sets_it = i.sets_it })
      (cases_eq n k)

  pub all_at_site : (sites : List Site) (r : Round) (previous : Option Statement) (p : Statements) (n m : ℕ) → AllStand sites r previous p n m → (k : ℕ) (site : Site) → n ≤ k → k < m → slice_get sites k ≡ Some site → Inside r (all_set p) site
  all_at_site sites _ _ _ _ _ (nothing r previous n) k site low high there = absurd (omega (arith, low, high))
  all_at_site sites _ _ _ _ _ (next r previous s p n m o first rest) k site low high there =
      ⊎_elim
      (λ here. let i = at_site sites _ _ s n m first k site low here there in record { under = i.under; sets_it = λ x h. or_left (sets s x) (all_set p x) (i.sets_it x h) })
      (λ later. let i = all_at_site sites _ _ p m o rest k site later high there in record { under = i.under; sets_it = λ x h. or_right (sets s x) (all_set p x) (i.sets_it x h) })
      (cases_lt k m)
