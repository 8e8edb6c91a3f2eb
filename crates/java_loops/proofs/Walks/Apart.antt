-- Statements do the same in states that are the same in all variables that they mention.
use Rattle.std.proofs.Common.{◌≡◌, ℕ, zero, suc, true, List, [], ◌∷◌, ◌++◌, Option, Some, None, Result, Ok, Err, refl, ap, subst, arith}
use Rattle.qbs_base.specs.declared.scalar.Row.{Row}
use Rattle.qbs_base.specs.declared.scalar.Value.TheVariants.{Many}
use Rattle.qbs_base.specs.Named.{at_name}
use Rattle.qbs_base.specs.Sort.{stable_sort}
use Rattle.java_ast.specs.Tree as tree
use Rattle.java_ast.specs.Tree.{Expression, Statement, Statements, Nothing, Then}
use Rattle.java_mean.specs.declared.ending.Ending.{Ending}
use Rattle.java_mean.specs.declared.ending.Ending.TheVariants as endings
use Rattle.java_mean.specs.Endings.{◌>>=◌, found}
use Rattle.java_mean.specs.Expression.{value_of, as_scalar, as_rows, as_member, element}
use Rattle.java_mean.specs.Refines.{Related, Follows, Simulates}
use Rattle.java_mean.specs.Statement.{State, Passed, Returns, Does, Test, done, then_turn, branch, fewer, turn, with_variable, with_value, with_line, printed, is_set_type, added, in_order, each, repeat, test_of, returned, meaning, meanings}
use Rattle.java_mean.specs.Store.{Store, Variable, plainly}
use Rattle.java_mean.specs.World.{World}
use Rattle.java_mean.proofs.Simulates.{Loops, follows_turn, follows_branch, simulates_done, simulates_then}
use Rattle.java_mean.specs.Mentions.{EachReturned}
use Rattle.java_loops.specs.Walks.Reads.{Set, Reads, Within, AllWithin, SameOn}
use Rattle.java_loops.specs.Walks.Counting.{SameState, same_ways}
use Rattle.java_loops.proofs.Walks.SameReads.{reads_same, test_reads_same, same_put}

-- ---- Ways of putting runs together

pub nothing_follows : (r : Related) (f : Set) (e : Ending) (q : Result Passed Ending) → Follows r (same_ways f) (Err e) q
nothing_follows r f (endings.Faulted fault at) q = tt
nothing_follows r f endings.OutOfTurns q = tt
nothing_follows r f endings.Stuck q = tt

pub follows_bind : {A : Type 0} (r : Related) (f : Set) (o q : Result A Ending) (g h : A → Result Passed Ending) → o ≡ q → ((x : A) → Follows r (same_ways f) (g x) (h x)) → Follows r (same_ways f) (o >>= g) (q >>= h)
follows_bind r f (Ok x) q g h e i = subst (λ z. Follows r (same_ways f) (g x) (z >>= h)) e (i x)
follows_bind r f (Err x) q g h e i = nothing_follows r f x (q >>= h)

pub follows_fewer : (r : Related) (f : Set) (n m : ℕ) (s t : Store) (l k : List (List ℕ)) (g h : Does) → n ≡ m → ((p q : ℕ) → p ≡ q → Follows r (same_ways f) (g (record { store = s; lines = l; turns = p })) (h (record { store = t; lines = k; turns = q }))) → Follows r (same_ways f) (fewer n s l >>= g) (fewer m t k >>= h)
follows_fewer r f zero m s t l k g h e i = tt
follows_fewer r f (suc n) zero s t l k g h e i = absurd (omega (arith, e))
follows_fewer r f (suc n) (suc m) s t l k g h e i = i n m (omega (arith, e))

pub same_variable : (f : Set) (s t : State) (x : List ℕ) (v : Variable) → SameState f s t → SameState f (with_variable s x v) (with_variable t x v)
same_variable f s t x v a = record { store = same_put f s.store t.store x v a.store; lines = a.lines; turns = a.turns }

pub goes_same : (f : Set) (s t : State) → SameState f s t → Follows (SameState f) (same_ways f) (done s) (done t)
goes_same f s t a = record { state = t; is = refl; holds = a }

abbrev Same : Set → Does → Type 0
Same f g = Simulates (SameState f) (SameState f) (same_ways f) g g

loops_same : (f : Set) → Loops (SameState f) (same_ways f) (same_ways f)
loops_same f = record { leaves = λ s t a. a; returns = λ v a. tt; stuck = λ a. tt }

each_same : (f : Set) (x : List ℕ) (g : Does) → Same f g → (rows : List Row) → Same f (each rows x g)
each_same f x g sim [] = record { by = λ s t a. goes_same f s t a }
each_same f x g sim (row ∷ rows) =
    record {
      by = λ s t a. follows_fewer (SameState f) f s.turns t.turns s.store t.store s.lines t.lines (λ u. then_turn (g (with_variable u x (plainly (element row)))) (each rows x g)) (λ u. then_turn (g (with_variable u x (plainly (element row)))) (each rows x g)) a.turns (λ p q e. (
          let u : State = record { store = s.store; lines = s.lines; turns = p } in
          let v : State = record { store = t.store; lines = t.lines; turns = q } in
          let b : SameState f u v = record { store = a.store; lines = a.lines; turns = e } in
          follows_turn (SameState f) (SameState f) (same_ways f) (same_ways f) (g (with_variable u x (plainly (element row)))) (g (with_variable v x (plainly (element row)))) (each rows x g) (each rows x g) (loops_same f) (sim.by (with_variable u x (plainly (element row))) (with_variable v x (plainly (element row))) (same_variable f u v x (plainly (element row)) b)) (each_same f x g sim rows).by));
    }

repeat_same : (f : Set) (test : Test) (g : Does) → ((s t : Store) → SameOn f s t → test s ≡ test t) → Same f g → (n m : ℕ) → n ≡ m → Simulates (SameState f) (SameState f) (same_ways f) (repeat n test g) (repeat m test g)
repeat_same f test g q sim zero zero e =
    record { by = λ s t a. follows_bind (SameState f) f (test s.store) (test t.store) (λ b. branch b (λ u. Err endings.OutOfTurns) done s) (λ b. branch b (λ u. Err endings.OutOfTurns) done t) (q s.store t.store a.store) (λ b. follows_branch (SameState f) (same_ways f) b (λ u. Err endings.OutOfTurns) done (λ u. Err endings.OutOfTurns) done s t tt (goes_same f s t a)) }
repeat_same f test g q sim zero (suc m) e = absurd (omega (arith, e))
repeat_same f test g q sim (suc n) zero e = absurd (omega (arith, e))
repeat_same f test g q sim (suc n) (suc m) e =
    let one : Does = λ v. turn v >>= λ u. then_turn (g u) (repeat n test g) in
    let two : Does = λ v. turn v >>= λ u. then_turn (g u) (repeat m test g) in
    record {
      by = λ s t a. follows_bind (SameState f) f (test s.store) (test t.store) (λ b. branch b one done s) (λ b. branch b two done t) (q s.store t.store a.store) (λ b. follows_branch (SameState f) (same_ways f) b one done two done s t (follows_fewer (SameState f) f s.turns t.turns s.store t.store s.lines t.lines (λ u. then_turn (g u) (repeat n test g)) (λ u. then_turn (g u) (repeat m test g)) a.turns (λ p p' i. (
          let u : State = record { store = s.store; lines = s.lines; turns = p } in
          let v : State = record { store = t.store; lines = t.lines; turns = p' } in
          follows_turn (SameState f) (SameState f) (same_ways f) (same_ways f) (g u) (g v) (repeat n test g) (repeat m test g) (loops_same f) (sim.by u v (record { store = a.store; lines = a.lines; turns = i })) (repeat_same f test g q sim n m (omega (arith, e))).by))) (goes_same f s t a));
    }

returned_same : (f : Set) (o : Option Expression) (w : World) → EachReturned (λ x. f x ≡ true) o → Same f (returned o w)
returned_same f None w h = record { by = λ s t a. (record { state = t; is = refl; lines = a.lines }, tt) }
returned_same f (Some e) w h = record { by = λ s t a. follows_bind (SameState f) f (value_of e w s.store) (value_of e w t.store) (λ v. Ok (Returns s (Some v))) (λ v. Ok (Returns t (Some v))) (reads_same e f w s.store t.store h a.store) (λ v. (record { state = t; is = refl; lines = a.lines }, tt)) }

-- ---- Statements

branches_same : (f : Set) (c : Expression) (w : World) (g h : Does) → Reads f c → Same f g → Same f h → Simulates (SameState f) (SameState f) (same_ways f) (λ s. test_of c w s.store >>= λ b. branch b g h s) (λ s. test_of c w s.store >>= λ b. branch b g h s)
branches_same f c w g h r i j = record { by = λ s t a. follows_bind (SameState f) f (test_of c w s.store) (test_of c w t.store) (λ b. branch b g h s) (λ b. branch b g h t) (test_reads_same c f w s.store t.store r a.store) (λ b. follows_branch (SameState f) (same_ways f) b g h g h s t (i.by s t a) (j.by s t a)) }

done_same : (f : Set) → Same f done
done_same f = simulates_done (SameState f) (SameState f) (same_ways f) (λ s t a. a)

mutual
  pub within_same : (a : Statement) (f : Set) (w : World) → Within f a → Same f (meaning a w)
  within_same (tree.Declare at ty x e) f w h = record { by = λ s t a. follows_bind (SameState f) f (value_of e w s.store) (value_of e w t.store) (λ v. done (with_variable s x (record { value = v; is_set = is_set_type ty }))) (λ v. done (with_variable t x (record { value = v; is_set = is_set_type ty }))) (reads_same e f w s.store t.store h a.store) (λ v. goes_same f _ _ (same_variable f s t x (record { value = v; is_set = is_set_type ty }) a)) }
  within_same (tree.Assign at x e) f w h = record { by = λ s t a. follows_bind (SameState f) f (value_of e w s.store) (value_of e w t.store) (λ v. found (at_name s.store x) >>= λ held. done (with_value s x held v)) (λ v. found (at_name t.store x) >>= λ held. done (with_value t x held v)) (reads_same e f w s.store t.store h.1 a.store) (λ v. follows_bind (SameState f) f (found (at_name s.store x)) (found (at_name t.store x)) (λ held. done (with_value s x held v)) (λ held. done (with_value t x held v)) (ap found (a.store.by x h.0)) (λ held. goes_same f _ _ (same_variable f s t x (record { value = v; is_set = held.is_set }) a))) }
  within_same (tree.Add at x e) f w h = record { by = λ s t a. follows_bind (SameState f) f (value_of e w s.store) (value_of e w t.store) (λ v. as_member v >>= λ row. found (at_name s.store x) >>= λ held. as_rows held.value >>= λ rows. done (with_value s x held (Many (added held.is_set rows row)))) (λ v. as_member v >>= λ row. found (at_name t.store x) >>= λ held. as_rows held.value >>= λ rows. done (with_value t x held (Many (added held.is_set rows row)))) (reads_same e f w s.store t.store h.1 a.store) (λ v. follows_bind (SameState f) f (as_member v) (as_member v) (λ row. found (at_name s.store x) >>= λ held. as_rows held.value >>= λ rows. done (with_value s x held (Many (added held.is_set rows row)))) (λ row. found (at_name t.store x) >>= λ held. as_rows held.value >>= λ rows. done (with_value t x held (Many (added held.is_set rows row)))) refl (λ row. follows_bind (SameState f) f (found (at_name s.store x)) (found (at_name t.store x)) (λ held. as_rows held.value >>= λ rows. done (with_value s x held (Many (added held.is_set rows row)))) (λ held. as_rows held.value >>= λ rows. done (with_value t x held (Many (added held.is_set rows row)))) (ap found (a.store.by x h.0)) (λ held. follows_bind (SameState f) f (as_rows held.value) (as_rows held.value) (λ rows. done (with_value s x held (Many (added held.is_set rows row)))) (λ rows. done (with_value t x held (Many (added held.is_set rows row)))) refl (λ rows. goes_same f _ _ (same_variable f s t x (record { value = Many (added held.is_set rows row); is_set = held.is_set }) a))))) }
  within_same (tree.Sort at x keys down) f w h = record { by = λ s t a. follows_bind (SameState f) f (found (at_name s.store x)) (found (at_name t.store x)) (λ held. as_rows held.value >>= λ rows. done (with_value s x held (Many (stable_sort (in_order w.schema keys down) rows)))) (λ held. as_rows held.value >>= λ rows. done (with_value t x held (Many (stable_sort (in_order w.schema keys down) rows)))) (ap found (a.store.by x h)) (λ held. follows_bind (SameState f) f (as_rows held.value) (as_rows held.value) (λ rows. done (with_value s x held (Many (stable_sort (in_order w.schema keys down) rows)))) (λ rows. done (with_value t x held (Many (stable_sort (in_order w.schema keys down) rows)))) refl (λ rows. goes_same f _ _ (same_variable f s t x (record { value = Many (stable_sort (in_order w.schema keys down) rows); is_set = held.is_set }) a))) }
  within_same (tree.If at c p) f w h = branches_same f c w (meanings p w) done h.0 (all_within_same p f w h.1) (done_same f)
  within_same (tree.IfElse at c p q) f w h = branches_same f c w (meanings p w) (meanings q w) h.0 (all_within_same p f w h.1.0) (all_within_same q f w h.1.1)
  within_same (tree.ForEach at ty x e b) f w h = record { by = λ s t a. follows_bind (SameState f) f (value_of e w s.store) (value_of e w t.store) (λ v. as_rows v >>= λ rows. each rows x (meanings b w) s) (λ v. as_rows v >>= λ rows. each rows x (meanings b w) t) (reads_same e f w s.store t.store h.0 a.store) (λ v. follows_bind (SameState f) f (as_rows v) (as_rows v) (λ rows. each rows x (meanings b w) s) (λ rows. each rows x (meanings b w) t) refl (λ rows. (each_same f x (meanings b w) (all_within_same b f w h.1) rows).by s t a)) }
  within_same (tree.While at c b) f w h = record { by = λ s t a. (repeat_same f (test_of c w) (meanings b w) (λ u v i. test_reads_same c f w u v h.0 i) (all_within_same b f w h.1) s.turns t.turns a.turns).by s t a }
  within_same (tree.Print at e) f w h = record { by = λ s t a. follows_bind (SameState f) f (value_of e w s.store) (value_of e w t.store) (λ v. as_scalar v >>= λ x. done (with_line s (printed x))) (λ v. as_scalar v >>= λ x. done (with_line t (printed x))) (reads_same e f w s.store t.store h a.store) (λ v. follows_bind (SameState f) f (as_scalar v) (as_scalar v) (λ x. done (with_line s (printed x))) (λ x. done (with_line t (printed x))) refl (λ x. goes_same f _ _ (record { store = a.store; lines = ap (λ (l : List (List ℕ)). l ++ printed x ∷ []) a.lines; turns = a.turns }))) }
  within_same (tree.Return at o) f w h = returned_same f o w h
  within_same (tree.Break at) f w h = record { by = λ s t a. record { state = t; is = refl; holds = a } }

  pub all_within_same : (p : Statements) (f : Set) (w : World) → AllWithin f p → Same f (meanings p w)
  all_within_same Nothing f w h = done_same f
  all_within_same (Then a p) f w h = simulates_then (SameState f) (SameState f) (SameState f) (same_ways f) (meaning a w) (meaning a w) (meanings p w) (meanings p w) (within_same a f w h.0) (all_within_same p f w h.1)
