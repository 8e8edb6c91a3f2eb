-- Nests that go on, and loops over the rows of a list.
use Rattle.std.proofs.Common.{◌≢◌, true, Some, sym, ◌∙◌, ◌≡◌, ℕ, false, List, [], Option, None, Ok, refl, subst}
use Rattle.qbs_base.specs.declared.scalar.Row.{Row}
use Rattle.qbs_base.specs.declared.scalar.Value.{Value}
use Rattle.qbs_base.specs.Named.{at_name}
use Rattle.java_ast.specs.Tree.{Statement, Statements}
use Rattle.java_mean.specs.Expression.{element}
use Rattle.java_mean.specs.Statement.{State, Passed, GoesOn, Leaves, Returns, each, meaning, meanings}
use Rattle.java_mean.specs.Store.{Variable, put, plainly}
use Rattle.java_mean.specs.World.{World}
use Rattle.java_loops.specs.Walks.Effects.{folded, effect, effects}
use Rattle.java_loops.specs.Walks.Left.{Effect, Became, LeftWith, Left, Marked, LeftByRun, Have, Distinct, GoneOn}
use Rattle.java_loops.specs.Walks.Nests.{with_name, Apart, seen, Mark, IsNest, AreNest}
use Rattle.java_loops.specs.Walks.Reads.{Set}
use Rattle.java_loops.proofs.Walks.Left.{run_end, run_each}
use Rattle.java_loops.proofs.Walks.Names.{apart_more, apart_end, none_have, none_distinct}
use Rattle.java_loops.proofs.Walks.Nests.{nest_left, nests_left}
use Rattle.java_loops.proofs.Walks.Unset.{marked_keeps, all_keep}

pub left_by : (p : Statement) (a f : Set) (m : Option Mark) → IsNest p a f m → Apart a f → (w : World) (s t : State) → meaning p w s ≡ Ok (GoesOn t) → Left a f (effect p w) s t
left_by p a f m k apart w s t e = let l : LeftByRun a f f m (effect p w) s (Ok (GoesOn t)) = subst (LeftByRun a f f m (effect p w) s) e (nest_left p a f m k apart w s) in l

pub all_left_by : (p : Statements) (a f : Set) (bs : List (List ℕ)) (m : Option Mark) → AreNest p a f bs m → Apart a (seen f bs) → Distinct f bs → (w : World) (s t : State) → Have bs s.store → meanings p w s ≡ Ok (GoesOn t) → LeftWith a f (seen f bs) (effects p bs w) s t
all_left_by p a f bs m k apart dis w s t have e = let l : LeftByRun a f (seen f bs) m (effects p bs w) s (Ok (GoesOn t)) = subst (LeftByRun a f (seen f bs) m (effects p bs w) s) e (nests_left p a f bs m k apart dis w s have) in l

-- what an accumulator becomes, from the values that the run starts with
pub left_becomes : (a f : Set) (g : Effect) (s t : State) → Left a f g s t → (x : List ℕ) → a x ≡ true → (v : Variable) → at_name s.store x ≡ Some v → at_name t.store x ≡ g x s.store v
left_becomes a f g s t l x ax v h = let b : Became (g x s.store v) (at_name t.store x) = l.value x ax v h s.store (record { by = λ y q. refl }) in b.held ∙ sym b.is

pub becomes : (p : Statement) (a f : Set) (m : Option Mark) → IsNest p a f m → Apart a f → (w : World) (s t : State) → meaning p w s ≡ Ok (GoesOn t) → (x : List ℕ) → a x ≡ true → (v : Variable) → at_name s.store x ≡ Some v → at_name t.store x ≡ effect p w x s.store v
becomes p a f m k apart w s t e x ax v h = left_becomes a f (effect p w) s t (left_by p a f m k apart w s t e) x ax v h

-- where the innermost loop is left
pub all_left_at : (p : Statements) (a f : Set) (bs : List (List ℕ)) (m : Option Mark) → AreNest p a f bs m → Apart a (seen f bs) → Distinct f bs → (w : World) (s t : State) → Have bs s.store → meanings p w s ≡ Ok (Leaves t) → LeftWith a f (seen f bs) (effects p bs w) s t × Marked m t.store
all_left_at p a f bs m k apart dis w s t have e = let l : LeftByRun a f (seen f bs) m (effects p bs w) s (Ok (Leaves t)) = subst (LeftByRun a f (seen f bs) m (effects p bs w) s) e (nests_left p a f bs m k apart dis w s have) in l

-- the effect of a loop over these rows
abbrev pub over_rows : List Row → List ℕ → Statements → World → Effect
over_rows rows x b w = λ z env v. folded rows (λ row. effects b [] w z (put env x (plainly (element row)))) v

run_rows : (rows : List Row) (x : List ℕ) (b : Statements) (a f : Set) (m : Option Mark) → a x ≡ false → f x ≡ false → AreNest b a (with_name x f) [] m → Apart a f → (w : World) (s : State) → LeftByRun a f f None (over_rows rows x b w) s (each rows x (meanings b w) s)
run_rows rows x b a f m ax fx k apart w s = run_each a f None m (effects b [] w) x (meanings b w) ax fx (λ t j z env v h. all_keep b a (with_name x f) [] m k w z env v (marked_keeps m t.store z v j h)) (λ t. run_end a (with_name x f) m (effects b [] w) t (meanings b w t) (nests_left b a (with_name x f) [] m k (apart_end a (with_name x f) (apart_more a f x ax apart)) (none_distinct (with_name x f)) w t (none_have t.store))) rows s

-- a loop over rows, which may be left before its end
pub each_left : (rows : List Row) (x : List ℕ) (b : Statements) (a f : Set) (m : Option Mark) → a x ≡ false → f x ≡ false → AreNest b a (with_name x f) [] m → Apart a f → (w : World) (s t : State) → each rows x (meanings b w) s ≡ Ok (GoesOn t) → Left a f (over_rows rows x b w) s t
each_left rows x b a f m ax fx k apart w s t e = let l : LeftByRun a f f None (over_rows rows x b w) s (Ok (GoesOn t)) = subst (LeftByRun a f f None (over_rows rows x b w) s) e (run_rows rows x b a f m ax fx k apart w s) in l

-- ---- No nest returns, and none leaves a loop round it

gone_on : (a f : Set) (g : Effect) (s : State) (z : Passed) → LeftByRun a f f None g s (Ok z) → GoneOn a f g s z
gone_on a f g s (GoesOn t) l = record { state = t; is = refl; left = l }
gone_on a f g s (Leaves t) l = absurd l.1
gone_on a f g s (Returns t v) l = absurd l

pub nest_goes_on : (p : Statement) (a f : Set) → IsNest p a f None → Apart a f → (w : World) (s : State) (z : Passed) → meaning p w s ≡ Ok z → GoneOn a f (effect p w) s z
nest_goes_on p a f k apart w s z e = gone_on a f (effect p w) s z (subst (LeftByRun a f f None (effect p w) s) e (nest_left p a f None k apart w s))

pub never_returns : (p : Statements) (a f : Set) (bs : List (List ℕ)) (m : Option Mark) → AreNest p a f bs m → Apart a (seen f bs) → Distinct f bs → (w : World) (s t : State) (v : Option Value) → Have bs s.store → meanings p w s ≢ Ok (Returns t v)
never_returns p a f bs m k apart dis w s t v have e = let l : ⊥ = subst (LeftByRun a f (seen f bs) m (effects p bs w) s) e (nests_left p a f bs m k apart dis w s have) in l

pub each_goes_on : (rows : List Row) (x : List ℕ) (b : Statements) (a f : Set) (m : Option Mark) → a x ≡ false → f x ≡ false → AreNest b a (with_name x f) [] m → Apart a f → (w : World) (s : State) (z : Passed) → each rows x (meanings b w) s ≡ Ok z → GoneOn a f (over_rows rows x b w) s z
each_goes_on rows x b a f m ax fx k apart w s z e = gone_on a f (over_rows rows x b w) s z (subst (LeftByRun a f f None (over_rows rows x b w) s) e (run_rows rows x b a f m ax fx k apart w s))
