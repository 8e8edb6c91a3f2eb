-- Runs that do the same in more turns, put together.
use Rattle.std.proofs.Common.{◌≡◌, ℕ, zero, suc, ◌+◌, ◌≤◌, Bool, true, false, List, [], ◌∷◌, Option, Some, None, Result, Ok, Err, refl, ap, ◌∙◌, subst, cond, arith}
use Rattle.std.specs.Prelude.{bytes_eq}
use Rattle.std.specs.List.{filter, AllByRecursion}
use Rattle.qbs_base.specs.declared.scalar.Row.{Row}
use Rattle.qbs_base.specs.Named.{at_name}
use Rattle.qbs_base.specs.Values.{Schema}
use Rattle.java_mean.specs.declared.ending.Ending.{Ending}
use Rattle.java_mean.specs.Endings.{◌>>=◌}
use Rattle.java_mean.specs.Expression.{element}
use Rattle.java_mean.specs.Refines.{Common, Alike}
use Rattle.java_mean.specs.Statement.{State, Passed, GoesOn, Leaves, Returns, Does, Test, done, then_do, then_turn, branch, fewer, with_variable, each}
use Rattle.java_mean.specs.Store.{Store, Variable, put, plainly}
use Rattle.java_mean.specs.declared.types.JavaType.{JavaType}
use Rattle.java_mean.specs.declared.types.JavaType.TheVariants.{Of}
use Rattle.java_mean.specs.declared.types.Single.{Single}
use Rattle.java_mean.specs.Types.{Types, with_type, IsMember}
use Rattle.java_mean.specs.Typing.{Extends}
use Rattle.java_mean.proofs.Alike.{alike_fewer, extends_new}
use Rattle.java_mean.proofs.Further.{more, more_passed, More}
use Rattle.java_mean.proofs.Puts.{put_other, put_same, names_equal}
use Rattle.java_mean.proofs.TypedRuns.{element_put}
use Rattle.spreads.specs.Covers.{with_turns, CoversTo, Covered}

-- what does the same with more turns, however many
abbrev pub Steady : Does → Type 0
Steady f = (k : ℕ) (s : State) → More k (f s) (f (more k s))

pub turned_to : (schema : Schema) (g : Types) (s t : State) (n : ℕ) → s.turns ≤ n → Alike schema g s t → Alike schema g s (with_turns n t)
turned_to schema g s t n le a = record { store = a.store; lines = a.lines; turns = le }

-- ---- One run for another

pub covered_same : (schema : Schema) (l : Option Types) (h : Types) (s t : State) (r : Result Passed Ending) (f g : Does) → ((n : ℕ) → g (with_turns n t) ≡ f (with_turns n t)) → Covered schema l h s t r f → Covered schema l h s t r g
covered_same schema l h s t (Ok (GoesOn u)) f g e to = record { extra = to.extra; state = to.state; passes = e (s.turns + to.extra) ∙ to.passes; alike = to.alike; left = to.left; spent = to.spent }
covered_same schema l h s t (Ok (Leaves u)) f g e to = record { extra = to.extra; state = to.state; passes = e (s.turns + to.extra) ∙ to.passes; alike = to.alike; left = to.left; spent = to.spent }
covered_same schema l h s t (Ok (Returns u v)) f g e to = record { extra = to.extra; state = to.state; passes = e (s.turns + to.extra) ∙ to.passes; lines = to.lines }
covered_same schema l h s t (Err x) f g e to = tt

pub covered_fewer : (schema : Schema) (l : Option Types) (h m : Types) (s t : State) (r : Result Passed Ending) (f : Does) → Extends h m → Covered schema l h s t r f → Covered schema l m s t r f
covered_fewer schema l h m s t (Ok (GoesOn u)) f e to = record { extra = to.extra; state = to.state; passes = to.passes; alike = alike_fewer schema h m e u to.state to.alike; left = to.left; spent = to.spent }
covered_fewer schema l h m s t (Ok (Leaves u)) f e to = to
covered_fewer schema l h m s t (Ok (Returns u v)) f e to = to
covered_fewer schema l h m s t (Err x) f e to = tt

pub covered_done : (schema : Schema) (l : Option Types) (h : Types) (s t : State) → Alike schema h s t → Covered schema l h s t (Ok (GoesOn s)) done
covered_done schema l h s t a = record { extra = 0; state = with_turns (s.turns + 0) t; passes = refl; alike = turned_to schema h s t (s.turns + 0) (omega arith) a; left = omega arith; spent = omega arith }

-- ---- One behind the other

pub handed : (f : Does) → Steady f → (t : State) (p : Passed) (n e : ℕ) → f (with_turns n t) ≡ Ok p → f (with_turns (n + e) t) ≡ Ok (more_passed e p)
handed f k t p n e h = subst (λ o. More e o (f (more e (with_turns n t)))) h (k e (with_turns n t))

-- the turns that the second run has more are handed through the first
through : (f g : Does) → Steady f → (t v : State) (p : Passed) (n d e m : ℕ) → f (with_turns (n + d) t) ≡ Ok (GoesOn v) → v.turns ≡ m → g (with_turns (m + e) v) ≡ Ok p → then_do (f (with_turns (n + (d + e)) t)) g ≡ Ok p
through f g k t v p n d e m h same next =
    let sum : n + (d + e) ≡ (n + d) + e = omega arith in
    ap (λ (i : ℕ). then_do (f (with_turns i t)) g) sum ∙ ap (λ o. then_do o g) (handed f k t (GoesOn v) (n + d) e h) ∙ ap (λ (i : ℕ). g (with_turns (i + e) v)) same ∙ next

through_turn : (f g : Does) → Steady f → (t v : State) (p : Passed) (n d e m : ℕ) → f (with_turns (n + d) t) ≡ Ok (GoesOn v) → v.turns ≡ m → g (with_turns (m + e) v) ≡ Ok p → then_turn (f (with_turns (n + (d + e)) t)) g ≡ Ok p
through_turn f g k t v p n d e m h same next =
    let sum : n + (d + e) ≡ (n + d) + e = omega arith in
    ap (λ (i : ℕ). then_turn (f (with_turns i t)) g) sum ∙ ap (λ o. then_turn o g) (handed f k t (GoesOn v) (n + d) e h) ∙ ap (λ (i : ℕ). g (with_turns (i + e) v)) same ∙ next

joined : (schema : Schema) (l : Option Types) (h m : Types) (s t u : State) (f g : Does) → Steady f → (to : CoversTo schema h GoesOn s u t f) → (q : Result Passed Ending) → Covered schema l m u to.state q g → Covered schema l m s t q (λ z. then_do (f z) g)
joined schema l h m s t u f g k to (Ok (GoesOn x)) next =
    record { extra = to.extra + next.extra; state = next.state; passes = through f g k t to.state (GoesOn next.state) s.turns to.extra next.extra u.turns to.passes to.left next.passes; alike = next.alike; left = next.left; spent = omega (arith, to.spent, next.spent) }
joined schema l h m s t u f g k to (Ok (Leaves x)) next =
    record { extra = to.extra + next.extra; state = next.state; passes = through f g k t to.state (Leaves next.state) s.turns to.extra next.extra u.turns to.passes to.left next.passes; alike = next.alike; left = next.left; spent = omega (arith, to.spent, next.spent) }
joined schema l h m s t u f g k to (Ok (Returns x v)) next =
    record { extra = to.extra + next.extra; state = next.state; passes = through f g k t to.state (Returns next.state v) s.turns to.extra next.extra u.turns to.passes to.left next.passes; lines = next.lines }
joined schema l h m s t u f g k to (Err x) next = tt

pub covered_then : (schema : Schema) (l : Option Types) (h m : Types) (s t : State) (r : Result Passed Ending) (f g g' : Does) → Steady f → ((u v : State) → Alike schema h u v → Covered schema l m u v (g u) g') → Covered schema l h s t r f → Covered schema l m s t (then_do r g) (λ z. then_do (f z) g')
covered_then schema l h m s t (Ok (GoesOn u)) f g g' k next to = joined schema l h m s t u f g' k to (g u) (next u to.state to.alike)
covered_then schema l h m s t (Ok (Leaves u)) f g g' k next to = record { extra = to.extra; state = to.state; passes = ap (λ o. then_do o g') to.passes; alike = to.alike; left = to.left; spent = to.spent }
covered_then schema l h m s t (Ok (Returns u v)) f g g' k next to = record { extra = to.extra; state = to.state; passes = ap (λ o. then_do o g') to.passes; lines = to.lines }
covered_then schema l h m s t (Err x) f g g' k next to = tt

-- ---- A test

pub covered_branch : (schema : Schema) (l : Option Types) (h : Types) (s t : State) (o : Result Bool Ending) (test : Test) (f g f' g' : Does) → test t.store ≡ o → Covered schema l h s t (f s) f' → Covered schema l h s t (g s) g' → Covered schema l h s t (o >>= λ b. branch b f g s) (λ z. test z.store >>= λ b. branch b f' g' z)
covered_branch schema l h s t (Ok true) test f g f' g' e x y = covered_same schema l h s t (f s) f' (λ z. test z.store >>= λ b. branch b f' g' z) (λ n. ap (λ o. o >>= λ b. branch b f' g' (with_turns n t)) e) x
covered_branch schema l h s t (Ok false) test f g f' g' e x y = covered_same schema l h s t (g s) g' (λ z. test z.store >>= λ b. branch b f' g' z) (λ n. ap (λ o. o >>= λ b. branch b f' g' (with_turns n t)) e) y
covered_branch schema l h s t (Err x) test f g f' g' e y z = tt

-- ---- A walk

-- a variable that isn't visible may be set
pub alike_beside : (schema : Schema) (g : Types) (s t : State) (x : List ℕ) (v : Variable) → g x ≡ None → Alike schema g s t → Alike schema g s (with_variable t x v)
alike_beside schema g s t x v new a = record { store = λ y k e. beside y k e (bytes_eq x y) refl; lines = a.lines; turns = a.turns }
  where
    beside : (y : List ℕ) (k : JavaType) → g y ≡ Some k → (b : Bool) → bytes_eq x y ≡ b → Common schema k (at_name s.store y) (at_name (put t.store x v) y)
    beside y k e true q = let none : g x ≡ g y = ap g (names_equal x y q) in absurd cc
    beside y k e false q = let c = a.store y k e in record { held = c.held; typed = c.typed; left = c.left; right = put_other t.store x y v q ∙ c.right }

pub beside_alike : (schema : Schema) (g : Types) (s t : State) (x : List ℕ) (v : Variable) → g x ≡ None → Alike schema g s t → Alike schema g (with_variable s x v) t
beside_alike schema g s t x v new a = record { store = λ y k e. beside y k e (bytes_eq x y) refl; lines = a.lines; turns = a.turns }
  where
    beside : (y : List ℕ) (k : JavaType) → g y ≡ Some k → (b : Bool) → bytes_eq x y ≡ b → Common schema k (at_name (put s.store x v) y) (at_name t.store y)
    beside y k e true q = let none : g x ≡ g y = ap g (names_equal x y q) in absurd cc
    beside y k e false q = let c = a.store y k e in record { held = c.held; typed = c.typed; left = put_other s.store x y v q ∙ c.left; right = c.right }

-- The rows that pass are walked in the first run, and all rows in the second, which skips the others. What is said of the first run's store
-- holds at the start of each turn.
pub record IsWalk (schema : Schema) (g h : Types) (x : List ℕ) (a : Single) (q : Row → Bool) (f f' : Does) (kept : Store → Type 0) : Type 0 where
  pub new : g x ≡ None
  pub wider : Extends h g
  pub steady : Steady f'
  pub set : (s : Store) (v : Variable) → kept s → kept (put s x v)
  pub goes : (s u : State) → kept s.store → f s ≡ Ok (GoesOn u) → kept u.store
  pub takes : (row : Row) → IsMember schema a row → q row ≡ true → (s t : State) → Alike schema (with_type x (Some (Of a)) g) s t → kept s.store → at_name t.store x ≡ Some (plainly (element row)) → Covered schema (Some (with_type x (Some (Of a)) g)) h s t (f s) f'
  pub skips : (row : Row) → IsMember schema a row → q row ≡ false → (s t : State) → Alike schema (with_type x (Some (Of a)) g) s t → kept s.store → at_name t.store x ≡ Some (plainly (element row)) → f' t ≡ Ok (GoesOn t)

module _ (schema : Schema) (l : Option Types) (g h : Types) (x : List ℕ) (a : Single) (q : Row → Bool) (f f' : Does) (kept : Store → Type 0) (walk : IsWalk schema g h x a q f f' kept) where
  -- a turn that is taken
  one_turn : (row : Row) (rows : List Row) (n : ℕ) (t : State) (p : Passed) → then_turn (f' (with_variable (with_turns n t) x (plainly (element row)))) (each rows x f') ≡ Ok p → (m : ℕ) → m ≡ suc n → each (row ∷ rows) x f' (with_turns m t) ≡ Ok p
  one_turn row rows n t p e m same = ap (λ (i : ℕ). each (row ∷ rows) x f' (with_turns i t)) same ∙ e

  -- a row that is skipped
  skipped : (row : Row) (rows : List Row) (s t : State) → ((n : ℕ) → s.turns ≤ n → f' (with_variable (with_turns n t) x (plainly (element row))) ≡ Ok (GoesOn (with_variable (with_turns n t) x (plainly (element row))))) → (r : Result Passed Ending) → Covered schema l g s (with_variable t x (plainly (element row))) r (each rows x f') → Covered schema l g s t r (each (row ∷ rows) x f')
  skipped row rows s t e (Ok (GoesOn u)) to =
      record { extra = suc to.extra; state = to.state; passes = one_turn row rows (s.turns + to.extra) t (GoesOn to.state) (ap (λ o. then_turn o (each rows x f')) (e (s.turns + to.extra) (omega arith)) ∙ to.passes) (s.turns + suc to.extra) (omega arith); alike = to.alike; left = to.left; spent = to.spent }
  skipped row rows s t e (Ok (Leaves u)) to =
      record { extra = suc to.extra; state = to.state; passes = one_turn row rows (s.turns + to.extra) t (Leaves to.state) (ap (λ o. then_turn o (each rows x f')) (e (s.turns + to.extra) (omega arith)) ∙ to.passes) (s.turns + suc to.extra) (omega arith); alike = to.alike; left = to.left; spent = to.spent }
  skipped row rows s t e (Ok (Returns u v)) to =
      record { extra = suc to.extra; state = to.state; passes = one_turn row rows (s.turns + to.extra) t (Returns to.state v) (ap (λ o. then_turn o (each rows x f')) (e (s.turns + to.extra) (omega arith)) ∙ to.passes) (s.turns + suc to.extra) (omega arith); lines = to.lines }
  skipped row rows s t e (Err z) to = tt

  -- a turn of both, and then the turns behind it
  turned : (row : Row) (rows : List Row) (store : Store) (lines : List (List ℕ)) (n : ℕ) (t u : State) (to : CoversTo schema h GoesOn (with_variable (record { store = store; lines = lines; turns = n }) x (plainly (element row))) u (with_variable t x (plainly (element row))) f') (r : Result Passed Ending) → Covered schema l g u to.state r (each rows x f') → Covered schema l g (record { store = store; lines = lines; turns = suc n }) t r (each (row ∷ rows) x f')
  turned row rows store lines n t u to (Ok (GoesOn y)) next =
      record { extra = to.extra + next.extra; state = next.state; passes = one_turn row rows (n + (to.extra + next.extra)) t (GoesOn next.state) (through_turn f' (each rows x f') walk.steady (with_variable t x (plainly (element row))) to.state (GoesOn next.state) n to.extra next.extra u.turns to.passes to.left next.passes) (suc n + (to.extra + next.extra)) (omega arith); alike = next.alike; left = next.left; spent = omega (arith, to.spent, next.spent) }
  turned row rows store lines n t u to (Ok (Leaves y)) next =
      record { extra = to.extra + next.extra; state = next.state; passes = one_turn row rows (n + (to.extra + next.extra)) t (Leaves next.state) (through_turn f' (each rows x f') walk.steady (with_variable t x (plainly (element row))) to.state (Leaves next.state) n to.extra next.extra u.turns to.passes to.left next.passes) (suc n + (to.extra + next.extra)) (omega arith); alike = next.alike; left = next.left; spent = omega (arith, to.spent, next.spent) }
  turned row rows store lines n t u to (Ok (Returns y v)) next =
      record { extra = to.extra + next.extra; state = next.state; passes = one_turn row rows (n + (to.extra + next.extra)) t (Returns next.state v) (through_turn f' (each rows x f') walk.steady (with_variable t x (plainly (element row))) to.state (Returns next.state v) n to.extra next.extra u.turns to.passes to.left next.passes) (suc n + (to.extra + next.extra)) (omega arith); lines = next.lines }
  turned row rows store lines n t u to (Err z) next = tt

  -- what comes of a turn in which the row is taken
  taken : (row : Row) (rows some : List Row) (store : Store) (lines : List (List ℕ)) (n : ℕ) (t : State) (r : Result Passed Ending) → ((u v : State) → r ≡ Ok (GoesOn u) → Alike schema g u v → Covered schema l g u v (each some x f u) (each rows x f')) → Covered schema (Some (with_type x (Some (Of a)) g)) h (with_variable (record { store = store; lines = lines; turns = n }) x (plainly (element row))) (with_variable t x (plainly (element row))) r f' → Covered schema l g (record { store = store; lines = lines; turns = suc n }) t (then_turn r (each some x f)) (each (row ∷ rows) x f')
  taken row rows some store lines n t (Ok (GoesOn u)) next to = turned row rows store lines n t u to (each some x f u) (next u to.state refl (alike_fewer schema h g walk.wider u to.state to.alike))
  taken row rows some store lines n t (Ok (Leaves u)) next to =
      record { extra = to.extra; state = to.state; passes = one_turn row rows (n + to.extra) t (GoesOn to.state) (ap (λ o. then_turn o (each rows x f')) to.passes) (suc n + to.extra) (omega arith); alike = alike_fewer schema (with_type x (Some (Of a)) g) g (extends_new g x (Of a) walk.new) u to.state to.alike; left = to.left; spent = omega (arith, to.spent) }
  taken row rows some store lines n t (Ok (Returns u v)) next to =
      record { extra = to.extra; state = to.state; passes = one_turn row rows (n + to.extra) t (Returns to.state v) (ap (λ o. then_turn o (each rows x f')) to.passes) (suc n + to.extra) (omega arith); lines = to.lines }
  taken row rows some store lines n t (Err z) next to = tt

  abbrev Rest : List Row → Type 0
  Rest rows = (s t : State) → Alike schema g s t → kept s.store → Covered schema l g s t (each (filter q rows) x f s) (each rows x f')

  by_turns : (row : Row) (rows : List Row) → IsMember schema a row → Rest rows → (store : Store) (lines : List (List ℕ)) (n : ℕ) (t : State) → Alike schema g (record { store = store; lines = lines; turns = n }) t → kept store → q row ≡ true → Covered schema l g (record { store = store; lines = lines; turns = n }) t (fewer n store lines >>= λ u. then_turn (f (with_variable u x (plainly (element row)))) (each (filter q rows) x f)) (each (row ∷ rows) x f')
  by_turns row rows is rest store lines zero t i k e = tt
  by_turns row rows is rest store lines (suc n) t i k e =
      let u : State = record { store = store; lines = lines; turns = n } in
      let s' : State = with_variable u x (plainly (element row)) in
      let le : n ≤ t.turns = omega (arith, i.turns) in
      let j : Alike schema g u t = record { store = i.store; lines = i.lines; turns = le } in
      let held : kept (put store x (plainly (element row))) = walk.set store (plainly (element row)) k in
      taken row rows (filter q rows) store lines n t (f s') (λ y v went b. rest y v b (walk.goes s' y held went)) (walk.takes row is e s' (with_variable t x (plainly (element row))) (element_put schema g x a row u t is j) held (put_same t.store x (plainly (element row))))

  by_test : (row : Row) (rows : List Row) → IsMember schema a row → Rest rows → (s t : State) → Alike schema g s t → kept s.store → (b : Bool) → q row ≡ b → Covered schema l g s t (each (cond b (row ∷ filter q rows) (filter q rows)) x f s) (each (row ∷ rows) x f')
  by_test row rows is rest s t i k true e = by_turns row rows is rest s.store s.lines s.turns t i k e
  by_test row rows is rest s t i k false e =
      skipped row rows s t (λ n le. walk.skips row is e (with_variable s x (plainly (element row))) (with_variable (with_turns n t) x (plainly (element row))) (element_put schema g x a row s (with_turns n t) is (turned_to schema g s t n le i)) (walk.set s.store (plainly (element row)) k) (put_same t.store x (plainly (element row)))) (each (filter q rows) x f s) (rest s (with_variable t x (plainly (element row))) (alike_beside schema g s t x (plainly (element row)) walk.new i) k)

  pub walk_covers : (rows : List Row) → AllByRecursion (IsMember schema a) rows → Rest rows
  walk_covers [] all s t i k = covered_done schema l g s t i
  walk_covers (row ∷ rows) all s t i k = by_test row rows all.0 (walk_covers rows all.1) s t i k (q row) refl
