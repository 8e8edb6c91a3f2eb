-- A loop with a test covers one whose body covers its body.
use Rattle.std.proofs.Common.{◌≡◌, ℕ, zero, suc, ◌+◌, ◌≤◌, Bool, true, false, List, Option, Some, Result, Ok, Err, ap, ◌∙◌, arith}
use Rattle.qbs_base.specs.Values.{Schema}
use Rattle.java_mean.specs.declared.ending.Ending.{Ending}
use Rattle.java_mean.specs.declared.ending.Ending.TheVariants as endings
use Rattle.java_mean.specs.Endings.{◌>>=◌}
use Rattle.java_mean.specs.Refines.{Alike}
use Rattle.java_mean.specs.Statement.{State, Passed, GoesOn, Leaves, Returns, Does, Test, done, then_turn, branch, fewer, turn, repeat}
use Rattle.java_mean.specs.Store.{Store}
use Rattle.java_mean.specs.Types.{Types}
use Rattle.spreads.specs.Covers.{with_turns, CoversTo, Covered}
use Rattle.spreads.proofs.Covering.{Steady, handed, turned_to}

-- ---- A loop that passes passes with more turns at most

fuel_turn : (r : Result Passed Ending) (g g' : Does) (p : Passed) → ((u : State) → g u ≡ Ok p → g' u ≡ Ok p) → then_turn r g ≡ Ok p → then_turn r g' ≡ Ok p
fuel_turn (Ok (GoesOn u)) g g' p h e = h u e
fuel_turn (Ok (Leaves u)) g g' p h e = e
fuel_turn (Ok (Returns u v)) g g' p h e = e
fuel_turn (Err x) g g' p h e = e

fuel_fewer : (n : ℕ) (store : Store) (lines : List (List ℕ)) (g g' : Does) (p : Passed) → ((u : State) → g u ≡ Ok p → g' u ≡ Ok p) → (fewer n store lines >>= g) ≡ Ok p → (fewer n store lines >>= g') ≡ Ok p
fuel_fewer zero store lines g g' p h e = e
fuel_fewer (suc n) store lines g g' p h e = h (record { store = store; lines = lines; turns = n }) e

fuel_test : (o : Result Bool Ending) (s : State) (g g' : Does) (p : Passed) → (g s ≡ Ok p → g' s ≡ Ok p) → (o >>= λ b. branch b g done s) ≡ Ok p → (o >>= λ b. branch b g' done s) ≡ Ok p
fuel_test (Ok true) s g g' p h e = h e
fuel_test (Ok false) s g g' p h e = e
fuel_test (Err x) s g g' p h e = e

out_of_turns : (p : Passed) → (let r : Result Passed Ending = Err endings.OutOfTurns in r) ≡ Ok p → ⊥
out_of_turns p e = absurd cc

abbrev again : ℕ → Test → Does → Does
again n test f s = turn s >>= λ u. then_turn (f u) (repeat n test f)

more_fuel : (test : Test) (f : Does) (n m : ℕ) → n ≤ m → (s : State) (p : Passed) → repeat n test f s ≡ Ok p → repeat m test f s ≡ Ok p
more_fuel test f zero zero le s p e = e
more_fuel test f zero (suc m) le s p e = fuel_test (test s.store) s (λ t. Err endings.OutOfTurns) (again m test f) p (λ h. absurd (out_of_turns p h)) e
more_fuel test f (suc n) zero le s p e = absurd (omega (arith, le))
more_fuel test f (suc n) (suc m) le s p e =
    let less : n ≤ m = omega (arith, le) in
    fuel_test (test s.store) s (again n test f) (again m test f) p (λ h. fuel_fewer s.turns s.store s.lines (λ u. then_turn (f u) (repeat n test f)) (λ u. then_turn (f u) (repeat m test f)) p (λ u i. fuel_turn (f u) (repeat n test f) (repeat m test f) p (λ v j. more_fuel test f n m less v p j) i) h) e

module _ (schema : Schema) (l : Option Types) (g : Types) (test : Test) (f f' : Does) (same : (s t : State) → Alike schema g s t → test t.store ≡ test s.store) (steady : Steady f') (body : (s t : State) → Alike schema g s t → Covered schema (Some g) g s t (f s) f') where
  -- a loop that has as many turns at most as it has
  abbrev Loop : Does
  Loop z = repeat z.turns test f' z

  stops : (m : ℕ) (z : State) → test z.store ≡ Ok false → repeat m test f' z ≡ Ok (GoesOn z)
  stops zero z e = ap (λ o. o >>= λ b. branch b (λ t. Err endings.OutOfTurns) done z) e
  stops (suc m) z e = ap (λ o. o >>= λ b. branch b (again m test f') done z) e

  goes_on : (m : ℕ) (t : State) (p : Passed) → test t.store ≡ Ok true → then_turn (f' (with_turns m t)) (repeat m test f') ≡ Ok p → (n : ℕ) → n ≡ suc m → repeat n test f' (with_turns n t) ≡ Ok p
  goes_on m t p e h n k = ap (λ (i : ℕ). repeat i test f' (with_turns i t)) k ∙ ap (λ o. o >>= λ b. branch b (again m test f') done (with_turns (suc m) t)) e ∙ h

  ended : (s t : State) → test t.store ≡ Ok false → Alike schema g s t → Covered schema l g s t (Ok (GoesOn s)) Loop
  ended s t e a = record { extra = 0; state = with_turns (s.turns + 0) t; passes = stops (s.turns + 0) (with_turns (s.turns + 0) t) e; alike = turned_to schema g s t (s.turns + 0) (omega arith) a; left = omega arith; spent = omega arith }

  through : (t v : State) (p : Passed) (n d e m : ℕ) → f' (with_turns (n + d) t) ≡ Ok (GoesOn v) → v.turns ≡ m → m ≤ n → repeat (m + e) test f' (with_turns (m + e) v) ≡ Ok p → then_turn (f' (with_turns (n + (d + e)) t)) (repeat (n + (d + e)) test f') ≡ Ok p
  through t v p n d e m h k le next =
      let sum : n + (d + e) ≡ (n + d) + e = omega arith in
      let room : m + e ≤ n + (d + e) = omega (arith, le) in
      ap (λ (i : ℕ). then_turn (f' (with_turns i t)) (repeat (n + (d + e)) test f')) sum
      ∙ ap (λ o. then_turn o (repeat (n + (d + e)) test f')) (handed f' steady t (GoesOn v) (n + d) e h)
      ∙ ap (λ (i : ℕ). repeat (n + (d + e)) test f' (with_turns (i + e) v)) k
      ∙ more_fuel test f' (m + e) (n + (d + e)) room (with_turns (m + e) v) p next

  turned : (store : Store) (lines : List (List ℕ)) (n : ℕ) (t u : State) → test t.store ≡ Ok true → (to : CoversTo schema g GoesOn (record { store = store; lines = lines; turns = n }) u t f') → (r : Result Passed Ending) → Covered schema l g u to.state r Loop → Covered schema l g (record { store = store; lines = lines; turns = suc n }) t r Loop
  turned store lines n t u e to (Ok (GoesOn y)) next =
      record { extra = to.extra + next.extra; state = next.state; passes = goes_on (n + (to.extra + next.extra)) t (GoesOn next.state) e (through t to.state (GoesOn next.state) n to.extra next.extra u.turns to.passes to.left to.spent next.passes) (suc n + (to.extra + next.extra)) (omega arith); alike = next.alike; left = next.left; spent = omega (arith, to.spent, next.spent) }
  turned store lines n t u e to (Ok (Leaves y)) next =
      record { extra = to.extra + next.extra; state = next.state; passes = goes_on (n + (to.extra + next.extra)) t (Leaves next.state) e (through t to.state (Leaves next.state) n to.extra next.extra u.turns to.passes to.left to.spent next.passes) (suc n + (to.extra + next.extra)) (omega arith); alike = next.alike; left = next.left; spent = omega (arith, to.spent, next.spent) }
  turned store lines n t u e to (Ok (Returns y v)) next =
      record { extra = to.extra + next.extra; state = next.state; passes = goes_on (n + (to.extra + next.extra)) t (Returns next.state v) e (through t to.state (Returns next.state v) n to.extra next.extra u.turns to.passes to.left to.spent next.passes) (suc n + (to.extra + next.extra)) (omega arith); lines = next.lines }
  turned store lines n t u e to (Err x) next = tt

  taken : (store : Store) (lines : List (List ℕ)) (n k : ℕ) (t : State) → test t.store ≡ Ok true → (r : Result Passed Ending) → ((u v : State) → Alike schema g u v → Covered schema l g u v (repeat k test f u) Loop) → Covered schema (Some g) g (record { store = store; lines = lines; turns = n }) t r f' → Covered schema l g (record { store = store; lines = lines; turns = suc n }) t (then_turn r (repeat k test f)) Loop
  taken store lines n k t e (Ok (GoesOn u)) rest to = turned store lines n t u e to (repeat k test f u) (rest u to.state to.alike)
  taken store lines n k t e (Ok (Leaves u)) rest to =
      record { extra = to.extra; state = to.state; passes = goes_on (n + to.extra) t (GoesOn to.state) e (ap (λ o. then_turn o (repeat (n + to.extra) test f')) to.passes) (suc n + to.extra) (omega arith); alike = to.alike; left = to.left; spent = omega (arith, to.spent) }
  taken store lines n k t e (Ok (Returns u v)) rest to =
      record { extra = to.extra; state = to.state; passes = goes_on (n + to.extra) t (Returns to.state v) e (ap (λ o. then_turn o (repeat (n + to.extra) test f')) to.passes) (suc n + to.extra) (omega arith); lines = to.lines }
  taken store lines n k t e (Err x) rest to = tt

  by_turns : (store : Store) (lines : List (List ℕ)) (n k : ℕ) (t : State) → test t.store ≡ Ok true → Alike schema g (record { store = store; lines = lines; turns = n }) t → ((u v : State) → Alike schema g u v → Covered schema l g u v (repeat k test f u) Loop) → Covered schema l g (record { store = store; lines = lines; turns = n }) t (again k test f (record { store = store; lines = lines; turns = n })) Loop
  by_turns store lines zero k t e a rest = tt
  by_turns store lines (suc n) k t e a rest =
      let u : State = record { store = store; lines = lines; turns = n } in
      let le : n ≤ t.turns = omega (arith, a.turns) in
      taken store lines n k t e (f u) rest (body u t (record { store = a.store; lines = a.lines; turns = le }))

  none_left : (s t : State) (o : Result Bool Ending) → test t.store ≡ o → Alike schema g s t → Covered schema l g s t (o >>= λ b. branch b (λ u. Err endings.OutOfTurns) done s) Loop
  none_left s t (Ok true) e a = tt
  none_left s t (Ok false) e a = ended s t e a
  none_left s t (Err x) e a = tt

  some_left : (s t : State) (k : ℕ) (o : Result Bool Ending) → test t.store ≡ o → Alike schema g s t → ((u v : State) → Alike schema g u v → Covered schema l g u v (repeat k test f u) Loop) → Covered schema l g s t (o >>= λ b. branch b (again k test f) done s) Loop
  some_left s t k (Ok true) e a rest = by_turns s.store s.lines s.turns k t e a rest
  some_left s t k (Ok false) e a rest = ended s t e a
  some_left s t k (Err x) e a rest = tt

  pub covered_repeat : (n : ℕ) (s t : State) → Alike schema g s t → Covered schema l g s t (repeat n test f s) Loop
  covered_repeat zero s t a = none_left s t (test s.store) (same s t a) a
  covered_repeat (suc n) s t a = some_left s t n (test s.store) (same s t a) a (λ u v b. covered_repeat n u v b)
