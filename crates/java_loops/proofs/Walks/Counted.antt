-- A loop that counts through a list does what a walk over the list does.
use Rattle.std.proofs.Common.{◌≡◌, ℕ, zero, suc, ◌+◌, pos, Bool, true, false, not, List, [], ◌∷◌, ◌++◌, drop, length, Option, Some, None, Result, Ok, Err, refl, sym, ap, ◌∙◌, subst, cond, arith, append_assoc, length-append}
use Rattle.std.proofs.lemmas.List.{append-nil, take-append-drop}
use Rattle.std.specs.Prelude.{◌+ℤ◌}
use Rattle.qbs_base.specs.declared.span.Span.{Span}
use Rattle.qbs_base.specs.declared.scalar.Scalar.TheVariants as scalars
use Rattle.qbs_base.specs.declared.scalar.Row.{Row}
use Rattle.qbs_base.specs.declared.scalar.Value.{Value}
use Rattle.qbs_base.specs.declared.scalar.Value.TheVariants.{One, Many}
use Rattle.qbs_base.specs.Named.{at_name}
use Rattle.qbs_base.specs.Values.{fits_long}
use Rattle.java_ast.specs.Tree.{Spelled, Expression, Var, Get, Statements, Nothing, Then}
use Rattle.java_mean.specs.declared.ending.Ending.{Ending}
use Rattle.java_mean.specs.declared.ending.Ending.TheVariants as endings
use Rattle.java_mean.specs.declared.ending.RunFault.TheVariants.{Overflow}
use Rattle.java_mean.specs.Endings.{◌>>=◌}
use Rattle.java_mean.specs.Expression.{value_of, element, number}
use Rattle.java_mean.specs.Refines.{Related, Passes, Follows, followed_by}
use Rattle.java_mean.specs.Statement.{State, Passed, GoesOn, Leaves, Returns, Does, done, then_do, then_turn, branch, turn, with_variable, is_set_type, each, repeat, test_of, meaning, meanings}
use Rattle.java_mean.specs.Store.{Store, Variable, put, plainly}
use Rattle.java_mean.specs.World.{World}
use Rattle.java_mean.proofs.Puts.{name_same, put_same, put_other}
use Rattle.java_mean.proofs.Replaced.{meanings_followed}
use Rattle.kernel_lang.specs.Given.{cut}
use Rattle.java_loops.specs.Walks.Reads.{Set, other_than}
use Rattle.java_loops.specs.Walks.Counting.{SameState, same_ways, CountPlaces, counting_step, counting_body, counting_loop, IsCounting, IsCountingText}
use Rattle.java_loops.proofs.Walks.SameReads.{same_self, put_outside}
use Rattle.java_loops.proofs.Walks.Apart.{nothing_follows, follows_fewer, same_variable, goes_same, all_within_same}
use Rattle.java_loops.proofs.Walks.Untouched.{all_untouched}
use Rattle.java_loops.proofs.Walks.CountTests.{Tested, Standing, holds_below, ends_after, row_value}

-- ---- Parts of a turn

follows_tested : (r : Related) (f : Set) (o : Result Bool Ending) (b : Bool) (g h : Does) (s : State) (q : Result Passed Ending) → Tested o b → Follows r (same_ways f) (branch b g h s) q → Follows r (same_ways f) (o >>= λ c. branch c g h s) q
follows_tested r f (Ok c) b g h s q e i = subst (λ d. Follows r (same_ways f) (branch d g h s) q) (sym e) i
follows_tested r f (Err e) b g h s q t i = nothing_follows r f e q

declared_row : (o : Result Value Ending) (t : State) (x : List ℕ) (b : Bool) (v : Value) → o ≡ Ok v → b ≡ false → (o >>= λ u. done (with_variable t x (record { value = u; is_set = b }))) ≡ Ok (GoesOn (with_variable t x (plainly v)))
declared_row o t x b v e h = ap (λ p. p >>= λ u. done (with_variable t x (record { value = u; is_set = b }))) e ∙ ap (λ c. Ok (GoesOn (with_variable t x (record { value = v; is_set = c })))) h

-- what the body makes of a state at a row
body_is : (at : CountPlaces) (ty : Spelled) (i xs x : List ℕ) (b : Statements) (w : World) (u : State) (y : Row) → is_set_type ty ≡ false → value_of (Get at.get xs (Var at.index i)) w u.store ≡ Ok (element y) → meanings (counting_body at ty i xs x b) w u ≡ then_do (meanings b w (with_variable u x (plainly (element y)))) (meanings (Then (counting_step at i) Nothing) w)
body_is at ty i xs x b w u y h e =
    ap (λ o. then_do o (meanings (followed_by b (Then (counting_step at i) Nothing)) w)) (declared_row (value_of (Get at.get xs (Var at.index i)) w u.store) u x (is_set_type ty) (element y) e h)
    ∙ meanings_followed b (Then (counting_step at i) Nothing) w (with_variable u x (plainly (element y)))

-- the counter goes on by one, or the run ends
step_cond : (r : Related) (f : Set) (at : Span) (z : State) (i : List ℕ) (v : Value) (b c : Bool) (rest : Does) (q : Result Passed Ending) → Follows r (same_ways f) (rest (with_variable z i (record { value = v; is_set = b }))) q → Follows r (same_ways f) (then_turn (then_do (cond c (Ok v) (Err (endings.Faulted Overflow at)) >>= λ u. done (with_variable z i (record { value = u; is_set = b }))) done) rest) q
step_cond r f at z i v b true rest q h = h
step_cond r f at z i v b false rest q h = tt

step_goes : (r : Related) (f : Set) (at : CountPlaces) (i : List ℕ) (w : World) (z : State) (k : ℕ) (b : Bool) (rest : Does) (q : Result Passed Ending) → at_name z.store i ≡ Some (record { value = One (scalars.Long (pos k)); is_set = b }) → Follows r (same_ways f) (rest (with_variable z i (record { value = One (scalars.Long (pos k +ℤ pos 1)); is_set = b }))) q → Follows r (same_ways f) (then_turn (meanings (Then (counting_step at i) Nothing) w z) rest) q
step_goes r f at i w z k b rest q h e =
    let is : meanings (Then (counting_step at i) Nothing) w z ≡ then_do (number at.sum (pos k +ℤ pos 1) >>= λ u. done (with_variable z i (record { value = u; is_set = b }))) done = rw h refl in
    subst (λ o. Follows r (same_ways f) (then_turn o rest) q) (sym is) (step_cond r f at.sum z i (One (scalars.Long (pos k +ℤ pos 1))) b (fits_long (pos k +ℤ pos 1)) rest q e)

next_length : (zs : List Row) (y : Row) → pos (length zs) +ℤ pos 1 ≡ pos (length (zs ++ y ∷ []))
next_length zs y = let h : length (zs ++ y ∷ []) ≡ length zs + 1 = simp length-append (omega arith) in ap (λ n. pos n) (sym h)

not_other : (i : List ℕ) → other_than i i ≡ false
not_other i = ap not (name_same i)

-- ---- A turn

-- what stays the same while it counts: the loop, the rows of the list, and what of them isn't walked
record Counting (w : World) (ty : Spelled) (i xs x : List ℕ) (limit : Option ℕ) (c : Expression) (body : Statements) (rows : List Row) : Type 0 where
  loop : IsCounting w ty i xs x limit c body
  past : List Row
  whole : rows ≡ cut limit rows ++ past

standing_next : (w : World) (ty : Spelled) (i xs x : List ℕ) (limit : Option ℕ) (c : Expression) (body : Statements) → IsCounting w ty i xs x limit c body → (zs rows : List Row) (y : Row) (v : Variable) (b b' : Bool) (u z : State) → Standing i xs (length zs) rows b b' u.store → meanings body w (with_variable u x v) ≡ Ok (GoesOn z) → Standing i xs (length (zs ++ y ∷ [])) rows b b' (put z.store i (record { value = One (scalars.Long (pos (length zs) +ℤ pos 1)); is_set = b }))
standing_next w ty i xs x limit c body q zs rows y v b b' u z h e =
    record {
      counter = put_same z.store i (record { value = One (scalars.Long (pos (length zs) +ℤ pos 1)); is_set = b }) ∙ ap (λ n. Some (record { value = One (scalars.Long n); is_set = b })) (next_length zs y);
      list = put_other z.store i xs (record { value = One (scalars.Long (pos (length zs) +ℤ pos 1)); is_set = b }) q.counter_apart ∙ (q.leaves (with_variable u x v) z e).1 ∙ put_other u.store x xs v q.list_apart ∙ h.list;
    }

body_turn : (w : World) (ty : Spelled) (i xs x : List ℕ) (limit : Option ℕ) (c : Expression) (body : Statements) → IsCounting w ty i xs x limit c body → (at : CountPlaces) (zs rows : List Row) (y : Row) (v : Variable) (b b' : Bool) (u : State) → Standing i xs (length zs) rows b b' u.store → (rest walk : Does) → ((z z' : State) → SameState (other_than i) z z' → Standing i xs (length (zs ++ y ∷ [])) rows b b' z.store → Follows (SameState (other_than i)) (same_ways (other_than i)) (rest z) (walk z')) → (o p : Result Passed Ending) → meanings body w (with_variable u x v) ≡ o → Follows (SameState (other_than i)) (same_ways (other_than i)) o p → Follows (SameState (other_than i)) (same_ways (other_than i)) (then_turn (then_do o (meanings (Then (counting_step at i) Nothing) w)) rest) (then_turn p walk)
body_turn w ty i xs x limit c body q at zs rows y v b b' u h rest walk ih (Ok (GoesOn z)) p e f =
    let r : Related = SameState (other_than i) in
    let stands : at_name z.store i ≡ Some (record { value = One (scalars.Long (pos (length zs))); is_set = b }) = (q.leaves (with_variable u x v) z e).0 ∙ put_other u.store x i v q.row_apart ∙ h.counter in
    let n : Variable = record { value = One (scalars.Long (pos (length zs) +ℤ pos 1)); is_set = b } in
    subst (λ o. Follows r (same_ways (other_than i)) (then_turn (meanings (Then (counting_step at i) Nothing) w z) rest) (then_turn o walk)) (sym f.is) (step_goes r (other_than i) at i w z (length zs) b rest (walk f.state) stands (ih (with_variable z i n) f.state (record { store = put_outside (other_than i) z.store f.state.store i n (not_other i) f.holds.store; lines = f.holds.lines; turns = f.holds.turns }) (standing_next w ty i xs x limit c body q zs rows y v b b' u z h e)))
body_turn w ty i xs x limit c body q at zs rows y v b b' u h rest walk ih (Ok (Leaves z)) p e f = record { state = f.state; is = ap (λ o. then_turn o walk) f.is; holds = f.holds }
body_turn w ty i xs x limit c body q at zs rows y v b b' u h rest walk ih (Ok (Returns z t)) p e f = (record { state = f.0.state; is = ap (λ o. then_turn o walk) f.0.is; lines = f.0.lines }, tt)
body_turn w ty i xs x limit c body q at zs rows y v b b' u h rest walk ih (Err x') p e f = nothing_follows (SameState (other_than i)) (other_than i) x' (then_turn p walk)

-- ---- The loop

no_more : (w : World) (ty : Spelled) (i xs x : List ℕ) (limit : Option ℕ) (c : Expression) (body : Statements) → IsCounting w ty i xs x limit c body → (zs rows : List Row) (b b' : Bool) (s : Store) → Standing i xs (length zs) rows b b' s → zs ++ [] ≡ cut limit rows → Tested (test_of c w s) false
no_more w ty i xs x limit c body q zs rows b b' s h e =
    let k : length (cut limit rows) ≡ length zs = ap length (sym e ∙ append-nil zs) in
    ends_after i xs limit c q.condition w (length zs) rows b b' s h (omega (arith, k))

one_more : (w : World) (ty : Spelled) (i xs x : List ℕ) (limit : Option ℕ) (c : Expression) (body : Statements) → IsCounting w ty i xs x limit c body → (zs ys rows : List Row) (y : Row) (b b' : Bool) (s : Store) → Standing i xs (length zs) rows b b' s → zs ++ y ∷ ys ≡ cut limit rows → Tested (test_of c w s) true
one_more w ty i xs x limit c body q zs ys rows y b b' s h e =
    let k : length (cut limit rows) ≡ length zs + suc (length ys) = ap length (sym e) ∙ length-append zs (y ∷ ys) in
    holds_below i xs limit c q.condition w (length zs) rows b b' s h (omega (arith, k))

-- the rows of the list, with the next one in the middle
middle : (rows cutted past zs ys : List Row) (y : Row) → rows ≡ cutted ++ past → zs ++ y ∷ ys ≡ cutted → rows ≡ zs ++ y ∷ (ys ++ past)
middle rows cutted past zs ys y e h = e ∙ ap (λ r. r ++ past) (sym h) ∙ append_assoc zs (y ∷ ys) past

standing_middle : (i xs : List ℕ) (k : ℕ) (rows rows' : List Row) (b b' : Bool) (s : Store) → rows ≡ rows' → Standing i xs k rows b b' s → Standing i xs k rows' b b' s
standing_middle i xs k rows rows' b b' s e h = subst (λ r. Standing i xs k r b b' s) e h

count_from : (w : World) (ty : Spelled) (i xs x : List ℕ) (limit : Option ℕ) (c : Expression) (body : Statements) (rows : List Row) → Counting w ty i xs x limit c body rows → (at : CountPlaces) (b b' : Bool) (n : ℕ) (zs ys : List Row) → zs ++ ys ≡ cut limit rows → (s t : State) → SameState (other_than i) s t → Standing i xs (length zs) rows b b' s.store → Follows (SameState (other_than i)) (same_ways (other_than i)) (repeat n (test_of c w) (meanings (counting_body at ty i xs x body) w) s) (each ys x (meanings body w) t)
count_from w ty i xs x limit c body rows q at b b' zero zs [] e s t a h =
    follows_tested (SameState (other_than i)) (other_than i) (test_of c w s.store) false (λ u. Err endings.OutOfTurns) done s (Ok (GoesOn t)) (no_more w ty i xs x limit c body q.loop zs rows b b' s.store h e) (goes_same (other_than i) s t a)
count_from w ty i xs x limit c body rows q at b b' (suc n) zs [] e s t a h =
    follows_tested (SameState (other_than i)) (other_than i) (test_of c w s.store) false (λ v. turn v >>= λ u. then_turn (meanings (counting_body at ty i xs x body) w u) (repeat n (test_of c w) (meanings (counting_body at ty i xs x body) w))) done s (Ok (GoesOn t)) (no_more w ty i xs x limit c body q.loop zs rows b b' s.store h e) (goes_same (other_than i) s t a)
count_from w ty i xs x limit c body rows q at b b' zero zs (y ∷ ys) e s t a h =
    follows_tested (SameState (other_than i)) (other_than i) (test_of c w s.store) true (λ u. Err endings.OutOfTurns) done s (each (y ∷ ys) x (meanings body w) t) (one_more w ty i xs x limit c body q.loop zs ys rows y b b' s.store h e) tt
count_from w ty i xs x limit c body rows q at b b' (suc n) zs (y ∷ ys) e s t a h =
    let r : Related = SameState (other_than i) in
    let whole : Does = meanings (counting_body at ty i xs x body) w in
    let rest : Does = repeat n (test_of c w) whole in
    let walk : Does = each ys x (meanings body w) in
    let v : Variable = plainly (element y) in
    follows_tested r (other_than i) (test_of c w s.store) true (λ z. turn z >>= λ u. then_turn (whole u) rest) done s (each (y ∷ ys) x (meanings body w) t) (one_more w ty i xs x limit c body q.loop zs ys rows y b b' s.store h e) (follows_fewer r (other_than i) s.turns t.turns s.store t.store s.lines t.lines (λ u. then_turn (whole u) rest) (λ u. then_turn (meanings body w (with_variable u x v)) walk) a.turns (λ p p' d. (
    let u : State = record { store = s.store; lines = s.lines; turns = p } in
    let u' : State = record { store = t.store; lines = t.lines; turns = p' } in
    let is : whole u ≡ then_do (meanings body w (with_variable u x v)) (meanings (Then (counting_step at i) Nothing) w) = body_is at ty i xs x body w u y q.loop.no_set (row_value at.get at.index i xs w zs (ys ++ q.past) y b b' s.store (standing_middle i xs (length zs) rows (zs ++ y ∷ (ys ++ q.past)) b b' s.store (middle rows (cut limit rows) q.past zs ys y q.whole e) h)) in
    subst (λ o. Follows r (same_ways (other_than i)) (then_turn o rest) (then_turn (meanings body w (with_variable u' x v)) walk)) (sym is) (body_turn w ty i xs x limit c body q.loop at zs rows y v b b' u h rest walk (λ z z' k st. count_from w ty i xs x limit c body rows q at b b' n (zs ++ y ∷ []) ys (append_assoc zs (y ∷ []) ys ∙ e) z z' k st) (meanings body w (with_variable u x v)) (meanings body w (with_variable u' x v)) refl (q.loop.same.by (with_variable u x v) (with_variable u' x v) (same_variable (other_than i) u u' x v (record { store = a.store; lines = a.lines; turns = d })))))))

cut_whole : (limit : Option ℕ) (rows : List Row) → (past : List Row) × (rows ≡ cut limit rows ++ past)
cut_whole None rows = ([], sym (append-nil rows))
cut_whole (Some n) rows = (drop n rows, sym (take-append-drop n rows))

state_itself : (f : Set) (s : State) → SameState f s s
state_itself f s = record { store = same_self f s.store; lines = refl; turns = refl }

held_as : (o : Option Variable) (held : Variable) (v : Value) → o ≡ Some held → held.value ≡ v → o ≡ Some (record { value = v; is_set = held.is_set })
held_as o held v e h = e ∙ ap (λ u. Some (record { value = u; is_set = held.is_set })) h

-- a loop that counts from 0, and the walk
pub counting_follows : (w : World) (ty : Spelled) (i xs x : List ℕ) (limit : Option ℕ) (c : Expression) (body : Statements) → IsCounting w ty i xs x limit c body → (at : CountPlaces) (rows : List Row) (s : State) (counter list : Variable) → at_name s.store i ≡ Some counter → counter.value ≡ One (scalars.Long (pos 0)) → at_name s.store xs ≡ Some list → list.value ≡ Many rows → Follows (SameState (other_than i)) (same_ways (other_than i)) (meaning (counting_loop at ty i xs x c body) w s) (each (cut limit rows) x (meanings body w) s)
counting_follows w ty i xs x limit c body q at rows s counter list e h e' h' =
    let k = cut_whole limit rows in
    count_from w ty i xs x limit c body rows (record { loop = q; past = k.0; whole = k.1 }) at counter.is_set list.is_set s.turns [] (cut limit rows) refl s s (state_itself (other_than i) s) (record { counter = held_as (at_name s.store i) counter (One (scalars.Long (pos 0))) e h; list = held_as (at_name s.store xs) list (Many rows) e' h' })

pub counting_walks : (w : World) (ty : Spelled) (i xs x : List ℕ) (limit : Option ℕ) (c : Expression) (body : Statements) → IsCounting w ty i xs x limit c body → (at : CountPlaces) (rows : List Row) (s : State) (counter list : Variable) → at_name s.store i ≡ Some counter → counter.value ≡ One (scalars.Long (pos 0)) → at_name s.store xs ≡ Some list → list.value ≡ Many rows → (t : State) → meaning (counting_loop at ty i xs x c body) w s ≡ Ok (GoesOn t) → Passes (SameState (other_than i)) GoesOn t (each (cut limit rows) x (meanings body w) s)
counting_walks w ty i xs x limit c body q at rows s counter list e h e' h' t goes =
    subst (λ o. Follows (SameState (other_than i)) (same_ways (other_than i)) o (each (cut limit rows) x (meanings body w) s)) goes (counting_follows w ty i xs x limit c body q at rows s counter list e h e' h')

-- what the text says is enough
pub counts_by_text : (w : World) (ty : Spelled) (i xs x : List ℕ) (limit : Option ℕ) (c : Expression) (body : Statements) → IsCountingText ty i xs x limit c body → IsCounting w ty i xs x limit c body
counts_by_text w ty i xs x limit c body t =
    record {
      condition = t.condition;
      no_set = t.no_set;
      row_apart = t.row_apart;
      list_apart = t.list_apart;
      counter_apart = t.counter_apart;
      leaves = λ s u e. (all_untouched w body s u i t.counter_untouched e, all_untouched w body s u xs t.list_untouched e);
      same = all_within_same body (other_than i) w t.unmentioned;
    }
