-- A nest makes of each accumulator what the accumulator's own effect says.
use Rattle.std.proofs.Common.{◌≡◌, ℕ, Bool, true, false, ◌||◌, List, [], ◌∷◌, Option, Some, None, Ok, refl, sym, ap, ◌∙◌, cond}
use Rattle.std.proofs.lemmas.Bool.{or_left, or_parts}
use Rattle.qbs_base.specs.declared.span.Span.{Span}
use Rattle.qbs_base.specs.declared.scalar.Row.{Row}
use Rattle.qbs_base.specs.declared.scalar.Scalar.{Scalar}
use Rattle.qbs_base.specs.declared.scalar.Value.{Value}
use Rattle.qbs_base.specs.declared.scalar.Value.TheVariants.{One}
use Rattle.qbs_base.specs.Named.{at_name}
use Rattle.java_ast.specs.Tree.{Expression, Statement, Assign, If, IfElse, ForEach, Break, Lit, Statements, Nothing, Then}
use Rattle.java_mean.specs.Endings.{◌>>=◌, found}
use Rattle.java_mean.specs.Expression.{value_of, as_rows, element}
use Rattle.java_mean.specs.Statement.{State, GoesOn, done, branch, with_variable, with_value, is_set_type, each, test_of, meaning, meanings}
use Rattle.java_mean.specs.Store.{Store, Variable, put, plainly}
use Rattle.java_mean.specs.World.{World}
use Rattle.java_mean.proofs.Puts.{put_same}
use Rattle.java_loops.specs.Walks.Effects.{all_set, truth_in, rows_in, truth_at, rows_at, and_then, folded, settled, effect, effects}
use Rattle.java_loops.specs.Walks.Left.{LeftByRun, Have, Distinct}
use Rattle.java_loops.specs.Walks.Reads.{SameOn, Set, Reads}
use Rattle.java_loops.specs.Walks.Nests.{with_name, Apart, Guards, seen, set_here, accumulators_here, fixed_here, Mark, IsNest, assign, add, when, choose, for_each, AreNest, nothing, declare, leave, next}
use Rattle.java_loops.proofs.Walks.Flags.{run_then, run_declared}
use Rattle.java_loops.proofs.Walks.Left.{left_same, run_equal, run_bind, run_branch, run_end, run_assign, run_add, run_each}
use Rattle.java_loops.proofs.Walks.Names.{apart_more, apart_end, apart_flag, apart_here, none_have, none_distinct, distinct_more, have_put, same_held, same_left}
use Rattle.java_loops.proofs.Walks.SameReads.{reads_same, test_reads_same}
use Rattle.java_loops.proofs.Walks.Unset.{cond_same, steps, unset, all_unset, marked_keeps, all_keep}

-- ---- Conditions and lists

guarded : (q b t : Bool) (o p n : Option Variable) → (q ≡ true → t ≡ b) → (q ≡ false → o ≡ n) → (q ≡ false → p ≡ n) → cond q (cond t o p) n ≡ cond b o p
guarded true b t o p n h k l = ap (λ z. cond z o p) (h refl)
guarded false b t o p n h k l = sym (cond_same b o p n (k refl) (l refl))

-- a condition has the same truth value from what the state has
truth_on : (d a f : Set) (c : Expression) (w : World) (s : Store) (b : Bool) (x : List ℕ) (v : Variable) (env : Store) → Guards d a f c → test_of c w s ≡ Ok b → a x ≡ true → d x ≡ true → at_name s x ≡ Some v → SameOn f env s → truth_at c w (put env x v) ≡ b
truth_on d a f c w s b x v env g e ax dx h same = ap truth_in (test_reads_same c (with_name x f) w (put env x v) s (g.by x ax dx) (same_held f env s x v same h) ∙ e)

rows_on : (f : Set) (e : Expression) (w : World) (s : Store) (u : Value) (rows : List Row) (x : List ℕ) (v : Variable) (env : Store) → Reads f e → value_of e w s ≡ Ok u → as_rows u ≡ Ok rows → at_name s x ≡ Some v → SameOn f env s → rows_at e w (put env x v) ≡ rows
rows_on f e w s u rows x v env r p q h same = ap (λ o. rows_in (o >>= as_rows)) (reads_same e f w (put env x v) s r (same_left f x (put env x v) s (same_held f env s x v same h)) ∙ p) ∙ ap rows_in q

folded_set : (q : Bool) (rows rows' : List Row) (f : Row → Variable → Option Variable) (v : Variable) → rows' ≡ rows → (q ≡ false → folded rows f v ≡ Some v) → cond q (folded rows' f v) (Some v) ≡ folded rows f v
folded_set true rows rows' f v e h = ap (λ z. folded z f v) e
folded_set false rows rows' f v e h = sym (h refl)

folded_unset : (rows : List Row) (f : Row → Variable → Option Variable) (v : Variable) → ((row : Row) → f row v ≡ Some v) → folded rows f v ≡ Some v
folded_unset [] f v h = refl
folded_unset (row ∷ rows) f v h = ap (λ o. and_then o (folded rows f)) (h row) ∙ folded_unset rows f v h

-- ---- The mark

mark_step : (c : Scalar) (s t : State) (y : List ℕ) (n : Option Variable) (v : Variable) → (found n >>= λ held. done (with_value s y held (One c))) ≡ Ok (GoesOn t) → at_name t.store y ≡ Some v → v.value ≡ One c
mark_step c s t y None v e h = absurd cc
mark_step c s t y (Some held) v e h =
    let u : Variable = record { value = One c; is_set = held.is_set } in
    let k : Ok (GoesOn (with_variable s y u)) ≡ Ok (GoesOn t) = e in
    let same : with_variable s y u ≡ t = cc in
    let two : Some u ≡ Some v = sym (put_same s.store y u) ∙ ap (λ (z : State). at_name z.store y) same ∙ h in
    let is : u ≡ v = cc in
    ap (λ (z : Variable). z.value) (sym is)

-- the mark, and the `break` behind it
run_leave : (a f : Set) (bs : List (List ℕ)) (at at' at'' : Span) (y : List ℕ) (c : Scalar) → a y ≡ true → Apart a (seen f bs) → Distinct f bs → (w : World) (s : State) → Have bs s.store → LeftByRun a f (seen f bs) (Some (record { name = y; value = c })) (effects (Then (Assign at y (Lit at' c)) (Then (Break at'') Nothing)) bs w) s (meanings (Then (Assign at y (Lit at' c)) (Then (Break at'') Nothing)) w s)
run_leave a f bs at at' at'' y c ay apart dis w s have =
    let d : Statement = Assign at y (Lit at' c) in
    let m : Option Mark = Some (record { name = y; value = c }) in
    run_then a f bs m d (effect d w) (effects (Then (Break at'') Nothing) bs w) s (meaning d w s) (meanings (Then (Break at'') Nothing) w) (λ x env v n. unset d w x env v n) dis have (run_assign (accumulators_here a bs d) (fixed_here f bs d) m at y (Lit at' c) w (apart_here a f bs d apart) (or_left (a y) (set_here bs d y) ay) tt s) (λ t j x env v h. refl) (λ t e h. (left_same a f (seen f bs) t, λ v q. mark_step c s t y (at_name s.store y) v e q))

-- ---- Statements

mutual
  pub nest_left : (p : Statement) (a f : Set) (m : Option Mark) → IsNest p a f m → Apart a f → (w : World) (s : State) → LeftByRun a f f m (effect p w) s (meaning p w s)
  nest_left _ _ _ _ (assign a f m at x e ax r al) apart w s = run_assign a f m at x e w apart ax r s
  nest_left _ _ _ _ (add a f at x e ax r) apart w s = run_add a f None at x e w apart ax r s
  nest_left _ _ _ _ (when a f m at c p g k) apart w s =
      run_bind a f f m (effect (If at c p) w) s (test_of c w s.store) (λ b. branch b (meanings p w) done s) (λ b e. run_equal a f f m (λ x env v. cond b (effects p [] w x env v) (Some v)) (effect (If at c p) w) s (branch b (meanings p w) done s) (λ x v env ax h same. guarded (all_set p x) b (truth_at c w (put env x v)) (effects p [] w x env v) (Some v) (Some v) (λ q. truth_on (all_set p) a f c w s.store b x v env g e ax q h same) (λ q. all_unset p [] w x env v q) (λ q. refl)) (run_branch a f f m (effects p [] w) (λ x env v. Some v) s b (meanings p w) done (run_end a f m (effects p [] w) s (meanings p w s) (nests_left p a f [] m k (apart_end a f apart) (none_distinct f) w s (none_have s.store))) (left_same a f f s)))
  nest_left _ _ _ _ (choose a f m at c p q g k l) apart w s =
      run_bind a f f m (effect (IfElse at c p q) w) s (test_of c w s.store) (λ b. branch b (meanings p w) (meanings q w) s) (λ b e. run_equal a f f m (λ x env v. cond b (effects p [] w x env v) (effects q [] w x env v)) (effect (IfElse at c p q) w) s (branch b (meanings p w) (meanings q w) s) (λ x v env ax h same. guarded (all_set p x || all_set q x) b (truth_at c w (put env x v)) (effects p [] w x env v) (effects q [] w x env v) (Some v) (λ i. truth_on (λ y. all_set p y || all_set q y) a f c w s.store b x v env g e ax i h same) (λ i. all_unset p [] w x env v (or_parts (all_set p x) (all_set q x) i).0) (λ i. all_unset q [] w x env v (or_parts (all_set p x) (all_set q x) i).1)) (run_branch a f f m (effects p [] w) (effects q [] w) s b (meanings p w) (meanings q w) (run_end a f m (effects p [] w) s (meanings p w s) (nests_left p a f [] m k (apart_end a f apart) (none_distinct f) w s (none_have s.store))) (run_end a f m (effects q [] w) s (meanings q w s) (nests_left q a f [] m l (apart_end a f apart) (none_distinct f) w s (none_have s.store)))))
  nest_left _ _ _ _ (for_each a f m inner at ty x e b ax fx r i k) apart w s =
      run_bind a f f m (effect (ForEach at ty x e b) w) s (value_of e w s.store) (λ u. as_rows u >>= λ rows. each rows x (meanings b w) s) (λ u p. run_bind a f f m (effect (ForEach at ty x e b) w) s (as_rows u) (λ rows. each rows x (meanings b w) s) (λ rows q. run_equal a f f m (λ z env v. folded rows (λ row. effects b [] w z (put env x (plainly (element row)))) v) (effect (ForEach at ty x e b) w) s (each rows x (meanings b w) s) (λ z v env az h same. folded_set (all_set b z) rows (rows_at e w (put env z v)) (λ row. effects b [] w z (put env x (plainly (element row)))) v (rows_on f e w s.store u rows z v env r p q h same) (λ j. folded_unset rows (λ row. effects b [] w z (put env x (plainly (element row)))) v (λ row. all_unset b [] w z (put env x (plainly (element row))) v j))) (run_each a f m inner (effects b [] w) x (meanings b w) ax fx (λ t j z env v h. all_keep b a (with_name x f) [] inner k w z env v (marked_keeps inner t.store z v j h)) (λ t. run_end a (with_name x f) inner (effects b [] w) t (meanings b w t) (nests_left b a (with_name x f) [] inner k (apart_end a (with_name x f) (apart_more a f x ax apart)) (none_distinct (with_name x f)) w t (none_have t.store))) rows s)))

  pub nests_left : (p : Statements) (a f : Set) (bs : List (List ℕ)) (m : Option Mark) → AreNest p a f bs m → Apart a (seen f bs) → Distinct f bs → (w : World) (s : State) → Have bs s.store → LeftByRun a f (seen f bs) m (effects p bs w) s (meanings p w s)
  nests_left _ _ _ _ _ (nothing a f bs m) apart dis w s have = left_same a f (seen f bs) s
  nests_left _ _ _ _ _ (declare a f bs m at at' ty b c p ab fb k) apart dis w s have =
      let u : Variable = record { value = One c; is_set = is_set_type ty } in
      run_declared a f bs m b u (effects p (b ∷ bs) w) s (meanings p w (with_variable s b u)) ab fb (nests_left p a f (b ∷ bs) m k (apart_flag a f bs b ab apart) (distinct_more f bs b fb dis) w (with_variable s b u) (have_put bs s.store b u have))
  nests_left _ _ _ _ _ (leave a f bs at at' at'' y c ay) apart dis w s have = run_leave a f bs at at' at'' y c ay apart dis w s have
  nests_left _ _ _ _ _ (next a f bs m d p i k) apart dis w s have =
      run_equal a f (seen f bs) m (λ x env v. and_then (effect d w x env v) (effects p bs w x (settled bs (effect d w) env))) (effects (Then d p) bs w) s (meanings (Then d p) w s) (λ x v env ax h same. steps d (accumulators_here a bs d) (fixed_here f bs d) m i p bs w x env v) (run_then a f bs m d (effect d w) (effects p bs w) s (meaning d w s) (meanings p w) (λ x env v n. unset d w x env v n) dis have (nest_left d (accumulators_here a bs d) (fixed_here f bs d) m i (apart_here a f bs d apart) w s) (λ t j x env v h. all_keep p a f bs m k w x env v (marked_keeps m t.store x v j h)) (λ t e h. nests_left p a f bs m k apart dis w t h))
