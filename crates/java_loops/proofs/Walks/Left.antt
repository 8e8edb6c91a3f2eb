-- How what is owed of a run goes through the parts of a statement.
use Rattle.std.proofs.Common.{◌≡◌, ℕ, zero, suc, Bool, true, false, List, [], ◌∷◌, Option, Some, Result, Ok, Err, refl, sym, ap, ◌∙◌, cond, arith}
use Rattle.std.specs.Prelude.{bytes_eq}
use Rattle.std.proofs.lemmas.Bool.{cond-true, cond-false, or_right}
use Rattle.qbs_base.specs.declared.scalar.Row.{Row}
use Rattle.qbs_base.specs.declared.scalar.Value.{Value}
use Rattle.qbs_base.specs.declared.scalar.Value.TheVariants.{Many}
use Rattle.qbs_base.specs.Named.{at_name}
use Rattle.qbs_base.specs.declared.span.Span.{Span}
use Rattle.java_ast.specs.Tree.{Expression, Assign, Add}
use Rattle.java_mean.specs.declared.ending.Ending.{Ending}
use Rattle.java_mean.specs.Endings.{◌>>=◌, found}
use Rattle.java_mean.specs.Expression.{value_of, as_rows, as_member, element}
use Rattle.java_mean.specs.Statement.{State, Passed, GoesOn, Leaves, Returns, Does, done, then_turn, branch, fewer, with_variable, with_value, added, each, meaning}
use Rattle.java_mean.specs.Store.{Store, Variable, put, plainly}
use Rattle.java_mean.specs.World.{World}
use Rattle.java_mean.proofs.Alike.{put_at}
use Rattle.java_mean.proofs.Puts.{names_equal, name_same, put_other}
use Rattle.java_loops.specs.Walks.Effects.{assigned, with_rows, with_member, and_then, folded, effect}
use Rattle.java_loops.specs.Walks.Left.{Effect, Became, LeftWith, Left, Marked, LeftByRun}
use Rattle.java_loops.specs.Walks.Reads.{SameOn, Set, Reads}
use Rattle.java_loops.specs.Walks.Nests.{with_name, Apart, seen, Mark}
use Rattle.java_loops.proofs.Walks.Names.{apart_names, apart_other, same_put, same_held, same_end}
use Rattle.java_loops.proofs.Walks.SameReads.{reads_same, same_through}
use Rattle.java_loops.proofs.Walks.Unset.{and_keeps}

-- ---- States

pub left_same : (a f h : Set) (s : State) → LeftWith a f h (λ x env v. Some v) s s
left_same a f h s = record { value = λ x ax v e env same. record { value = v; is = refl; held = e }; fixed = record { by = λ x e. refl }; lines = refl; turns = omega arith }

-- another effect, that is the same from what the state has
pub left_equal : (a f h : Set) (g g' : Effect) (s t : State) → ((x : List ℕ) (v : Variable) (env : Store) → a x ≡ true → at_name s.store x ≡ Some v → SameOn h env s.store → g' x env v ≡ g x env v) → LeftWith a f h g s t → LeftWith a f h g' s t
left_equal a f h g g' s t k l = record {
  value = λ x ax v e env same. (let b : Became (g x env v) (at_name t.store x) = l.value x ax v e env same in record { value = b.value; is = k x v env ax e same ∙ b.is; held = b.held });
  fixed = l.fixed;
  lines = l.lines;
  turns = l.turns;
}

pub left_then : (a f : Set) (g g' : Effect) (s t u : State) → Left a f g s t → Left a f g' t u → Left a f (λ x env v. and_then (g x env v) (g' x env)) s u
left_then a f g g' s t u l r = record {
  value = λ x ax v e env same. (
      let b : Became (g x env v) (at_name t.store x) = l.value x ax v e env same in
      let c : Became (g' x env b.value) (at_name u.store x) = r.value x ax b.value b.held env (same_through f env s.store t.store same l.fixed) in
      record { value = c.value; is = and_keeps (g x env v) (g' x env) b.value (Some c.value) b.is c.is; held = c.held });
  fixed = same_through f s.store t.store u.store l.fixed r.fixed;
  lines = l.lines ∙ r.lines;
  turns = omega (arith, l.turns, r.turns);
}

-- what comes next makes nothing of what is left
pub left_stays : (a f h : Set) (g : Effect) (k : List ℕ → Store → Variable → Variable → Option Variable) (s t : State) → LeftWith a f h g s t → ((x : List ℕ) (env : Store) (v u : Variable) → at_name t.store x ≡ Some u → k x env v u ≡ Some u) → LeftWith a f h (λ x env v. and_then (g x env v) (k x env v)) s t
left_stays a f h g k s t l stay = record {
  value = λ x ax v e env same. (
      let b : Became (g x env v) (at_name t.store x) = l.value x ax v e env same in
      record { value = b.value; is = and_keeps (g x env v) (k x env v) b.value (Some b.value) b.is (stay x env v b.value b.held); held = b.held });
  fixed = l.fixed;
  lines = l.lines;
  turns = l.turns;
}

-- one variable is set
became_set : (g : Effect) (s : Store) (x y : List ℕ) (u v : Variable) (env : Store) (p : Bool) → bytes_eq x y ≡ p → at_name s y ≡ Some v → ((z : Variable) → at_name s x ≡ Some z → g x env z ≡ Some u) → ((z : List ℕ) → bytes_eq x z ≡ false → g z env v ≡ Some v) → Became (g y env v) (at_name (put s x u) y)
became_set g s x y u v env true e h k l =
    let q : x ≡ y = names_equal x y e in
    record { value = u; is = ap (λ z. g z env v) (sym q) ∙ k v (ap (at_name s) q ∙ h); held = put_at s x y u e }
became_set g s x y u v env false e h k l = record { value = v; is = l y e; held = put_other s x y u e ∙ h }

pub left_set : (a f : Set) (g : Effect) (s : State) (x : List ℕ) (u : Variable) → Apart a f → a x ≡ true → ((v : Variable) (env : Store) → at_name s.store x ≡ Some v → SameOn f env s.store → g x env v ≡ Some u) → ((y : List ℕ) (env : Store) (v : Variable) → bytes_eq x y ≡ false → g y env v ≡ Some v) → Left a f g s (with_variable s x u)
left_set a f g s x u apart ax at others = record {
  value = λ y ay v e env same. became_set g s.store x y u v env (bytes_eq x y) refl e (λ z q. at z env q same) (λ z q. others z env v q);
  fixed = record { by = λ y fy. sym (put_other s.store x y u (apart_other a x y ax (apart.by y fy))) };
  lines = refl;
  turns = omega arith;
}

-- ---- Runs

pub run_equal : (a f h : Set) (m : Option Mark) (g g' : Effect) (s : State) (r : Result Passed Ending) → ((x : List ℕ) (v : Variable) (env : Store) → a x ≡ true → at_name s.store x ≡ Some v → SameOn h env s.store → g' x env v ≡ g x env v) → LeftByRun a f h m g s r → LeftByRun a f h m g' s r
run_equal a f h m g g' s (Ok (GoesOn t)) k l = left_equal a f h g g' s t k l
run_equal a f h m g g' s (Ok (Leaves t)) k l = (left_equal a f h g g' s t k l.0, l.1)
run_equal a f h m g g' s (Ok (Returns t v)) k l = absurd l
run_equal a f h m g g' s (Err e) k l = tt

pub run_bind : {A : Type 0} (a f h : Set) (m : Option Mark) (g : Effect) (s : State) (o : Result A Ending) (k : A → Result Passed Ending) → ((x : A) → o ≡ Ok x → LeftByRun a f h m g s (k x)) → LeftByRun a f h m g s (o >>= k)
run_bind a f h m g s (Ok x) k i = i x refl
run_bind a f h m g s (Err e) k i = tt

pub run_branch : (a f h : Set) (m : Option Mark) (g g' : Effect) (s : State) (b : Bool) (p q : Does) → LeftByRun a f h m g s (p s) → LeftByRun a f h m g' s (q s) → LeftByRun a f h m (λ x env v. cond b (g x env v) (g' x env v)) s (branch b p q s)
run_branch a f h m g g' s true p q l r = l
run_branch a f h m g g' s false p q l r = r

-- at the end of a block its flags are out of sight
left_end : (a f : Set) (g : Effect) (s t : State) → LeftWith a f (seen f []) g s t → Left a f g s t
left_end a f g s t l = record { value = λ x ax v e env same. l.value x ax v e env (same_end f env s.store same); fixed = l.fixed; lines = l.lines; turns = l.turns }

pub run_end : (a f : Set) (m : Option Mark) (g : Effect) (s : State) (r : Result Passed Ending) → LeftByRun a f (seen f []) m g s r → LeftByRun a f f m g s r
run_end a f m g s (Ok (GoesOn t)) l = left_end a f g s t l
run_end a f m g s (Ok (Leaves t)) l = (left_end a f g s t l.0, l.1)
run_end a f m g s (Ok (Returns t v)) l = absurd l
run_end a f m g s (Err e) l = tt

-- ---- Assignments and additions

-- what the store holds, twice
pub held_one : (o : Option Variable) (v u : Variable) → o ≡ Some v → found o ≡ Ok u → v ≡ u
held_one o v u e h = let k : found (Some v) ≡ Ok u = ap found (sym e) ∙ h in cc

assigned_at : (o : Result Value Ending) (u : Value) (v held : Variable) → o ≡ Ok u → v ≡ held → assigned o v ≡ Some (record { value = u; is_set = held.is_set })
assigned_at o u v held e h = ap (λ z. assigned z v) e ∙ ap (λ (z : Variable). Some (record { value = u; is_set = z.is_set })) h

with_member_at : (o : Result Row Ending) (row : Row) (rows : List Row) (v held : Variable) → o ≡ Ok row → v ≡ held → as_rows held.value ≡ Ok rows → with_member o v ≡ Some (record { value = Many (added held.is_set rows row); is_set = held.is_set })
with_member_at o row rows v held e h k = ap (λ z. with_member z v) e ∙ ap (λ (z : Variable). with_rows (as_rows z.value) row z) h ∙ ap (λ z. with_rows z row held) k

pub run_assign : (a f : Set) (m : Option Mark) (at : Span) (x : List ℕ) (e : Expression) (w : World) → Apart a f → a x ≡ true → Reads (with_name x f) e → (s : State) → LeftByRun a f f m (effect (Assign at x e) w) s (meaning (Assign at x e) w s)
run_assign a f m at x e w apart ax r s =
    let g : Effect = effect (Assign at x e) w in
    run_bind a f f m g s (value_of e w s.store) (λ u. found (at_name s.store x) >>= λ held. done (with_value s x held u)) (λ u p. run_bind a f f m g s (found (at_name s.store x)) (λ held. done (with_value s x held u)) (λ held q. left_set a f g s x (record { value = u; is_set = held.is_set }) apart ax (λ v env i same. (
    let is : value_of e w (put env x v) ≡ Ok u = reads_same e (with_name x f) w (put env x v) s.store r (same_held f env s.store x v same i) ∙ p in
    cond-true (bytes_eq x x) (assigned (value_of e w (put env x v)) v) (Some v) (name_same x) ∙ assigned_at (value_of e w (put env x v)) u v held is (held_one (at_name s.store x) v held i q))) (λ y env v ne. cond-false (bytes_eq x y) (assigned (value_of e w (put env y v)) v) (Some v) ne)))

pub run_add : (a f : Set) (m : Option Mark) (at : Span) (x : List ℕ) (e : Expression) (w : World) → Apart a f → a x ≡ true → Reads (with_name x f) e → (s : State) → LeftByRun a f f m (effect (Add at x e) w) s (meaning (Add at x e) w s)
run_add a f m at x e w apart ax r s =
    let g : Effect = effect (Add at x e) w in
    run_bind a f f m g s (value_of e w s.store) (λ u. as_member u >>= λ row. found (at_name s.store x) >>= λ held. as_rows held.value >>= λ rows. done (with_value s x held (Many (added held.is_set rows row)))) (λ u p. run_bind a f f m g s (as_member u) (λ row. found (at_name s.store x) >>= λ held. as_rows held.value >>= λ rows. done (with_value s x held (Many (added held.is_set rows row)))) (λ row j. run_bind a f f m g s (found (at_name s.store x)) (λ held. as_rows held.value >>= λ rows. done (with_value s x held (Many (added held.is_set rows row)))) (λ held q. run_bind a f f m g s (as_rows held.value) (λ rows. done (with_value s x held (Many (added held.is_set rows row)))) (λ rows k. left_set a f g s x (record { value = Many (added held.is_set rows row); is_set = held.is_set }) apart ax (λ v env i same. (
    let is : (value_of e w (put env x v) >>= as_member) ≡ Ok row = ap (λ o. o >>= as_member) (reads_same e (with_name x f) w (put env x v) s.store r (same_held f env s.store x v same i) ∙ p) ∙ j in
    cond-true (bytes_eq x x) (with_member (value_of e w (put env x v) >>= as_member) v) (Some v) (name_same x) ∙ with_member_at (value_of e w (put env x v) >>= as_member) row rows v held is (held_one (at_name s.store x) v held i q) k)) (λ y env v ne. cond-false (bytes_eq x y) (with_member (value_of e w (put env y v) >>= as_member) v) (Some v) ne)))))

-- ---- Loops

left_body : (a f : Set) (g : Effect) (st : Store) (l : List (List ℕ)) (n m : ℕ) (x : List ℕ) (v : Variable) (t : State) → n ≡ suc m → a x ≡ false → f x ≡ false → Left a (with_name x f) g (record { store = put st x v; lines = l; turns = m }) t → Left a f (λ y env u. g y (put env x v) u) (record { store = st; lines = l; turns = n }) t
left_body a f g st l n m x v t e ax fx h = record {
  value = λ y ay u q env same. h.value y ay u (put_other st x y v (apart_names a x y ax ay) ∙ q) (put env x v) (same_put f env st x v same);
  fixed = record { by = λ y fy. sym (put_other st x y v (apart_names f x y fx fy)) ∙ h.fixed.by y (or_right (bytes_eq x y) (f y) fy) };
  lines = h.lines;
  turns = omega (arith, h.turns);
}

run_body : (a f : Set) (m : Option Mark) (g : Effect) (st : Store) (l : List (List ℕ)) (n k : ℕ) (x : List ℕ) (v : Variable) (r : Result Passed Ending) → n ≡ suc k → a x ≡ false → f x ≡ false → LeftByRun a (with_name x f) (with_name x f) m g (record { store = put st x v; lines = l; turns = k }) r → LeftByRun a f f m (λ y env u. g y (put env x v) u) (record { store = st; lines = l; turns = n }) r
run_body a f m g st l n k x v (Ok (GoesOn t)) e ax fx h = left_body a f g st l n k x v t e ax fx h
run_body a f m g st l n k x v (Ok (Leaves t)) e ax fx h = (left_body a f g st l n k x v t e ax fx h.0, h.1)
run_body a f m g st l n k x v (Ok (Returns t u)) e ax fx h = absurd h
run_body a f m g st l n k x v (Err z) e ax fx h = tt

run_fewer : (a f : Set) (m : Option Mark) (g : Effect) (n : ℕ) (st : Store) (l : List (List ℕ)) (k : Does) → ((j : ℕ) → n ≡ suc j → LeftByRun a f f m g (record { store = st; lines = l; turns = n }) (k (record { store = st; lines = l; turns = j }))) → LeftByRun a f f m g (record { store = st; lines = l; turns = n }) (fewer n st l >>= k)
run_fewer a f m g zero st l k h = tt
run_fewer a f m g (suc j) st l k h = h j refl

run_after : (a f : Set) (m : Option Mark) (g g' : Effect) (s t : State) (r : Result Passed Ending) → Left a f g s t → LeftByRun a f f m g' t r → LeftByRun a f f m (λ x env v. and_then (g x env v) (g' x env)) s r
run_after a f m g g' s t (Ok (GoesOn u)) l r = left_then a f g g' s t u l r
run_after a f m g g' s t (Ok (Leaves u)) l r = (left_then a f g g' s t u l r.0, r.1)
run_after a f m g g' s t (Ok (Returns u v)) l r = absurd r
run_after a f m g g' s t (Err e) l r = tt

-- where the loop is left, its effect makes nothing of what was left
abbrev pub Stays : Option Mark → Effect → Type 0
Stays m g = (t : State) → Marked m t.store → (x : List ℕ) (env : Store) (v : Variable) → at_name t.store x ≡ Some v → g x env v ≡ Some v

run_turn : (a f : Set) (m inner : Option Mark) (g g' : Effect) (s : State) (o : Result Passed Ending) (k : Does) → LeftByRun a f f inner g s o → Stays inner g' → ((t : State) → LeftByRun a f f m g' t (k t)) → LeftByRun a f f m (λ x env v. and_then (g x env v) (g' x env)) s (then_turn o k)
run_turn a f m inner g g' s (Ok (GoesOn t)) k l stay h = run_after a f m g g' s t (k t) l (h t)
run_turn a f m inner g g' s (Ok (Leaves t)) k l stay h = left_stays a f f g (λ x env v. g' x env) s t l.0 (λ x env v u e. stay t l.1 x env u e)
run_turn a f m inner g g' s (Ok (Returns t v)) k l stay h = absurd l
run_turn a f m inner g g' s (Err e) k l stay h = tt

stays_folded : (m : Option Mark) (g : Effect) (x : List ℕ) (rows : List Row) → Stays m g → Stays m (λ z env v. folded rows (λ row. g z (put env x (plainly (element row)))) v)
stays_folded m g x [] stay t k z env v e = refl
stays_folded m g x (row ∷ rows) stay t k z env v e = and_keeps (g z (put env x (plainly (element row))) v) (folded rows (λ r. g z (put env x (plainly (element r))))) v (Some v) (stay t k z (put env x (plainly (element row))) v e) (stays_folded m g x rows stay t k z env v e)

-- A loop over rows makes of each accumulator what its body makes of it at each of them, whether it is left
-- before its end or not.
pub run_each : (a f : Set) (m inner : Option Mark) (g : Effect) (x : List ℕ) (b : Does) → a x ≡ false → f x ≡ false → Stays inner g → ((t : State) → LeftByRun a (with_name x f) (with_name x f) inner g t (b t)) → (rows : List Row) (s : State) → LeftByRun a f f m (λ z env v. folded rows (λ row. g z (put env x (plainly (element row)))) v) s (each rows x b s)
run_each a f m inner g x b ax fx stay h [] s = left_same a f f s
run_each a f m inner g x b ax fx stay h (row ∷ rows) s =
    let v : Variable = plainly (element row) in
    run_fewer a f m (λ z env u. folded (row ∷ rows) (λ r. g z (put env x (plainly (element r)))) u) s.turns s.store s.lines (λ t. then_turn (b (with_variable t x v)) (each rows x b)) (λ j e. run_turn a f m inner (λ z env u. g z (put env x v) u) (λ z env u. folded rows (λ r. g z (put env x (plainly (element r)))) u) s (b (record { store = put s.store x v; lines = s.lines; turns = j })) (each rows x b) (run_body a f inner g s.store s.lines s.turns j x v (b (record { store = put s.store x v; lines = s.lines; turns = j })) e ax fx (h (record { store = put s.store x v; lines = s.lines; turns = j }))) (stays_folded inner g x rows stay) (λ t. run_each a f m inner g x b ax fx stay h rows t))
