-- A statement and the rest of its block, where flags are declared: each flag has become what its own effect says.
use Rattle.std.proofs.Common.{◌≡◌, ℕ, Bool, true, false, ◌||◌, ◌&&◌, List, [], ◌∷◌, Option, Some, None, Result, Ok, Err, refl, sym, ap, ◌∙◌, arith}
use Rattle.std.specs.Prelude.{bytes_eq}
use Rattle.std.proofs.lemmas.Bool.{or_left, or_right, and_from, and_right}
use Rattle.qbs_base.specs.Named.{at_name}
use Rattle.java_ast.specs.Tree.{Statement}
use Rattle.java_mean.specs.declared.ending.Ending.{Ending}
use Rattle.java_mean.specs.Statement.{State, Passed, GoesOn, Leaves, Returns, Does, then_do, with_variable}
use Rattle.java_mean.specs.Store.{Store, Variable, put}
use Rattle.java_mean.proofs.Alike.{put_at}
use Rattle.java_mean.proofs.Puts.{names_equal, name_same, put_other}
use Rattle.java_loops.specs.Walks.Effects.{sets, and_then, put_flag, became, settled}
use Rattle.java_loops.specs.Walks.Left.{Effect, Became, LeftWith, LeftByRun, Have, Distinct}
use Rattle.java_loops.specs.Walks.Reads.{SameOn, Set}
use Rattle.java_loops.specs.Walks.Nests.{is_among, seen, set_here, accumulators_here, fixed_here, Mark}
use Rattle.java_loops.proofs.Walks.Names.{apart_names, same_here, left_flag, left_fixed, same_flag}
use Rattle.java_loops.proofs.Walks.Left.{left_stays, Stays}
use Rattle.java_loops.proofs.Walks.Unset.{and_keeps}

-- ---- The flags after a statement

put_flag_at : (b x : List ℕ) (o : Option Variable) (e t : Store) (p q : Bool) → bytes_eq b x ≡ p → Became o (at_name t b) → (q ≡ true → at_name e x ≡ at_name t x) → (p || q) ≡ true → at_name (put_flag b o e) x ≡ at_name t x
put_flag_at b x o e t true q i k h l = ap (λ z. at_name (put_flag b z e) x) k.is ∙ put_at e b x k.value i ∙ sym k.held ∙ ap (at_name t) (names_equal b x i)
put_flag_at b x o e t false q i k h l = ap (λ z. at_name (put_flag b z e) x) k.is ∙ put_other e b x k.value i ∙ h l

put_flag_other : (b x : List ℕ) (o : Option Variable) (e : Store) → bytes_eq b x ≡ false → at_name (put_flag b o e) x ≡ at_name e x
put_flag_other b x (Some v) e n = put_other e b x v n
put_flag_other b x None e n = refl

-- each flag is as in another store, if each has become what that has
pub settled_at : (bs : List (List ℕ)) (g : Effect) (env t : Store) → ((b : List ℕ) → is_among bs b ≡ true → Became (became (at_name env b) (g b env)) (at_name t b)) → (x : List ℕ) → is_among bs x ≡ true → at_name (settled bs g env) x ≡ at_name t x
settled_at [] g env t h x m = absurd cc
settled_at (b ∷ bs) g env t h x m = put_flag_at b x (became (at_name env b) (g b env)) (settled bs g env) t (bytes_eq b x) (is_among bs x) refl (h b (or_left (bytes_eq b b) (is_among bs b) (name_same b))) (settled_at bs g env t (λ y k. h y (or_right (bytes_eq b y) (is_among bs y) k)) x) m

-- what is no flag is as before
other_step : (b x : List ℕ) (o : Option Variable) (e : Store) (r : Option Variable) (p q : Bool) → bytes_eq b x ≡ p → (q ≡ false → at_name e x ≡ r) → (p || q) ≡ false → at_name (put_flag b o e) x ≡ r
other_step b x o e r true q i h l = absurd cc
other_step b x o e r false q i h l = put_flag_other b x o e i ∙ h l

pub settled_other : (bs : List (List ℕ)) (g : Effect) (env : Store) (x : List ℕ) → is_among bs x ≡ false → at_name (settled bs g env) x ≡ at_name env x
settled_other [] g env x m = refl
settled_other (b ∷ bs) g env x m = other_step b x (became (at_name env b) (g b env)) (settled bs g env) (at_name env x) (bytes_eq b x) (is_among bs x) refl (settled_other bs g env x) m

-- ---- One statement of a block

-- a statement makes nothing of what it doesn't set
abbrev pub Unset : Statement → Effect → Type 0
Unset d g = (x : List ℕ) (env : Store) (v : Variable) → sets d x ≡ false → g x env v ≡ Some v

module _ (a f : Set) (bs : List (List ℕ)) (d : Statement) (g : Effect) (none : Unset d g) (s t : State) (distinct : Distinct f bs) (have : Have bs s.store) (l : LeftWith (accumulators_here a bs d) (fixed_here f bs d) (fixed_here f bs d) g s t) where
  -- a flag that the statement sets, and one that it leaves
  flag_step : (env : Store) (x : List ℕ) (v : Variable) (p : Bool) → sets d x ≡ p → SameOn (seen f bs) env s.store → is_among bs x ≡ true → at_name s.store x ≡ Some v → Became (g x env v) (at_name t.store x)
  flag_step env x v true q same m h = l.value x (or_right (a x) (set_here bs d x) (and_from (is_among bs x) (sets d x) m q)) v h env (same_here f bs d env s.store same)
  flag_step env x v false q same m h = record { value = v; is = none x env v q; held = sym (l.fixed.by x (left_flag f bs d x (or_right (f x) (is_among bs x) m) (and_right (is_among bs x) (sets d x) q))) ∙ h }

  flag_became : (env : Store) (x : List ℕ) → SameOn (seen f bs) env s.store → is_among bs x ≡ true → Became (became (at_name env x) (g x env)) (at_name t.store x)
  flag_became env x same m =
      let v = have.by x m in
      let k : Became (g x env v.0) (at_name t.store x) = flag_step env x v.0 (sets d x) refl same m v.1 in
      record { value = k.value; is = ap (λ o. became o (g x env)) (same.by x (or_right (f x) (is_among bs x) m) ∙ v.1) ∙ k.is; held = k.held }

  -- the block's flags and what is fixed are as after the statement
  settled_step : (env : Store) (x : List ℕ) (p : Bool) → is_among bs x ≡ p → SameOn (seen f bs) env s.store → seen f bs x ≡ true → at_name (settled bs g env) x ≡ at_name t.store x
  settled_step env x true q same e = settled_at bs g env t.store (λ y m. flag_became env y same m) x q
  settled_step env x false q same e = settled_other bs g env x q ∙ same.by x e ∙ l.fixed.by x (left_flag f bs d x e (ap (λ z. z && sets d x) q))

  pub settled_same : (env : Store) → SameOn (seen f bs) env s.store → SameOn (seen f bs) (settled bs g env) t.store
  settled_same env same = record { by = λ x e. settled_step env x (is_among bs x) refl same e }

  pub have_after : Have bs t.store
  have_after = record { by = λ x m. (let k : Became (became (at_name s.store x) (g x s.store)) (at_name t.store x) = flag_became s.store x (record { by = λ y e. refl }) m in (k.value, k.held)) }

  -- the accumulators of the block
  pub left_block : LeftWith a f (seen f bs) g s t
  left_block = record {
    value = λ x ax v h env same. l.value x (or_left (a x) (set_here bs d x) ax) v h env (same_here f bs d env s.store same);
    fixed = record { by = λ x e. l.fixed.by x (left_fixed f bs d x distinct e) };
    lines = l.lines;
    turns = l.turns;
  }

  pub left_flags : (k : Effect) (z : State) → LeftWith a f (seen f bs) k t z → LeftWith a f (seen f bs) (λ x env v. and_then (g x env v) (k x (settled bs g env))) s z
  left_flags k z r = record {
    value = λ x ax v h env same. (
        let b : Became (g x env v) (at_name t.store x) = left_block.value x ax v h env same in
        let c : Became (k x (settled bs g env) b.value) (at_name z.store x) = r.value x ax b.value b.held (settled bs g env) (settled_same env same) in
        record { value = c.value; is = and_keeps (g x env v) (k x (settled bs g env)) b.value (Some c.value) b.is c.is; held = c.held });
    fixed = record { by = λ x e. l.fixed.by x (left_fixed f bs d x distinct e) ∙ r.fixed.by x e };
    lines = l.lines ∙ r.lines;
    turns = omega (arith, l.turns, r.turns);
  }

  run_flags : (m : Option Mark) (k : Effect) (r : Result Passed Ending) → LeftByRun a f (seen f bs) m k t r → LeftByRun a f (seen f bs) m (λ x env v. and_then (g x env v) (k x (settled bs g env))) s r
  run_flags m k (Ok (GoesOn z)) r = left_flags k z r
  run_flags m k (Ok (Leaves z)) r = (left_flags k z r.0, r.1)
  run_flags m k (Ok (Returns z v)) r = absurd r
  run_flags m k (Err e) r = tt

-- a statement and the rest of the block
pub run_then : (a f : Set) (bs : List (List ℕ)) (m : Option Mark) (d : Statement) (g k : Effect) (s : State) (o : Result Passed Ending) (j : Does) → Unset d g → Distinct f bs → Have bs s.store → LeftByRun (accumulators_here a bs d) (fixed_here f bs d) (fixed_here f bs d) m g s o → Stays m k → ((t : State) → o ≡ Ok (GoesOn t) → Have bs t.store → LeftByRun a f (seen f bs) m k t (j t)) → LeftByRun a f (seen f bs) m (λ x env v. and_then (g x env v) (k x (settled bs g env))) s (then_do o j)
run_then a f bs m d g k s (Ok (GoesOn t)) j none dis have l stay h = run_flags a f bs d g none s t dis have l m k (j t) (h t refl (have_after a f bs d g none s t dis have l))
run_then a f bs m d g k s (Ok (Leaves t)) j none dis have l stay h = (left_stays a f (seen f bs) g (λ x env v. k x (settled bs g env)) s t (left_block a f bs d g none s t dis have l.0) (λ x env v u e. stay t l.1 x (settled bs g env) u e), l.1)
run_then a f bs m d g k s (Ok (Returns t v)) j none dis have l stay h = absurd l
run_then a f bs m d g k s (Err e) j none dis have l stay h = tt

-- ---- A flag is declared

left_declared : (a f : Set) (bs : List (List ℕ)) (b : List ℕ) (u : Variable) (k : Effect) (s t : State) → a b ≡ false → f b ≡ false → LeftWith a f (seen f (b ∷ bs)) k (with_variable s b u) t → LeftWith a f (seen f bs) (λ x env v. k x (put env b u) v) s t
left_declared a f bs b u k s t ab fb l = record {
  value = λ x ax v h env same. l.value x ax v (put_other s.store b x u (apart_names a b x ab ax) ∙ h) (put env b u) (same_flag f bs env s.store b u same);
  fixed = record { by = λ x e. sym (put_other s.store b x u (apart_names f b x fb e)) ∙ l.fixed.by x e };
  lines = l.lines;
  turns = l.turns;
}

pub run_declared : (a f : Set) (bs : List (List ℕ)) (m : Option Mark) (b : List ℕ) (u : Variable) (k : Effect) (s : State) (r : Result Passed Ending) → a b ≡ false → f b ≡ false → LeftByRun a f (seen f (b ∷ bs)) m k (with_variable s b u) r → LeftByRun a f (seen f bs) m (λ x env v. k x (put env b u) v) s r
run_declared a f bs m b u k s (Ok (GoesOn t)) ab fb l = left_declared a f bs b u k s t ab fb l
run_declared a f bs m b u k s (Ok (Leaves t)) ab fb l = (left_declared a f bs b u k s t ab fb l.0, l.1)
run_declared a f bs m b u k s (Ok (Returns t v)) ab fb l = absurd l
run_declared a f bs m b u k s (Err e) ab fb l = tt
