-- The kept statements of a run leave the same in the variables for whose sake they are kept.
use Rattle.std.proofs.Common.{◌≡◌, Bool, true, false, ◌&&◌, Ok, refl, sym, ap, ◌∙◌, cond}
use Rattle.qbs_base.specs.declared.scalar.Value.TheVariants.{Many}
use Rattle.qbs_base.specs.Named.{at_name}
use Rattle.qbs_base.specs.Sort.{stable_sort}
use Rattle.java_ast.specs.Tree as tree
use Rattle.java_ast.specs.Tree.{Statement, Statements, Nothing, Then}
use Rattle.java_mean.specs.Endings.{◌>>=◌, found}
use Rattle.java_mean.specs.Expression.{as_rows}
use Rattle.java_mean.specs.Statement.{State, GoesOn, in_order, is_set_type, meanings}
use Rattle.java_mean.specs.Store.{Store, Variable, put}
use Rattle.java_mean.specs.World.{World}
use Rattle.java_loops.specs.Walks.Reads.{Set, SameOn}
use Rattle.loop_text.specs.Statements.Fragment.{is_simple, are_simple, set_by}
use Rattle.java_loops.specs.Walks.Runs.{made, ran, kept, StepReads, KeptRead, KeptPasses}
use Rattle.java_loops.proofs.Walks.SameReads.{same_self, same_back, reads_same, same_put, put_outside}
use Rattle.java_loops.proofs.Walks.Passing.{Went, went, goes, same_ok, with_store, run_store, run_lines, run_goes}
use Rattle.java_loops.proofs.Walks.Truth.{and_true}

made_same : (a : Statement) (r : Set) (w : World) (s t : Store) → StepReads r a → r (set_by a) ≡ true → SameOn r s t → made a w s ≡ made a w t
made_same (tree.Declare at ty x e) r w s t h i a = ap (λ o. o >>= λ v. Ok (record { value = v; is_set = is_set_type ty })) (reads_same e r w s t h a)
made_same (tree.Assign at x e) r w s t h i a = simp (reads_same e r w s t h a, a.by x i)
made_same (tree.Sort at x keys down) r w s t h i a = ap (λ o. found o >>= λ (held : Variable). as_rows held.value >>= λ rows. Ok (record { value = Many (stable_sort (in_order w.schema keys down) rows); is_set = held.is_set })) (a.by x i)
made_same (tree.Add at x e) r w s t h i a = refl
made_same (tree.If at c p) r w s t h i a = refl
made_same (tree.IfElse at c p q) r w s t h i a = refl
made_same (tree.ForEach at ty x e b) r w s t h i a = refl
made_same (tree.While at c b) r w s t h i a = refl
made_same (tree.Print at e) r w s t h i a = refl
made_same (tree.Return at e) r w s t h i a = refl
made_same (tree.Break at) r w s t h i a = refl

-- the kept statements leave the same of the set
record RanSame (w : World) (r : Set) (p : Statements) (t u : Store) : Type 0 where
  store : Store
  is : ran p w t ≡ Ok store
  same : SameOn r u store

kept_step : (w : World) (r : Set) (a : Statement) (p q : Statements) (s t u : Store) (b : Bool) → r (set_by a) ≡ b → (r (set_by a) ≡ true → StepReads r a) → SameOn r s t → ((s' t' : Store) → SameOn r s' t' → ran p w s' ≡ Ok u → RanSame w r q t' u) → ran (Then a p) w s ≡ Ok u → RanSame w r (cond b (Then a q) q) t u
kept_step w r a p q s t u true e h same ih run =
    let k : Went (made a w s) (λ v. ran p w (put s (set_by a) v)) u = went (made a w s) (λ v. ran p w (put s (set_by a) v)) u run in
    let m : RanSame w r q (put t (set_by a) k.value) u = ih (put s (set_by a) k.value) (put t (set_by a) k.value) (same_put r s t (set_by a) k.value same) k.rest in
    record { store = m.store; is = goes (made a w t) (λ v. ran q w (put t (set_by a) v)) k.value m.store (sym (made_same a r w s t (h e) e same) ∙ k.first) m.is; same = m.same }
kept_step w r a p q s t u false e h same ih run =
    let k : Went (made a w s) (λ v. ran p w (put s (set_by a) v)) u = went (made a w s) (λ v. ran p w (put s (set_by a) v)) u run in
    ih (put s (set_by a) k.value) t (put_outside r s t (set_by a) k.value e same) k.rest

same_end : (w : World) (r : Set) (s t u : Store) → SameOn r s t → ran Nothing w s ≡ Ok u → RanSame w r Nothing t u
same_end w r s t u same e = record { store = t; is = refl; same = record { by = λ x i. (let q : u ≡ s = same_ok (ran Nothing w s) u s e refl in ap (λ z. at_name z x) q ∙ same.by x i) } }

kept_ran : (p : Statements) (w : World) (r : Set) (s t u : Store) → KeptRead r p → SameOn r s t → ran p w s ≡ Ok u → RanSame w r (kept r p) t u
kept_ran Nothing w r s t u h same run = same_end w r s t u same run
kept_ran (Then a p) w r s t u h same run = kept_step w r a p (kept r p) s t u (r (set_by a)) refl h.0 same (λ s' t' same' run'. kept_ran p w r s' t' u h.1 same' run') run

simple_step : (a : Statement) (p : Statements) (b : Bool) → is_simple a ≡ true → are_simple p ≡ true → are_simple (cond b (Then a p) p) ≡ true
simple_step a p true h k = ap (λ b. b && are_simple p) h ∙ k
simple_step a p false h k = k

pub kept_simple : (p : Statements) (r : Set) → are_simple p ≡ true → are_simple (kept r p) ≡ true
kept_simple Nothing r h = refl
kept_simple (Then a p) r h =
    let k = and_true (is_simple a) (are_simple p) h in
    simple_step a (kept r p) (r (set_by a)) k.0 (kept_simple p r k.1)

pub kept_passes : (w : World) (r : Set) (p : Statements) (s t : State) → are_simple p ≡ true → KeptRead r p → meanings p w s ≡ Ok (GoesOn t) → KeptPasses w r (kept r p) s t
kept_passes w r p s t h c e =
    let k : RanSame w r (kept r p) s.store t.store = kept_ran p w r s.store s.store t.store c (same_self r s.store) (run_store p w s t h e) in
    let l = run_lines p w s t h e in
    record { state = with_store s k.store; passes = run_goes (kept r p) w s k.store (kept_simple p r h) k.is; same = same_back r t.store k.store k.same; lines = sym l.0; turns = sym l.1 }
