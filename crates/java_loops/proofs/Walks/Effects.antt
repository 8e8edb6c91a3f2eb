-- An effect depends on nothing but the variable's value and what the nest leaves as it is.
use Rattle.std.proofs.Common.{◌≡◌, ℕ, Bool, true, false, ◌||◌, List, [], ◌∷◌, Option, Some, None, refl, sym, ap, ◌∙◌, subst, cond}
use Rattle.std.specs.Prelude.{bytes_eq}
use Rattle.std.proofs.lemmas.Bool.{or_left, or_right, and_from}
use Rattle.qbs_base.specs.declared.scalar.Row.{Row}
use Rattle.qbs_base.specs.declared.scalar.Value.TheVariants.{One}
use Rattle.qbs_base.specs.Named.{at_name}
use Rattle.java_ast.specs.Tree.{Expression, Statement, Statements}
use Rattle.java_mean.specs.Endings.{◌>>=◌}
use Rattle.java_mean.specs.Expression.{value_of, as_rows, as_member, element}
use Rattle.java_mean.specs.Statement.{is_set_type}
use Rattle.java_mean.specs.Store.{Store, Variable, put, plainly}
use Rattle.java_mean.specs.World.{World}
use Rattle.java_mean.proofs.Alike.{put_at}
use Rattle.java_mean.proofs.Puts.{names_equal, name_same, put_other}
use Rattle.java_loops.specs.Walks.Effects.{sets, all_set, truth_in, rows_in, truth_at, rows_at, assigned, with_member, and_then, folded, put_flag, became, settled, effect, effects}
use Rattle.java_loops.specs.Walks.Left.{Effect}
use Rattle.java_loops.specs.Walks.Reads.{SameOn, Set, Reads}
use Rattle.java_loops.specs.Walks.Nests.{with_name, is_among, Guards, seen, set_here, accumulators_here, fixed_here, Mark, IsNest, assign, add, when, choose, for_each, AreNest, nothing, declare, leave, next}
use Rattle.java_loops.proofs.Walks.Names.{same_put, same_left, same_end, same_here, same_flag}
use Rattle.java_loops.proofs.Walks.SameReads.{reads_same, test_reads_same}
use Rattle.java_loops.proofs.Walks.Unset.{steps, unset}

-- ---- Ways of putting effects together

cond_on : (b : Bool) (o p n : Option Variable) → (b ≡ true → o ≡ p) → cond b o n ≡ cond b p n
cond_on true o p n h = h refl
cond_on false o p n h = refl

tests_on : (b c : Bool) (o p n k : Option Variable) → b ≡ c → o ≡ p → n ≡ k → cond b o n ≡ cond c p k
tests_on b c o p n k e h i = ap (λ z. cond z o n) e ∙ ap (λ z. cond c z n) h ∙ ap (cond c p) i

and_on : (o : Option Variable) (g k : Variable → Option Variable) → ((u : Variable) → g u ≡ k u) → and_then o g ≡ and_then o k
and_on (Some v) g k h = h v
and_on None g k h = refl

became_on : (o : Option Variable) (g k : Variable → Option Variable) → ((u : Variable) → g u ≡ k u) → became o g ≡ became o k
became_on (Some v) g k h = h v
became_on None g k h = refl

folded_on : (rows : List Row) (f g : Row → Variable → Option Variable) (v : Variable) → ((row : Row) (u : Variable) → f row u ≡ g row u) → folded rows f v ≡ folded rows g v
folded_on [] f g v h = refl
folded_on (row ∷ rows) f g v h = ap (λ o. and_then o (folded rows f)) (h row v) ∙ and_on (g row v) (folded rows f) (folded rows g) (λ u. folded_on rows f g u h)

either_way : {P : Type 0} (b : Bool) → (b ≡ true → P) → (b ≡ false → P) → P
either_way true h k = h refl
either_way false h k = k refl

-- ---- Flags

put_on : (b x : List ℕ) (v : Variable) (e e' : Store) (p : Bool) → bytes_eq b x ≡ p → at_name e x ≡ at_name e' x → at_name (put e b v) x ≡ at_name (put e' b v) x
put_on b x v e e' true q h = put_at e b x v q ∙ sym (put_at e' b x v q)
put_on b x v e e' false q h = put_other e b x v q ∙ h ∙ sym (put_other e' b x v q)

put_flag_on : (b x : List ℕ) (o : Option Variable) (e e' : Store) → at_name e x ≡ at_name e' x → at_name (put_flag b o e) x ≡ at_name (put_flag b o e') x
put_flag_on b x (Some v) e e' h = put_on b x v e e' (bytes_eq b x) refl h
put_flag_on b x None e e' h = h

settled_step : (bs : List (List ℕ)) (g : Effect) (env env' : Store) → ((b : List ℕ) → is_among bs b ≡ true → became (at_name env b) (g b env) ≡ became (at_name env' b) (g b env')) → (x : List ℕ) → at_name env x ≡ at_name env' x → at_name (settled bs g env) x ≡ at_name (settled bs g env') x
settled_step [] g env env' h x e = e
settled_step (b ∷ bs) g env env' h x e =
    ap (λ o. at_name (put_flag b o (settled bs g env)) x) (h b (or_left (bytes_eq b b) (is_among bs b) (name_same b)))
    ∙ put_flag_on b x (became (at_name env' b) (g b env')) (settled bs g env) (settled bs g env') (settled_step bs g env env' (λ y m. h y (or_right (bytes_eq b y) (is_among bs y) m)) x e)

settled_on : (f : Set) (bs : List (List ℕ)) (g : Effect) (env env' : Store) → SameOn (seen f bs) env env' → ((b : List ℕ) (u : Variable) → is_among bs b ≡ true → g b env u ≡ g b env' u) → SameOn (seen f bs) (settled bs g env) (settled bs g env')
settled_on f bs g env env' same h = record { by = λ x e. settled_step bs g env env' (λ b m. ap (λ o. became o (g b env)) (same.by b (or_right (f b) (is_among bs b) m)) ∙ became_on (at_name env' b) (g b env) (g b env') (λ u. h b u m)) x (same.by x e) }

-- ---- Statements

update_on : (f : Set) (y x : List ℕ) (e : Expression) (w : World) (env env' : Store) (v : Variable) → Reads (with_name y f) e → bytes_eq y x ≡ true → SameOn f env env' → value_of e w (put env x v) ≡ value_of e w (put env' x v)
update_on f y x e w env env' v r q same = reads_same e (with_name y f) w (put env x v) (put env' x v) r (subst (λ z. SameOn (with_name z f) (put env x v) (put env' x v)) (sym (names_equal y x q)) (same_put f env env' x v same))

truths_on : (d a f : Set) (c : Expression) (w : World) (x : List ℕ) (env env' : Store) (v : Variable) → Guards d a f c → a x ≡ true → d x ≡ true → SameOn f env env' → truth_at c w (put env x v) ≡ truth_at c w (put env' x v)
truths_on d a f c w x env env' v g ax dx same = ap truth_in (test_reads_same c (with_name x f) w (put env x v) (put env' x v) (g.by x ax dx) (same_put f env env' x v same))

mutual
  -- the effect on an accumulator is the same in stores that are the same on what is fixed
  pub effect_on : (p : Statement) (a f : Set) (m : Option Mark) → IsNest p a f m → (w : World) (x : List ℕ) → a x ≡ true → (env env' : Store) (v : Variable) → SameOn f env env' → effect p w x env v ≡ effect p w x env' v
  effect_on _ _ _ _ (assign a f m at y e ay r al) w x ax env env' v same = cond_on (bytes_eq y x) (assigned (value_of e w (put env x v)) v) (assigned (value_of e w (put env' x v)) v) (Some v) (λ q. ap (λ o. assigned o v) (update_on f y x e w env env' v r q same))
  effect_on _ _ _ _ (add a f at y e ay r) w x ax env env' v same = cond_on (bytes_eq y x) (with_member (value_of e w (put env x v) >>= as_member) v) (with_member (value_of e w (put env' x v) >>= as_member) v) (Some v) (λ q. ap (λ o. with_member (o >>= as_member) v) (update_on f y x e w env env' v r q same))
  effect_on _ _ _ _ (when a f m at c p g k) w x ax env env' v same = cond_on (all_set p x) (cond (truth_at c w (put env x v)) (effects p [] w x env v) (Some v)) (cond (truth_at c w (put env' x v)) (effects p [] w x env' v) (Some v)) (Some v) (λ q. tests_on (truth_at c w (put env x v)) (truth_at c w (put env' x v)) (effects p [] w x env v) (effects p [] w x env' v) (Some v) (Some v) (truths_on (all_set p) a f c w x env env' v g ax q same) (effects_on p a f [] m k w x ax env env' v (same_end f env env' same)) refl)
  effect_on _ _ _ _ (choose a f m at c p q g k l) w x ax env env' v same = cond_on (all_set p x || all_set q x) (cond (truth_at c w (put env x v)) (effects p [] w x env v) (effects q [] w x env v)) (cond (truth_at c w (put env' x v)) (effects p [] w x env' v) (effects q [] w x env' v)) (Some v) (λ i. tests_on (truth_at c w (put env x v)) (truth_at c w (put env' x v)) (effects p [] w x env v) (effects p [] w x env' v) (effects q [] w x env v) (effects q [] w x env' v) (truths_on (λ y. all_set p y || all_set q y) a f c w x env env' v g ax i same) (effects_on p a f [] m k w x ax env env' v (same_end f env env' same)) (effects_on q a f [] m l w x ax env env' v (same_end f env env' same)))
  effect_on _ _ _ _ (for_each a f m inner at ty y e b ay fy r i k) w x ax env env' v same =
      let each_row : Store → Row → Variable → Option Variable = λ store row. effects b [] w x (put store y (plainly (element row))) in
      cond_on (all_set b x) (folded (rows_at e w (put env x v)) (each_row env) v) (folded (rows_at e w (put env' x v)) (each_row env') v) (Some v) (λ q. ap (λ o. folded (rows_in (o >>= as_rows)) (each_row env) v) (reads_same e f w (put env x v) (put env' x v) r (same_left f x (put env x v) (put env' x v) (same_put f env env' x v same))) ∙ folded_on (rows_at e w (put env' x v)) (each_row env) (each_row env') v (λ row u. effects_on b a (with_name y f) [] inner k w x ax (put env y (plainly (element row))) (put env' y (plainly (element row))) u (same_end (with_name y f) (put env y (plainly (element row))) (put env' y (plainly (element row))) (same_put f env env' y (plainly (element row)) same))))

  pub effects_on : (p : Statements) (a f : Set) (bs : List (List ℕ)) (m : Option Mark) → AreNest p a f bs m → (w : World) (x : List ℕ) → a x ≡ true → (env env' : Store) (v : Variable) → SameOn (seen f bs) env env' → effects p bs w x env v ≡ effects p bs w x env' v
  effects_on _ _ _ _ _ (nothing a f bs m) w x ax env env' v same = refl
  effects_on _ _ _ _ _ (declare a f bs m at at' ty b c p ab fb k) w x ax env env' v same = effects_on p a f (b ∷ bs) m k w x ax (put env b (record { value = One c; is_set = is_set_type ty })) (put env' b (record { value = One c; is_set = is_set_type ty })) v (same_flag f bs env env' b (record { value = One c; is_set = is_set_type ty }) same)
  effects_on _ _ _ _ _ (leave a f bs at at' at'' y c ay) w x ax env env' v same = refl
  effects_on _ _ _ _ _ (next a f bs m d p i k) w x ax env env' v same =
      let g : Effect = effect d w in
      let here : SameOn (fixed_here f bs d) env env' = same_here f bs d env env' same in
      steps d (accumulators_here a bs d) (fixed_here f bs d) m i p bs w x env v
      ∙ ap (λ o. and_then o (effects p bs w x (settled bs g env))) (effect_on d (accumulators_here a bs d) (fixed_here f bs d) m i w x (or_left (a x) (set_here bs d x) ax) env env' v here)
      ∙ and_on (g x env' v) (effects p bs w x (settled bs g env)) (effects p bs w x (settled bs g env')) (λ u. effects_on p a f bs m k w x ax (settled bs g env) (settled bs g env') u (settled_on f bs g env env' same (λ b z mb. either_way (sets d b) (λ q. effect_on d (accumulators_here a bs d) (fixed_here f bs d) m i w b (or_right (a b) (set_here bs d b) (and_from (is_among bs b) (sets d b) mb q)) env env' z here) (λ q. unset d w b env z q ∙ sym (unset d w b env' z q)))))
      ∙ sym (steps d (accumulators_here a bs d) (fixed_here f bs d) m i p bs w x env' v)
