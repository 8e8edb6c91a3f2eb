-- More turns change nothing of a run but one that had too few.
use Rattle.std.proofs.Common.{◌≡◌, ℕ, zero, suc, ◌+◌, ◌≤◌, Bool, true, false, List, [], ◌∷◌, Option, Some, None, Result, Ok, Err, refl, sym, ap, ◌∙◌, subst, arith}
use Rattle.qbs_base.specs.declared.span.Span.{Span}
use Rattle.qbs_base.specs.declared.scalar.Scalar.{Scalar}
use Rattle.qbs_base.specs.declared.scalar.Row.{Row}
use Rattle.qbs_base.specs.declared.scalar.Value.{Value}
use Rattle.qbs_base.specs.Named.{at_name}
use Rattle.java_ast.specs.Tree.{Expression, Statement, Declare, Assign, Add, Sort, If, IfElse, ForEach, While, Print, Return, Break, Statements, Nothing, Then, PlainMethod}
use Rattle.java_mean.specs.declared.ending.RunFault.{RunFault}
use Rattle.java_mean.specs.declared.ending.Ending.{Ending}
use Rattle.java_mean.specs.declared.ending.Ending.TheVariants as endings
use Rattle.java_mean.specs.Endings.{◌>>=◌, found}
use Rattle.java_mean.specs.Store.{Store, plainly}
use Rattle.java_mean.specs.World.{World}
use Rattle.java_mean.specs.Expression.{value_of, as_scalar, as_rows, as_member, element}
use Rattle.java_mean.specs.Statement.{State, Passed, GoesOn, Leaves, Returns, Does, Test, done, then_do, then_turn, branch, fewer, turn, with_variable, each, repeat, test_of, returned, meaning, meanings}
use Rattle.java_mean.specs.Outcome.{Done, Faulted, finished, start, outcome}

abbrev pub more : ℕ → State → State
more k s = record { store = s.store; lines = s.lines; turns = s.turns + k }

abbrev pub more_passed : ℕ → Passed → Passed
more_passed k (GoesOn s) = GoesOn (more k s)
more_passed k (Leaves s) = Leaves (more k s)
more_passed k (Returns s v) = Returns (more k s) v

-- what the run with more turns gives, where the first says so
abbrev pub More : ℕ → Result Passed Ending → Result Passed Ending → Type 0
More k (Ok p) q = q ≡ Ok (more_passed k p)
More k (Err (endings.Faulted f at)) q = q ≡ Err (endings.Faulted f at)
More k (Err endings.OutOfTurns) q = Unit {0}
More k (Err endings.Stuck) q = q ≡ Err endings.Stuck

more_bind : {A : Type 0} (k : ℕ) (o : Result A Ending) (f g : A → Result Passed Ending) → ((x : A) → More k (f x) (g x)) → More k (o >>= f) (o >>= g)
more_bind k (Ok x) f g h = h x
more_bind k (Err (endings.Faulted e at)) f g h = refl
more_bind k (Err endings.OutOfTurns) f g h = tt
more_bind k (Err endings.Stuck) f g h = refl

more_then : (k : ℕ) (r q : Result Passed Ending) (f g : Does) → More k r q → ((s : State) → More k (f s) (g (more k s))) → More k (then_do r f) (then_do q g)
more_then k (Ok (GoesOn s)) q f g e h = subst (λ x. More k (f s) (then_do x g)) (sym e) (h s)
more_then k (Ok (Leaves s)) q f g e h = ap (λ x. then_do x g) e
more_then k (Ok (Returns s v)) q f g e h = ap (λ x. then_do x g) e
more_then k (Err (endings.Faulted x at)) q f g e h = ap (λ x. then_do x g) e
more_then k (Err endings.OutOfTurns) q f g e h = tt
more_then k (Err endings.Stuck) q f g e h = ap (λ x. then_do x g) e

more_then_turn : (k : ℕ) (r q : Result Passed Ending) (f g : Does) → More k r q → ((s : State) → More k (f s) (g (more k s))) → More k (then_turn r f) (then_turn q g)
more_then_turn k (Ok (GoesOn s)) q f g e h = subst (λ x. More k (f s) (then_turn x g)) (sym e) (h s)
more_then_turn k (Ok (Leaves s)) q f g e h = ap (λ x. then_turn x g) e
more_then_turn k (Ok (Returns s v)) q f g e h = ap (λ x. then_turn x g) e
more_then_turn k (Err (endings.Faulted x at)) q f g e h = ap (λ x. then_turn x g) e
more_then_turn k (Err endings.OutOfTurns) q f g e h = tt
more_then_turn k (Err endings.Stuck) q f g e h = ap (λ x. then_turn x g) e

more_branch : (k : ℕ) (b : Bool) (f g f' g' : Does) (s t : State) → More k (f s) (f' t) → More k (g s) (g' t) → More k (branch b f g s) (branch b f' g' t)
more_branch k true f g f' g' s t h j = h
more_branch k false f g f' g' s t h j = j

more_fewer : (k n : ℕ) (store : Store) (lines : List (List ℕ)) (f g : Does) → ((t : State) → More k (f t) (g (more k t))) → More k (fewer n store lines >>= f) (fewer (n + k) store lines >>= g)
more_fewer k zero store lines f g h = tt
more_fewer k (suc n) store lines f g h =
    let e : suc (n + k) ≡ suc n + k = omega arith in
    let t : State = record { store = store; lines = lines; turns = n } in
    subst (λ z. More k (f t) (fewer z store lines >>= g)) e (h t)

-- what does the same with more turns
abbrev pub Same : ℕ → Does → Type 0
Same k f = (s : State) → More k (f s) (f (more k s))

more_turn : (k : ℕ) (s : State) (f g : Does) → ((t : State) → More k (f t) (g (more k t))) → More k (turn s >>= f) (turn (more k s) >>= g)
more_turn k s f g h = more_fewer k s.turns s.store s.lines f g h

each_same : (k : ℕ) (rows : List Row) (x : List ℕ) (body : Does) → Same k body → Same k (each rows x body)
each_same k [] x body h s = refl
each_same k (row ∷ rows) x body h s =
    more_turn k s (λ t. then_turn (body (with_variable t x (plainly (element row)))) (each rows x body)) (λ t. then_turn (body (with_variable t x (plainly (element row)))) (each rows x body)) (λ t. more_then_turn k (body (with_variable t x (plainly (element row)))) (body (with_variable (more k t) x (plainly (element row)))) (each rows x body) (each rows x body) (h (with_variable t x (plainly (element row)))) (each_same k rows x body h))

repeat_more : (k n m : ℕ) (test : Test) (body : Does) → n ≤ m → Same k body → (s : State) → More k (repeat n test body s) (repeat m test body (more k s))
repeat_more k zero zero test body le h s =
    more_bind k (test s.store) (λ b. branch b (λ t. Err endings.OutOfTurns) done s) (λ b. branch b (λ t. Err endings.OutOfTurns) done (more k s)) (λ b. more_branch k b (λ t. Err endings.OutOfTurns) done (λ t. Err endings.OutOfTurns) done s (more k s) tt refl)
repeat_more k zero (suc m) test body le h s =
    more_bind k (test s.store) (λ b. branch b (λ t. Err endings.OutOfTurns) done s) (λ b. branch b (λ t. turn t >>= λ u. then_turn (body u) (repeat m test body)) done (more k s)) (λ b. more_branch k b (λ t. Err endings.OutOfTurns) done (λ t. turn t >>= λ u. then_turn (body u) (repeat m test body)) done s (more k s) tt refl)
repeat_more k (suc n) zero test body le h s = absurd (omega arith)
repeat_more k (suc n) (suc m) test body le h s =
    more_bind k (test s.store) (λ b. branch b (λ t. turn t >>= λ u. then_turn (body u) (repeat n test body)) done s) (λ b. branch b (λ t. turn t >>= λ u. then_turn (body u) (repeat m test body)) done (more k s)) (λ b. more_branch k b (λ t. turn t >>= λ u. then_turn (body u) (repeat n test body)) done (λ t. turn t >>= λ u. then_turn (body u) (repeat m test body)) done s (more k s) (more_turn k s (λ u. then_turn (body u) (repeat n test body)) (λ u. then_turn (body u) (repeat m test body)) (λ t. more_then_turn k (body t) (body (more k t)) (repeat n test body) (repeat m test body) (h t) (repeat_more k n m test body (omega arith) h))) refl)

returned_same : (k : ℕ) (e : Option Expression) (w : World) → Same k (returned e w)
returned_same k None w s = refl
returned_same k (Some e) w s = more_bind k (value_of e w s.store) (λ v. Ok (Returns s (Some v))) (λ v. Ok (Returns (more k s) (Some v))) (λ v. refl)

mutual
  pub meaning_same : (k : ℕ) (a : Statement) (w : World) → Same k (meaning a w)
  meaning_same k (Declare at ty x e) w s = more_bind k (value_of e w s.store) _ _ (λ v. refl)
  meaning_same k (Assign at x e) w s = more_bind k (value_of e w s.store) _ _ (λ v. more_bind k (found (at_name s.store x)) _ _ (λ held. refl))
  meaning_same k (Add at x e) w s = more_bind k (value_of e w s.store) _ _ (λ v. more_bind k (as_member v) _ _ (λ row. more_bind k (found (at_name s.store x)) _ _ (λ held. more_bind k (as_rows held.value) _ _ (λ rows. refl))))
  meaning_same k (Sort at x keys down) w s = more_bind k (found (at_name s.store x)) _ _ (λ held. more_bind k (as_rows held.value) _ _ (λ rows. refl))
  meaning_same k (If at c a) w s = more_bind k (test_of c w s.store) _ _ (λ b. more_branch k b (meanings a w) done (meanings a w) done s (more k s) (meanings_same k a w s) refl)
  meaning_same k (IfElse at c a o) w s = more_bind k (test_of c w s.store) _ _ (λ b. more_branch k b (meanings a w) (meanings o w) (meanings a w) (meanings o w) s (more k s) (meanings_same k a w s) (meanings_same k o w s))
  meaning_same k (ForEach at ty x e body) w s = more_bind k (value_of e w s.store) _ _ (λ v. more_bind k (as_rows v) _ _ (λ rows. each_same k rows x (meanings body w) (meanings_same k body w) s))
  meaning_same k (While at c body) w s = repeat_more k s.turns (s.turns + k) (test_of c w) (meanings body w) (omega arith) (meanings_same k body w) s
  meaning_same k (Print at e) w s = more_bind k (value_of e w s.store) _ _ (λ v. more_bind k (as_scalar v) _ _ (λ x. refl))
  meaning_same k (Return at e) w s = returned_same k e w s
  meaning_same k (Break at) w s = refl

  pub meanings_same : (k : ℕ) (p : Statements) (w : World) → Same k (meanings p w)
  meanings_same k Nothing w s = refl
  meanings_same k (Then a p) w s = more_then k (meaning a w s) (meaning a w (more k s)) (meanings p w) (meanings p w) (meaning_same k a w s) (meanings_same k p w)

done_later : (k : ℕ) (r q : Result Passed Ending) (lines : List (List ℕ)) (v : Option Value) → More k r q → finished r ≡ Done lines v → finished q ≡ Done lines v
done_later k (Ok (GoesOn s)) q lines v h e = ap finished h ∙ e
done_later k (Ok (Leaves s)) q lines v h e = absurd cc
done_later k (Ok (Returns s u)) q lines v h e = ap finished h ∙ e
done_later k (Err (endings.Faulted f at)) q lines v h e = absurd cc
done_later k (Err endings.OutOfTurns) q lines v h e = absurd cc
done_later k (Err endings.Stuck) q lines v h e = absurd cc

faulted_later : (k : ℕ) (r q : Result Passed Ending) (f : RunFault) (at : Span) → More k r q → finished r ≡ Faulted f at → finished q ≡ Faulted f at
faulted_later k (Ok (GoesOn s)) q f at h e = absurd cc
faulted_later k (Ok (Leaves s)) q f at h e = absurd cc
faulted_later k (Ok (Returns s u)) q f at h e = absurd cc
faulted_later k (Err (endings.Faulted g at')) q f at h e = ap finished h ∙ e
faulted_later k (Err endings.OutOfTurns) q f at h e = absurd cc
faulted_later k (Err endings.Stuck) q f at h e = absurd cc

pub done_with_more : (w : World) (m : PlainMethod) (args : List Scalar) (n k : ℕ) (lines : List (List ℕ)) (v : Option Value) → outcome w m args n ≡ Done lines v → outcome w m args (n + k) ≡ Done lines v
done_with_more w m args n k lines v e = done_later k (meanings m.body w (start m args n)) (meanings m.body w (start m args (n + k))) lines v (meanings_same k m.body w (start m args n)) e

pub faulted_with_more : (w : World) (m : PlainMethod) (args : List Scalar) (n k : ℕ) (f : RunFault) (at : Span) → outcome w m args n ≡ Faulted f at → outcome w m args (n + k) ≡ Faulted f at
faulted_with_more w m args n k f at e = faulted_later k (meanings m.body w (start m args n)) (meanings m.body w (start m args (n + k))) f at (meanings_same k m.body w (start m args n)) e

-- whatever the turns, a method is done with one result
pub done_with_same : (w : World) (m : PlainMethod) (args : List Scalar) (n k : ℕ) (one other : List (List ℕ)) (v u : Option Value) → outcome w m args n ≡ Done one v → outcome w m args k ≡ Done other u → Done one v ≡ Done other u
done_with_same w m args n k one other v u e h =
    let swap : n + k ≡ k + n = omega arith in
    sym (done_with_more w m args n k one v e) ∙ ap (outcome w m args) swap ∙ done_with_more w m args k n other u h
