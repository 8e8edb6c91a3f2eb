-- Statements leave the variables that they don't touch.
use Rattle.std.proofs.Common.{◌≡◌, ℕ, zero, suc, Bool, true, false, List, [], ◌∷◌, Option, Some, None, Result, Ok, Err, refl, ◌∙◌, subst}
use Rattle.std.specs.Prelude.{bytes_eq}
use Rattle.qbs_base.specs.declared.scalar.Row.{Row}
use Rattle.qbs_base.specs.Named.{at_name}
use Rattle.java_ast.specs.Tree as tree
use Rattle.java_ast.specs.Tree.{Expression, Statement, Statements, Nothing, Then}
use Rattle.java_mean.specs.declared.ending.Ending.{Ending}
use Rattle.java_mean.specs.declared.ending.Ending.TheVariants as endings
use Rattle.java_mean.specs.Endings.{◌>>=◌, found}
use Rattle.java_mean.specs.Expression.{value_of, as_scalar, as_rows, as_member, element}
use Rattle.java_mean.specs.Statement.{State, Passed, GoesOn, Leaves, Returns, Does, Test, done, then_do, then_turn, branch, fewer, turn, with_variable, each, repeat, test_of, returned, meaning, meanings}
use Rattle.java_mean.specs.Store.{Store, Variable, put, plainly}
use Rattle.java_mean.specs.World.{World}
use Rattle.java_mean.proofs.Puts.{put_other}
use Rattle.java_loops.specs.Walks.Reads.{touches, all_touch}
use Rattle.java_loops.proofs.Walks.Truth.{or_false}

-- wherever it passes the variable is this
abbrev Stays : List ℕ → Option Variable → Result Passed Ending → Type 0
Stays y o (Ok (GoesOn t)) = at_name t.store y ≡ o
Stays y o (Ok (Leaves t)) = at_name t.store y ≡ o
Stays y o (Ok (Returns t v)) = at_name t.store y ≡ o
Stays y o (Err e) = Unit {0}

stays_bind : {A : Type 0} (y : List ℕ) (o : Option Variable) (r : Result A Ending) (f : A → Result Passed Ending) → ((x : A) → Stays y o (f x)) → Stays y o (r >>= f)
stays_bind y o (Ok x) f h = h x
stays_bind y o (Err e) f h = tt

stays_then : (y : List ℕ) (o : Option Variable) (r : Result Passed Ending) (f : Does) → Stays y o r → ((t : State) → at_name t.store y ≡ o → Stays y o (f t)) → Stays y o (then_do r f)
stays_then y o (Ok (GoesOn t)) f h k = k t h
stays_then y o (Ok (Leaves t)) f h k = h
stays_then y o (Ok (Returns t v)) f h k = h
stays_then y o (Err e) f h k = tt

stays_turn : (y : List ℕ) (o : Option Variable) (r : Result Passed Ending) (f : Does) → Stays y o r → ((t : State) → at_name t.store y ≡ o → Stays y o (f t)) → Stays y o (then_turn r f)
stays_turn y o (Ok (GoesOn t)) f h k = k t h
stays_turn y o (Ok (Leaves t)) f h k = h
stays_turn y o (Ok (Returns t v)) f h k = h
stays_turn y o (Err e) f h k = tt

stays_branch : (y : List ℕ) (o : Option Variable) (b : Bool) (f g : Does) (s : State) → Stays y o (f s) → Stays y o (g s) → Stays y o (branch b f g s)
stays_branch y o true f g s h k = h
stays_branch y o false f g s h k = k

stays_fewer : (y : List ℕ) (o : Option Variable) (n : ℕ) (s : Store) (l : List (List ℕ)) (f : Does) → ((p : ℕ) → Stays y o (f (record { store = s; lines = l; turns = p }))) → Stays y o (fewer n s l >>= f)
stays_fewer y o zero s l f h = tt
stays_fewer y o (suc n) s l f h = h n

stays_put : (y x : List ℕ) (o : Option Variable) (s : State) (v : Variable) → bytes_eq x y ≡ false → at_name s.store y ≡ o → at_name (put s.store x v) y ≡ o
stays_put y x o s v n e = put_other s.store x y v n ∙ e

-- it stays wherever it is
abbrev Keeps : List ℕ → Option Variable → Does → Type 0
Keeps y o f = (s : State) → at_name s.store y ≡ o → Stays y o (f s)

each_keeps : (y : List ℕ) (o : Option Variable) (x : List ℕ) (g : Does) → bytes_eq x y ≡ false → Keeps y o g → (rows : List Row) → Keeps y o (each rows x g)
each_keeps y o x g n k [] s e = e
each_keeps y o x g n k (row ∷ rows) s e =
    stays_fewer y o s.turns s.store s.lines (λ u. then_turn (g (with_variable u x (plainly (element row)))) (each rows x g)) (λ p. (
    let u : State = with_variable (record { store = s.store; lines = s.lines; turns = p }) x (plainly (element row)) in
    stays_turn y o (g u) (each rows x g) (k u (stays_put y x o s (plainly (element row)) n e)) (each_keeps y o x g n k rows)))

repeat_keeps : (y : List ℕ) (o : Option Variable) (test : Test) (g : Does) → Keeps y o g → (n : ℕ) → Keeps y o (repeat n test g)
repeat_keeps y o test g k zero s e = stays_bind y o (test s.store) (λ b. branch b (λ t. Err endings.OutOfTurns) done s) (λ b. stays_branch y o b (λ t. Err endings.OutOfTurns) done s tt e)
repeat_keeps y o test g k (suc n) s e =
    let one : Does = λ t. turn t >>= λ u. then_turn (g u) (repeat n test g) in
    stays_bind y o (test s.store) (λ b. branch b one done s) (λ b. stays_branch y o b one done s (stays_fewer y o s.turns s.store s.lines (λ u. then_turn (g u) (repeat n test g)) (λ p. (
    let u : State = record { store = s.store; lines = s.lines; turns = p } in
    stays_turn y o (g u) (repeat n test g) (k u e) (repeat_keeps y o test g k n)))) e)

returned_keeps : (y : List ℕ) (o : Option Variable) (w : World) (e : Option Expression) → Keeps y o (returned e w)
returned_keeps y o w None s h = h
returned_keeps y o w (Some e) s h = stays_bind y o (value_of e w s.store) (λ v. Ok (Returns s (Some v))) (λ v. h)

mutual
  keeps_untouched : (a : Statement) (y : List ℕ) (o : Option Variable) (w : World) → touches a y ≡ false → Keeps y o (meaning a w)
  keeps_untouched (tree.Declare at ty x e) y o w n s h = stays_bind y o (value_of e w s.store) _ (λ v. stays_put y x o s _ n h)
  keeps_untouched (tree.Assign at x e) y o w n s h = stays_bind y o (value_of e w s.store) _ (λ v. stays_bind y o (found (at_name s.store x)) _ (λ held. stays_put y x o s _ n h))
  keeps_untouched (tree.Add at x e) y o w n s h = stays_bind y o (value_of e w s.store) _ (λ v. stays_bind y o (as_member v) _ (λ row. stays_bind y o (found (at_name s.store x)) _ (λ (held : Variable). stays_bind y o (as_rows held.value) _ (λ rows. stays_put y x o s _ n h))))
  keeps_untouched (tree.Sort at x keys down) y o w n s h = stays_bind y o (found (at_name s.store x)) _ (λ (held : Variable). stays_bind y o (as_rows held.value) _ (λ rows. stays_put y x o s _ n h))
  keeps_untouched (tree.If at c p) y o w n s h = stays_bind y o (test_of c w s.store) (λ b. branch b (meanings p w) done s) (λ b. stays_branch y o b (meanings p w) done s (all_keep_untouched p y o w n s h) h)
  keeps_untouched (tree.IfElse at c p q) y o w n s h =
      let k = or_false (all_touch p y) (all_touch q y) n in
      stays_bind y o (test_of c w s.store) (λ b. branch b (meanings p w) (meanings q w) s) (λ b. stays_branch y o b (meanings p w) (meanings q w) s (all_keep_untouched p y o w k.0 s h) (all_keep_untouched q y o w k.1 s h))
  keeps_untouched (tree.ForEach at ty x e b) y o w n s h =
      let k = or_false (bytes_eq x y) (all_touch b y) n in
      stays_bind y o (value_of e w s.store) (λ v. as_rows v >>= λ rows. each rows x (meanings b w) s) (λ v. stays_bind y o (as_rows v) (λ rows. each rows x (meanings b w) s) (λ rows. each_keeps y o x (meanings b w) k.0 (all_keep_untouched b y o w k.1) rows s h))
  keeps_untouched (tree.While at c b) y o w n s h = repeat_keeps y o (test_of c w) (meanings b w) (all_keep_untouched b y o w n) s.turns s h
  keeps_untouched (tree.Print at e) y o w n s h = stays_bind y o (value_of e w s.store) _ (λ v. stays_bind y o (as_scalar v) _ (λ x. h))
  keeps_untouched (tree.Return at e) y o w n s h = returned_keeps y o w e s h
  keeps_untouched (tree.Break at) y o w n s h = h

  all_keep_untouched : (p : Statements) (y : List ℕ) (o : Option Variable) (w : World) → all_touch p y ≡ false → Keeps y o (meanings p w)
  all_keep_untouched Nothing y o w n s h = h
  all_keep_untouched (Then a p) y o w n s h =
      let k = or_false (touches a y) (all_touch p y) n in
      stays_then y o (meaning a w s) (meanings p w) (keeps_untouched a y o w k.0 s h) (all_keep_untouched p y o w k.1)

pub untouched : (w : World) (a : Statement) (s t : State) (y : List ℕ) → touches a y ≡ false → meaning a w s ≡ Ok (GoesOn t) → at_name t.store y ≡ at_name s.store y
untouched w a s t y n e = subst (Stays y (at_name s.store y)) e (keeps_untouched a y (at_name s.store y) w n s refl)

pub all_untouched : (w : World) (p : Statements) (s t : State) (y : List ℕ) → all_touch p y ≡ false → meanings p w s ≡ Ok (GoesOn t) → at_name t.store y ≡ at_name s.store y
all_untouched w p s t y n e = subst (Stays y (at_name s.store y)) e (all_keep_untouched p y (at_name s.store y) w n s refl)
