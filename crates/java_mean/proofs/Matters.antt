-- What statements at a place do matters only in the states in which the place is reached.
use Rattle.std.proofs.Common.{◌≡◌, ℕ, zero, suc, Bool, true, false, List, [], ◌∷◌, Result, Ok, Err, refl, sym, ap, ◌∙◌}
use Rattle.qbs_base.specs.declared.scalar.Row.{Row}
use Rattle.java_ast.specs.Tree.{Expression, Statements}
use Rattle.java_mean.specs.declared.ending.Ending.{Ending}
use Rattle.java_mean.specs.Endings.{◌>>=◌}
use Rattle.java_mean.specs.Expression.{value_of, as_rows, element}
use Rattle.java_mean.specs.Reaches.{Reaches, here, past, in_if, in_then, in_else, in_each, in_while, ReachesEach, in_this, in_later, ReachesTurn, in_next, in_further}
use Rattle.java_mean.specs.Refines.{Hole, Here, Past, InIf, InThen, InElse, InEach, InWhile, fill}
use Rattle.java_mean.specs.Statement.{State, Passed, GoesOn, Leaves, Returns, Does, done, then_do, then_turn, branch, turn, with_variable, each, repeat, test_of, meaning, meanings}
use Rattle.java_mean.specs.Store.{plainly}
use Rattle.java_mean.specs.World.{World}
use Rattle.java_mean.proofs.Replaced.{meanings_followed}

-- ---- Ways of putting runs together

bind_by : {A B : Type 0} (o : Result A Ending) (f g : A → Result B Ending) → ((x : A) → o ≡ Ok x → f x ≡ g x) → (o >>= f) ≡ (o >>= g)
bind_by (Ok x) f g h = h x refl
bind_by (Err e) f g h = refl

then_by : (o : Result Passed Ending) (f g : Does) → ((u : State) → o ≡ Ok (GoesOn u) → f u ≡ g u) → then_do o f ≡ then_do o g
then_by (Ok (GoesOn s)) f g h = h s refl
then_by (Ok (Leaves s)) f g h = refl
then_by (Ok (Returns s v)) f g h = refl
then_by (Err e) f g h = refl

turn_by : (o : Result Passed Ending) (f g : Does) → ((u : State) → o ≡ Ok (GoesOn u) → f u ≡ g u) → then_turn o f ≡ then_turn o g
turn_by (Ok (GoesOn s)) f g h = h s refl
turn_by (Ok (Leaves s)) f g h = refl
turn_by (Ok (Returns s v)) f g h = refl
turn_by (Err e) f g h = refl

test_by : (o : Result Bool Ending) (f f' g g' : Does) (s : State) → (o ≡ Ok true → f s ≡ f' s) → (o ≡ Ok false → g s ≡ g' s) → (o >>= λ b. branch b f g s) ≡ (o >>= λ b. branch b f' g' s)
test_by (Ok true) f f' g g' s h i = h refl
test_by (Ok false) f f' g g' s h i = i refl
test_by (Err e) f f' g g' s h i = refl

-- ---- Loops

-- both do the same in each state in which the place is reached from this one
abbrev Same : World → Statements → Statements → (State → Type 0) → Type 0
Same w p q reached = (t : State) → reached t → meanings p w t ≡ meanings q w t

abbrev Matters : World → Statements → Statements → Hole → Type 0
Matters w p q h = (s : State) → Same w p q (Reaches w p h s) → meanings (fill h p) w s ≡ meanings (fill h q) w s

each_matters : (w : World) (p q : Statements) (h : Hole) (x : List ℕ) → Matters w p q h → (rows : List Row) (s : State) → Same w p q (ReachesEach w p h x rows s) → each rows x (meanings (fill h p) w) s ≡ each rows x (meanings (fill h q) w) s
each_matters w p q h x m [] s f = refl
each_matters w p q h x m (row ∷ rows) s f =
    bind_by (turn s) (λ u. then_turn (meanings (fill h p) w (with_variable u x (plainly (element row)))) (each rows x (meanings (fill h p) w))) (λ u. then_turn (meanings (fill h q) w (with_variable u x (plainly (element row)))) (each rows x (meanings (fill h q) w))) (λ u t.
    turn_by (meanings (fill h p) w (with_variable u x (plainly (element row)))) (each rows x (meanings (fill h p) w)) (each rows x (meanings (fill h q) w)) (λ v i. each_matters w p q h x m rows v (λ z r. f z (in_later h x row rows s u v z t i r)))
    ∙ ap (λ o. then_turn o (each rows x (meanings (fill h q) w))) (m (with_variable u x (plainly (element row))) (λ z r. f z (in_this h x row rows s u z t r))))

repeat_matters : (w : World) (p q : Statements) (h : Hole) (e : Expression) → Matters w p q h → (n : ℕ) (s : State) → Same w p q (ReachesTurn w p h e s) → repeat n (test_of e w) (meanings (fill h p) w) s ≡ repeat n (test_of e w) (meanings (fill h q) w) s
repeat_matters w p q h e m zero s f = refl
repeat_matters w p q h e m (suc n) s f =
    test_by (test_of e w s.store) (λ t. turn t >>= λ u. then_turn (meanings (fill h p) w u) (repeat n (test_of e w) (meanings (fill h p) w))) (λ t. turn t >>= λ u. then_turn (meanings (fill h q) w u) (repeat n (test_of e w) (meanings (fill h q) w))) done done s (λ b.
    bind_by (turn s) (λ u. then_turn (meanings (fill h p) w u) (repeat n (test_of e w) (meanings (fill h p) w))) (λ u. then_turn (meanings (fill h q) w u) (repeat n (test_of e w) (meanings (fill h q) w))) (λ u t.
    turn_by (meanings (fill h p) w u) (repeat n (test_of e w) (meanings (fill h p) w)) (repeat n (test_of e w) (meanings (fill h q) w)) (λ v i. repeat_matters w p q h e m n v (λ z r. f z (in_further h e s u v z b t i r)))
    ∙ ap (λ o. then_turn o (repeat n (test_of e w) (meanings (fill h q) w))) (m u (λ z r. f z (in_next h e s u z b t r))))) (λ b. refl)

-- ---- Places

pub matters : (w : World) (hole : Hole) (p q : Statements) (s : State) → ((t : State) → Reaches w p hole s t → meanings p w t ≡ meanings q w t) → meanings (fill hole p) w s ≡ meanings (fill hole q) w s
matters w (Here r) p q s f = meanings_followed p r w s ∙ ap (λ o. then_do o (meanings r w)) (f s (here r s)) ∙ sym (meanings_followed q r w s)
matters w (Past a h) p q s f = then_by (meaning a w s) (meanings (fill h p) w) (meanings (fill h q) w) (λ u i. matters w h p q u (λ t r. f t (past a h s u t i r)))
matters w (InIf at e h r) p q s f =
    ap (λ o. then_do o (meanings r w)) (test_by (test_of e w s.store) (meanings (fill h p) w) (meanings (fill h q) w) done done s (λ b. matters w h p q s (λ t i. f t (in_if at e h r s t b i))) (λ b. refl))
matters w (InThen at e h o r) p q s f =
    ap (λ z. then_do z (meanings r w)) (test_by (test_of e w s.store) (meanings (fill h p) w) (meanings (fill h q) w) (meanings o w) (meanings o w) s (λ b. matters w h p q s (λ t i. f t (in_then at e h o r s t b i))) (λ b. refl))
matters w (InElse at e a h r) p q s f =
    ap (λ o. then_do o (meanings r w)) (test_by (test_of e w s.store) (meanings a w) (meanings a w) (meanings (fill h p) w) (meanings (fill h q) w) s (λ b. refl) (λ b. matters w h p q s (λ t i. f t (in_else at e a h r s t b i))))
matters w (InEach at ty x e h r) p q s f =
    ap (λ o. then_do o (meanings r w)) (bind_by (value_of e w s.store) (λ v. as_rows v >>= λ rows. each rows x (meanings (fill h p) w) s) (λ v. as_rows v >>= λ rows. each rows x (meanings (fill h q) w) s) (λ v i.
    bind_by (as_rows v) (λ rows. each rows x (meanings (fill h p) w) s) (λ rows. each rows x (meanings (fill h q) w) s) (λ rows j. each_matters w p q h x (λ u g. matters w h p q u g) rows s (λ t k. f t (in_each at ty x e h r v rows s t i j k)))))
matters w (InWhile at e h r) p q s f =
    ap (λ o. then_do o (meanings r w)) (repeat_matters w p q h e (λ u g. matters w h p q u g) s.turns s (λ t k. f t (in_while at e h r s t k)))
