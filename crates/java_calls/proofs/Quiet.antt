-- Statements without `return` never return.
use Rattle.std.proofs.Common.{◌≡◌, ℕ, zero, suc, Bool, true, false, ◌||◌, List, [], ◌∷◌, Option, Some, None, Result, Ok, Err, refl}
use Rattle.qbs_base.specs.declared.scalar.Row.{Row}
use Rattle.java_ast.specs.Tree.{Expression, Statement, Declare, Assign, Add, Sort, If, IfElse, ForEach, While, Print, Return, Break, Statements, Nothing, Then}
use Rattle.qbs_base.specs.Named.{at_name}
use Rattle.java_mean.specs.declared.ending.Ending.{Ending}
use Rattle.java_mean.specs.Endings.{◌>>=◌, found}
use Rattle.java_mean.specs.Expression.{value_of, as_rows, as_scalar, as_member, element}
use Rattle.java_mean.specs.Rules.{returns, returns_in}
use Rattle.java_mean.specs.Statement.{State, Passed, GoesOn, Leaves, Returns, Does, Test, done, then_do, then_turn, branch, fewer, turn, with_variable, each, repeat, test_of}
use Rattle.java_mean.specs.Store.{plainly}
use Rattle.java_mean.specs.World.{World}
use Rattle.java_calls.specs.Calling.{Callee, given, meaning_with, meanings_with}

abbrev pub NeverReturns : Result Passed Ending → Type 0
NeverReturns (Ok (Returns s v)) = ⊥
NeverReturns (Ok (GoesOn s)) = Unit {0}
NeverReturns (Ok (Leaves s)) = Unit {0}
NeverReturns (Err e) = Unit {0}

quiet_bind : {A : Type 0} (o : Result A Ending) (f : A → Result Passed Ending) → ((x : A) → NeverReturns (f x)) → NeverReturns (o >>= f)
quiet_bind (Ok x) f h = h x
quiet_bind (Err e) f h = tt

quiet_then : (o : Result Passed Ending) (f : Does) → NeverReturns o → ((s : State) → NeverReturns (f s)) → NeverReturns (then_do o f)
quiet_then (Ok (GoesOn s)) f o h = h s
quiet_then (Ok (Leaves s)) f o h = tt
quiet_then (Ok (Returns s v)) f o h = absurd o
quiet_then (Err e) f o h = tt

quiet_turn : (o : Result Passed Ending) (f : Does) → NeverReturns o → ((s : State) → NeverReturns (f s)) → NeverReturns (then_turn o f)
quiet_turn (Ok (GoesOn s)) f o h = h s
quiet_turn (Ok (Leaves s)) f o h = tt
quiet_turn (Ok (Returns s v)) f o h = absurd o
quiet_turn (Err e) f o h = tt

quiet_branch : (b : Bool) (f g : Does) (s : State) → NeverReturns (f s) → NeverReturns (g s) → NeverReturns (branch b f g s)
quiet_branch true f g s h i = h
quiet_branch false f g s h i = i

quiet_each : (x : List ℕ) (g : Does) → ((s : State) → NeverReturns (g s)) → (rows : List Row) (s : State) → NeverReturns (each rows x g s)
quiet_each x g h [] s = tt
quiet_each x g h (row ∷ rows) s = quiet_bind (turn s) _ (λ t. quiet_turn (g (with_variable t x (plainly (element row)))) (each rows x g) (h _) (quiet_each x g h rows))

quiet_repeat : (test : Test) (g : Does) → ((s : State) → NeverReturns (g s)) → (n : ℕ) (s : State) → NeverReturns (repeat n test g s)
quiet_repeat test g h zero s = quiet_bind (test s.store) _ (λ b. quiet_branch b _ done s tt tt)
quiet_repeat test g h (suc n) s =
    quiet_bind (test s.store) _ (λ b. quiet_branch b (λ t. turn t >>= λ u. then_turn (g u) (repeat n test g)) done s
    (quiet_bind (turn s) _ (λ u. quiet_turn (g u) (repeat n test g) (h u) (quiet_repeat test g h n))) tt)

or_first : (p q : Bool) → p || q ≡ false → p ≡ false
or_first true q h = absurd cc
or_first false q h = refl

or_second : (p q : Bool) → p || q ≡ false → q ≡ false
or_second true q h = absurd cc
or_second false q h = h

module _ (callee : Callee) (w : World) where
  mutual
    quiet_statement : (a : Statement) → returns_in a ≡ false → (s : State) → NeverReturns (meaning_with callee a w s)
    quiet_statement (Declare at ty x e) h s = quiet_bind (given callee w s e) _ (λ g. tt)
    quiet_statement (Assign at x e) h s = quiet_bind (given callee w s e) _ (λ g. quiet_bind (found (at_name g.state.store x)) _ (λ held. tt))
    quiet_statement (Add at x e) h s = quiet_bind (value_of e w s.store) _ (λ v. quiet_bind (as_member v) _ (λ row. quiet_bind (found (at_name s.store x)) _ (λ held. quiet_bind (as_rows held.value) _ (λ rows. tt))))
    quiet_statement (Sort at x keys downs) h s = quiet_bind (found (at_name s.store x)) _ (λ held. quiet_bind (as_rows held.value) _ (λ rows. tt))
    quiet_statement (If at c a) h s = quiet_bind (test_of c w s.store) _ (λ b. quiet_branch b (meanings_with callee a w) done s (quiet a h s) tt)
    quiet_statement (IfElse at c a o) h s = quiet_bind (test_of c w s.store) _ (λ b. quiet_branch b (meanings_with callee a w) (meanings_with callee o w) s (quiet a (or_first (returns a) (returns o) h) s) (quiet o (or_second (returns a) (returns o) h) s))
    quiet_statement (ForEach at ty x e body) h s = quiet_bind (value_of e w s.store) _ (λ v. quiet_bind (as_rows v) _ (λ rows. quiet_each x (meanings_with callee body w) (quiet body h) rows s))
    quiet_statement (While at c body) h s = quiet_repeat (test_of c w) (meanings_with callee body w) (quiet body h) s.turns s
    quiet_statement (Print at e) h s = quiet_bind (value_of e w s.store) _ (λ v. quiet_bind (as_scalar v) _ (λ x. tt))
    quiet_statement (Return at e) h s = absurd cc
    quiet_statement (Break at) h s = tt

    -- in the body of a helper too, whatever its calls come to
    pub quiet : (p : Statements) → returns p ≡ false → (s : State) → NeverReturns (meanings_with callee p w s)
    quiet Nothing h s = tt
    quiet (Then a p) h s = quiet_then (meaning_with callee a w s) (meanings_with callee p w) (quiet_statement a (or_first (returns_in a) (returns p) h) s) (quiet p (or_second (returns_in a) (returns p) h))
