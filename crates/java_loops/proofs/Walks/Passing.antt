-- What a run leaves.
use Rattle.std.proofs.Common.{◌≡◌, ℕ, Bool, true, false, ◌&&◌, List, Option, Some, None, Result, Ok, Err, refl, sym, ap, ◌∙◌}
use Rattle.std.specs.Prelude.{bytes_eq}
use Rattle.qbs_base.specs.declared.scalar.Row.{Row}
use Rattle.qbs_base.specs.declared.scalar.Value.{Value}
use Rattle.qbs_base.specs.declared.scalar.Value.TheVariants.{Many}
use Rattle.qbs_base.specs.Named.{at_name}
use Rattle.qbs_base.specs.Sort.{stable_sort}
use Rattle.java_ast.specs.Tree as tree
use Rattle.java_ast.specs.Tree.{Expression, Statement, Statements, Nothing, Then}
use Rattle.java_mean.specs.declared.ending.Ending.{Ending}
use Rattle.java_mean.specs.Endings.{◌>>=◌, found}
use Rattle.java_mean.specs.Expression.{value_of, as_rows}
use Rattle.java_mean.specs.Refines.{followed_by}
use Rattle.java_mean.specs.Statement.{State, Passed, GoesOn, Does, done, then_do, with_variable, in_order, is_set_type, meaning, meanings}
use Rattle.java_mean.specs.Store.{Store, Variable, put}
use Rattle.java_mean.specs.World.{World}
use Rattle.java_mean.proofs.Puts.{put_same, put_other}
use Rattle.loop_text.specs.Statements.Fragment.{is_simple, are_simple, set_by}
use Rattle.java_loops.specs.Walks.Runs.{is_set_in, made, ran, IsSilent}
use Rattle.java_loops.proofs.Walks.Truth.{and_true, or_false}

-- ---- Results

-- what was gone on with
pub record Went {A B : Type 0} (o : Result A Ending) (f : A → Result B Ending) (z : B) : Type 0 where
  pub value : A
  pub first : o ≡ Ok value
  pub rest : f value ≡ Ok z

pub went : {A B : Type 0} (o : Result A Ending) (f : A → Result B Ending) (z : B) → (o >>= f) ≡ Ok z → Went o f z
went (Ok x) f z e = record { value = x; first = refl; rest = e }
went (Err x) f z e = absurd cc

pub goes : {A B : Type 0} (o : Result A Ending) (f : A → Result B Ending) (x : A) (z : B) → o ≡ Ok x → f x ≡ Ok z → (o >>= f) ≡ Ok z
goes o f x z e h = ap (λ p. p >>= f) e ∙ h

pub same_ok : {A : Type 0} (o : Result A Ending) (a b : A) → o ≡ Ok a → o ≡ Ok b → a ≡ b
same_ok o a b e h = cc

-- ---- A statement, and a run

assign_is : (o : Result Value Ending) (p : Option Variable) (t : State) (x : List ℕ) → (o >>= λ v. found p >>= λ (held : Variable). done (with_variable t x (record { value = v; is_set = held.is_set }))) ≡ ((o >>= λ v. found p >>= λ (held : Variable). Ok (record { value = v; is_set = held.is_set })) >>= λ v. done (with_variable t x v))
assign_is (Ok v) (Some held) t x = refl
assign_is (Ok v) None t x = refl
assign_is (Err e) p t x = refl

declare_is : (o : Result Value Ending) (b : Bool) (t : State) (x : List ℕ) → (o >>= λ v. done (with_variable t x (record { value = v; is_set = b }))) ≡ ((o >>= λ v. Ok (record { value = v; is_set = b })) >>= λ v. done (with_variable t x v))
declare_is (Ok v) b t x = refl
declare_is (Err e) b t x = refl

sort_rows : (o : Result (List Row) Ending) (f : List Row → List Row) (b : Bool) (t : State) (x : List ℕ) → (o >>= λ rows. done (with_variable t x (record { value = Many (f rows); is_set = b }))) ≡ ((o >>= λ rows. Ok (record { value = Many (f rows); is_set = b })) >>= λ v. done (with_variable t x v))
sort_rows (Ok rows) f b t x = refl
sort_rows (Err e) f b t x = refl

sort_is : (p : Option Variable) (f : List Row → List Row) (t : State) (x : List ℕ) → (found p >>= λ (held : Variable). as_rows held.value >>= λ rows. done (with_variable t x (record { value = Many (f rows); is_set = held.is_set }))) ≡ ((found p >>= λ (held : Variable). as_rows held.value >>= λ rows. Ok (record { value = Many (f rows); is_set = held.is_set })) >>= λ v. done (with_variable t x v))
sort_is (Some held) f t x = sort_rows (as_rows held.value) f held.is_set t x
sort_is None f t x = refl

pub simple_is : (a : Statement) (w : World) (t : State) → is_simple a ≡ true → meaning a w t ≡ (made a w t.store >>= λ v. done (with_variable t (set_by a) v))
simple_is (tree.Declare at ty x e) w t h = declare_is (value_of e w t.store) (is_set_type ty) t x
simple_is (tree.Assign at x e) w t h = assign_is (value_of e w t.store) (at_name t.store x) t x
simple_is (tree.Sort at x keys down) w t h = sort_is (at_name t.store x) (stable_sort (in_order w.schema keys down)) t x
simple_is (tree.Add at x e) w t h = absurd cc
simple_is (tree.If at c p) w t h = absurd cc
simple_is (tree.IfElse at c p q) w t h = absurd cc
simple_is (tree.ForEach at ty x e b) w t h = absurd cc
simple_is (tree.While at c b) w t h = absurd cc
simple_is (tree.Print at e) w t h = absurd cc
simple_is (tree.Return at e) w t h = absurd cc
simple_is (tree.Break at) w t h = absurd cc

abbrev pub with_store : State → Store → State
with_store t u = record { store = u; lines = t.lines; turns = t.turns }

then_made : (o : Result Variable Ending) (t : State) (x : List ℕ) (f : Does) (g : Store → Result Store Ending) → ((v : Variable) → f (with_variable t x v) ≡ (g (put t.store x v) >>= λ u. done (with_store t u))) → then_do (o >>= λ v. done (with_variable t x v)) f ≡ ((o >>= λ v. g (put t.store x v)) >>= λ u. done (with_store t u))
then_made (Ok v) t x f g h = h v
then_made (Err e) t x f g h = refl

-- a run is what it makes of the variables, and no more
pub run_is : (p : Statements) (w : World) (t : State) → are_simple p ≡ true → meanings p w t ≡ (ran p w t.store >>= λ u. done (with_store t u))
run_is Nothing w t h = refl
run_is (Then a p) w t h =
    let k = and_true (is_simple a) (are_simple p) h in
    ap (λ o. then_do o (meanings p w)) (simple_is a w t k.0) ∙ then_made (made a w t.store) t (set_by a) (meanings p w) (ran p w) (λ v. run_is p w (with_variable t (set_by a) v) k.1)

-- where it passes
pub record Ran (p : Statements) (w : World) (t : State) (q : Passed) : Type 0 where
  pub store : Store
  pub is : ran p w t.store ≡ Ok store
  pub passed : q ≡ GoesOn (with_store t store)

pub run_passes : (p : Statements) (w : World) (t : State) (q : Passed) → are_simple p ≡ true → meanings p w t ≡ Ok q → Ran p w t q
run_passes p w t q h e =
    let k : Went (ran p w t.store) (λ u. done (with_store t u)) q = went (ran p w t.store) (λ u. done (with_store t u)) q (sym (run_is p w t h) ∙ e) in
    record { store = k.value; is = k.first; passed = same_ok (Ok q) q (GoesOn (with_store t k.value)) refl (sym k.rest) }

pub run_goes : (p : Statements) (w : World) (t : State) (u : Store) → are_simple p ≡ true → ran p w t.store ≡ Ok u → meanings p w t ≡ Ok (GoesOn (with_store t u))
run_goes p w t u h e = run_is p w t h ∙ ap (λ o. o >>= λ z. done (with_store t z)) e

abbrev state_of : Passed → State → State
state_of (GoesOn s) t = s
state_of _ t = t

pub same_state : (s t : State) → GoesOn s ≡ GoesOn t → s ≡ t
same_state s t e = ap (λ q. state_of q s) e

-- the variables of the last state
pub run_store : (p : Statements) (w : World) (s t : State) → are_simple p ≡ true → meanings p w s ≡ Ok (GoesOn t) → ran p w s.store ≡ Ok t.store
run_store p w s t h e =
    let k : Ran p w s (GoesOn t) = run_passes p w s (GoesOn t) h e in
    k.is ∙ ap (λ (u : State). Ok u.store) (sym (same_state t (with_store s k.store) k.passed))

pub run_lines : (p : Statements) (w : World) (s t : State) → are_simple p ≡ true → meanings p w s ≡ Ok (GoesOn t) → (t.lines ≡ s.lines) × (t.turns ≡ s.turns)
run_lines p w s t h e =
    let k : Ran p w s (GoesOn t) = run_passes p w s (GoesOn t) h e in
    let q : t ≡ with_store s k.store = same_state t (with_store s k.store) k.passed in
    (ap (λ (u : State). u.lines) q, ap (λ (u : State). u.turns) q)

pub run_silent : (w : World) (p : Statements) (s : State) (q : Passed) → are_simple p ≡ true → meanings p w s ≡ Ok q → IsSilent s q
run_silent w p s q h e =
    let k : Ran p w s q = run_passes p w s q h e in
    record { state = with_store s k.store; is = k.passed; lines = refl; turns = refl }

-- ---- Variables that it doesn't set

pub ran_unset : (p : Statements) (w : World) (s u : Store) (x : List ℕ) → ran p w s ≡ Ok u → is_set_in p x ≡ false → at_name u x ≡ at_name s x
ran_unset Nothing w s u x e h = ap (λ z. at_name z x) (sym (same_ok (Ok s) s u refl e))
ran_unset (Then a p) w s u x e h =
    let k : Went (made a w s) (λ v. ran p w (put s (set_by a) v)) u = went (made a w s) (λ v. ran p w (put s (set_by a) v)) u e in
    let n = or_false (bytes_eq (set_by a) x) (is_set_in p x) h in
    ran_unset p w (put s (set_by a) k.value) u x k.rest n.1 ∙ put_other s (set_by a) x k.value n.0

pub run_unset : (w : World) (p : Statements) (s t : State) (x : List ℕ) → are_simple p ≡ true → meanings p w s ≡ Ok (GoesOn t) → is_set_in p x ≡ false → at_name t.store x ≡ at_name s.store x
run_unset w p s t x h e n = ran_unset p w s.store t.store x (run_store p w s t h e) n

-- ---- The last statement that sets a variable

simple_front : (p q : Statements) → are_simple (followed_by p q) ≡ true → (are_simple p ≡ true) × (are_simple q ≡ true)
simple_front Nothing q h = (refl, h)
simple_front (Then a p) q h =
    let k = and_true (is_simple a) (are_simple (followed_by p q)) h in
    let r = simple_front p q k.1 in
    (ap (λ b. b && are_simple p) k.0 ∙ r.0, r.1)

-- a run in two parts
pub record Parts (p q : Statements) (w : World) (s u : Store) : Type 0 where
  pub middle : Store
  pub first : ran p w s ≡ Ok middle
  pub second : ran q w middle ≡ Ok u

pub ran_parts : (p q : Statements) (w : World) (s u : Store) → ran (followed_by p q) w s ≡ Ok u → Parts p q w s u
ran_parts Nothing q w s u e = record { middle = s; first = refl; second = e }
ran_parts (Then a p) q w s u e =
    let k : Went (made a w s) (λ v. ran (followed_by p q) w (put s (set_by a) v)) u = went (made a w s) (λ v. ran (followed_by p q) w (put s (set_by a) v)) u e in
    let r : Parts p q w (put s (set_by a) k.value) u = ran_parts p q w (put s (set_by a) k.value) u k.rest in
    record { middle = r.middle; first = goes (made a w s) (λ v. ran p w (put s (set_by a) v)) k.value r.middle k.first r.first; second = r.second }

-- where a statement of a run starts, and what it leaves to the end
pub record LastSet (w : World) (before : Statements) (a : Statement) (after : Statements) (s t : State) : Type 0 where
  pub start : State
  pub reached : meanings before w s ≡ Ok (GoesOn start)
  pub held : Variable
  pub makes : made a w start.store ≡ Ok held
  pub left : at_name t.store (set_by a) ≡ Some held
  pub ends : ran (Then a after) w start.store ≡ Ok t.store

pub last_set : (w : World) (before : Statements) (a : Statement) (after : Statements) (s t : State) → are_simple (followed_by before (Then a after)) ≡ true → is_set_in after (set_by a) ≡ false → meanings (followed_by before (Then a after)) w s ≡ Ok (GoesOn t) → LastSet w before a after s t
last_set w before a after s t h n e =
    let k : Parts before (Then a after) w s.store t.store = ran_parts before (Then a after) w s.store t.store (run_store (followed_by before (Then a after)) w s t h e) in
    let m : Went (made a w k.middle) (λ v. ran after w (put k.middle (set_by a) v)) t.store = went (made a w k.middle) (λ v. ran after w (put k.middle (set_by a) v)) t.store k.second in
    record {
      start = with_store s k.middle;
      reached = run_goes before w s k.middle (simple_front before (Then a after) h).0 k.first;
      held = m.value;
      makes = m.first;
      left = ran_unset after w (put k.middle (set_by a) m.value) t.store (set_by a) m.rest n ∙ put_same k.middle (set_by a) m.value;
      ends = k.second;
    }
