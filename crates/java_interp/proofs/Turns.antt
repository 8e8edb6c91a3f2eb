-- Turns: nothing makes them more, and a loop that may take as many as are left is the whole loop.
use Rattle.std.proofs.Common.{◌≡◌, ℕ, zero, suc, ◌≤◌, Bool, true, false, List, [], ◌∷◌, Option, Some, None, Result, Ok, Err, refl, sym, ap, ◌∙◌, arith}
use Rattle.qbs_base.specs.declared.scalar.Row.{Row}
use Rattle.qbs_base.specs.Named.{at_name}
use Rattle.java_ast.specs.Tree.{Expression, Statement, Declare, Assign, Add, Sort, If, IfElse, ForEach, While, Print, Return, Break, Statements, Nothing, Then}
use Rattle.java_mean.specs.declared.ending.Ending.{Ending}
use Rattle.java_mean.specs.declared.ending.Ending.TheVariants.{OutOfTurns}
use Rattle.java_mean.specs.Endings.{◌>>=◌, found}
use Rattle.java_mean.specs.Store.{Store, plainly}
use Rattle.java_mean.specs.World.{World}
use Rattle.java_mean.specs.Expression.{value_of, as_scalar, as_rows, as_member, element}
use Rattle.java_mean.specs.Statement.{State, Passed, GoesOn, Leaves, Returns, Does, Test, done, then_do, then_turn, branch, fewer, turn, with_variable, each, repeat, test_of, returned, meaning, meanings}

abbrev turns_of : Passed → ℕ
turns_of (GoesOn s) = s.turns
turns_of (Leaves s) = s.turns
turns_of (Returns s v) = s.turns

-- no more turns are left than n
abbrev pub Within : ℕ → Result Passed Ending → Type 0
Within n (Ok p) = turns_of p ≤ n
Within n (Err e) = Unit {0}

within_bind : {A : Type 0} (n : ℕ) (r : Result A Ending) (f : A → Result Passed Ending) → ((x : A) → Within n (f x)) → Within n (r >>= f)
within_bind n (Ok x) f h = h x
within_bind n (Err e) f h = tt

within_le : (n m : ℕ) (r : Result Passed Ending) → n ≤ m → Within n r → Within m r
within_le n m (Ok p) le h = omega arith
within_le n m (Err e) le h = tt

within_then : (n : ℕ) (r : Result Passed Ending) (f : Does) → Within n r → ((t : State) → t.turns ≤ n → Within n (f t)) → Within n (then_do r f)
within_then n (Ok (GoesOn t)) f h k = k t h
within_then n (Ok (Leaves t)) f h k = h
within_then n (Ok (Returns t v)) f h k = h
within_then n (Err e) f h k = tt

within_turn : (n : ℕ) (r : Result Passed Ending) (f : Does) → Within n r → ((t : State) → t.turns ≤ n → Within n (f t)) → Within n (then_turn r f)
within_turn n (Ok (GoesOn t)) f h k = k t h
within_turn n (Ok (Leaves t)) f h k = h
within_turn n (Ok (Returns t v)) f h k = h
within_turn n (Err e) f h k = tt

within_branch : (n : ℕ) (b : Bool) (f g : Does) (s : State) → Within n (f s) → Within n (g s) → Within n (branch b f g s)
within_branch n true f g s h k = h
within_branch n false f g s h k = k

within_fewer : (n : ℕ) (store : Store) (lines : List (List ℕ)) (f : Does) → ((t : State) → n ≡ suc t.turns → Within t.turns (f t)) → Within n (fewer n store lines >>= f)
within_fewer zero store lines f h = tt
within_fewer (suc n) store lines f h =
    let t : State = record { store = store; lines = lines; turns = n } in
    within_le n (suc n) (f t) (omega arith) (h t refl)

-- what never makes turns
abbrev pub Keeps : Does → Type 0
Keeps f = (s : State) → Within s.turns (f s)

each_keeps : (rows : List Row) (x : List ℕ) (body : Does) → Keeps body → Keeps (each rows x body)
each_keeps [] x body h s = omega arith
each_keeps (row ∷ rows) x body h s =
    within_fewer s.turns s.store s.lines (λ t. then_turn (body (with_variable t x (plainly (element row)))) (each rows x body)) (λ t e. within_turn t.turns (body (with_variable t x (plainly (element row)))) (each rows x body) (h (with_variable t x (plainly (element row)))) (λ u le. within_le u.turns t.turns (each rows x body u) le (each_keeps rows x body h u)))

repeat_keeps : (n : ℕ) (test : Test) (body : Does) → Keeps body → Keeps (repeat n test body)
repeat_keeps zero test body h s = within_bind s.turns (test s.store) (λ b. branch b (λ t. Err OutOfTurns) done s) (λ b. within_branch s.turns b (λ t. Err OutOfTurns) done s tt (omega arith))
repeat_keeps (suc n) test body h s =
    within_bind s.turns (test s.store) (λ b. branch b (λ t. turn t >>= λ u. then_turn (body u) (repeat n test body)) done s) (λ b. within_branch s.turns b (λ t. turn t >>= λ u. then_turn (body u) (repeat n test body)) done s (within_fewer s.turns s.store s.lines (λ u. then_turn (body u) (repeat n test body)) (λ t e. within_turn t.turns (body t) (repeat n test body) (h t) (λ u le. within_le u.turns t.turns (repeat n test body u) le (repeat_keeps n test body h u)))) (omega arith))

returned_keeps : (e : Option Expression) (w : World) → Keeps (returned e w)
returned_keeps None w s = omega arith
returned_keeps (Some e) w s = within_bind s.turns (value_of e w s.store) (λ v. Ok (Returns s (Some v))) (λ v. omega arith)

mutual
  pub meaning_keeps : (a : Statement) (w : World) → Keeps (meaning a w)
  meaning_keeps (Declare at ty x e) w s = within_bind s.turns (value_of e w s.store) _ (λ v. omega arith)
  meaning_keeps (Assign at x e) w s = within_bind s.turns (value_of e w s.store) _ (λ v. within_bind s.turns (found (at_name s.store x)) _ (λ held. omega arith))
  meaning_keeps (Add at x e) w s = within_bind s.turns (value_of e w s.store) _ (λ v. within_bind s.turns (as_member v) _ (λ row. within_bind s.turns (found (at_name s.store x)) _ (λ held. within_bind s.turns (as_rows held.value) _ (λ rows. omega arith))))
  meaning_keeps (Sort at x keys down) w s = within_bind s.turns (found (at_name s.store x)) _ (λ held. within_bind s.turns (as_rows held.value) _ (λ rows. omega arith))
  meaning_keeps (If at c a) w s = within_bind s.turns (test_of c w s.store) _ (λ b. within_branch s.turns b (meanings a w) done s (meanings_keeps a w s) (omega arith))
  meaning_keeps (IfElse at c a o) w s = within_bind s.turns (test_of c w s.store) _ (λ b. within_branch s.turns b (meanings a w) (meanings o w) s (meanings_keeps a w s) (meanings_keeps o w s))
  meaning_keeps (ForEach at ty x e body) w s = within_bind s.turns (value_of e w s.store) _ (λ v. within_bind s.turns (as_rows v) _ (λ rows. each_keeps rows x (meanings body w) (meanings_keeps body w) s))
  meaning_keeps (While at c body) w s = repeat_keeps s.turns (test_of c w) (meanings body w) (meanings_keeps body w) s
  meaning_keeps (Print at e) w s = within_bind s.turns (value_of e w s.store) _ (λ v. within_bind s.turns (as_scalar v) _ (λ x. omega arith))
  meaning_keeps (Return at e) w s = returned_keeps e w s
  meaning_keeps (Break at) w s = omega arith

  pub meanings_keeps : (p : Statements) (w : World) → Keeps (meanings p w)
  meanings_keeps Nothing w s = omega arith
  meanings_keeps (Then a p) w s =
      within_then s.turns (meaning a w s) (meanings p w) (meaning_keeps a w s) (λ t le. within_le t.turns s.turns (meanings p w t) le (meanings_keeps p w t))

-- the same before, and the same after
bind_same : {A : Type 0} (r : Result A Ending) (f g : A → Result Passed Ending) → ((x : A) → f x ≡ g x) → (r >>= f) ≡ (r >>= g)
bind_same (Ok x) f g h = h x
bind_same (Err e) f g h = refl

turn_same : (n : ℕ) (r : Result Passed Ending) (f g : Does) → Within n r → ((t : State) → t.turns ≤ n → f t ≡ g t) → then_turn r f ≡ then_turn r g
turn_same n (Ok (GoesOn t)) f g w h = h t w
turn_same n (Ok (Leaves t)) f g w h = refl
turn_same n (Ok (Returns t v)) f g w h = refl
turn_same n (Err e) f g w h = refl

branch_same : (b : Bool) (f g h : Does) (s : State) → f s ≡ g s → branch b f h s ≡ branch b g h s
branch_same true f g h s e = e
branch_same false f g h s e = refl

fewer_same : (n : ℕ) (store : Store) (lines : List (List ℕ)) (f g : Does) → ((t : State) → n ≡ suc t.turns → f t ≡ g t) → (fewer n store lines >>= f) ≡ (fewer n store lines >>= g)
fewer_same zero store lines f g h = refl
fewer_same (suc n) store lines f g h = h (record { store = store; lines = lines; turns = n }) refl

fewer_none : (n : ℕ) (store : Store) (lines : List (List ℕ)) (f : Does) → n ≤ 0 → (fewer n store lines >>= f) ≡ Err OutOfTurns
fewer_none zero store lines f le = refl
fewer_none (suc n) store lines f le = absurd (omega arith)

-- as many as are left are enough
pub repeat_enough : (n m : ℕ) (test : Test) (body : Does) → Keeps body → (s : State) → s.turns ≤ n → s.turns ≤ m → repeat n test body s ≡ repeat m test body s
repeat_enough zero zero test body h s p q = refl
repeat_enough zero (suc m) test body h s p q =
    bind_same (test s.store) (λ b. branch b (λ t. Err OutOfTurns) done s) (λ b. branch b (λ t. turn t >>= λ u. then_turn (body u) (repeat m test body)) done s) (λ b. branch_same b (λ t. Err OutOfTurns) (λ t. turn t >>= λ u. then_turn (body u) (repeat m test body)) done s (sym (fewer_none s.turns s.store s.lines (λ u. then_turn (body u) (repeat m test body)) p)))
repeat_enough (suc n) zero test body h s p q =
    bind_same (test s.store) (λ b. branch b (λ t. turn t >>= λ u. then_turn (body u) (repeat n test body)) done s) (λ b. branch b (λ t. Err OutOfTurns) done s) (λ b. branch_same b (λ t. turn t >>= λ u. then_turn (body u) (repeat n test body)) (λ t. Err OutOfTurns) done s (fewer_none s.turns s.store s.lines (λ u. then_turn (body u) (repeat n test body)) q))
repeat_enough (suc n) (suc m) test body h s p q =
    bind_same (test s.store) (λ b. branch b (λ t. turn t >>= λ u. then_turn (body u) (repeat n test body)) done s) (λ b. branch b (λ t. turn t >>= λ u. then_turn (body u) (repeat m test body)) done s) (λ b. branch_same b (λ t. turn t >>= λ u. then_turn (body u) (repeat n test body)) (λ t. turn t >>= λ u. then_turn (body u) (repeat m test body)) done s (fewer_same s.turns s.store s.lines (λ u. then_turn (body u) (repeat n test body)) (λ u. then_turn (body u) (repeat m test body)) (λ t e. turn_same t.turns (body t) (repeat n test body) (repeat m test body) (h t) (λ u le. repeat_enough n m test body h u (omega arith) (omega arith)))))

fewer_one : (n : ℕ) (store : Store) (lines : List (List ℕ)) (t : State) → fewer n store lines ≡ Ok t → n ≡ suc t.turns
fewer_one zero store lines t e = absurd cc
fewer_one (suc n) store lines t e = let f : record { store = store; lines = lines; turns = n } ≡ t = cc in ap (λ (u : State). suc u.turns) f

pub turn_one : (s t : State) → turn s ≡ Ok t → s.turns ≡ suc t.turns
turn_one s t e = fewer_one s.turns s.store s.lines t e

repeat_once : (k : ℕ) (test : Test) (body : Does) (s t : State) → test s.store ≡ Ok true → turn s ≡ Ok t → repeat (suc k) test body s ≡ then_turn (body t) (repeat k test body)
repeat_once k test body s t p q = rw (p, q) refl

-- a loop is a turn and the loop, where its test is true and a turn is left
pub repeat_unrolled : (test : Test) (p : Statements) (w : World) (s t : State) → test s.store ≡ Ok true → turn s ≡ Ok t → repeat s.turns test (meanings p w) s ≡ then_turn (meanings p w t) (λ u. repeat u.turns test (meanings p w) u)
repeat_unrolled test p w s t e q =
    let one = turn_one s t q in
    ap (λ n. repeat n test (meanings p w) s) one
    ∙ repeat_once t.turns test (meanings p w) s t e q
    ∙ turn_same t.turns (meanings p w t) (repeat t.turns test (meanings p w)) (λ u. repeat u.turns test (meanings p w) u) (meanings_keeps p w t) (λ u le. repeat_enough t.turns u.turns test (meanings p w) (meanings_keeps p w) u le (omega arith))

pub repeat_over : (n : ℕ) (test : Test) (body : Does) (s : State) → test s.store ≡ Ok false → repeat n test body s ≡ Ok (GoesOn s)
repeat_over zero test body s p = rw p refl
repeat_over (suc n) test body s p = rw p refl

pub repeat_stops : (n : ℕ) (test : Test) (body : Does) (s : State) (e : Ending) → test s.store ≡ Err e → repeat n test body s ≡ Err e
repeat_stops zero test body s e p = rw p refl
repeat_stops (suc n) test body s e p = rw p refl

fewer_out : (n : ℕ) (store : Store) (lines : List (List ℕ)) (e : Ending) → fewer n store lines ≡ Err e → e ≡ OutOfTurns
fewer_out zero store lines e h = cc
fewer_out (suc n) store lines e h = absurd cc

pub repeat_out : (n : ℕ) (test : Test) (body : Does) (s : State) (e : Ending) → test s.store ≡ Ok true → turn s ≡ Err e → repeat n test body s ≡ Err e
repeat_out zero test body s e p q = rw p (ap (λ x. Err x) (sym (fewer_out s.turns s.store s.lines e q)))
repeat_out (suc n) test body s e p q = rw (p, q) refl
