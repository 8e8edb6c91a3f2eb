-- Quiet statements print nothing and return nothing, and quiet loops go on.
use Rattle.std.proofs.Common.{◌≡◌, ℕ, zero, suc, ◌≤◌, Bool, true, false, List, [], ◌∷◌, Result, Ok, Err, refl, subst, arith}
use Rattle.qbs_base.specs.declared.scalar.Row.{Row}
use Rattle.qbs_base.specs.Named.{at_name}
use Rattle.java_ast.specs.Tree as tree
use Rattle.java_ast.specs.Tree.{Statement, Statements, Nothing, Then}
use Rattle.java_mean.specs.declared.ending.Ending.{Ending}
use Rattle.java_mean.specs.declared.ending.Ending.TheVariants as endings
use Rattle.java_mean.specs.Endings.{◌>>=◌, found}
use Rattle.java_mean.specs.Expression.{value_of, as_rows, as_member, element}
use Rattle.java_mean.specs.Statement.{State, Passed, GoesOn, Leaves, Returns, Does, Test, done, then_do, then_turn, branch, fewer, turn, with_variable, each, repeat, test_of, meaning, meanings}
use Rattle.java_mean.specs.Store.{Store, Variable, plainly}
use Rattle.java_mean.specs.Types.{Types}
use Rattle.java_mean.specs.Typing.{Frame}
use Rattle.java_mean.specs.World.{World}
use Rattle.java_loops.specs.Walks.Reads.{Set}
use Rattle.java_loops.specs.Walks.Replacing.{Ask, AllAnswered, LoopAnswers, MayGiveWay}
use Rattle.java_loops.specs.Walks.Quiet.{is_quiet, are_quiet, IsLoop, walks, repeats, GoesQuietly, TextGivesWay}
use Rattle.java_loops.proofs.Walks.Untouched.{untouched}
use Rattle.java_loops.proofs.Walks.Truth.{and_true}

-- the lines, and no more turns than these
abbrev Has : List (List ℕ) → ℕ → State → Type 0
Has l n t = (t.lines ≡ l) × (t.turns ≤ n)

-- wherever it passes it doesn't return
abbrev Quiet : List (List ℕ) → ℕ → Result Passed Ending → Type 0
Quiet l n (Ok (GoesOn t)) = Has l n t
Quiet l n (Ok (Leaves t)) = Has l n t
Quiet l n (Ok (Returns t v)) = ⊥
Quiet l n (Err e) = Unit {0}

-- nor leaves
abbrev Goes : List (List ℕ) → ℕ → Result Passed Ending → Type 0
Goes l n (Ok (GoesOn t)) = Has l n t
Goes l n (Ok (Leaves t)) = ⊥
Goes l n (Ok (Returns t v)) = ⊥
Goes l n (Err e) = Unit {0}

goes_quiet : (l : List (List ℕ)) (n : ℕ) (r : Result Passed Ending) → Goes l n r → Quiet l n r
goes_quiet l n (Ok (GoesOn t)) h = h
goes_quiet l n (Ok (Leaves t)) h = absurd h
goes_quiet l n (Ok (Returns t v)) h = h
goes_quiet l n (Err e) h = tt

quiet_bind : {A : Type 0} (l : List (List ℕ)) (n : ℕ) (r : Result A Ending) (f : A → Result Passed Ending) → ((x : A) → Quiet l n (f x)) → Quiet l n (r >>= f)
quiet_bind l n (Ok x) f h = h x
quiet_bind l n (Err e) f h = tt

goes_bind : {A : Type 0} (l : List (List ℕ)) (n : ℕ) (r : Result A Ending) (f : A → Result Passed Ending) → ((x : A) → Goes l n (f x)) → Goes l n (r >>= f)
goes_bind l n (Ok x) f h = h x
goes_bind l n (Err e) f h = tt

quiet_then : (l : List (List ℕ)) (n : ℕ) (r : Result Passed Ending) (f : Does) → Quiet l n r → ((t : State) → Has l n t → Quiet l n (f t)) → Quiet l n (then_do r f)
quiet_then l n (Ok (GoesOn t)) f h k = k t h
quiet_then l n (Ok (Leaves t)) f h k = h
quiet_then l n (Ok (Returns t v)) f h k = h
quiet_then l n (Err e) f h k = tt

goes_turn : (l : List (List ℕ)) (n : ℕ) (r : Result Passed Ending) (f : Does) → Quiet l n r → ((t : State) → Has l n t → Goes l n (f t)) → Goes l n (then_turn r f)
goes_turn l n (Ok (GoesOn t)) f h k = k t h
goes_turn l n (Ok (Leaves t)) f h k = h
goes_turn l n (Ok (Returns t v)) f h k = h
goes_turn l n (Err e) f h k = tt

quiet_branch : (l : List (List ℕ)) (n : ℕ) (b : Bool) (f g : Does) (s : State) → Quiet l n (f s) → Quiet l n (g s) → Quiet l n (branch b f g s)
quiet_branch l n true f g s h k = h
quiet_branch l n false f g s h k = k

goes_branch : (l : List (List ℕ)) (n : ℕ) (b : Bool) (f g : Does) (s : State) → Goes l n (f s) → Goes l n (g s) → Goes l n (branch b f g s)
goes_branch l n true f g s h k = h
goes_branch l n false f g s h k = k

goes_fewer : (l : List (List ℕ)) (n m : ℕ) (s : Store) (k : List (List ℕ)) (f : Does) → m ≤ n → ((p : ℕ) → p ≤ n → Goes l n (f (record { store = s; lines = k; turns = p }))) → Goes l n (fewer m s k >>= f)
goes_fewer l n zero s k f e h = tt
goes_fewer l n (suc m) s k f e h = h m (omega (arith, e))

-- it stays so wherever it is so
abbrev Keeps : List (List ℕ) → ℕ → Does → Type 0
Keeps l n f = (s : State) → Has l n s → Quiet l n (f s)

each_goes : (l : List (List ℕ)) (n : ℕ) (x : List ℕ) (g : Does) → Keeps l n g → (rows : List Row) (s : State) → Has l n s → Goes l n (each rows x g s)
each_goes l n x g k [] s h = h
each_goes l n x g k (row ∷ rows) s h =
    goes_fewer l n s.turns s.store s.lines (λ u. then_turn (g (with_variable u x (plainly (element row)))) (each rows x g)) h.1 (λ p e. (
    let u : State = with_variable (record { store = s.store; lines = s.lines; turns = p }) x (plainly (element row)) in
    goes_turn l n (g u) (each rows x g) (k u (h.0, e)) (each_goes l n x g k rows)))

repeat_goes : (l : List (List ℕ)) (n : ℕ) (test : Test) (g : Does) → Keeps l n g → (m : ℕ) (s : State) → Has l n s → Goes l n (repeat m test g s)
repeat_goes l n test g k zero s h = goes_bind l n (test s.store) (λ b. branch b (λ t. Err endings.OutOfTurns) done s) (λ b. goes_branch l n b (λ t. Err endings.OutOfTurns) done s tt h)
repeat_goes l n test g k (suc m) s h =
    let one : Does = λ t. turn t >>= λ u. then_turn (g u) (repeat m test g) in
    goes_bind l n (test s.store) (λ b. branch b one done s) (λ b. goes_branch l n b one done s (goes_fewer l n s.turns s.store s.lines (λ u. then_turn (g u) (repeat m test g)) h.1 (λ p e. (
    let u : State = record { store = s.store; lines = s.lines; turns = p } in
    goes_turn l n (g u) (repeat m test g) (k u (h.0, e)) (repeat_goes l n test g k m)))) h)

mutual
  keeps_quiet : (a : Statement) (l : List (List ℕ)) (n : ℕ) (w : World) → is_quiet a ≡ true → Keeps l n (meaning a w)
  keeps_quiet (tree.Declare at ty x e) l n w q s h = quiet_bind l n (value_of e w s.store) _ (λ v. h)
  keeps_quiet (tree.Assign at x e) l n w q s h = quiet_bind l n (value_of e w s.store) _ (λ v. quiet_bind l n (found (at_name s.store x)) _ (λ held. h))
  keeps_quiet (tree.Add at x e) l n w q s h = quiet_bind l n (value_of e w s.store) _ (λ v. quiet_bind l n (as_member v) _ (λ row. quiet_bind l n (found (at_name s.store x)) _ (λ (held : Variable). quiet_bind l n (as_rows held.value) _ (λ rows. h))))
  keeps_quiet (tree.Sort at x keys down) l n w q s h = quiet_bind l n (found (at_name s.store x)) _ (λ (held : Variable). quiet_bind l n (as_rows held.value) _ (λ rows. h))
  keeps_quiet (tree.If at c p) l n w q s h = quiet_bind l n (test_of c w s.store) (λ b. branch b (meanings p w) done s) (λ b. quiet_branch l n b (meanings p w) done s (all_keep_quiet p l n w q s h) h)
  keeps_quiet (tree.IfElse at c p p') l n w q s h =
      let k = and_true (are_quiet p) (are_quiet p') q in
      quiet_bind l n (test_of c w s.store) (λ b. branch b (meanings p w) (meanings p' w) s) (λ b. quiet_branch l n b (meanings p w) (meanings p' w) s (all_keep_quiet p l n w k.0 s h) (all_keep_quiet p' l n w k.1 s h))
  keeps_quiet (tree.ForEach at ty x e b) l n w q s h = quiet_bind l n (value_of e w s.store) (λ v. as_rows v >>= λ rows. each rows x (meanings b w) s) (λ v. quiet_bind l n (as_rows v) (λ rows. each rows x (meanings b w) s) (λ rows. goes_quiet l n (each rows x (meanings b w) s) (each_goes l n x (meanings b w) (all_keep_quiet b l n w q) rows s h)))
  keeps_quiet (tree.While at c b) l n w q s h = goes_quiet l n (repeat s.turns (test_of c w) (meanings b w) s) (repeat_goes l n (test_of c w) (meanings b w) (all_keep_quiet b l n w q) s.turns s h)
  keeps_quiet (tree.Print at e) l n w q s h = absurd cc
  keeps_quiet (tree.Return at e) l n w q s h = absurd cc
  keeps_quiet (tree.Break at) l n w q s h = h

  all_keep_quiet : (p : Statements) (l : List (List ℕ)) (n : ℕ) (w : World) → are_quiet p ≡ true → Keeps l n (meanings p w)
  all_keep_quiet Nothing l n w q s h = h
  all_keep_quiet (Then a p) l n w q s h =
      let k = and_true (is_quiet a) (are_quiet p) q in
      quiet_then l n (meaning a w s) (meanings p w) (keeps_quiet a l n w k.0 s h) (all_keep_quiet p l n w k.1)

loop_goes : (a : Statement) (w : World) (s : State) → IsLoop a → is_quiet a ≡ true → Goes s.lines s.turns (meaning a w s)
loop_goes _ w s (walks at ty x e b) q = goes_bind s.lines s.turns (value_of e w s.store) (λ v. as_rows v >>= λ rows. each rows x (meanings b w) s) (λ v. goes_bind s.lines s.turns (as_rows v) (λ rows. each rows x (meanings b w) s) (λ rows. each_goes s.lines s.turns x (meanings b w) (all_keep_quiet b s.lines s.turns w q) rows s (refl, omega arith)))
loop_goes _ w s (repeats at c b) q = repeat_goes s.lines s.turns (test_of c w) (meanings b w) (all_keep_quiet b s.lines s.turns w q) s.turns s (refl, omega arith)

gone : (s : State) (q : Passed) → Goes s.lines s.turns (Ok q) → GoesQuietly s q
gone s (GoesOn t) h = record { state = t; is = refl; lines = h.0; turns = h.1 }
gone s (Leaves t) h = absurd h
gone s (Returns t v) h = absurd h

pub loops_go : (w : World) (loop : Statement) (s : State) (q : Passed) → IsLoop loop → is_quiet loop ≡ true → meaning loop w s ≡ Ok q → GoesQuietly s q
loops_go w loop s q i h e = gone s q (subst (Goes s.lines s.turns) e (loop_goes loop w s i h))

-- ---- What gives way

loop_answers : (c : Frame) (g m : Types) (run : Statements) (loop : Statement) (r : Set) (ks : List Ask) (w : World) (t : State) (q : Passed) → TextGivesWay c g m run loop r ks → meaning loop w t ≡ Ok q → (k : GoesQuietly t q) → (meaning loop w t ≡ Ok (GoesOn k.state) → AllAnswered w g t k.state ks) → LoopAnswers w g m ks t q
loop_answers c g m run loop r ks w t q x e k a =
    let goes : meaning loop w t ≡ Ok (GoesOn k.state) = subst (λ p. meaning loop w t ≡ Ok p) k.is e in
    record { state = k.state; is = k.is; answered = a goes; same = λ y z h n. untouched w loop t k.state y (x.untouched y z h n) goes; lines = k.lines; turns = k.turns }

pub gives_way_by_text : (c : Frame) (g m : Types) (run : Statements) (loop : Statement) (r : Set) (ks : List Ask) → TextGivesWay c g m run loop r ks → MayGiveWay c g m run loop r ks
gives_way_by_text c g m run loop r ks x =
    record {
      simple = x.simple;
      reads = x.reads;
      fits = x.fits;
      known = x.known;
      answers = λ w i s typed t e q d. (let k : GoesQuietly t q = loops_go w loop t q x.loops x.quiet d in loop_answers c g m run loop r ks w t q x d k (x.answers w i s typed t e k.state));
    }
