-- What holds between the state that statements begin with and the one that they pass to.
use Rattle.std.proofs.Common.{◌≡◌, ℕ, zero, suc, ◌≤◌, Bool, true, false, List, [], ◌∷◌, Option, Some, None, Result, Ok, Err, refl, ap, ◌∙◌, subst, arith}
use Rattle.std.specs.Prelude.{bytes_eq}
use Rattle.std.specs.List.{AllByRecursion}
use Rattle.qbs_base.specs.declared.scalar.Row.{Row}
use Rattle.qbs_base.specs.Named.{at_name}
use Rattle.java_ast.specs.Names.{Names, is_among}
use Rattle.java_ast.specs.Tree as tree
use Rattle.java_ast.specs.Tree.{Expression, Statement, Statements, Nothing, Then}
use Rattle.java_mean.specs.declared.ending.Ending.{Ending}
use Rattle.java_mean.specs.declared.ending.Ending.TheVariants as endings
use Rattle.java_mean.specs.declared.types.JavaType.{JavaType}
use Rattle.java_mean.specs.declared.types.JavaType.TheVariants.{Of, Listed}
use Rattle.java_mean.specs.declared.types.Single.{Single}
use Rattle.java_mean.specs.Endings.{◌>>=◌, found}
use Rattle.java_mean.specs.Expression.{value_of, as_scalar, as_rows, as_member, element}
use Rattle.java_mean.specs.Statement.{State, Passed, GoesOn, Leaves, Returns, Does, Test, done, then_do, then_turn, branch, fewer, turn, with_variable, with_line, printed, each, repeat, test_of, returned, meaning, meanings}
use Rattle.java_mean.specs.Store.{Store, Variable, plainly}
use Rattle.java_mean.specs.Types.{Types, with_type}
use Rattle.java_mean.specs.Typing.{Frame, Has, listed, distinct, Extends, TypedStatement, declare, assign, add, sort, when, choose, for_each, for_each_new, while_true, print, return_none, return_value, leave, TypedStatements, done as nothing, next}
use Rattle.java_mean.specs.World.{World}
use Rattle.java_mean.proofs.Alike.{extends_new}
use Rattle.java_mean.proofs.Puts.{put_other, names_equal}
use Rattle.java_mean.proofs.TypedRuns.{extends_statement}
use Rattle.sql_ast.proofs.Tools.{all_parts}
use Rattle.spreads.specs.Staying.{assigned_in, assigned_among}

-- each name that statements set is so: those that are declared, assigned, added to, sorted, or walk a list
abbrev mutual
  pub EachSetIn : (List ℕ → Type 0) → Statement → Type 0
  EachSetIn P (tree.Declare at ty x e) = P x
  EachSetIn P (tree.Assign at x e) = P x
  EachSetIn P (tree.Add at x e) = P x
  EachSetIn P (tree.Sort at x keys down) = P x
  EachSetIn P (tree.If at c p) = EachSet P p
  EachSetIn P (tree.IfElse at c p q) = EachSet P p × EachSet P q
  EachSetIn P (tree.ForEach at ty x e p) = P x × EachSet P p
  EachSetIn P (tree.While at c p) = EachSet P p
  EachSetIn P (tree.Print at e) = Unit {0}
  EachSetIn P (tree.Return at e) = Unit {0}
  EachSetIn P (tree.Break at) = Unit {0}

  pub EachSet : (List ℕ → Type 0) → Statements → Type 0
  EachSet P Nothing = Unit {0}
  EachSet P (Then a p) = EachSetIn P a × EachSet P p

abbrev pub Kept : Type 1
Kept = State → State → Type 0

-- a relation that steps keep to, and setting a name that is so
pub record Steps (R : Kept) (P : List ℕ → Type 0) : Type 0 where
  pub same : (s : State) → R s s
  pub next : (s t u : State) → R s t → R t u → R s u
  pub turn : (store : Store) (lines : List (List ℕ)) (n : ℕ) → R (record { store = store; lines = lines; turns = suc n }) (record { store = store; lines = lines; turns = n })
  pub line : (s : State) (line : List ℕ) → R s (with_line s line)
  pub set : (s : State) (x : List ℕ) (v : Variable) → P x → R s (with_variable s x v)

module _ (R : Kept) (P : List ℕ → Type 0) (steps : Steps R P) where
  abbrev pub Passes : State → Result Passed Ending → Type 0
  Passes s (Ok (GoesOn t)) = R s t
  Passes s (Ok (Leaves t)) = R s t
  Passes s (Ok (Returns t v)) = R s t
  Passes s (Err e) = Unit {0}

  behind : (s t : State) (r : Result Passed Ending) → R s t → Passes t r → Passes s r
  behind s t (Ok (GoesOn u)) k h = steps.next s t u k h
  behind s t (Ok (Leaves u)) k h = steps.next s t u k h
  behind s t (Ok (Returns u v)) k h = steps.next s t u k h
  behind s t (Err e) k h = tt

  bound : {A : Type 0} (s : State) (o : Result A Ending) (f : A → Result Passed Ending) → ((x : A) → Passes s (f x)) → Passes s (o >>= f)
  bound s (Ok x) f h = h x
  bound s (Err e) f h = tt

  done_then : (s : State) (r : Result Passed Ending) (f : Does) → Passes s r → ((t : State) → Passes t (f t)) → Passes s (then_do r f)
  done_then s (Ok (GoesOn t)) f h k = behind s t (f t) h (k t)
  done_then s (Ok (Leaves t)) f h k = h
  done_then s (Ok (Returns t v)) f h k = h
  done_then s (Err e) f h k = tt

  turned_then : (s : State) (r : Result Passed Ending) (f : Does) → Passes s r → ((t : State) → Passes t (f t)) → Passes s (then_turn r f)
  turned_then s (Ok (GoesOn t)) f h k = behind s t (f t) h (k t)
  turned_then s (Ok (Leaves t)) f h k = h
  turned_then s (Ok (Returns t v)) f h k = h
  turned_then s (Err e) f h k = tt

  branched : (s : State) (b : Bool) (f g : Does) → Passes s (f s) → Passes s (g s) → Passes s (branch b f g s)
  branched s true f g h k = h
  branched s false f g h k = k

  a_turn : (store : Store) (lines : List (List ℕ)) (n : ℕ) (f : Does) → ((t : State) → Passes t (f t)) → Passes (record { store = store; lines = lines; turns = n }) (fewer n store lines >>= f)
  a_turn store lines zero f h = tt
  a_turn store lines (suc n) f h =
      let t : State = record { store = store; lines = lines; turns = n } in
      behind (record { store = store; lines = lines; turns = suc n }) t (f t) (steps.turn store lines n) (h t)

  each_passes : (x : List ℕ) (g : Does) → P x → ((s : State) → Passes s (g s)) → (rows : List Row) (s : State) → Passes s (each rows x g s)
  each_passes x g p k [] s = steps.same s
  each_passes x g p k (row ∷ rows) s =
      a_turn s.store s.lines s.turns (λ u. then_turn (g (with_variable u x (plainly (element row)))) (each rows x g)) (λ u. turned_then u (g (with_variable u x (plainly (element row)))) (each rows x g) (behind u (with_variable u x (plainly (element row))) (g (with_variable u x (plainly (element row)))) (steps.set u x (plainly (element row)) p) (k (with_variable u x (plainly (element row))))) (each_passes x g p k rows))

  repeat_passes : (test : Test) (g : Does) → ((s : State) → Passes s (g s)) → (n : ℕ) (s : State) → Passes s (repeat n test g s)
  repeat_passes test g k zero s = bound s (test s.store) (λ b. branch b (λ t. Err endings.OutOfTurns) done s) (λ b. branched s b (λ t. Err endings.OutOfTurns) done tt (steps.same s))
  repeat_passes test g k (suc n) s =
      bound s (test s.store) (λ b. branch b (λ t. turn t >>= λ u. then_turn (g u) (repeat n test g)) done s) (λ b. branched s b (λ t. turn t >>= λ u. then_turn (g u) (repeat n test g)) done (a_turn s.store s.lines s.turns (λ u. then_turn (g u) (repeat n test g)) (λ u. turned_then u (g u) (repeat n test g) (k u) (repeat_passes test g k n))) (steps.same s))

  returned_passes : (w : World) (e : Option Expression) (s : State) → Passes s (returned e w s)
  returned_passes w None s = steps.same s
  returned_passes w (Some e) s = bound s (value_of e w s.store) (λ v. Ok (Returns s (Some v))) (λ v. steps.same s)

  mutual
    pub one_passes : (a : Statement) (w : World) → EachSetIn P a → (s : State) → Passes s (meaning a w s)
    one_passes (tree.Declare at ty x e) w p s = bound s (value_of e w s.store) _ (λ v. steps.set s x _ p)
    one_passes (tree.Assign at x e) w p s = bound s (value_of e w s.store) _ (λ v. bound s (found (at_name s.store x)) _ (λ held. steps.set s x _ p))
    one_passes (tree.Add at x e) w p s = bound s (value_of e w s.store) _ (λ v. bound s (as_member v) _ (λ row. bound s (found (at_name s.store x)) _ (λ (held : Variable). bound s (as_rows held.value) _ (λ rows. steps.set s x _ p))))
    one_passes (tree.Sort at x keys down) w p s = bound s (found (at_name s.store x)) _ (λ (held : Variable). bound s (as_rows held.value) _ (λ rows. steps.set s x _ p))
    one_passes (tree.If at c a) w p s = bound s (test_of c w s.store) (λ b. branch b (meanings a w) done s) (λ b. branched s b (meanings a w) done (all_pass a w p s) (steps.same s))
    one_passes (tree.IfElse at c a o) w p s = bound s (test_of c w s.store) (λ b. branch b (meanings a w) (meanings o w) s) (λ b. branched s b (meanings a w) (meanings o w) (all_pass a w p.0 s) (all_pass o w p.1 s))
    one_passes (tree.ForEach at ty x e b) w p s =
        bound s (value_of e w s.store) (λ v. as_rows v >>= λ rows. each rows x (meanings b w) s) (λ v. bound s (as_rows v) (λ rows. each rows x (meanings b w) s) (λ rows. each_passes x (meanings b w) p.0 (all_pass b w p.1) rows s))
    one_passes (tree.While at c b) w p s = repeat_passes (test_of c w) (meanings b w) (all_pass b w p) s.turns s
    one_passes (tree.Print at e) w p s = bound s (value_of e w s.store) _ (λ v. bound s (as_scalar v) _ (λ x. steps.line s (printed x)))
    one_passes (tree.Return at e) w p s = returned_passes w e s
    one_passes (tree.Break at) w p s = steps.same s

    pub all_pass : (p : Statements) (w : World) → EachSet P p → (s : State) → Passes s (meanings p w s)
    all_pass Nothing w p s = steps.same s
    all_pass (Then a q) w p s = done_then s (meaning a w s) (meanings q w) (one_passes a w p.0 s) (all_pass q w p.1)

-- ---- No statement gives turns back

abbrev pub Anything : List ℕ → Type 0
Anything x = Unit {0}

mutual
  set_anything_in : (a : Statement) → EachSetIn Anything a
  set_anything_in (tree.Declare at ty x e) = tt
  set_anything_in (tree.Assign at x e) = tt
  set_anything_in (tree.Add at x e) = tt
  set_anything_in (tree.Sort at x keys down) = tt
  set_anything_in (tree.If at c p) = set_anything p
  set_anything_in (tree.IfElse at c p q) = (set_anything p, set_anything q)
  set_anything_in (tree.ForEach at ty x e p) = (tt, set_anything p)
  set_anything_in (tree.While at c p) = set_anything p
  set_anything_in (tree.Print at e) = tt
  set_anything_in (tree.Return at e) = tt
  set_anything_in (tree.Break at) = tt

  set_anything : (p : Statements) → EachSet Anything p
  set_anything Nothing = tt
  set_anything (Then a p) = (set_anything_in a, set_anything p)

abbrev pub Spends : State → State → Type 0
Spends s t = t.turns ≤ s.turns

pub spending : Steps Spends Anything
spending = record { same = λ s. omega arith; next = λ s t u h k. omega (arith, h, k); turn = λ store lines n. omega arith; line = λ s line. omega arith; set = λ s x v p. omega arith }

-- wherever it passes no turn is given back
abbrev pub HasSpent : State → Result Passed Ending → Type 0
HasSpent s r = Passes Spends Anything spending s r

pub spent_in : (a : Statement) (w : World) (s : State) → HasSpent s (meaning a w s)
spent_in a w s = one_passes Spends Anything spending a w (set_anything_in a) s

-- ---- Visible scalars and rows that aren't assigned stay

abbrev pub Untouched : Types → Names → Store → Store → Type 0
Untouched g assigned s t = (y : List ℕ) (k : Single) → g y ≡ Some (Of k) → is_among assigned y ≡ false → at_name t y ≡ at_name s y

abbrev pub Stays : Types → Names → State → State → Type 0
Stays g assigned s t = Untouched g assigned s.store t.store

abbrev pub IsOther : Types → Names → List ℕ → Type 0
IsOther g assigned x = (y : List ℕ) (k : Single) → g y ≡ Some (Of k) → is_among assigned y ≡ false → bytes_eq x y ≡ false

pub staying : (g : Types) (assigned : Names) → Steps (Stays g assigned) (IsOther g assigned)
staying g assigned = record { same = λ s y k e n. refl; next = λ s t u h i y k e n. i y k e n ∙ h y k e n; turn = λ store lines m y k e n. refl; line = λ s line y k e n. refl; set = λ s x v p y k e n. put_other s.store x y v (p y k e n) }

abbrev pub IsAmong : Names → List ℕ → Type 0
IsAmong assigned x = is_among assigned x ≡ true

by_name : (x y : List ℕ) (b : Bool) → bytes_eq x y ≡ b → (x ≡ y → ⊥) → b ≡ false
by_name x y true e h = absurd (h (names_equal x y e))
by_name x y false e h = refl

module _ (c : Frame) (g : Types) (assigned : Names) where
  new_other : (h : Types) (x : List ℕ) → Extends h g → h x ≡ None → IsOther g assigned x
  new_other h x f n y k e a = by_name x y (bytes_eq x y) refl (λ same. (let there : h y ≡ Some (Of k) = f y (Of k) e in let none : h x ≡ h y = ap h same in absurd cc))

  assigned_other : (x : List ℕ) → is_among assigned x ≡ true → IsOther g assigned x
  assigned_other x n y k e a = by_name x y (bytes_eq x y) refl (λ same. (let there : is_among assigned x ≡ is_among assigned y = ap (is_among assigned) same in absurd cc))

  many_other : (h : Types) (x : List ℕ) (j : JavaType) (b : Single) → Extends h g → h x ≡ Some j → Has j b → IsOther g assigned x
  many_other h x _ b f n (listed _) y k e a = by_name x y (bytes_eq x y) refl (λ same. (let there : h y ≡ Some (Of k) = f y (Of k) e in let one : h x ≡ h y = ap h same in absurd cc))
  many_other h x _ b f n (distinct _) y k e a = by_name x y (bytes_eq x y) refl (λ same. (let there : h y ≡ Some (Of k) = f y (Of k) e in let one : h x ≡ h y = ap h same in absurd cc))

  wider_by : (h m : Types) → Extends m h → Extends h g → Extends m g
  wider_by h m e f y k i = e y k (f y k i)

  mutual
    set_other_in : (l : Option Types) (h : Types) (a : Statement) (m : Types) → TypedStatement c l h a m → Extends h g → AllByRecursion (IsAmong assigned) (assigned_in a) → EachSetIn (IsOther g assigned) a
    set_other_in _ _ _ _ (declare l h at ty x e k n s t) f names = new_other h x f n
    set_other_in _ _ _ _ (assign l h at x e k n t) f names = assigned_other x names.0
    set_other_in _ _ _ _ (add l h at x e k b n has t) f names = many_other h x k b f n has
    set_other_in _ _ _ _ (sort l h at x keys down b n) f names = many_other h x (Listed b) b f n (listed b)
    set_other_in _ _ _ _ (when l h z at e p t q) f names = set_other l h p z q f names
    set_other_in _ _ _ _ (choose l h z z' at e p q t r s) f names =
        let both = all_parts (IsAmong assigned) (assigned_among p) (assigned_among q) names in
        (set_other l h p z r f both.0, set_other l h q z' s f both.1)
    set_other_in _ _ _ _ (for_each l h z at ty x e p k b n t has q) f names =
        (new_other h x f n, set_other (Some (with_type x (Some (Of b)) h)) (with_type x (Some (Of b)) h) p z q (wider_by h (with_type x (Some (Of b)) h) (extends_new h x (Of b) n) f) names)
    set_other_in _ _ _ _ (for_each_new l h z at ty x e p k n s new q) f names =
        (new_other h x f n, set_other (Some (with_type x (Some k) h)) (with_type x (Some k) h) p z q (wider_by h (with_type x (Some k) h) (extends_new h x k n) f) names)
    set_other_in _ _ _ _ (while_true l h z at e p t q) f names = set_other (Some h) h p z q f names
    set_other_in _ _ _ _ (print l h at e ty t) f names = tt
    set_other_in _ _ _ _ (return_none l h at n) f names = tt
    set_other_in _ _ _ _ (return_value l h at e k n t) f names = tt
    set_other_in _ _ _ _ (leave b h at n) f names = tt

    set_other : (l : Option Types) (h : Types) (p : Statements) (m : Types) → TypedStatements c l h p m → Extends h g → AllByRecursion (IsAmong assigned) (assigned_among p) → EachSet (IsOther g assigned) p
    set_other _ _ _ _ (nothing l h) f names = tt
    set_other _ _ _ _ (next l h m z a p t q) f names =
        let both = all_parts (IsAmong assigned) (assigned_in a) (assigned_among p) names in
        (set_other_in l h a m t f both.0, set_other l m p z q (wider_by h m (extends_statement c l h m a t) f) both.1)

  pub untouched : (l : Option Types) (h : Types) (p : Statements) (m : Types) → TypedStatements c l h p m → Extends h g → AllByRecursion (IsAmong assigned) (assigned_among p) → (w : World) (s u : State) → meanings p w s ≡ Ok (GoesOn u) → Untouched g assigned s.store u.store
  untouched l h p m t f names w s u e = subst (Passes (Stays g assigned) (IsOther g assigned) (staying g assigned) s) e (all_pass (Stays g assigned) (IsOther g assigned) (staying g assigned) p w (set_other l h p m t f names) s)
