-- A variable stays a set, or none, where it isn't declared again.
use Rattle.std.proofs.Common.{◌≡◌, ℕ, zero, suc, Bool, true, false, ◌||◌, List, [], ◌∷◌, Option, Some, None, Result, Ok, Err, refl, sym, ap, ◌∙◌, subst}
use Rattle.std.specs.Prelude.{bytes_eq}
use Rattle.qbs_base.specs.declared.span.Span.{Span}
use Rattle.qbs_base.specs.declared.scalar.Scalar.{Scalar}
use Rattle.qbs_base.specs.declared.scalar.Row.{Row}
use Rattle.qbs_base.specs.declared.scalar.Value.{Value}
use Rattle.qbs_base.specs.Named.{at_name}
use Rattle.java_ast.specs.Tree.{Spelled, Expression, Statement, Declare, Assign, Add, Sort, If, IfElse, ForEach, While, Print, Return, Break, Statements, Nothing, Then}
use Rattle.java_mean.specs.declared.ending.Ending.{Ending}
use Rattle.java_mean.specs.Endings.{◌>>=◌, found}
use Rattle.java_mean.specs.Expression.{value_of, scalars_of, as_rows, as_scalar, as_member, element}
use Rattle.java_mean.specs.Statement.{State, Passed, GoesOn, Leaves, Returns, Does, Test, done, then_do, then_turn, branch, fewer, turn, with_variable, with_value, is_set_type, each, repeat, test_of, returned}
use Rattle.java_mean.specs.Store.{Store, Variable, put, plainly}
use Rattle.java_mean.specs.World.{World}
use Rattle.java_mean.proofs.Puts.{names_equal, put_same, put_other}
use Rattle.java_calls.specs.Called.{Call, call_of}
use Rattle.java_calls.specs.Fitting.{declares, declares_among}
use Rattle.java_calls.specs.Calling.{Back, Callee, Given, given_back, given_by_call, given, meaning_with, meanings_with}

or_first : (p q : Bool) → p || q ≡ false → p ≡ false
or_first true q h = absurd cc
or_first false q h = refl

or_second : (p q : Bool) → p || q ≡ false → q ≡ false
or_second true q h = absurd cc
or_second false q h = h

some_is : {A : Type 0} (a b : A) → Some a ≡ Some b → a ≡ b
some_is a b e = cc

module _ (v : List ℕ) (b : Bool) where
  abbrev pub HasMark : Store → Type 0
  HasMark t = (held : Variable) → at_name t v ≡ Some held → held.is_set ≡ b

  abbrev pub KeepsMark : Result Passed Ending → Type 0
  KeepsMark (Ok (GoesOn u)) = HasMark u.store
  KeepsMark (Ok (Leaves u)) = HasMark u.store
  KeepsMark (Ok (Returns u x)) = Unit {0}
  KeepsMark (Err e) = Unit {0}

  mark_bind : {A : Type 0} (o : Result A Ending) (f : A → Result Passed Ending) → ((x : A) → o ≡ Ok x → KeepsMark (f x)) → KeepsMark (o >>= f)
  mark_bind (Ok x) f h = h x refl
  mark_bind (Err e) f h = tt

  mark_then : (o : Result Passed Ending) (f : Does) → KeepsMark o → ((s : State) → HasMark s.store → KeepsMark (f s)) → KeepsMark (then_do o f)
  mark_then (Ok (GoesOn s)) f o h = h s o
  mark_then (Ok (Leaves s)) f o h = o
  mark_then (Ok (Returns s x)) f o h = tt
  mark_then (Err e) f o h = tt

  mark_turn : (o : Result Passed Ending) (f : Does) → KeepsMark o → ((s : State) → HasMark s.store → KeepsMark (f s)) → KeepsMark (then_turn o f)
  mark_turn (Ok (GoesOn s)) f o h = h s o
  mark_turn (Ok (Leaves s)) f o h = o
  mark_turn (Ok (Returns s x)) f o h = tt
  mark_turn (Err e) f o h = tt

  mark_branch : (p : Bool) (f g : Does) (s : State) → KeepsMark (f s) → KeepsMark (g s) → KeepsMark (branch p f g s)
  mark_branch true f g s h i = h
  mark_branch false f g s h i = i

  -- another variable
  mark_other : (t : Store) (x : List ℕ) (u : Variable) → bytes_eq x v ≡ false → HasMark t → HasMark (put t x u)
  mark_other t x u n h held e = h held (sym (put_other t x v u n) ∙ e)

  set_by : (t : Store) (x : List ℕ) (held : Variable) (y : Value) → at_name t x ≡ Some held → HasMark t → (p : Bool) → bytes_eq x v ≡ p → HasMark (put t x (record { value = y; is_set = held.is_set }))
  set_by t x held y e h true same u i =
      let is : x ≡ v = names_equal x v same in
      let new : record { value = y; is_set = held.is_set } ≡ u = some_is _ u (sym (put_same t x (record { value = y; is_set = held.is_set })) ∙ ap (at_name (put t x (record { value = y; is_set = held.is_set }))) is ∙ i) in
      ap (λ (w : Variable). w.is_set) (sym new) ∙ h held (ap (at_name t) (sym is) ∙ e)
  set_by t x held y e h false same u i = mark_other t x (record { value = y; is_set = held.is_set }) same h u i

  -- a variable that gets another value
  mark_set : (t : Store) (x : List ℕ) (held : Variable) (y : Value) → found (at_name t x) ≡ Ok held → HasMark t → HasMark (put t x (record { value = y; is_set = held.is_set }))
  mark_set t x held y e h = set_by t x held y (found_is (at_name t x) e) h (bytes_eq x v) refl
    where
      found_is : (o : Option Variable) → found o ≡ Ok held → o ≡ Some held
      found_is None e = absurd cc
      found_is (Some u) e = ap Some (ok_is u held e)
        where
          ok_is : (a c : Variable) → ◌≡◌ {A = Result Variable Ending} (Ok a) (Ok c) → a ≡ c
          ok_is a c e = cc

  turn_same : (n : ℕ) (store : Store) (lines : List (List ℕ)) (f : State → Result Passed Ending) → HasMark store → ((s : State) → HasMark s.store → KeepsMark (f s)) → KeepsMark (fewer n store lines >>= f)
  turn_same zero store lines f m h = tt
  turn_same (suc n) store lines f m h = h (record { store = store; lines = lines; turns = n }) m

  mark_each : (x : List ℕ) (g : Does) → bytes_eq x v ≡ false → ((s : State) → HasMark s.store → KeepsMark (g s)) → (rows : List Row) (s : State) → HasMark s.store → KeepsMark (each rows x g s)
  mark_each x g n h [] s m = m
  mark_each x g n h (row ∷ rows) s m =
      turn_same s.turns s.store s.lines (λ t. then_turn (g (with_variable t x (plainly (element row)))) (each rows x g)) m
      (λ t i. mark_turn (g (with_variable t x (plainly (element row)))) (each rows x g) (h (with_variable t x (plainly (element row))) (mark_other t.store x (plainly (element row)) n i)) (mark_each x g n h rows))

  mark_repeat : (test : Test) (g : Does) → ((s : State) → HasMark s.store → KeepsMark (g s)) → (n : ℕ) (s : State) → HasMark s.store → KeepsMark (repeat n test g s)
  mark_repeat test g h zero s m = mark_bind (test s.store) _ (λ p e. mark_branch p _ done s tt m)
  mark_repeat test g h (suc n) s m =
      mark_bind (test s.store) _ (λ p e. mark_branch p (λ t. turn t >>= λ u. then_turn (g u) (repeat n test g)) done s
      (turn_same s.turns s.store s.lines (λ u. then_turn (g u) (repeat n test g)) m (λ u i. mark_turn (g u) (repeat n test g) (h u i) (mark_repeat test g h n))) m)

  given_store : (callee : Callee) (w : World) (s : State) (o : Option Call) (e : Expression) (g : Given) → given_by_call callee w s o e ≡ Ok g → g.state.store ≡ s.store
  given_store callee w s None e g h = by (value_of e w s.store) h
    where
      ok_is : (a c : Given) → ◌≡◌ {A = Result Given Ending} (Ok a) (Ok c) → a ≡ c
      ok_is a c e = cc

      by : (o : Result Value Ending) → (o >>= λ x. Ok (record { value = x; state = s })) ≡ Ok g → g.state.store ≡ s.store
      by (Ok x) h = ap (λ (g : Given). g.state.store) (sym (ok_is (record { value = x; state = s }) g h))
      by (Err e) h = absurd cc
  given_store callee w s (Some call) e g h = by (scalars_of call.arguments w s.store) h
    where
      ok_is : (a c : Given) → ◌≡◌ {A = Result Given Ending} (Ok a) (Ok c) → a ≡ c
      ok_is a c e = cc

      back_by : (o : Result Back Ending) → (o >>= λ b. Ok (given_back s b)) ≡ Ok g → g.state.store ≡ s.store
      back_by (Ok x) h = ap (λ (g : Given). g.state.store) (sym (ok_is (given_back s x) g h))
      back_by (Err e) h = absurd cc

      by : (o : Result (List Scalar) Ending) → (o >>= λ xs. callee call.name xs s.lines s.turns >>= λ b. Ok (given_back s b)) ≡ Ok g → g.state.store ≡ s.store
      by (Ok xs) h = back_by (callee call.name xs s.lines s.turns) h
      by (Err e) h = absurd cc

  module _ (callee : Callee) (w : World) where
    mutual
      mark_statement : (a : Statement) → declares v a ≡ false → (s : State) → HasMark s.store → KeepsMark (meaning_with callee a w s)
      mark_statement (Declare at ty x e) n s m =
          mark_bind (given callee w s e) _ (λ g is. mark_other g.state.store x _ n (subst HasMark (sym (given_store callee w s (call_of e) e g is)) m))
      mark_statement (Assign at x e) n s m =
          mark_bind (given callee w s e) _ (λ g is. mark_bind (found (at_name g.state.store x)) _ (λ held there. mark_set g.state.store x held g.value there (subst HasMark (sym (given_store callee w s (call_of e) e g is)) m)))
      mark_statement (Add at x e) n s m =
          mark_bind (value_of e w s.store) _ (λ y q. mark_bind (as_member y) _ (λ row r. mark_bind (found (at_name s.store x)) _ (λ held there. mark_bind (as_rows held.value) _ (λ rows t. mark_set s.store x held _ there m))))
      mark_statement (Sort at x keys downs) n s m = mark_bind (found (at_name s.store x)) _ (λ held there. mark_bind (as_rows held.value) _ (λ rows t. mark_set s.store x held _ there m))
      mark_statement (If at c a) n s m = mark_bind (test_of c w s.store) _ (λ p e. mark_branch p (meanings_with callee a w) done s (keeps_mark a n s m) m)
      mark_statement (IfElse at c a o) n s m =
          mark_bind (test_of c w s.store) _ (λ p e. mark_branch p (meanings_with callee a w) (meanings_with callee o w) s (keeps_mark a (or_first (declares_among v a) (declares_among v o) n) s m) (keeps_mark o (or_second (declares_among v a) (declares_among v o) n) s m))
      mark_statement (ForEach at ty x e body) n s m =
          mark_bind (value_of e w s.store) _ (λ y q. mark_bind (as_rows y) _ (λ rows r. mark_each x (meanings_with callee body w) (or_first (bytes_eq x v) (declares_among v body) n) (keeps_mark body (or_second (bytes_eq x v) (declares_among v body) n)) rows s m))
      mark_statement (While at c body) n s m = mark_repeat (test_of c w) (meanings_with callee body w) (keeps_mark body n) s.turns s m
      mark_statement (Print at e) n s m = mark_bind (value_of e w s.store) _ (λ y q. mark_bind (as_scalar y) _ (λ x r. m))
      mark_statement (Return at None) n s m = tt
      mark_statement (Return at (Some e)) n s m = mark_bind (value_of e w s.store) _ (λ y q. tt)
      mark_statement (Break at) n s m = m

      -- whatever calls come to
      pub keeps_mark : (p : Statements) → declares_among v p ≡ false → (s : State) → HasMark s.store → KeepsMark (meanings_with callee p w s)
      keeps_mark Nothing n s m = m
      keeps_mark (Then a p) n s m = mark_then (meaning_with callee a w s) (meanings_with callee p w) (mark_statement a (or_first (declares v a) (declares_among v p) n) s m) (keeps_mark p (or_second (declares v a) (declares_among v p) n))

    declared_by : (at : Span) (ty : Spelled) (x : List ℕ) (e : Expression) (s : State) → bytes_eq x v ≡ true → is_set_type ty ≡ b → KeepsMark (meaning_with callee (Declare at ty x e) w s)
    declared_by at ty x e s same set =
        mark_bind (given callee w s e) _ (λ g is held i.
        (let eq : x ≡ v = names_equal x v same in
        let new : record { value = g.value; is_set = is_set_type ty } ≡ held = some_is _ held (sym (put_same g.state.store x (record { value = g.value; is_set = is_set_type ty })) ∙ ap (at_name (put g.state.store x (record { value = g.value; is_set = is_set_type ty }))) eq ∙ i) in
        ap (λ (u : Variable). u.is_set) (sym new) ∙ set))

    -- behind a declaration it is what the declared type says
    pub declared_mark : (at : Span) (ty : Spelled) (x : List ℕ) (e : Expression) (p : Statements) (s : State) → bytes_eq x v ≡ true → is_set_type ty ≡ b → declares_among v p ≡ false → KeepsMark (meanings_with callee (Then (Declare at ty x e) p) w s)
    declared_mark at ty x e p s same set n = mark_then (meaning_with callee (Declare at ty x e) w s) (meanings_with callee p w) (declared_by at ty x e s same set) (keeps_mark p n)
