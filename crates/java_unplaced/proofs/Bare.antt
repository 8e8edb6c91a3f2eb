-- What statements do where all their places are left aside: the same, with each fault at no place.
use Rattle.std.specs.Prelude.{ℕ, zero, suc, Bool, true, false, List, [], ◌∷◌, Option, Some, None, Result, Ok, Err}
use Rattle.std.proofs.Common.{◌≡◌, refl, ap, ◌∙◌}
use Rattle.std.specs.Option.{option_map}
use Rattle.qbs_base.specs.declared.scalar.Scalar.{Scalar}
use Rattle.qbs_base.specs.declared.scalar.Scalar.TheVariants as scalars
use Rattle.qbs_base.specs.declared.scalar.Row.{Row}
use Rattle.qbs_base.specs.declared.scalar.Value.{Value}
use Rattle.qbs_base.specs.declared.scalar.Value.TheVariants.{One, Whole, Many}
use Rattle.qbs_base.specs.Named.{at_name}
use Rattle.qbs_base.specs.Sort.{stable_sort}
use Rattle.java_ast.specs.Tree as plain
use Rattle.java_ast.specs.Tree.{Expression, Expressions, Statement, Statements}
use Rattle.java_ast.specs.Placed.{placed, placed_all}
use Rattle.java_ast.specs.Unplaced.{nowhere, unplaced, unplaced_all, unplaced_statement, unplaced_block}
use Rattle.java_mean.specs.declared.ending.Ending.{Ending}
use Rattle.java_mean.specs.declared.ending.Ending.TheVariants as endings
use Rattle.java_mean.specs.Endings.{◌>>=◌, found}
use Rattle.java_mean.specs.Expression.{value_of, as_scalar, as_rows, as_bool, as_member, element}
use Rattle.java_mean.specs.PlacedValues.{result_at}
use Rattle.java_mean.specs.Statement.{State, Passed, GoesOn, Leaves, Returns, Does, done, then_do, then_turn, branch, fewer, turn, with_variable, with_value, with_line, printed, is_set_type, added, in_order, each, Test, repeat, test_of, returned, meaning, meanings}
use Rattle.java_mean.specs.Store.{Store, Variable, plainly}
use Rattle.java_mean.specs.World.{World}
use Rattle.java_mean.proofs.Placing.{value_at}

-- the same, or the same ending at no place
abbrev pub bare : {A : Type 0} → Result A Ending → Result A Ending
bare r = result_at nowhere r

-- ---- expressions

mutual
  placed_is : (e : Expression) → unplaced e ≡ placed nowhere e
  placed_is (plain.Lit at x) = refl
  placed_is (plain.Var at x) = refl
  placed_is (plain.Field at e f) = ap (λ (x : Expression). plain.Field nowhere x f) (placed_is e)
  placed_is (plain.Binary at op a b) = ap (λ (x : Expression). plain.Binary nowhere op x (unplaced b)) (placed_is a) ∙ ap (λ (x : Expression). plain.Binary nowhere op (placed nowhere a) x) (placed_is b)
  placed_is (plain.Not at e) = ap (λ (x : Expression). plain.Not nowhere x) (placed_is e)
  placed_is (plain.Equals at a b) = ap (λ (x : Expression). plain.Equals nowhere x (unplaced b)) (placed_is a) ∙ ap (λ (x : Expression). plain.Equals nowhere (placed nowhere a) x) (placed_is b)
  placed_is (plain.Size at x) = refl
  placed_is (plain.Get at x e) = ap (λ (y : Expression). plain.Get nowhere x y) (placed_is e)
  placed_is (plain.Contains at x e) = ap (λ (y : Expression). plain.Contains nowhere x y) (placed_is e)
  placed_is (plain.Fetch at t) = refl
  placed_is (plain.Query at ty text es) = ap (λ (xs : Expressions). plain.Query nowhere ty text xs) (all_placed es)
  placed_is (plain.QueryLong at text es) = ap (λ (xs : Expressions). plain.QueryLong nowhere text xs) (all_placed es)
  placed_is (plain.QueryBoolean at text es) = ap (λ (xs : Expressions). plain.QueryBoolean nowhere text xs) (all_placed es)
  placed_is (plain.NewList at) = refl
  placed_is (plain.NewSet at) = refl
  placed_is (plain.NewSetOf at e) = ap (λ (x : Expression). plain.NewSetOf nowhere x) (placed_is e)

  all_placed : (es : Expressions) → unplaced_all es ≡ placed_all nowhere es
  all_placed plain.NoMore = refl
  all_placed (plain.And e es) = ap (λ (x : Expression). plain.And x (unplaced_all es)) (placed_is e) ∙ ap (λ (xs : Expressions). plain.And (placed nowhere e) xs) (all_placed es)

value_bare : (e : Expression) (w : World) (s : Store) → value_of (unplaced e) w s ≡ bare (value_of e w s)
value_bare e w s = ap (λ (x : Expression). value_of x w s) (placed_is e) ∙ value_at nowhere e w s

-- ---- one step behind another

then_bare : {A B : Type 0} (r r' : Result A Ending) (f f' : A → Result B Ending) → r' ≡ bare r → ((x : A) → f' x ≡ bare (f x)) → (r' >>= f') ≡ bare (r >>= f)
then_bare (Ok x) r' f f' e h = ap (λ r. r >>= f') e ∙ h x
then_bare (Err x) r' f f' e h = ap (λ r. r >>= f') e

do_bare : (r r' : Result Passed Ending) (f f' : Does) → r' ≡ bare r → ((t : State) → f' t ≡ bare (f t)) → then_do r' f' ≡ bare (then_do r f)
do_bare (Ok (GoesOn t)) r' f f' e h = ap (λ r. then_do r f') e ∙ h t
do_bare (Ok (Leaves t)) r' f f' e h = ap (λ r. then_do r f') e
do_bare (Ok (Returns t v)) r' f f' e h = ap (λ r. then_do r f') e
do_bare (Err x) r' f f' e h = ap (λ r. then_do r f') e

next_bare : (r r' : Result Passed Ending) (f f' : Does) → r' ≡ bare r → ((t : State) → f' t ≡ bare (f t)) → then_turn r' f' ≡ bare (then_turn r f)
next_bare (Ok (GoesOn t)) r' f f' e h = ap (λ r. then_turn r f') e ∙ h t
next_bare (Ok (Leaves t)) r' f f' e h = ap (λ r. then_turn r f') e
next_bare (Ok (Returns t v)) r' f f' e h = ap (λ r. then_turn r f') e
next_bare (Err x) r' f f' e h = ap (λ r. then_turn r f') e

branch_bare : (b : Bool) (f f' g g' : Does) (t : State) → f' t ≡ bare (f t) → g' t ≡ bare (g t) → branch b f' g' t ≡ bare (branch b f g t)
branch_bare true f f' g g' t x y = x
branch_bare false f f' g g' t x y = y

-- ---- steps that read no place

found_bare : {A : Type 0} (o : Option A) → found o ≡ bare (found o)
found_bare (Some x) = refl
found_bare None = refl

scalar_bare : (v : Value) → as_scalar v ≡ bare (as_scalar v)
scalar_bare (One x) = refl
scalar_bare (Whole row) = refl
scalar_bare (Many rows) = refl

rows_bare : (v : Value) → as_rows v ≡ bare (as_rows v)
rows_bare (One x) = refl
rows_bare (Whole row) = refl
rows_bare (Many rows) = refl

member_bare : (v : Value) → as_member v ≡ bare (as_member v)
member_bare (One x) = refl
member_bare (Whole row) = refl
member_bare (Many rows) = refl

bool_bare : (x : Scalar) → as_bool x ≡ bare (as_bool x)
bool_bare (scalars.Long n) = refl
bool_bare (scalars.Bool b) = refl
bool_bare (scalars.Text t) = refl

test_bare : (e : Expression) (w : World) (s : Store) → test_of (unplaced e) w s ≡ bare (test_of e w s)
test_bare e w s =
    then_bare (value_of e w s >>= as_scalar) (value_of (unplaced e) w s >>= as_scalar) as_bool as_bool
    (then_bare (value_of e w s) (value_of (unplaced e) w s) as_scalar as_scalar (value_bare e w s) scalar_bare) bool_bare

fewer_bare : (n : ℕ) (s : Store) (lines : List (List ℕ)) → fewer n s lines ≡ bare (fewer n s lines)
fewer_bare zero s lines = refl
fewer_bare (suc n) s lines = refl

turn_bare : (t : State) → turn t ≡ bare (turn t)
turn_bare t = fewer_bare t.turns t.store t.lines

-- ---- loops

each_bare : (rows : List Row) (x : List ℕ) (f f' : Does) → ((t : State) → f' t ≡ bare (f t)) → (t : State) → each rows x f' t ≡ bare (each rows x f t)
each_bare [] x f f' h t = refl
each_bare (row ∷ rows) x f f' h t =
    then_bare (turn t) (turn t) (λ u. then_turn (f (with_variable u x (plainly (element row)))) (each rows x f)) (λ u. then_turn (f' (with_variable u x (plainly (element row)))) (each rows x f')) (turn_bare t)
    (λ u. next_bare (f (with_variable u x (plainly (element row)))) (f' (with_variable u x (plainly (element row)))) (each rows x f) (each rows x f') (h (with_variable u x (plainly (element row)))) (each_bare rows x f f' h))

repeat_bare : (n : ℕ) (c c' : Test) (f f' : Does) → ((s : Store) → c' s ≡ bare (c s)) → ((t : State) → f' t ≡ bare (f t)) → (t : State) → repeat n c' f' t ≡ bare (repeat n c f t)
repeat_bare zero c c' f f' g h t =
    then_bare (c t.store) (c' t.store) (λ b. branch b (λ u. Err endings.OutOfTurns) done t) (λ b. branch b (λ u. Err endings.OutOfTurns) done t) (g t.store)
    (λ b. branch_bare b (λ u. Err endings.OutOfTurns) (λ u. Err endings.OutOfTurns) done done t refl refl)
repeat_bare (suc n) c c' f f' g h t =
    let on : Does = λ u. turn u >>= λ v. then_turn (f v) (repeat n c f) in
    let on' : Does = λ u. turn u >>= λ v. then_turn (f' v) (repeat n c' f') in
    then_bare (c t.store) (c' t.store) (λ b. branch b on done t) (λ b. branch b on' done t) (g t.store)
    (λ b. branch_bare b on on' done done t
    (then_bare (turn t) (turn t) (λ v. then_turn (f v) (repeat n c f)) (λ v. then_turn (f' v) (repeat n c' f')) (turn_bare t)
    (λ v. next_bare (f v) (f' v) (repeat n c f) (repeat n c' f') (h v) (repeat_bare n c c' f f' g h))) refl)

-- ---- statements

returned_bare : (o : Option Expression) (w : World) (t : State) → returned (option_map unplaced o) w t ≡ bare (returned o w t)
returned_bare None w t = refl
returned_bare (Some e) w t =
    then_bare (value_of e w t.store) (value_of (unplaced e) w t.store) (λ v. Ok (Returns t (Some v))) (λ v. Ok (Returns t (Some v))) (value_bare e w t.store) (λ v. refl)

mutual
  pub meaning_bare : (a : Statement) (w : World) (t : State) → meaning (unplaced_statement a) w t ≡ bare (meaning a w t)
  meaning_bare (plain.Declare at ty x e) w t =
      let f : Value → Result Passed Ending = λ v. done (with_variable t x (record { value = v; is_set = is_set_type ty })) in
      then_bare (value_of e w t.store) (value_of (unplaced e) w t.store) f f (value_bare e w t.store) (λ v. refl)
  meaning_bare (plain.Assign at x e) w t =
      let f : Value → Result Passed Ending = λ v. found (at_name t.store x) >>= λ (held : Variable). done (with_value t x held v) in
      then_bare (value_of e w t.store) (value_of (unplaced e) w t.store) f f (value_bare e w t.store)
      (λ v. then_bare (found (at_name t.store x)) (found (at_name t.store x)) (λ (held : Variable). done (with_value t x held v)) (λ (held : Variable). done (with_value t x held v)) (found_bare (at_name t.store x)) (λ held. refl))
  meaning_bare (plain.Add at x e) w t =
      let last : Row → Variable → List Row → Result Passed Ending = λ row held rows. done (with_value t x held (Many (added held.is_set rows row))) in
      let held_by : Row → Variable → Result Passed Ending = λ row held. as_rows held.value >>= last row held in
      let by_row : Row → Result Passed Ending = λ row. found (at_name t.store x) >>= held_by row in
      let f : Value → Result Passed Ending = λ v. as_member v >>= by_row in
      then_bare (value_of e w t.store) (value_of (unplaced e) w t.store) f f (value_bare e w t.store)
      (λ v. then_bare (as_member v) (as_member v) by_row by_row (member_bare v)
      (λ row. then_bare (found (at_name t.store x)) (found (at_name t.store x)) (held_by row) (held_by row) (found_bare (at_name t.store x))
      (λ held. then_bare (as_rows held.value) (as_rows held.value) (last row held) (last row held) (rows_bare held.value) (λ rows. refl))))
  meaning_bare (plain.Sort at x keys down) w t =
      let last : Variable → List Row → Result Passed Ending = λ held rows. done (with_value t x held (Many (stable_sort (in_order w.schema keys down) rows))) in
      let by : Variable → Result Passed Ending = λ held. as_rows held.value >>= last held in
      then_bare (found (at_name t.store x)) (found (at_name t.store x)) by by (found_bare (at_name t.store x))
      (λ held. then_bare (as_rows held.value) (as_rows held.value) (last held) (last held) (rows_bare held.value) (λ rows. refl))
  meaning_bare (plain.If at c a) w t =
      then_bare (test_of c w t.store) (test_of (unplaced c) w t.store) (λ b. branch b (meanings a w) done t) (λ b. branch b (meanings (unplaced_block a) w) done t) (test_bare c w t.store)
      (λ b. branch_bare b (meanings a w) (meanings (unplaced_block a) w) done done t (meanings_bare a w t) refl)
  meaning_bare (plain.IfElse at c a o) w t =
      then_bare (test_of c w t.store) (test_of (unplaced c) w t.store) (λ b. branch b (meanings a w) (meanings o w) t) (λ b. branch b (meanings (unplaced_block a) w) (meanings (unplaced_block o) w) t) (test_bare c w t.store)
      (λ b. branch_bare b (meanings a w) (meanings (unplaced_block a) w) (meanings o w) (meanings (unplaced_block o) w) t (meanings_bare a w t) (meanings_bare o w t))
  meaning_bare (plain.ForEach at ty x e body) w t =
      let walk : Statements → List Row → Result Passed Ending = λ p rows. each rows x (meanings p w) t in
      let f : Statements → Value → Result Passed Ending = λ p v. as_rows v >>= walk p in
      then_bare (value_of e w t.store) (value_of (unplaced e) w t.store) (f body) (f (unplaced_block body)) (value_bare e w t.store)
      (λ v. then_bare (as_rows v) (as_rows v) (walk body) (walk (unplaced_block body)) (rows_bare v)
      (λ rows. each_bare rows x (meanings body w) (meanings (unplaced_block body) w) (λ u. meanings_bare body w u) t))
  meaning_bare (plain.While at c body) w t =
      repeat_bare t.turns (test_of c w) (test_of (unplaced c) w) (meanings body w) (meanings (unplaced_block body) w) (λ s. test_bare c w s) (λ u. meanings_bare body w u) t
  meaning_bare (plain.Print at e) w t =
      let last : Scalar → Result Passed Ending = λ x. done (with_line t (printed x)) in
      let f : Value → Result Passed Ending = λ v. as_scalar v >>= last in
      then_bare (value_of e w t.store) (value_of (unplaced e) w t.store) f f (value_bare e w t.store) (λ v. then_bare (as_scalar v) (as_scalar v) last last (scalar_bare v) (λ x. refl))
  meaning_bare (plain.Return at e) w t = returned_bare e w t
  meaning_bare (plain.Break at) w t = refl

  pub meanings_bare : (p : Statements) (w : World) (t : State) → meanings (unplaced_block p) w t ≡ bare (meanings p w t)
  meanings_bare plain.Nothing w t = refl
  meanings_bare (plain.Then a p) w t =
      do_bare (meaning a w t) (meaning (unplaced_statement a) w t) (meanings p w) (meanings (unplaced_block p) w) (meaning_bare a w t) (λ u. meanings_bare p w u)
