-- The value that the last statement on a variable gives it.
use Rattle.std.proofs.Common.{◌≡◌, ℕ, Bool, true, false, List, Option, Some, None, Result, Ok, Err, refl, sym, ap, ◌∙◌}
use Rattle.qbs_base.specs.declared.span.Span.{Span}
use Rattle.qbs_base.specs.declared.scalar.Row.{Row}
use Rattle.qbs_base.specs.declared.scalar.Value.{Value}
use Rattle.qbs_base.specs.declared.scalar.Value.TheVariants.{One, Many}
use Rattle.qbs_base.specs.Named.{at_name}
use Rattle.qbs_base.specs.Sort.{stable_sort}
use Rattle.java_ast.specs.Tree as tree
use Rattle.java_ast.specs.Tree.{Expression, Statement, Statements, Then}
use Rattle.java_mean.specs.declared.ending.Ending.{Ending}
use Rattle.java_mean.specs.Endings.{◌>>=◌, found}
use Rattle.java_mean.specs.Expression.{value_of, as_rows}
use Rattle.java_mean.specs.Refines.{followed_by}
use Rattle.java_mean.specs.Statement.{State, GoesOn, in_order, is_set_type, meanings}
use Rattle.java_mean.specs.Store.{Store, Variable, put}
use Rattle.java_mean.specs.World.{World}
use Rattle.java_mean.proofs.Puts.{put_same}
use Rattle.java_loops.specs.Walks.Reads.{Reads, SameOn}
use Rattle.loop_text.specs.Statements.Fragment.{are_simple, set_by}
use Rattle.java_loops.specs.Walks.Runs.{is_set_in, unset_in, made, ran, Gives, declares, assigns, set_held, set_after, IsGiven, IsSorted, HasRows, constant}
use Rattle.java_loops.proofs.Walks.SameReads.{reads_same}
use Rattle.java_loops.proofs.Walks.Passing.{Went, went, same_ok, run_store, ran_unset, Parts, ran_parts, LastSet, last_set}
use Rattle.java_loops.proofs.Walks.Truth.{not_true}

-- ---- What a statement makes

record MadeOf (w : World) (a : Statement) (e : Expression) (s : Store) (held : Variable) : Type 0 where
  value : value_of e w s ≡ Ok held.value
  set : held.is_set ≡ set_after a s

declared_of : (o : Result Value Ending) (b : Bool) (held : Variable) → (o >>= λ v. Ok (record { value = v; is_set = b })) ≡ Ok held → (o ≡ Ok held.value) × (held.is_set ≡ b)
declared_of (Ok v) b held e =
    let q : held ≡ record { value = v; is_set = b } = same_ok (Ok held) held (record { value = v; is_set = b }) refl (sym e) in
    (ap (λ (u : Variable). Ok u.value) (sym q), ap (λ (u : Variable). u.is_set) q)
declared_of (Err x) b held e = absurd cc

assigned_of : (o : Result Value Ending) (p : Option Variable) (held : Variable) → (o >>= λ v. found p >>= λ (u : Variable). Ok (record { value = v; is_set = u.is_set })) ≡ Ok held → (o ≡ Ok held.value) × (held.is_set ≡ set_held p)
assigned_of (Ok v) (Some u) held e =
    let q : held ≡ record { value = v; is_set = u.is_set } = same_ok (Ok held) held (record { value = v; is_set = u.is_set }) refl (sym e) in
    (ap (λ (z : Variable). Ok z.value) (sym q), ap (λ (z : Variable). z.is_set) q)
assigned_of (Ok v) None held e = absurd cc
assigned_of (Err x) p held e = absurd cc

made_of : (w : World) (a : Statement) (x : List ℕ) (e : Expression) (s : Store) (held : Variable) → Gives a x e → made a w s ≡ Ok held → MadeOf w a e s held
made_of w _ _ _ s held (declares at ty x e) h = let k = declared_of (value_of e w s) (is_set_type ty) held h in record { value = k.0; set = k.1 }
made_of w _ _ _ s held (assigns at x e) h = let k = assigned_of (value_of e w s) (at_name s x) held h in record { value = k.0; set = k.1 }

set_by_gives : (a : Statement) (x : List ℕ) (e : Expression) → Gives a x e → set_by a ≡ x
set_by_gives _ _ _ (declares at ty x e) = refl
set_by_gives _ _ _ (assigns at x e) = refl

-- ---- A value

pub given : (w : World) (before : Statements) (a : Statement) (x : List ℕ) (e : Expression) (after : Statements) (s t : State) → Gives a x e → are_simple (followed_by before (Then a after)) ≡ true → is_set_in after x ≡ false → meanings (followed_by before (Then a after)) w s ≡ Ok (GoesOn t) → IsGiven w before a x e s t
given w before a x e after s t g h n m =
    let q = set_by_gives a x e g in
    let k : LastSet w before a after s t = last_set w before a after s t h (ap (is_set_in after) q ∙ n) m in
    let v : MadeOf w a e k.start.store k.held = made_of w a x e k.start.store k.held g k.makes in
    record { start = k.start; reached = k.reached; held = k.held; left = ap (at_name t.store) (sym q) ∙ k.left; value = v.value; set = v.set }

-- what no later statement sets has still its value
pub given_still : (w : World) (before : Statements) (a : Statement) (x : List ℕ) (e : Expression) (after : Statements) (s t : State) → Gives a x e → are_simple (followed_by before (Then a after)) ≡ true → is_set_in after x ≡ false → Reads (unset_in (Then a after)) e → meanings (followed_by before (Then a after)) w s ≡ Ok (GoesOn t) → (held : Variable) × (at_name t.store x ≡ Some held) × (value_of e w t.store ≡ Ok held.value)
given_still w before a x e after s t g h n r m =
    let q = set_by_gives a x e g in
    let k : LastSet w before a after s t = last_set w before a after s t h (ap (is_set_in after) q ∙ n) m in
    let v : MadeOf w a e k.start.store k.held = made_of w a x e k.start.store k.held g k.makes in
    let same : SameOn (unset_in (Then a after)) t.store k.start.store = record { by = λ y i. ran_unset (Then a after) w k.start.store t.store y k.ends (not_true (is_set_in (Then a after) y) i) } in
    (k.held, ap (at_name t.store) (sym q) ∙ k.left, reads_same e (unset_in (Then a after)) w t.store k.start.store r same ∙ v.value)

some_same : {A : Type 0} (o : Option A) (a b : A) → o ≡ Some a → o ≡ Some b → a ≡ b
some_same o a b e h = cc

constant_value : (e : Expression) (v : Value) (w : World) (s : Store) → constant e ≡ Some v → value_of e w s ≡ Ok v
constant_value (tree.Lit at x) v w s h = ap (λ u. Ok u) (some_same (Some (One x)) (One x) v refl h)
constant_value (tree.NewList at) v w s h = ap (λ u. Ok u) (some_same (constant (tree.NewList at)) _ v refl h)
constant_value (tree.NewSet at) v w s h = ap (λ u. Ok u) (some_same (constant (tree.NewSet at)) _ v refl h)
constant_value (tree.Var at x) v w s h = absurd cc
constant_value (tree.Field at e n) v w s h = absurd cc
constant_value (tree.Binary at op a b) v w s h = absurd cc
constant_value (tree.Not at e) v w s h = absurd cc
constant_value (tree.Equals at a b) v w s h = absurd cc
constant_value (tree.Size at x) v w s h = absurd cc
constant_value (tree.Get at x e) v w s h = absurd cc
constant_value (tree.Contains at x e) v w s h = absurd cc
constant_value (tree.Fetch at n) v w s h = absurd cc
constant_value (tree.Query at ty text es) v w s h = absurd cc
constant_value (tree.QueryLong at text es) v w s h = absurd cc
constant_value (tree.QueryBoolean at text es) v w s h = absurd cc
constant_value (tree.NewSetOf at e) v w s h = absurd cc

-- a constant that is declared
pub declared_constant : (w : World) (before : Statements) (at : Span) (ty : tree.Spelled) (x : List ℕ) (e : Expression) (v : Value) (after : Statements) (s t : State) → constant e ≡ Some v → are_simple (followed_by before (Then (tree.Declare at ty x e) after)) ≡ true → is_set_in after x ≡ false → meanings (followed_by before (Then (tree.Declare at ty x e) after)) w s ≡ Ok (GoesOn t) → at_name t.store x ≡ Some (record { value = v; is_set = is_set_type ty })
declared_constant w before at ty x e v after s t c h n m =
    let k : IsGiven w before (tree.Declare at ty x e) x e s t = given w before (tree.Declare at ty x e) x e after s t (declares at ty x e) h n m in
    let same : k.held.value ≡ v = same_ok (value_of e w k.start.store) k.held.value v k.value (constant_value e v w k.start.store c) in
    k.left ∙ ap (λ u. Some (record { value = u; is_set = k.held.is_set })) same ∙ ap (λ b. Some (record { value = v; is_set = b })) k.set

-- a constant that is assigned, to what is held where the run comes to the statement
pub assigned_constant : (w : World) (before : Statements) (at : Span) (x : List ℕ) (e : Expression) (v : Value) (after : Statements) (s t : State) → constant e ≡ Some v → are_simple (followed_by before (Then (tree.Assign at x e) after)) ≡ true → is_set_in after x ≡ false → meanings (followed_by before (Then (tree.Assign at x e) after)) w s ≡ Ok (GoesOn t) → (start : State) × (meanings before w s ≡ Ok (GoesOn start)) × (at_name t.store x ≡ Some (record { value = v; is_set = set_held (at_name start.store x) }))
assigned_constant w before at x e v after s t c h n m =
    let k : IsGiven w before (tree.Assign at x e) x e s t = given w before (tree.Assign at x e) x e after s t (assigns at x e) h n m in
    let same : k.held.value ≡ v = same_ok (value_of e w k.start.store) k.held.value v k.value (constant_value e v w k.start.store c) in
    (k.start, k.reached, k.left ∙ ap (λ u. Some (record { value = u; is_set = k.held.is_set })) same ∙ ap (λ b. Some (record { value = v; is_set = b })) k.set)

-- ---- Rows

record SortedFrom (o : Option Variable) (f : List Row → List Row) (v : Variable) : Type 0 where
  held : Variable
  there : o ≡ Some held
  rows : List Row
  are : as_rows held.value ≡ Ok rows
  is : v ≡ record { value = Many (f rows); is_set = held.is_set }

rows_from : (held v : Variable) (f : List Row → List Row) (o : Result (List Row) Ending) → as_rows held.value ≡ o → (o >>= λ rows. Ok (record { value = Many (f rows); is_set = held.is_set })) ≡ Ok v → SortedFrom (Some held) f v
rows_from held v f (Ok rows) e h = record { held = held; there = refl; rows = rows; are = e; is = same_ok (Ok v) v (record { value = Many (f rows); is_set = held.is_set }) refl (sym h) }
rows_from held v f (Err x) e h = absurd cc

sorted_from : (o : Option Variable) (f : List Row → List Row) (v : Variable) → (found o >>= λ (held : Variable). as_rows held.value >>= λ rows. Ok (record { value = Many (f rows); is_set = held.is_set })) ≡ Ok v → SortedFrom o f v
sorted_from (Some held) f v h = rows_from held v f (as_rows held.value) refl h
sorted_from None f v h = absurd cc

pub sorted : (w : World) (before : Statements) (at : Span) (x : List ℕ) (keys : List (List ℕ)) (down : List Bool) (after : Statements) (s t : State) → are_simple (followed_by before (Then (tree.Sort at x keys down) after)) ≡ true → is_set_in after x ≡ false → meanings (followed_by before (Then (tree.Sort at x keys down) after)) w s ≡ Ok (GoesOn t) → IsSorted w before x keys down s t
sorted w before at x keys down after s t h n m =
    let k : LastSet w before (tree.Sort at x keys down) after s t = last_set w before (tree.Sort at x keys down) after s t h n m in
    let r : SortedFrom (at_name k.start.store x) (stable_sort (in_order w.schema keys down)) k.held = sorted_from (at_name k.start.store x) (stable_sort (in_order w.schema keys down)) k.held k.makes in
    record { start = k.start; reached = k.reached; held = r.held; there = r.there; rows = r.rows; are = r.are; left = k.left ∙ ap Some r.is }

fetched_value : (o : Option (List Row)) (v : Value) → (found o >>= λ rows. Ok (Many rows)) ≡ Ok v → (rows : List Row) × (o ≡ Some rows) × (v ≡ Many rows)
fetched_value (Some rows) v h = (rows, refl, same_ok (Ok v) v (Many rows) refl (sym h))
fetched_value None v h = absurd cc

pub fetched : (w : World) (before : Statements) (a : Statement) (at : Span) (table x : List ℕ) (after : Statements) (s t : State) → Gives a x (tree.Fetch at table) → are_simple (followed_by before (Then a after)) ≡ true → is_set_in after x ≡ false → meanings (followed_by before (Then a after)) w s ≡ Ok (GoesOn t) → HasRows w table x (λ rows. rows) t
fetched w before a at table x after s t g h n m =
    let k : IsGiven w before a x (tree.Fetch at table) s t = given w before a x (tree.Fetch at table) after s t g h n m in
    let r = fetched_value (at_name w.db table) k.held.value k.value in
    record { rows = r.0; are = r.1; held = k.held; left = k.left; value = r.2 }

rows_of : (v : Value) (rows rows' : List Row) → v ≡ Many rows → as_rows v ≡ Ok rows' → rows' ≡ rows
rows_of v rows rows' e h = same_ok (as_rows v) rows' rows h (ap as_rows e)

-- and then sorted
sorted_rows : (w : World) (table x : List ℕ) (f : List Row → List Row) (m u : Store) (v v' : Variable) (t : State) → at_name m x ≡ Some v → (rows : List Row) → at_name w.db table ≡ Some rows → v.value ≡ Many rows → SortedFrom (at_name m x) f v' → at_name t.store x ≡ Some v' → HasRows w table x f t
sorted_rows w table x f m u v v' t e rows are is k left =
    let same : k.held ≡ v = some_same (at_name m x) k.held v k.there e in
    let q : k.rows ≡ rows = rows_of k.held.value rows k.rows (ap (λ (z : Variable). z.value) same ∙ is) k.are in
    record { rows = rows; are = are; held = v'; left = left; value = ap (λ (z : Variable). z.value) k.is ∙ ap (λ z. Many (f z)) q }

put_kept : (p : Statements) (w : World) (s u : Store) (y x : List ℕ) (v : Variable) → y ≡ x → ran p w (put s y v) ≡ Ok u → is_set_in p x ≡ false → at_name u x ≡ Some v
put_kept p w s u y x v q e n = ran_unset p w (put s y v) u x e n ∙ ap (at_name (put s y v)) (sym q) ∙ put_same s y v

pub fetched_sorted : (w : World) (before : Statements) (a : Statement) (at at' : Span) (table x : List ℕ) (between : Statements) (keys : List (List ℕ)) (down : List Bool) (after : Statements) (s t : State) → Gives a x (tree.Fetch at table) → are_simple (followed_by before (Then a (followed_by between (Then (tree.Sort at' x keys down) after)))) ≡ true → is_set_in between x ≡ false → is_set_in after x ≡ false → meanings (followed_by before (Then a (followed_by between (Then (tree.Sort at' x keys down) after)))) w s ≡ Ok (GoesOn t) → HasRows w table x (stable_sort (in_order w.schema keys down)) t
fetched_sorted w before a at at' table x between keys down after s t g h n n' e =
    let sort : Statement = tree.Sort at' x keys down in
    let tail : Statements = followed_by between (Then sort after) in
    let f : List Row → List Row = stable_sort (in_order w.schema keys down) in
    let q = set_by_gives a x (tree.Fetch at table) g in
    let k : Parts before (Then a tail) w s.store t.store = ran_parts before (Then a tail) w s.store t.store (run_store (followed_by before (Then a tail)) w s t h e) in
    let m : Went (made a w k.middle) (λ v. ran tail w (put k.middle (set_by a) v)) t.store = went (made a w k.middle) (λ v. ran tail w (put k.middle (set_by a) v)) t.store k.second in
    let p : Parts between (Then sort after) w (put k.middle (set_by a) m.value) t.store = ran_parts between (Then sort after) w (put k.middle (set_by a) m.value) t.store m.rest in
    let o : Went (made sort w p.middle) (λ v. ran after w (put p.middle x v)) t.store = went (made sort w p.middle) (λ v. ran after w (put p.middle x v)) t.store p.second in
    let v : MadeOf w a (tree.Fetch at table) k.middle m.value = made_of w a x (tree.Fetch at table) k.middle m.value g m.first in
    let r = fetched_value (at_name w.db table) m.value.value v.value in
    sorted_rows w table x f p.middle t.store m.value o.value t (put_kept between w k.middle p.middle (set_by a) x m.value q p.first n) r.0 r.1 r.2 (sorted_from (at_name p.middle x) f o.value o.first) (put_kept after w p.middle t.store x x o.value refl o.rest n')
