-- What the first form of a loop collects.
use Rattle.std.proofs.Common.{◌≡◌, ℕ, zero, suc, Bool, true, false, List, [], ◌∷◌, ◌++◌, Option, Some, Result, Ok, Err, ℤ, refl, sym, ap, ◌∙◌, subst, cond, append_assoc, append-nil}
use Rattle.std.specs.Prelude.{bytes_eq}
use Rattle.std.specs.List.{filter, AllByRecursion}
use Rattle.qbs_base.specs.declared.scalar.Scalar.{Scalar}
use Rattle.qbs_base.specs.declared.scalar.Scalar.TheVariants as scalars
use Rattle.qbs_base.specs.declared.scalar.Row.{Row}
use Rattle.qbs_base.specs.declared.scalar.Value.{Value}
use Rattle.qbs_base.specs.declared.scalar.Value.TheVariants.{Whole, Many}
use Rattle.qbs_base.specs.Named.{at_name}
use Rattle.java_ast.specs.declared.tree.Op.TheVariants as ops
use Rattle.java_ast.specs.Tree.{Lit, Var, Field, Binary, Add, If, Return, Statements, Nothing, Then, PlainMethod}
use Rattle.java_ast.specs.Path.{with_body}
use Rattle.java_mean.specs.declared.ending.Ending.{Ending}
use Rattle.java_mean.specs.declared.ending.Ending.TheVariants as endings
use Rattle.java_mean.specs.Endings.{◌>>=◌}
use Rattle.java_mean.specs.Queries.{Rows}
use Rattle.java_mean.specs.Store.{Store, Variable, put, plainly}
use Rattle.java_mean.specs.World.{World}
use Rattle.java_mean.specs.Expression.{element, cell}
use Rattle.java_mean.specs.Statement.{State, Passed, GoesOn, Leaves, Returns, Does, then_do, then_turn, branch, fewer, with_variable, with_value, each, test_of, meanings}
use Rattle.java_mean.specs.Outcome.{Done, finished, start, outcome}
use Rattle.java_mean.specs.FirstForm.{FormPlaces, collecting, QueryPlaces, selecting, is_collected}
use Rattle.java_mean.proofs.Puts.{put_same, put_other}

-- a row of a table that has a number in the column
pub record HasNumber (w : World) (f : List ℕ) (row : Row) : Type 0 where
  pub whole : element row ≡ Whole row
  pub number : ℤ
  pub there : cell w.schema row f ≡ Some (scalars.Long number)

-- where the loop goes on, the list has these rows, and nothing was printed
abbrev pub Collects : List ℕ → List Row → List (List ℕ) → Result Passed Ending → Type 0
Collects o rows lines (Ok (GoesOn s)) = (at_name s.store o ≡ Some (plainly (Many rows))) × (s.lines ≡ lines)
Collects o rows lines (Ok (Leaves s)) = ⊥
Collects o rows lines (Ok (Returns s v)) = ⊥
Collects o rows lines (Err e) = Unit {0}

-- the loop's body
abbrev pub turn_of : FormPlaces → List ℕ → List ℕ → List ℕ → ℤ → Statements
turn_of at o x f d =
    Then (If at.test (Binary at.comparison ops.Eq (Field at.field (Var at.row x) f) (Lit at.number (scalars.Long d))) (Then (Add at.add o (Var at.member x)) Nothing)) Nothing

test_is : (at : FormPlaces) (x f : List ℕ) (d : ℤ) (w : World) (store : Store) (row : Row) → at_name store x ≡ Some (plainly (element row)) → (h : HasNumber w f row) → test_of (Binary at.comparison ops.Eq (Field at.field (Var at.row x) f) (Lit at.number (scalars.Long d))) w store ≡ Ok (is_collected w.schema f d row)
test_is at x f d w store row e h = rw (e, h.whole, h.there) refl

added_is : (at : FormPlaces) (o x : List ℕ) (w : World) (s : State) (row : Row) (rows : List Row) → at_name s.store x ≡ Some (plainly (element row)) → element row ≡ Whole row → at_name s.store o ≡ Some (plainly (Many rows)) → meanings (Then (Add at.add o (Var at.member x)) Nothing) w s ≡ Ok (GoesOn (with_value s o (plainly (Many rows)) (Many (rows ++ row ∷ []))))
added_is at o x w s row rows e h k = rw (e, h, k) refl

turn_collects : (at : FormPlaces) (o x f : List ℕ) (d : ℤ) (w : World) (s : State) (row : Row) (rows : List Row) → at_name s.store x ≡ Some (plainly (element row)) → HasNumber w f row → at_name s.store o ≡ Some (plainly (Many rows)) → Collects o (rows ++ filter (is_collected w.schema f d) (row ∷ [])) s.lines (meanings (turn_of at o x f d) w s)
turn_collects at o x f d w s row rows e h k = rw (test_is at x f d w s.store row e h) (chosen (is_collected w.schema f d row))
  where
    chosen : (b : Bool) → Collects o (rows ++ cond b (row ∷ []) []) s.lines (then_do (branch b (meanings (Then (Add at.add o (Var at.member x)) Nothing) w) (λ t. Ok (GoesOn t)) s) (λ t. Ok (GoesOn t)))
    chosen true = rw (added_is at o x w s row rows e h.whole k) (put_same s.store o (plainly (Many (rows ++ row ∷ []))), refl)
    chosen false = (k ∙ ap (λ z. Some (plainly (Many z))) (sym (append-nil rows)), refl)

-- the rest of a list after its first element, filtered
filter_step : {X : Type 0} (xs ys : List X) (x : X) (b : Bool) → (xs ++ cond b (x ∷ []) []) ++ ys ≡ xs ++ cond b (x ∷ ys) ys
filter_step xs ys x true = append_assoc xs (x ∷ []) ys
filter_step xs ys x false = ap (λ z. z ++ ys) (append-nil xs)

collects_same : (o : List ℕ) (rows rows' : List Row) (lines : List (List ℕ)) (r : Result Passed Ending) → rows ≡ rows' → Collects o rows lines r → Collects o rows' lines r
collects_same o rows rows' lines r e h = subst (λ z. Collects o z lines r) e h

collects_then : (o : List ℕ) (rows rows' : List Row) (lines : List (List ℕ)) (r : Result Passed Ending) (f : Does) → Collects o rows lines r → ((s : State) → at_name s.store o ≡ Some (plainly (Many rows)) → Collects o rows' s.lines (f s)) → Collects o rows' lines (then_turn r f)
collects_then o rows rows' lines (Ok (GoesOn s)) f h k = subst (λ z. Collects o rows' z (f s)) h.1 (k s h.0)
collects_then o rows rows' lines (Ok (Leaves s)) f h k = absurd h
collects_then o rows rows' lines (Ok (Returns s v)) f h k = absurd h
collects_then o rows rows' lines (Err e) f h k = tt

collects_fewer : (o : List ℕ) (rows : List Row) (n : ℕ) (store : Store) (lines : List (List ℕ)) (f : Does) → ((m : ℕ) → Collects o rows lines (f (record { store = store; lines = lines; turns = m }))) → Collects o rows lines (fewer n store lines >>= f)
collects_fewer o rows zero store lines f h = tt
collects_fewer o rows (suc n) store lines f h = h n

each_collects : (at : FormPlaces) (o x f : List ℕ) (d : ℤ) (w : World) → bytes_eq x o ≡ false → (rows : List Row) → AllByRecursion (HasNumber w f) rows → (before : List Row) (s : State) → at_name s.store o ≡ Some (plainly (Many before)) → Collects o (before ++ filter (is_collected w.schema f d) rows) s.lines (each rows x (meanings (turn_of at o x f d) w) s)
each_collects at o x f d w ne [] all before s e = (e ∙ ap (λ z. Some (plainly (Many z))) (sym (append-nil before)), refl)
each_collects at o x f d w ne (row ∷ rows) all before s e =
    let picked : Row → Bool = is_collected w.schema f d in
    let body : Does = meanings (turn_of at o x f d) w in
    let here : Variable = plainly (element row) in
    collects_fewer o (before ++ filter picked (row ∷ rows)) s.turns s.store s.lines (λ t. then_turn (body (with_variable t x here)) (each rows x body)) (λ m.
    let t : State = record { store = put s.store x here; lines = s.lines; turns = m } in
    collects_then o (before ++ filter picked (row ∷ [])) (before ++ filter picked (row ∷ rows)) s.lines (body t) (each rows x body) (turn_collects at o x f d w t row before (put_same s.store x here) all.0 (put_other s.store x o here ne ∙ e)) (λ u k. collects_same o ((before ++ filter picked (row ∷ [])) ++ filter picked rows) (before ++ filter picked (row ∷ rows)) u.lines (each rows x body u) (filter_step before (filter picked rows) row (picked row)) (each_collects at o x f d w ne rows all.1 (before ++ filter picked (row ∷ [])) u k)))

-- after the loop the list is returned
returned_is : (at : FormPlaces) (o : List ℕ) (rows : List Row) (w : World) (s : State) → at_name s.store o ≡ Some (plainly (Many rows)) → finished (meanings (Then (Return at.give (Some (Var at.given o))) Nothing) w s) ≡ Done s.lines (Some (Many rows))
returned_is at o rows w s e = rw e refl

ends_with : (at : FormPlaces) (o : List ℕ) (rows : List Row) (w : World) (r : Result Passed Ending) (lines : List (List ℕ)) (v : Option Value) → Collects o rows [] r → finished (then_do r (meanings (Then (Return at.give (Some (Var at.given o))) Nothing) w)) ≡ Done lines v → Done lines v ≡ Done [] (Some (Many rows))
ends_with at o rows w (Ok (GoesOn s)) lines v h e = sym e ∙ returned_is at o rows w s h.0 ∙ ap (λ z. Done z (Some (Many rows))) h.1
ends_with at o rows w (Ok (Leaves s)) lines v h e = absurd h
ends_with at o rows w (Ok (Returns s u)) lines v h e = absurd h
ends_with at o rows w (Err (endings.Faulted k p)) lines v h e = absurd cc
ends_with at o rows w (Err endings.OutOfTurns) lines v h e = absurd cc
ends_with at o rows w (Err endings.Stuck) lines v h e = absurd cc

-- the form is done with the rows collected, where it is done
pub collected_done : (at : FormPlaces) (t o x f : List ℕ) (d : ℤ) (w : World) (rows : List Row) (m : PlainMethod) (args : List Scalar) (n : ℕ) (lines : List (List ℕ)) (v : Option Value) → bytes_eq x o ≡ false → at_name w.db t ≡ Some rows → AllByRecursion (HasNumber w f) rows → outcome w (with_body m (collecting at t o x f d)) args n ≡ Done lines v → Done lines v ≡ Done [] (Some (Many (filter (is_collected w.schema f d) rows)))
collected_done at t o x f d w rows m args n lines v ne there all e =
    let first : State = start m args n in
    let s : State = with_variable first o (plainly (Many [])) in
    let body : Does = meanings (turn_of at o x f d) w in
    ends_with at o (filter (is_collected w.schema f d) rows) w (each rows x body s) lines v (each_collects at o x f d w ne rows all [] s (put_same first.store o (plainly (Many [])))) (rw there at e)

-- the query is done with its rows
pub selected_done : (at : QueryPlaces) (t o text : List ℕ) (w : World) (rows : List Row) (m : PlainMethod) (args : List Scalar) (n : ℕ) → w.ask text [] ≡ Some (Rows rows) → outcome w (with_body m (selecting at t o text)) args n ≡ Done [] (Some (Many rows))
selected_done at t o text w rows m args n e = rw (e, put_same (start m args n).store o (plainly (Many rows))) refl
