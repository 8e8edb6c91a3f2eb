-- A loop that copies a table gives way to a fetch of the table.
use Rattle.std.proofs.Common.{◌≡◌, ℕ, zero, suc, ◌≤◌, Bool, true, false, List, [], ◌∷◌, ◌++◌, Option, Some, None, Result, Ok, Err, refl, sym, ap, ◌∙◌, subst, cond, append_assoc, append-nil, arith}
use Rattle.std.specs.Prelude.{bytes_eq, codes}
use Rattle.std.specs.List.{AllByRecursion, list_any}
use Rattle.qbs_base.specs.declared.scalar.Kind.{Kind}
use Rattle.qbs_base.specs.declared.scalar.Row.{Row}
use Rattle.qbs_base.specs.declared.scalar.Value.TheVariants.{Whole, Many}
use Rattle.qbs_base.specs.Named.{at_name}
use Rattle.qbs_base.specs.Values.{IsRowOf}
use Rattle.qbs_base.specs.Columns.{columns_at}
use Rattle.java_ast.specs.Tree.{ListOf, Table, Var, Fetch, NewList, Declare, Add, ForEach, Statements, Nothing, Then}
use Rattle.java_mean.specs.declared.ending.Ending.{Ending}
use Rattle.java_mean.specs.declared.ending.Ending.TheVariants as endings
use Rattle.java_mean.specs.Asks.{frame_of}
use Rattle.java_mean.specs.Copied.{copied, fetched, of_users, only_out, before_return, copying, staff_program, in_each_role, counting, counting_program}
use Rattle.java_mean.specs.Endings.{◌>>=◌}
use Rattle.java_mean.specs.Expression.{element, element_in}
use Rattle.java_mean.specs.Fits.{FitsIn}
use Rattle.java_mean.specs.Keeps.{Keeps}
use Rattle.java_mean.specs.Mentions.{EachMentioned}
use Rattle.java_mean.specs.Queries.{Reader}
use Rattle.java_mean.specs.Refines.{Follows, Agree, same_exits, GivesWay}
use Rattle.java_mean.specs.Statement.{State, Passed, GoesOn, Leaves, Returns, Does, done, then_do, then_turn, fewer, with_variable, with_value, each, meanings}
use Rattle.java_mean.specs.Store.{Store, Variable, put, plainly}
use Rattle.java_mean.specs.Types.{JavaType, Types, with_type, types_of_params}
use Rattle.java_mean.specs.WellTyped.{IsWellTyped}
use Rattle.sql_ast.specs.Worked.{staff_schema}
use Rattle.java_mean.specs.Worked.{User, u, out, somewhere}
use Rattle.java_mean.specs.World.{World}
use Rattle.java_mean.proofs.Fewer.{fewer_with}
use Rattle.java_mean.proofs.Fitting.{fits_in}
use Rattle.java_mean.proofs.Numbered.{rows_of_table}
use Rattle.java_mean.proofs.Puts.{names_equal, put_same, put_other}
use Rattle.java_mean.proofs.Replacing.{both_left}
use Rattle.java_mean.proofs.TextReader.{text_reader}

-- ---- The loop

abbrev IsWhole : Row → Type 0
IsWhole row = element row ≡ Whole row

-- where the loop goes on, the list has these rows, nothing was printed, and there are no more turns
abbrev Adds : List ℕ → List Row → List (List ℕ) → ℕ → Result Passed Ending → Type 0
Adds o rows lines turns (Ok (GoesOn s)) = (at_name s.store o ≡ Some (plainly (Many rows))) × ((s.lines ≡ lines) × (s.turns ≤ turns))
Adds o rows lines turns (Ok (Leaves s)) = ⊥
Adds o rows lines turns (Ok (Returns s v)) = ⊥
Adds o rows lines turns (Err e) = Unit {0}

abbrev adding : List ℕ → List ℕ → Statements
adding o x = Then (Add somewhere o (Var somewhere x)) Nothing

adding_is : (o x : List ℕ) (w : World) (s : State) (row : Row) (rows : List Row) → at_name s.store x ≡ Some (plainly (element row)) → IsWhole row → at_name s.store o ≡ Some (plainly (Many rows)) → meanings (adding o x) w s ≡ Ok (GoesOn (with_value s o (plainly (Many rows)) (Many (rows ++ row ∷ []))))
adding_is o x w s row rows e h k = rw (e, h, k) refl

adds_more : (o : List ℕ) (rows rows' : List Row) (lines : List (List ℕ)) (n m : ℕ) (r : Result Passed Ending) → rows ≡ rows' → n ≤ m → Adds o rows lines n r → Adds o rows' lines m r
adds_more o rows rows' lines n m (Ok (GoesOn s)) e le h = (h.0 ∙ ap (λ z. Some (plainly (Many z))) e, (h.1.0, omega (arith, h.1.1)))
adds_more o rows rows' lines n m (Ok (Leaves s)) e le h = absurd h
adds_more o rows rows' lines n m (Ok (Returns s v)) e le h = absurd h
adds_more o rows rows' lines n m (Err f) e le h = tt

adds_fewer : (o : List ℕ) (rows : List Row) (n : ℕ) (store : Store) (lines : List (List ℕ)) (f : Does) → ((m : ℕ) → m ≤ n → Adds o rows lines n (f (record { store = store; lines = lines; turns = m }))) → Adds o rows lines n (fewer n store lines >>= f)
adds_fewer o rows zero store lines f h = tt
adds_fewer o rows (suc n) store lines f h = h n (omega arith)

each_adds : (o x : List ℕ) (w : World) → bytes_eq x o ≡ false → (rows : List Row) → AllByRecursion IsWhole rows → (before : List Row) (s : State) → at_name s.store o ≡ Some (plainly (Many before)) → Adds o (before ++ rows) s.lines s.turns (each rows x (meanings (adding o x) w) s)
each_adds o x w ne [] all before s e = (e ∙ ap (λ z. Some (plainly (Many z))) (sym (append-nil before)), (refl, omega arith))
each_adds o x w ne (row ∷ rows) all before s e =
    let body : Does = meanings (adding o x) w in
    let here : Variable = plainly (element row) in
    adds_fewer o (before ++ row ∷ rows) s.turns s.store s.lines (λ t. then_turn (body (with_variable t x here)) (each rows x body)) (λ m le.
    let t : State = record { store = put s.store x here; lines = s.lines; turns = m } in
    let v : State = with_value t o (plainly (Many before)) (Many (before ++ row ∷ [])) in
    let rest : Adds o ((before ++ row ∷ []) ++ rows) s.lines m (each rows x body v) = each_adds o x w ne rows all.1 (before ++ row ∷ []) v (put_same t.store o (plainly (Many (before ++ row ∷ [])))) in
    subst (λ r. Adds o (before ++ row ∷ rows) s.lines s.turns (then_turn r (each rows x body))) (sym (adding_is o x w t row before (put_same s.store x here) all.0 (put_other s.store x o here ne ∙ e))) (adds_more o ((before ++ row ∷ []) ++ rows) (before ++ row ∷ rows) s.lines m s.turns (each rows x body v) (append_assoc before (row ∷ []) rows) le rest))

-- ---- Both lists of statements

abbrev only : List ℕ → Option JavaType → Types
only o k = with_type o k (λ x. None)

agree_step : (b : Bool) (o x : List ℕ) (k : Option JavaType) (j : JavaType) (s t : State) → bytes_eq o x ≡ b → at_name s.store o ≡ at_name t.store o → cond b k None ≡ Some j → at_name s.store x ≡ at_name t.store x
agree_step true o x k j s t q e h = subst (λ y. at_name s.store y ≡ at_name t.store y) (names_equal o x q) e
agree_step false o x k j s t q e h = absurd cc

agree_on : (o : List ℕ) (k : Option JavaType) (s t : State) → at_name s.store o ≡ at_name t.store o → s.lines ≡ t.lines → s.turns ≤ t.turns → Agree (only o k) s t
agree_on o k s t e l le = record { store = λ x j h. agree_step (bytes_eq o x) o x k j s t refl e h; lines = l; turns = le }

ends_alike : (o : List ℕ) (k : Option JavaType) (rows : List Row) (s : State) (r : Result Passed Ending) → Adds o rows s.lines s.turns r → (t : State) → at_name t.store o ≡ Some (plainly (Many rows)) → t.lines ≡ s.lines → t.turns ≡ s.turns → Follows (Agree (only o k)) (same_exits None) (then_do r done) (Ok (GoesOn t))
ends_alike o k rows s (Ok (GoesOn v)) h t e l n = record { state = t; is = refl; holds = agree_on o k v t (h.0 ∙ sym e) (h.1.0 ∙ sym l) (omega (arith, h.1.1, n)) }
ends_alike o k rows s (Ok (Leaves v)) h t e l n = absurd h
ends_alike o k rows s (Ok (Returns v x)) h t e l n = absurd h
ends_alike o k rows s (Err (endings.Faulted fault at)) h t e l n = tt
ends_alike o k rows s (Err endings.OutOfTurns) h t e l n = tt
ends_alike o k rows s (Err endings.Stuck) h t e l n = tt

abbrev by_loop : List ℕ → List ℕ → List ℕ → List ℕ → Statements
by_loop t l o x =
    Then (Declare somewhere (ListOf (Table t)) l (Fetch somewhere t))
    (Then (Declare somewhere (ListOf (Table t)) o (NewList somewhere))
    (Then (ForEach somewhere (Table t) x (Var somewhere l) (adding o x))
    Nothing))

abbrev by_fetch : List ℕ → List ℕ → List ℕ → Statements
by_fetch t a o =
    Then (Declare somewhere (ListOf (Table t)) a (Fetch somewhere t))
    (Then (Declare somewhere (ListOf (Table t)) o (Fetch somewhere t))
    Nothing)

loop_is : (t l o x : List ℕ) (w : World) (s : State) (rows : List Row) → bytes_eq o l ≡ false → at_name w.db t ≡ Some rows → meanings (by_loop t l o x) w s ≡ then_do (each rows x (meanings (adding o x) w) (with_variable (with_variable s l (plainly (Many rows))) o (plainly (Many [])))) done
loop_is t l o x w s rows ne there =
    let listed : at_name (put (put s.store l (plainly (Many rows))) o (plainly (Many []))) l ≡ Some (plainly (Many rows)) = put_other (put s.store l (plainly (Many rows))) o l (plainly (Many [])) ne ∙ put_same s.store l (plainly (Many rows)) in
    rw (there, listed) refl

fetch_is : (t a o : List ℕ) (w : World) (s : State) (rows : List Row) → at_name w.db t ≡ Some rows → meanings (by_fetch t a o) w s ≡ Ok (GoesOn (with_variable (with_variable s a (plainly (Many rows))) o (plainly (Many rows))))
fetch_is t a o w s rows there = rw there refl

loop_follows : (t l a o x : List ℕ) (k : Option JavaType) (w : World) (s : State) (rows : List Row) → bytes_eq o l ≡ false → bytes_eq x o ≡ false → at_name w.db t ≡ Some rows → AllByRecursion IsWhole rows → Follows (Agree (only o k)) (same_exits None) (meanings (by_loop t l o x) w s) (meanings (by_fetch t a o) w s)
loop_follows t l a o x k w s rows ne other there all =
    let start : State = with_variable (with_variable s l (plainly (Many rows))) o (plainly (Many [])) in
    let end : State = with_variable (with_variable s a (plainly (Many rows))) o (plainly (Many rows)) in
    let adds : Adds o rows s.lines s.turns (each rows x (meanings (adding o x) w) start) = each_adds o x w other rows all [] start (put_same (put s.store l (plainly (Many rows))) o (plainly (Many []))) in
    subst (λ r. Follows (Agree (only o k)) (same_exits None) r (meanings (by_fetch t a o) w s)) (sym (loop_is t l o x w s rows ne there)) (subst (λ r. Follows (Agree (only o k)) (same_exits None) (then_do (each rows x (meanings (adding o x) w) start) done) r) (sym (fetch_is t a o w s rows there)) (ends_alike o k rows s (each rows x (meanings (adding o x) w) start) adds end (put_same (put s.store a (plainly (Many rows))) o (plainly (Many rows))) refl refl))

all_whole : (rows : List Row) → AllByRecursion (IsRowOf 0 (columns_at staff_schema 0)) rows → AllByRecursion IsWhole rows
all_whole [] h = tt
all_whole (row ∷ rows) h = (ap (λ (z : Kind). element_in z row.cells row) h.0.0, all_whole rows h.1)

-- ---- The programs

unseen : {A : Type 0} (k : JavaType) → None ≡ Some k → A
unseen k e = absurd cc

pub mentioned_in_copied : EachMentioned (λ x. list_any (bytes_eq x) (codes "users" ∷ out ∷ u ∷ []) ≡ true) copied
mentioned_in_copied = (tt, (tt, ((refl, ((refl, refl), tt)), tt)))

pub copy_gives_way : (reader : Reader staff_schema) → GivesWay (frame_of staff_schema reader.read copying) None (types_of_params staff_schema copying.params) before_return copied fetched only_out
copy_gives_way reader =
    record {
      old_leaves = fewer_with (only (codes "users") of_users) (λ x. None) out of_users (λ x k e. unseen k e);
      new_leaves = fewer_with (only (codes "all") of_users) (λ x. None) out of_users (λ x k e. unseen k e);
      seen_before = λ x k e. unseen k e;
      mentioned_behind = (refl, tt);
      replaces = record { by = λ w i s t. (let held = rows_of_table 0 staff_schema w.db User 0 i.tables refl in loop_follows User (codes "users") (codes "all") out u of_users w s held.rows refl refl held.there (all_whole held.rows held.all)) };
    }

pub old_typed : (reader : Reader staff_schema) → IsWellTyped staff_schema reader.read (staff_program copied)
old_typed reader = refl

pub new_typed : (reader : Reader staff_schema) → IsWellTyped staff_schema reader.read (staff_program fetched)
new_typed reader = refl

pub copy_kept : Keeps (staff_program copied) (staff_program fetched) staff_schema
copy_kept =
    let reader : Reader staff_schema = text_reader staff_schema in
    both_left staff_schema reader (staff_program copied) [] [] copying before_return copied fetched only_out (old_typed reader) refl (new_typed reader) refl (copy_gives_way reader)

-- ---- What fits in

pub fits_in_block : (reader : Reader staff_schema) → FitsIn staff_schema reader.read copying before_return copied fetched
fits_in_block reader = record { there = refl; returned = λ e. absurd cc; fine = refl; mentioned = (refl, tt); declared = (tt, tt) }

pub fits_in_loop : (reader : Reader staff_schema) → FitsIn staff_schema reader.read counting in_each_role copied fetched
fits_in_loop reader = record { there = refl; returned = λ e. absurd cc; fine = refl; mentioned = (refl, (refl, tt)); declared = (refl, (tt, tt)) }

pub before_in_loop : (reader : Reader staff_schema) → IsWellTyped staff_schema reader.read (counting_program copied)
before_in_loop reader = refl

pub after_in_loop : (reader : Reader staff_schema) → IsWellTyped staff_schema reader.read (counting_program fetched)
after_in_loop reader = fits_in staff_schema reader.read (counting_program copied) [] [] counting in_each_role copied fetched (before_in_loop reader) (fits_in_loop reader)
