-- What the lists of loops hold: a variable that the run sets by a fetch and at most sorts once behind that holds the
-- table's rows in the order of the keys, which is the list of the fragment.
use Rattle.std.proofs.Common.{◌≡◌, ℕ, ◌+◌, Bool, true, false, not, ◌&&◌, ◌||◌, List, [], ◌∷◌, Option, Some, None, Result, Ok, Err, refl, sym, ap, ◌∙◌, subst, cond, arith}
use Rattle.std.specs.Prelude.{bytes_eq, slice_get}
use Rattle.std.specs.List.{AllByRecursion}
use Rattle.std.proofs.lemmas.Bool.{and_parts}
use Rattle.qbs_base.specs.declared.columns.Column.{Column}
use Rattle.qbs_base.specs.declared.scalar.Kind.{Kind}
use Rattle.qbs_base.specs.declared.scalar.Kind.TheVariants as kinds
use Rattle.qbs_base.specs.declared.scalar.Row.{Row}
use Rattle.qbs_base.specs.declared.scalar.Scalar.{Scalar}
use Rattle.qbs_base.specs.declared.scalar.Value.{Value}
use Rattle.qbs_base.specs.declared.scalar.Value.TheVariants.{Many}
use Rattle.qbs_base.specs.Named.{at_name}
use Rattle.qbs_base.specs.Scalar.{value_before}
use Rattle.qbs_base.specs.Sort.{put_in, stable_sort}
use Rattle.qbs_base.specs.Tables.{NamedRows}
use Rattle.qbs_base.specs.Values.{Schema, Database, IsRowOf, IsDatabaseOf}
use Rattle.qbs_base.specs.Columns.{table_number, column_number, columns_at}
use Rattle.java_ast.specs.Tree as tree
use Rattle.java_ast.specs.Tree.{Expression, Statement, Statements, Nothing, Then}
use Rattle.java_mean.specs.declared.ending.Ending.{Ending}
use Rattle.java_mean.specs.Endings.{◌>>=◌, found}
use Rattle.java_mean.specs.Expression.{columns_of, cell_at, cell, value_of, as_rows}
use Rattle.java_mean.specs.Statement.{State, GoesOn, in_order, is_set_type, meanings}
use Rattle.java_mean.specs.Store.{Store, Variable, put}
use Rattle.java_mean.specs.World.{World}
use Rattle.java_mean.proofs.Numbered.{rows_of_table}
use Rattle.java_mean.proofs.Puts.{names_equal, put_same, put_other}
use Rattle.java_loops.specs.Walks.Runs.{made, ran}
use Rattle.java_loops.proofs.Walks.Passing.{Went, went, same_ok, run_store}
use Rattle.qbs_base.specs.Tables.{rows_of}
use Rattle.kernel_lang.specs.Given.{before, cut, listed}
use Rattle.loop_text.specs.Statements.Fragment.{is_simple, are_simple, set_by}
use Rattle.loop_text.specs.Kernel.KernelLists.{Source, has_keys, is_sorted, fetched, sorted_by, source_after, source_past, source_in}
use Rattle.loop_text.specs.Kernel.KernelLoop.{counting_in, limit_of}
use Rattle.java_loops.specs.Lowering.Lowered.{keys_of, keys_found, list_of}
use Rattle.java_loops.specs.Lowering.Numbering.{found_number, table_of_loop}
use Rattle.java_loops.specs.Kernel.Setting.{Setting}

-- ---- The rows of a source

-- rows in the order of a source
abbrev pub ordered : Schema → Source → List Row → List Row
ordered schema s rows = stable_sort (in_order schema s.keys s.downs) rows

-- the variable holds the table's rows in the order of the source
pub record HasSource (w : World) (s : Source) (x : List ℕ) (store : Store) : Type 0 where
  pub rows : List Row
  pub are : at_name w.db s.table ≡ Some rows
  pub held : Variable
  pub left : at_name store x ≡ Some held
  pub value : held.value ≡ Many (ordered w.schema s rows)

-- where a source is known
abbrev pub Sourced : World → Option Source → List ℕ → Store → Type 0
Sourced w o x store = (s : Source) → o ≡ Some s → HasSource w s x store

put_unsorted : (x : Row) (rows : List Row) → put_in (λ a b. false) x rows ≡ x ∷ rows
put_unsorted x [] = refl
put_unsorted x (y ∷ rows) = refl

pub unsorted : (rows : List Row) → stable_sort (λ a b. false) rows ≡ rows
unsorted [] = refl
unsorted (x ∷ rows) = ap (put_in (λ a b. false) x) (unsorted rows) ∙ put_unsorted x rows

some_same : {A : Type 0} (o : Option A) (a b : A) → o ≡ Some a → o ≡ Some b → a ≡ b
some_same o a b e h = cc

many_rows : (o : Option (List Row)) (v : Value) → (found o >>= λ rows. Ok (Many rows)) ≡ Ok v → (rows : List Row) × (o ≡ Some rows) × (v ≡ Many rows)
many_rows (Some rows) v h = (rows, refl, same_ok (Ok v) v (Many rows) refl (sym h))
many_rows None v h = absurd cc

-- a fetch gives the table's rows
fetch_gives : (w : World) (e : Expression) (s : Source) (store : Store) (v : Value) → fetched e ≡ Some s → value_of e w store ≡ Ok v → (rows : List Row) × (at_name w.db s.table ≡ Some rows) × (v ≡ Many (ordered w.schema s rows))
fetch_gives w (tree.Fetch at table) s store v f h =
    let plain : Source = record { table = table; keys = []; downs = [] } in
    let same : plain ≡ s = (let l : Some plain ≡ Some s = f in cc) in
    let r = many_rows (at_name w.db table) v h in
    subst (λ (z : Source). (rows : List Row) × (at_name w.db z.table ≡ Some rows) × (v ≡ Many (ordered w.schema z rows))) same (r.0, r.1, r.2 ∙ ap (λ z. Many z) (sym (unsorted r.0)))
fetch_gives w (tree.Lit at x) s store v f h = absurd cc
fetch_gives w (tree.Var at x) s store v f h = absurd cc
fetch_gives w (tree.Field at e n) s store v f h = absurd cc
fetch_gives w (tree.Binary at op a b) s store v f h = absurd cc
fetch_gives w (tree.Not at e) s store v f h = absurd cc
fetch_gives w (tree.Equals at a b) s store v f h = absurd cc
fetch_gives w (tree.Size at x) s store v f h = absurd cc
fetch_gives w (tree.Get at x e) s store v f h = absurd cc
fetch_gives w (tree.Contains at x e) s store v f h = absurd cc
fetch_gives w (tree.Query at ty text es) s store v f h = absurd cc
fetch_gives w (tree.QueryLong at text es) s store v f h = absurd cc
fetch_gives w (tree.QueryBoolean at text es) s store v f h = absurd cc
fetch_gives w (tree.NewList at) s store v f h = absurd cc
fetch_gives w (tree.NewSet at) s store v f h = absurd cc
fetch_gives w (tree.NewSetOf at e) s store v f h = absurd cc

-- ---- One statement

declared_value : (o : Result Value Ending) (b : Bool) (z : Variable) → (o >>= λ v. Ok (record { value = v; is_set = b })) ≡ Ok z → o ≡ Ok z.value
declared_value (Ok v) b z e =
    let q : z ≡ record { value = v; is_set = b } = same_ok (Ok z) z (record { value = v; is_set = b }) refl (sym e) in
    ap (λ (u : Variable). Ok u.value) (sym q)
declared_value (Err x) b z e = absurd cc

assigned_value : (o : Result Value Ending) (p : Option Variable) (z : Variable) → (o >>= λ v. found p >>= λ (u : Variable). Ok (record { value = v; is_set = u.is_set })) ≡ Ok z → o ≡ Ok z.value
assigned_value (Ok v) (Some u) z e =
    let q : z ≡ record { value = v; is_set = u.is_set } = same_ok (Ok z) z (record { value = v; is_set = u.is_set }) refl (sym e) in
    ap (λ (y : Variable). Ok y.value) (sym q)
assigned_value (Ok v) None z e = absurd cc
assigned_value (Err x) p z e = absurd cc

sorted_rows : (f : List Row → List Row) (b : Bool) (v : Value) (rows : List Row) (z : Variable) → v ≡ Many rows → (as_rows v >>= λ rows. Ok (record { value = Many (f rows); is_set = b })) ≡ Ok z → z.value ≡ Many (f rows)
sorted_rows f b v rows z e h =
    let k : Ok (record { value = Many (f rows); is_set = b }) ≡ Ok z = sym (ap (λ u. as_rows u >>= λ rows. Ok (record { value = Many (f rows); is_set = b })) e) ∙ h in
    let q : z ≡ record { value = Many (f rows); is_set = b } = same_ok (Ok z) z (record { value = Many (f rows); is_set = b }) refl (sym k) in
    ap (λ (u : Variable). u.value) q

sorted_value : (f : List Row → List Row) (o : Option Variable) (held : Variable) (rows : List Row) (z : Variable) → o ≡ Some held → held.value ≡ Many rows → (found o >>= λ (u : Variable). as_rows u.value >>= λ rows. Ok (record { value = Many (f rows); is_set = u.is_set })) ≡ Ok z → z.value ≡ Many (f rows)
sorted_value f (Some u) held rows z e q h = sorted_rows f u.is_set u.value rows z (ap (λ (y : Variable). y.value) (some_same (Some u) u held refl e) ∙ q) h
sorted_value f None held rows z e q h = absurd cc

-- what a variable has that isn't the one that is set
kept_source : (w : World) (o : Option Source) (x y : List ℕ) (store : Store) (v : Variable) → bytes_eq y x ≡ false → Sourced w o x store → Sourced w o x (put store y v)
kept_source w o x y store v n h s e = let k : HasSource w s x store = h s e in record { rows = k.rows; are = k.are; held = k.held; left = put_other store y x v n ∙ k.left; value = k.value }

fetched_step : (w : World) (e : Expression) (o : Option Source) (x y : List ℕ) (store : Store) (v : Variable) (b : Bool) → bytes_eq y x ≡ b → value_of e w store ≡ Ok v.value → Sourced w o x store → Sourced w (cond b (fetched e) o) x (put store y v)
fetched_step w e o x y store v true q m h = λ s f.
    let r = fetch_gives w e s store v.value f m in
    record { rows = r.0; are = r.1; held = v; left = ap (at_name (put store y v)) (sym (names_equal y x q)) ∙ put_same store y v; value = r.2 }
fetched_step w e o x y store v false q m h = kept_source w o x y store v q h

-- a source that is sorted now, from one that wasn't
record SortedFrom (keys : List (List ℕ)) (downs : List Bool) (o : Option Source) (s : Source) : Type 0 where
  from : Source
  is : o ≡ Some from
  unsorted : has_keys from.keys ≡ false
  now : s ≡ record from { keys = keys; downs = downs }

sorted_where : (keys : List (List ℕ)) (downs : List Bool) (from s : Source) (b : Bool) → is_sorted from ≡ b → cond b None (Some (record from { keys = keys; downs = downs })) ≡ Some s → SortedFrom keys downs (Some from) s
sorted_where keys downs from s true e h = absurd cc
sorted_where keys downs from s false e h = record { from = from; is = refl; unsorted = e; now = some_same (Some s) s (record from { keys = keys; downs = downs }) refl (sym h) }

sorted_from : (keys : List (List ℕ)) (downs : List Bool) (o : Option Source) (s : Source) → sorted_by keys downs o ≡ Some s → SortedFrom keys downs o s
sorted_from keys downs None s h = absurd cc
sorted_from keys downs (Some from) s h = sorted_where keys downs from s (is_sorted from) refl h

no_order : (schema : Schema) (keys : List (List ℕ)) (downs : List Bool) (rows : List Row) → has_keys keys ≡ false → stable_sort (in_order schema keys downs) rows ≡ rows
no_order schema [] downs rows h = unsorted rows
no_order schema (k ∷ keys) downs rows h = absurd cc

sorted_step : (w : World) (keys : List (List ℕ)) (downs : List Bool) (o : Option Source) (x y : List ℕ) (store : Store) (v : Variable) (b : Bool) → bytes_eq y x ≡ b → (found (at_name store y) >>= λ (u : Variable). as_rows u.value >>= λ rows. Ok (record { value = Many (stable_sort (in_order w.schema keys downs) rows); is_set = u.is_set })) ≡ Ok v → Sourced w o x store → Sourced w (cond b (sorted_by keys downs o) o) x (put store y v)
sorted_step w keys downs o x y store v true q m h = λ s e.
    let f : SortedFrom keys downs o s = sorted_from keys downs o s e in
    let k : HasSource w f.from x store = h f.from f.is in
    let name : y ≡ x = names_equal y x q in
    let value : k.held.value ≡ Many k.rows = k.value ∙ ap (λ z. Many z) (no_order w.schema f.from.keys f.from.downs k.rows f.unsorted) in
    let now : HasSource w (record f.from { keys = keys; downs = downs }) x (put store y v) = record { rows = k.rows; are = k.are; held = v; left = ap (at_name (put store y v)) (sym name) ∙ put_same store y v; value = sorted_value (stable_sort (in_order w.schema keys downs)) (at_name store y) k.held k.rows v (ap (at_name store) name ∙ k.left) value m } in
    subst (λ z. HasSource w z x (put store y v)) (sym f.now) now
sorted_step w keys downs o x y store v false q m h = kept_source w o x y store v q h

source_step : (w : World) (a : Statement) (o : Option Source) (x : List ℕ) (store : Store) (v : Variable) → is_simple a ≡ true → made a w store ≡ Ok v → Sourced w o x store → Sourced w (source_after x a o) x (put store (set_by a) v)
source_step w (tree.Declare at ty y e) o x store v i m h = fetched_step w e o x y store v (bytes_eq y x) refl (declared_value (value_of e w store) (is_set_type ty) v m) h
source_step w (tree.Assign at y e) o x store v i m h = fetched_step w e o x y store v (bytes_eq y x) refl (assigned_value (value_of e w store) (at_name store y) v m) h
source_step w (tree.Sort at y keys downs) o x store v i m h = sorted_step w keys downs o x y store v (bytes_eq y x) refl m h
source_step w (tree.Add at y e) o x store v i m h = absurd cc
source_step w (tree.If at c p) o x store v i m h = absurd cc
source_step w (tree.IfElse at c p q) o x store v i m h = absurd cc
source_step w (tree.ForEach at ty y e b) o x store v i m h = absurd cc
source_step w (tree.While at c b) o x store v i m h = absurd cc
source_step w (tree.Print at e) o x store v i m h = absurd cc
source_step w (tree.Return at e) o x store v i m h = absurd cc
source_step w (tree.Break at) o x store v i m h = absurd cc

source_ran : (p : Statements) (w : World) (o : Option Source) (x : List ℕ) (store last : Store) → are_simple p ≡ true → ran p w store ≡ Ok last → Sourced w o x store → Sourced w (source_past x o p) x last
source_ran Nothing w o x store last i e h = subst (Sourced w o x) (same_ok (Ok store) store last refl e) h
source_ran (Then a p) w o x store last i e h =
    let two = and_parts (is_simple a) (are_simple p) i in
    let k : Went (made a w store) (λ v. ran p w (put store (set_by a) v)) last = went (made a w store) (λ v. ran p w (put store (set_by a) v)) last e in
    source_ran p w (source_after x a o) x (put store (set_by a) k.value) last two.1 k.rest (source_step w a o x store k.value two.0 k.first h)

-- A variable whose list comes from a table behind the run has its rows, in the order of the keys, where the run passes.
pub source_left : (w : World) (run : Statements) (x : List ℕ) (src : Source) (s t : State) → are_simple run ≡ true → meanings run w s ≡ Ok (GoesOn t) → source_past x None run ≡ Some src → HasSource w src x t.store
source_left w run x src s t i m e =
    let simple : are_simple run ≡ true = i in
    source_ran run w None x s.store t.store simple (run_store run w s t simple m) (λ z q. absurd cc) src e

-- ---- The order of keys

-- each key is a column
abbrev pub KeysKnown : List Column → List (List ℕ) → Type 0
KeysKnown columns [] = Unit {0}
KeysKnown columns (k ∷ ks) = ((i : ℕ) × (column_number columns k ≡ Some i)) × KeysKnown columns ks

cell_is : (schema : Schema) (n : ℕ) (row : Row) (k : List ℕ) (i : ℕ) → row.kind ≡ kinds.Table n → column_number (columns_at schema n) k ≡ Some i → cell schema row k ≡ slice_get row.cells (found_number (column_number (columns_at schema n) k))
cell_is schema n row k i kind e =
    ap (λ (z : Kind). cell_at row.cells (column_number (columns_of schema z) k)) kind ∙ ap (cell_at row.cells) e ∙ ap (λ o. slice_get row.cells (found_number o)) (sym e)

key_is : (down : Bool) (u u' v v' : Option Scalar) → u ≡ u' → v ≡ v' → cond down (value_before v u) (value_before u v) ≡ cond down (value_before v' u') (value_before u' v')
key_is down u u' v v' e h = ap (λ z. cond down (value_before v z) (value_before z v)) e ∙ ap (λ z. cond down (value_before z u') (value_before u' z)) h

both_orders : (p p' q q' r r' : Bool) → p ≡ p' → q ≡ q' → r ≡ r' → (p || (not q && r)) ≡ (p' || (not q' && r'))
both_orders p p' q q' r r' e h k = ap (λ z. z || (not q && r)) e ∙ ap (λ z. p' || (not z && r)) h ∙ ap (λ z. p' || (not q' && z)) k

-- on rows of the table the order by names of columns is the order by their numbers
pub orders_agree : (schema : Schema) (n : ℕ) (keys : List (List ℕ)) (downs : List Bool) (a b : Row) → KeysKnown (columns_at schema n) keys → a.kind ≡ kinds.Table n → b.kind ≡ kinds.Table n → in_order schema keys downs a b ≡ before (keys_of (columns_at schema n) keys downs) a b
orders_agree schema n [] downs a b known i j = refl
orders_agree schema n (k ∷ keys) [] a b known i j = refl
orders_agree schema n (k ∷ keys) (down ∷ downs) a b known i j =
    let c : ℕ = found_number (column_number (columns_at schema n) k) in
    let p : cell schema a k ≡ slice_get a.cells c = cell_is schema n a k known.0.0 i known.0.1 in
    let q : cell schema b k ≡ slice_get b.cells c = cell_is schema n b k known.0.0 j known.0.1 in
    both_orders _ _ _ _ _ _
    (key_is down (cell schema a k) (slice_get a.cells c) (cell schema b k) (slice_get b.cells c) p q)
    (key_is down (cell schema b k) (slice_get b.cells c) (cell schema a k) (slice_get a.cells c) q p)
    (orders_agree schema n keys downs a b known.1 i j)

-- ---- Sorts by tests that agree

module _ {X : Type 0} (P : X → Type 0) (lt lt' : X → X → Bool) (agree : (a b : X) → P a → P b → lt a b ≡ lt' a b) where
  chosen : (b : Bool) (xs ys : List X) → AllByRecursion P xs → AllByRecursion P ys → AllByRecursion P (cond b xs ys)
  chosen true xs ys h k = h
  chosen false xs ys h k = k

  put_agrees : (x : X) (ys : List X) → P x → AllByRecursion P ys → (put_in lt x ys ≡ put_in lt' x ys) × AllByRecursion P (put_in lt' x ys)
  put_agrees x [] p h = (refl, (p, tt))
  put_agrees x (y ∷ ys) p h =
      let k = put_agrees x ys p h.1 in
      (ap (λ b. cond b (y ∷ put_in lt x ys) (x ∷ y ∷ ys)) (agree y x h.0 p) ∙ ap (λ zs. cond (lt' y x) (y ∷ zs) (x ∷ y ∷ ys)) k.0, chosen (lt' y x) (y ∷ put_in lt' x ys) (x ∷ y ∷ ys) (h.0, k.1) (p, h))

  pub sorts_agree : (xs : List X) → AllByRecursion P xs → (stable_sort lt xs ≡ stable_sort lt' xs) × AllByRecursion P (stable_sort lt' xs)
  sorts_agree [] h = (refl, tt)
  sorts_agree (x ∷ xs) h =
      let k = sorts_agree xs h.1 in
      let q = put_agrees x (stable_sort lt' xs) h.0 k.1 in
      (ap (put_in lt x) k.0 ∙ q.0, q.1)

-- ---- The list of the fragment

-- The rows of a source are those of its table, in the fragment's order, and all are rows of that table.
pub record AreListed (w : Setting) (world : World) (loop : Statement) (rows : List Row) : Type 0 where
  pub list : cut (limit_of (counting_in loop)) rows ≡ listed world.db (list_of w loop)
  pub typed : AllByRecursion (IsRowOf (table_of_loop w.schema loop) (columns_at w.schema (table_of_loop w.schema loop))) rows

same_rows : (db : Database) (n : ℕ) (table : NamedRows) (rows : List Row) → slice_get db n ≡ Some table → table.1 ≡ rows → rows_of db n ≡ rows
same_rows db n table rows e h = ap (λ (o : Option NamedRows). elim o [ Some t ↦ t.1 | None ↦ [] ]) e ∙ h

pub are_listed : (w : Setting) (world : World) (loop : Statement) (src : Source) (rows : List Row) → world.schema ≡ w.schema → IsDatabaseOf w.schema world.db → source_in w.fragment.run loop ≡ Some src → table_number w.schema src.table ≡ Some (table_of_loop w.schema loop) → KeysKnown (columns_at w.schema (table_of_loop w.schema loop)) src.keys → at_name world.db src.table ≡ Some rows → AreListed w world loop (ordered world.schema src rows)
are_listed w world loop src rows same db e number known there =
    let n : ℕ = table_of_loop w.schema loop in
    let columns : List Column = columns_at w.schema n in
    let h = rows_of_table 0 w.schema world.db src.table n db number in
    let nought : 0 + n ≡ n = omega arith in
    let is : h.rows ≡ rows = some_same (at_name world.db src.table) h.rows rows h.there there in
    let all : AllByRecursion (IsRowOf n columns) rows = subst (AllByRecursion (IsRowOf n columns)) is (subst (λ i. AllByRecursion (IsRowOf i columns) h.rows) nought h.all) in
    let lt : Row → Row → Bool = in_order w.schema src.keys src.downs in
    let lt' : Row → Row → Bool = before (keys_of columns src.keys src.downs) in
    let sorts = sorts_agree (IsRowOf n columns) lt lt' (λ a b p q. orders_agree w.schema n src.keys src.downs a b known p.0 q.0) rows all in
    let order : ordered world.schema src rows ≡ stable_sort lt' rows = ap (λ z. stable_sort (in_order z src.keys src.downs) rows) same ∙ sorts.0 in
    let keys : keys_found columns (source_in w.fragment.run loop) ≡ keys_of columns src.keys src.downs = ap (keys_found columns) e in
    record {
      list = ap (cut (limit_of (counting_in loop))) (order ∙ ap (stable_sort lt') (sym (same_rows world.db n h.table rows h.numbered (h.rows_are ∙ is))) ∙ ap (λ ks. stable_sort (before ks) (rows_of world.db n)) (sym keys));
      typed = subst (AllByRecursion (IsRowOf n columns)) (sym order) sorts.1;
    }
