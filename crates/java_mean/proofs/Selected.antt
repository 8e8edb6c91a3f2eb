-- What the query of the first form answers.
use Rattle.std.proofs.Common.{◌≡◌, ℕ, ◌+◌, ◌<◌, Bool, true, false, not, ◌||◌, ◌&&◌, List, [], ◌∷◌, map, Some, ℤ, pos, refl, sym, ap, ◌∙◌, cond, arith}
use Rattle.std.specs.Prelude.{slice_get, int_lt}
use Rattle.std.specs.List.{filter, flat_map, enumerate_from, AllByRecursion}
use Rattle.std.specs.Ordering.{is_lt, int_cmp}
use Rattle.std.specs.declared.cmp.Ordering.TheVariants.{Equal, Greater}
use Rattle.std.proofs.lemmas.Bool.Decides.{nat_tests}
use Rattle.qbs_base.specs.declared.scalar.Scalar.TheVariants as scalars
use Rattle.qbs_base.specs.declared.scalar.Row.{Row}
use Rattle.qbs_base.specs.Scalar.{scalar_same, compared}
use Rattle.qbs_base.specs.Sort.{put_in, stable_sort, Rises}
use Rattle.qbs_base.specs.Values.{Schema, Database}
use Rattle.qbs_base.specs.Tables.{rows_of}
use Rattle.sql_ast.specs.declared.tree.SqlKey.{SqlKey}
use Rattle.sql_ast.specs.declared.tree.SqlColumn.TheVariants as columns
use Rattle.sql_ast.specs.declared.tree.SqlItem.TheVariants as items
use Rattle.sql_ast.specs.declared.tree.Cmp.TheVariants as cmps
use Rattle.sql_ast.specs.declared.tree.SqlOpnd.TheVariants as operands
use Rattle.sql_ast.specs.Tree.{Where, Compare}
use Rattle.sql_ast.specs.Meaning.{Place, Combination, Rows, before, key_before, passes, item_of, true_ones, query_answer}
use Rattle.java_mean.specs.Expression.{cell}
use Rattle.java_mean.specs.FirstForm.{selection, is_collected}

-- ---- A list in order is as it is sorted

put_first : {X : Type 0} (lt : X → X → Bool) (x : X) (ys : List X) → AllByRecursion (λ y. lt y x ≡ false) ys → put_in lt x ys ≡ x ∷ ys
put_first lt x [] h = refl
put_first lt x (y ∷ ys) h = rw h.0 refl

sorted_already : {X : Type 0} (lt : X → X → Bool) (xs : List X) → Rises lt xs → stable_sort lt xs ≡ xs
sorted_already lt [] h = refl
sorted_already lt (x ∷ xs) h = ap (put_in lt x) (sorted_already lt xs h.1) ∙ put_first lt x xs h.0

-- ---- Rows with their positions

abbrev pub single : Place → Combination
single place = place ∷ []

abbrev pub position_key : SqlKey
position_key = record { least = false; col = record { item = 1; column = columns.Pos }; down = false }

abbrev pub by_position : List SqlKey
by_position = position_key ∷ []

not_less : (b : Bool) → is_lt (cond b Greater Equal) ≡ false
not_less true = refl
not_less false = refl

or_none : (b c : Bool) → b ≡ false → (b || (c && false)) ≡ false
or_none true c e = absurd cc
or_none false true e = refl
or_none false false e = refl

number_later : (i j : ℕ) → j < i → is_lt (int_cmp (pos i) (pos j)) ≡ false
number_later i j h =
    let e : int_lt (pos i) (pos j) ≡ false = grind (arith, nat_tests) in
    rw e (not_less (int_lt (pos j) (pos i)))

later_place : (i j : ℕ) (r s : Row) → j < i → before by_position (single (i, r)) (single (j, s)) ≡ false
later_place i j r s h = or_none (key_before position_key (single (i, r)) (single (j, s))) (not (key_before position_key (single (j, s)) (single (i, r)))) (number_later i j h)

all_chosen : {X : Type 0} (P : X → Type 0) (b : Bool) (x : X) (xs : List X) → P x → AllByRecursion P xs → AllByRecursion P (cond b (x ∷ xs) xs)
all_chosen P true x xs h k = (h, k)
all_chosen P false x xs h k = k

rises_chosen : {X : Type 0} (lt : X → X → Bool) (b : Bool) (x : X) (xs : List X) → AllByRecursion (λ y. lt y x ≡ false) xs → Rises lt xs → Rises lt (cond b (x ∷ xs) xs)
rises_chosen lt true x xs h k = (h, k)
rises_chosen lt false x xs h k = k

-- the rows that pass, from this position on
abbrev pub chosen : (Combination → Bool) → ℕ → List Row → List Combination
chosen p n rows = filter p (map single (enumerate_from n rows))

all_later : (p : Combination → Bool) (n j : ℕ) (s : Row) (rows : List Row) → j < n → AllByRecursion (λ c. before by_position c (single (j, s)) ≡ false) (chosen p n rows)
all_later p n j s [] h = tt
all_later p n j s (row ∷ rows) h = all_chosen (λ c. before by_position c (single (j, s)) ≡ false) (p (single (n, row))) (single (n, row)) (chosen p (n + 1) rows) (later_place n j row s h) (all_later p (n + 1) j s rows (omega arith))

chosen_rises : (p : Combination → Bool) (n : ℕ) (rows : List Row) → Rises (before by_position) (chosen p n rows)
chosen_rises p n [] = tt
chosen_rises p n (row ∷ rows) = rises_chosen (before by_position) (p (single (n, row))) (single (n, row)) (chosen p (n + 1) rows) (all_later p (n + 1) n row rows (omega arith)) (chosen_rises p (n + 1) rows)

-- ---- The product of one table

product_single : (places : List Place) → flat_map (λ x. map (λ (c : Combination). x ∷ c) ([] ∷ [])) places ≡ map single places
product_single [] = refl
product_single (x ∷ xs) = ap (λ z. single x ∷ z) (product_single xs)

cond_map : {X Y : Type 0} (f : X → Y) (b : Bool) (x : X) (xs : List X) → map f (cond b (x ∷ xs) xs) ≡ cond b (f x ∷ map f xs) (map f xs)
cond_map f true x xs = refl
cond_map f false x xs = refl

rows_chosen : (p : Combination → Bool) (q : Row → Bool) (n : ℕ) (rows : List Row) → AllByRecursion (λ row. (k : ℕ) → p (single (k, row)) ≡ q row) rows → map (item_of (items.Whole 1)) (chosen p n rows) ≡ filter q rows
rows_chosen p q n [] h = refl
rows_chosen p q n (row ∷ rows) h =
    cond_map (item_of (items.Whole 1)) (p (single (n, row))) (single (n, row)) (chosen p (n + 1) rows)
    ∙ ap (λ b. cond b (row ∷ map (item_of (items.Whole 1)) (chosen p (n + 1) rows)) (map (item_of (items.Whole 1)) (chosen p (n + 1) rows))) (h.0 n)
    ∙ ap (λ z. cond (q row) (row ∷ z) z) (rows_chosen p q (n + 1) rows h.1)

-- ---- The query

-- the test of the query on a row, as the loop makes it
abbrev pub IsTested : Schema → List ℕ → ℕ → Row → Type 0
IsTested schema f column row = cell schema row f ≡ slice_get row.cells column

tested : (schema : Schema) (f : List ℕ) (column : ℕ) (d : ℤ) (rows : List Row) → AllByRecursion (IsTested schema f column) rows → AllByRecursion (λ row. (k : ℕ) → compared scalar_same (slice_get row.cells column) (Some (scalars.Long d)) ≡ is_collected schema f d row) rows
tested schema f column d [] h = tt
tested schema f column d (row ∷ rows) h = (λ k. ap (λ z. compared scalar_same z (Some (scalars.Long d))) (sym h.0), tested schema f column d rows h.1)

pub selection_answered : (schema : Schema) (db : Database) (t f : List ℕ) (table column : ℕ) (d : ℤ) (rows : List Row) → rows_of db table ≡ rows → AllByRecursion (IsTested schema f column) rows → query_answer db [] (selection t table f column d) ≡ Rows (filter (is_collected schema f d) rows)
selection_answered schema db t f table column d rows e h =
    let p : Combination → Bool = passes db [] (Where (Compare cmps.Eq (operands.Column (record { item = 1; column = columns.Named f column })) (operands.Lit (scalars.Long d)))) in
    let found : List Combination = chosen p 0 rows in
    let one : true_ones db [] (record { name = t; table = table } ∷ []) (Where (Compare cmps.Eq (operands.Column (record { item = 1; column = columns.Named f column })) (operands.Lit (scalars.Long d)))) ≡ found = ap (filter p) (product_single (enumerate_from 0 (rows_of db table)) ∙ ap (λ z. map single (enumerate_from 0 z)) e) in
    ap (λ z. Rows (map (item_of (items.Whole 1)) (stable_sort (before by_position) z))) one
    ∙ ap (λ z. Rows (map (item_of (items.Whole 1)) z)) (sorted_already (before by_position) found (chosen_rises p 0 rows))
    ∙ ap Rows (rows_chosen p (is_collected schema f d) 0 rows (tested schema f column d rows h))
