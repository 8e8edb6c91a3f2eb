-- A select answers the rows of its table that pass its condition, in their order.
use Rattle.std.proofs.Common.{◌≡◌, ℕ, zero, suc, ◌+◌, ◌<◌, Bool, true, false, not, ◌||◌, ◌&&◌, List, [], ◌∷◌, map, Option, Some, None, pos, refl, ap, ◌∙◌, cond, arith}
use Rattle.std.specs.Prelude.{int_lt}
use Rattle.std.specs.List.{filter, flat_map, enumerate_from, AllByRecursion}
use Rattle.std.specs.Ordering.{is_lt, int_cmp}
use Rattle.std.specs.declared.cmp.Ordering.TheVariants.{Equal, Greater}
use Rattle.std.proofs.lemmas.Bool.Decides.{nat_tests}
use Rattle.qbs_base.specs.declared.scalar.Scalar.{Scalar}
use Rattle.qbs_base.specs.declared.scalar.Row.{Row}
use Rattle.qbs_base.specs.Sort.{put_in, stable_sort, Rises}
use Rattle.qbs_base.specs.Values.{Schema, Database}
use Rattle.qbs_base.specs.Tables.{rows_of}
use Rattle.sql_ast.specs.declared.tree.FromItem.{FromItem}
use Rattle.sql_ast.specs.declared.tree.SqlKey.{SqlKey}
use Rattle.sql_ast.specs.declared.tree.SqlColumn.{SqlColumn}
use Rattle.sql_ast.specs.declared.tree.SqlColumn.TheVariants as columns
use Rattle.sql_ast.specs.declared.tree.SqlItem.{SqlItem}
use Rattle.sql_ast.specs.declared.tree.SqlItem.TheVariants as items
use Rattle.sql_ast.specs.declared.tree.SqlOpnd.{SqlOpnd}
use Rattle.sql_ast.specs.declared.tree.SqlOpnd.TheVariants as opnds
use Rattle.sql_ast.specs.Keys.{is_position}
use Rattle.sql_ast.specs.Tree.{Condition, Both, Either, Not, Compare, Bare, Exists, Within, Filter, Everything, Where, PlainListing}
use Rattle.sql_ast.specs.Meaning.{Place, Combination, before, key_before, passes, truth_of, operand_of, column_of, holds, is_true, item_of, true_ones, rows_from, listing_rows, cut}
use Rattle.sql_ast.specs.Typing.{orders}
use Rattle.select_parts.specs.Selects.{is_plain_operand, is_plain_condition, is_plain_filter, is_text_operand, is_first_row, by_position_alone, is_none, has_one, is_select}
use Rattle.spreads.specs.Passing.{row_passes}

-- ---- What a select is

pub both_so : (a b : Bool) → (a && b) ≡ true → (a ≡ true) × (b ≡ true)
both_so true true e = (refl, refl)
both_so true false e = absurd cc
both_so false b e = absurd cc

abbrev pub position_key : Bool → ℕ → SqlKey
position_key least n = record { least = least; col = record { item = n; column = columns.Pos }; down = false }

pub record SelectIs (schema : Schema) (q : PlainListing) : Type 0 where
  pub from : FromItem
  pub alone : q.from ≡ from ∷ []
  pub whole : q.item ≡ items.Whole 1
  pub group : q.group ≡ None
  pub limit : q.limit ≡ None
  pub least : Bool
  pub item : ℕ
  pub keys : q.keys ≡ position_key least item ∷ []
  pub plain : is_plain_filter schema q q.filter ≡ true

one_there : (froms : List FromItem) → has_one froms ≡ true → (from : FromItem) × (froms ≡ from ∷ [])
one_there [] e = absurd cc
one_there (from ∷ []) e = (from, refl)
one_there (from ∷ next ∷ froms) e = absurd cc

is_whole : (item : SqlItem) → is_first_row item ≡ true → item ≡ items.Whole 1
is_whole (items.Whole n) e = (let one : n ≡ 1 = grind (arith, nat_tests) in ap items.Whole one)
is_whole (items.Column col) e = absurd cc

is_nothing : {A : Type 0} (o : Option A) → is_none o ≡ true → o ≡ None
is_nothing None e = refl
is_nothing (Some x) e = absurd cc

pub record KeyIs (keys : List SqlKey) : Type 0 where
  pub least : Bool
  pub item : ℕ
  pub is : keys ≡ position_key least item ∷ []

one_key : (least : Bool) (n : ℕ) (column : SqlColumn) (down : Bool) → (is_position column && (not down && not least)) ≡ true → KeyIs (record { least = least; col = record { item = n; column = column }; down = down } ∷ [])
one_key least n columns.Pos false e = record { least = least; item = n; is = refl }
one_key least n columns.Pos true e = absurd cc
one_key least n (columns.Named name number) down e = absurd cc

keys_are : (keys : List SqlKey) → by_position_alone keys ≡ true → KeyIs keys
keys_are [] e = absurd cc
keys_are (key ∷ []) e = one_key key.least key.col.item key.col.column key.down e
keys_are (key ∷ next ∷ keys) e = absurd cc

pub select_is : (schema : Schema) (q : PlainListing) → is_select schema q ≡ true → SelectIs schema q
select_is schema q e =
    let a = both_so (has_one q.from) (is_first_row q.item && (is_none q.group && (is_none q.limit && (by_position_alone q.keys && is_plain_filter schema q q.filter)))) e in
    let b = both_so (is_first_row q.item) (is_none q.group && (is_none q.limit && (by_position_alone q.keys && is_plain_filter schema q q.filter))) a.1 in
    let c = both_so (is_none q.group) (is_none q.limit && (by_position_alone q.keys && is_plain_filter schema q q.filter)) b.1 in
    let d = both_so (is_none q.limit) (by_position_alone q.keys && is_plain_filter schema q q.filter) c.1 in
    let f = both_so (by_position_alone q.keys) (is_plain_filter schema q q.filter) d.1 in
    let from = one_there q.from a.0 in
    let keys = keys_are q.keys f.0 in
    record { from = from.0; alone = from.1; whole = is_whole q.item b.0; group = is_nothing q.group c.0; limit = is_nothing q.limit d.0; least = keys.least; item = keys.item; keys = keys.is; plain = f.1 }

-- ---- A list in order is as it is sorted

put_first : {X : Type 0} (lt : X → X → Bool) (x : X) (ys : List X) → AllByRecursion (λ y. lt y x ≡ false) ys → put_in lt x ys ≡ x ∷ ys
put_first lt x [] h = refl
put_first lt x (y ∷ ys) h = rw h.0 refl

sorted_already : {X : Type 0} (lt : X → X → Bool) (xs : List X) → Rises lt xs → stable_sort lt xs ≡ xs
sorted_already lt [] h = refl
sorted_already lt (x ∷ xs) h = ap (put_in lt x) (sorted_already lt xs h.1) ∙ put_first lt x xs h.0

-- ---- Rows with their positions

abbrev pub single : Place → Combination
single place = place ∷ []

not_less : (b : Bool) → is_lt (cond b Greater Equal) ≡ false
not_less true = refl
not_less false = refl

or_none : (b c : Bool) → b ≡ false → (b || (c && false)) ≡ false
or_none true c e = absurd cc
or_none false true e = refl
or_none false false e = refl

number_later : (i j : ℕ) → j < i → is_lt (int_cmp (pos i) (pos j)) ≡ false
number_later i j h =
    let e : int_lt (pos i) (pos j) ≡ false = grind (arith, nat_tests) in
    rw e (not_less (int_lt (pos j) (pos i)))

key_later : (least : Bool) (n i j : ℕ) (r s : Row) → j < i → key_before (position_key least n) (single (i, r)) (single (j, s)) ≡ false
key_later least zero i j r s h = refl
key_later least (suc zero) i j r s h = number_later i j h
key_later least (suc (suc n)) i j r s h = refl

all_chosen : {X : Type 0} (P : X → Type 0) (b : Bool) (x : X) (xs : List X) → P x → AllByRecursion P xs → AllByRecursion P (cond b (x ∷ xs) xs)
all_chosen P true x xs h k = (h, k)
all_chosen P false x xs h k = k

rises_chosen : {X : Type 0} (lt : X → X → Bool) (b : Bool) (x : X) (xs : List X) → AllByRecursion (λ y. lt y x ≡ false) xs → Rises lt xs → Rises lt (cond b (x ∷ xs) xs)
rises_chosen lt true x xs h k = (h, k)
rises_chosen lt false x xs h k = k

-- the rows that pass, from this position on
abbrev chosen : (Combination → Bool) → ℕ → List Row → List Combination
chosen p n rows = filter p (map single (enumerate_from n rows))

module _ (least : Bool) (item : ℕ) where
  abbrev by_position : List SqlKey
  by_position = position_key least item ∷ []

  later_place : (i j : ℕ) (r s : Row) → j < i → before by_position (single (i, r)) (single (j, s)) ≡ false
  later_place i j r s h = or_none (key_before (position_key least item) (single (i, r)) (single (j, s))) (not (key_before (position_key least item) (single (j, s)) (single (i, r)))) (key_later least item i j r s h)

  all_later : (p : Combination → Bool) (n j : ℕ) (s : Row) (rows : List Row) → j < n → AllByRecursion (λ c. before by_position c (single (j, s)) ≡ false) (chosen p n rows)
  all_later p n j s [] h = tt
  all_later p n j s (row ∷ rows) h = all_chosen (λ c. before by_position c (single (j, s)) ≡ false) (p (single (n, row))) (single (n, row)) (chosen p (n + 1) rows) (later_place n j row s h) (all_later p (n + 1) j s rows (omega arith))

  chosen_rises : (p : Combination → Bool) (n : ℕ) (rows : List Row) → Rises (before by_position) (chosen p n rows)
  chosen_rises p n [] = tt
  chosen_rises p n (row ∷ rows) = rises_chosen (before by_position) (p (single (n, row))) (single (n, row)) (chosen p (n + 1) rows) (all_later p (n + 1) n row rows (omega arith)) (chosen_rises p (n + 1) rows)

-- ---- The product of one table

product_single : (places : List Place) → flat_map (λ x. map (λ (c : Combination). x ∷ c) ([] ∷ [])) places ≡ map single places
product_single [] = refl
product_single (x ∷ xs) = ap (λ z. single x ∷ z) (product_single xs)

cond_map : {X Y : Type 0} (f : X → Y) (b : Bool) (x : X) (xs : List X) → map f (cond b (x ∷ xs) xs) ≡ cond b (f x ∷ map f xs) (map f xs)
cond_map f true x xs = refl
cond_map f false x xs = refl

rows_chosen : (p : Combination → Bool) (q : Row → Bool) (n : ℕ) (rows : List Row) → ((k : ℕ) (row : Row) → p (single (k, row)) ≡ q row) → map (item_of (items.Whole 1)) (chosen p n rows) ≡ filter q rows
rows_chosen p q n [] h = refl
rows_chosen p q n (row ∷ rows) h =
    cond_map (item_of (items.Whole 1)) (p (single (n, row))) (single (n, row)) (chosen p (n + 1) rows)
    ∙ ap (λ b. cond b (row ∷ map (item_of (items.Whole 1)) (chosen p (n + 1) rows)) (map (item_of (items.Whole 1)) (chosen p (n + 1) rows))) (h n row)
    ∙ ap (λ z. cond (q row) (row ∷ z) z) (rows_chosen p q (n + 1) rows h)

-- ---- The position doesn't matter

column_anywhere : (item : ℕ) (column : SqlColumn) → not (is_position column) ≡ true → (k : ℕ) (row : Row) → column_of (single (k, row)) (record { item = item; column = column }) ≡ column_of (single (0, row)) (record { item = item; column = column })
column_anywhere zero column e k row = refl
column_anywhere (suc zero) columns.Pos e k row = absurd cc
column_anywhere (suc zero) (columns.Named name number) e k row = refl
column_anywhere (suc (suc n)) column e k row = refl

operand_anywhere : (xs : List Scalar) (o : SqlOpnd) → is_plain_operand o ≡ true → (k : ℕ) (row : Row) → operand_of xs (single (k, row)) o ≡ operand_of xs (single (0, row)) o
operand_anywhere xs (opnds.Column col) e k row = column_anywhere col.item col.column e k row
operand_anywhere xs (opnds.Lit x) e k row = refl
operand_anywhere xs (opnds.Param n) e k row = refl

truth_anywhere : (schema : Schema) (q : PlainListing) (db : Database) (xs : List Scalar) (c : Condition) → is_plain_condition schema q c ≡ true → (k : ℕ) (row : Row) → truth_of db xs c (single (k, row)) ≡ truth_of db xs c (single (0, row))
truth_anywhere schema q db xs (Both a b) e k row =
    let p = both_so (is_plain_condition schema q a) (is_plain_condition schema q b) e in
    ap (λ z. z && truth_of db xs b (single (k, row))) (truth_anywhere schema q db xs a p.0 k row) ∙ ap (λ z. truth_of db xs a (single (0, row)) && z) (truth_anywhere schema q db xs b p.1 k row)
truth_anywhere schema q db xs (Either a b) e k row =
    let p = both_so (is_plain_condition schema q a) (is_plain_condition schema q b) e in
    ap (λ z. z || truth_of db xs b (single (k, row))) (truth_anywhere schema q db xs a p.0 k row) ∙ ap (λ z. truth_of db xs a (single (0, row)) || z) (truth_anywhere schema q db xs b p.1 k row)
truth_anywhere schema q db xs (Not a) e k row = ap not (truth_anywhere schema q db xs a e k row)
truth_anywhere schema q db xs (Compare cmp a b) e k row =
    let p = both_so (is_plain_operand a) (is_plain_operand b && not (orders cmp && is_text_operand schema q a)) e in
    let r = both_so (is_plain_operand b) (not (orders cmp && is_text_operand schema q a)) p.1 in
    ap (λ z. holds cmp z (operand_of xs (single (k, row)) b)) (operand_anywhere xs a p.0 k row) ∙ ap (holds cmp (operand_of xs (single (0, row)) a)) (operand_anywhere xs b r.0 k row)
truth_anywhere schema q db xs (Bare col) e k row = ap is_true (column_anywhere col.item col.column e k row)
truth_anywhere schema q db xs (Exists from filter_) e k row = absurd cc
truth_anywhere schema q db xs (Within opnd negated col from filter_) e k row = absurd cc

passes_anywhere : (schema : Schema) (q : PlainListing) (db : Database) (xs : List Scalar) (f : Filter) → is_plain_filter schema q f ≡ true → (k : ℕ) (row : Row) → passes db xs f (single (k, row)) ≡ passes db xs f (single (0, row))
passes_anywhere schema q db xs Everything e k row = refl
passes_anywhere schema q db xs (Where a) e k row = truth_anywhere schema q db xs a e k row

-- ---- The query

pub rows_selected : (schema : Schema) (db : Database) (xs : List Scalar) (q : PlainListing) (is : SelectIs schema q) → listing_rows db xs q ≡ filter (row_passes db xs q) (rows_of db is.from.table)
rows_selected schema db xs q is =
    let p : Combination → Bool = passes db xs q.filter in
    let rows : List Row = rows_of db is.from.table in
    let found : List Combination = chosen p 0 rows in
    let there : true_ones db xs q.from q.filter ≡ found = ap (λ z. true_ones db xs z q.filter) is.alone ∙ ap (filter p) (product_single (enumerate_from 0 rows)) in
    ap (λ z. rows_from q z (true_ones db xs q.from q.filter)) is.group
    ∙ ap (λ z. map (item_of q.item) (cut z (stable_sort (before q.keys) (true_ones db xs q.from q.filter)))) is.limit
    ∙ ap (λ z. map (item_of z) (stable_sort (before q.keys) (true_ones db xs q.from q.filter))) is.whole
    ∙ ap (λ z. map (item_of (items.Whole 1)) (stable_sort (before z) (true_ones db xs q.from q.filter))) is.keys
    ∙ ap (λ z. map (item_of (items.Whole 1)) (stable_sort (before (position_key is.least is.item ∷ [])) z)) there
    ∙ ap (map (item_of (items.Whole 1))) (sorted_already (before (position_key is.least is.item ∷ [])) found (chosen_rises is.least is.item p 0 rows))
    ∙ rows_chosen p (row_passes db xs q) 0 rows (passes_anywhere schema q db xs q.filter is.plain)
