-- The product of sorted tables is in the order of the keys, and so it is what the query's sort gives.
use Rattle.std.proofs.Common.{◌≡◌, ℕ, zero, suc, ◌+◌, pos, Bool, true, false, cond, not, ◌&&◌, ◌||◌, IsTrue, List, [], ◌∷◌, ◌++◌, map, length, slice_get, refl, sym, ap, ap₂, ◌∙◌, subst, arith}
use Rattle.std.specs.Prelude.{◌<◌}
use mathlib.Core.Path.{fun_ext}
use Rattle.std.specs.Cmp.{IsStrictWeakOrder}
use Rattle.std.specs.List.{AllByRecursion, filter, flat_map, enumerate_from, list_any}
use Rattle.std.specs.Ordering.{int_cmp, is_lt}
use Rattle.std.specs.Prelude.{int_lt}
use Rattle.std.specs.declared.cmp.Ordering.TheVariants.{Less, Equal, Greater}
use Rattle.std.specs.declared.option.Option.{Option}
use Rattle.std.specs.declared.option.Option.TheVariants.{Some, None}
use Rattle.qbs_base.specs.declared.scalar.Row.{Row}
use Rattle.qbs_base.specs.declared.scalar.Scalar.{Scalar}
use Rattle.qbs_base.specs.declared.scalar.Scalar.TheVariants as scalars
use Rattle.qbs_base.specs.Scalar.{value_before}
use Rattle.qbs_base.specs.Sort.{put_in, stable_sort, Rises, then_by, turned, choices}
use Rattle.qbs_base.specs.Values.{Database}
use Rattle.qbs_base.specs.Tables.{rows_of}
use Rattle.qbs_base.proofs.Moves.{Moves, AllMove, moves_sort, moves_choices, moves_filter, permutation_from_moves}
use Rattle.qbs_base.proofs.Order.{not_below_itself, all_put_in, rises_filter, sorted_from_rises}
use Rattle.qbs_base.proofs.Scalars.{value_order}
use Rattle.qbs_base.proofs.Then.{then_order, turned_order}
use Rattle.kernel_lang.specs.declared.parts.Col.{Col}
use Rattle.kernel_lang.specs.Given.{key_before as row_key_before, before as rows_before}
use Rattle.sql_ast.specs.declared.tree.SqlItem.{SqlItem}
use Rattle.sql_ast.specs.declared.tree.SqlKey.{SqlKey}
use Rattle.sql_ast.specs.Answers.{AreOrdered, IsOrderComplete}
use Rattle.sql_ast.specs.Keys.{names_position, name_positions}
use Rattle.sql_ast.specs.Meaning.{Place, Combination, column_of, row_of, places_of, product, passes, true_ones, key_before, before, item_of, cut, listing_rows}
use Rattle.sql_ast.specs.Tree.{Filter, PlainListing, Listing}
use Rattle.sql_ast.proofs.Combinations.{all_append, all_map, all_flat_map}
use Rattle.sql_ast.proofs.Marks.{positions_decided}
use Rattle.sql_ast.proofs.OneAnswer.{has_one_answer}
use Rattle.sql_ast.proofs.Order.{before_order}
use Rattle.sql_build.specs.Keys.{position}
use Rattle.sql_parts.specs.Scopes.{Ground, list_of, from_item, from_items, column}
use Rattle.sql_build.specs.Keys.{position_key}
use Rattle.sql_parts.specs.Emitted.{key, keys}
use Rattle.sql_parts.proofs.Rows.{column_is}
use Rattle.sql_parts.proofs.Tools.{lt_true, eq_itself, or_left, or_right, length_map}

-- the order of a loop's places: by its keys, then by position
abbrev pub by_row : Ground → ℕ → Place → Place → Bool
by_row g j a b = rows_before (list_of g j).keys a.1 b.1

abbrev pub by_pos : Place → Place → Bool
by_pos a b = value_before (Some (scalars.Long (pos a.0))) (Some (scalars.Long (pos b.0)))

abbrev pub place_before : Ground → ℕ → Place → Place → Bool
place_before g j = then_by (by_row g j) by_pos

abbrev pub sorted_places : Ground → Database → ℕ → List Place
sorted_places g db j = stable_sort (by_row g j) (places_of db (from_item g j))

abbrev pub chosen : Ground → Database → List ℕ → List Combination
chosen g db js = choices (map (sorted_places g db) js)

abbrev level_before : Ground → ℕ → ℕ → Combination → Combination → Bool
level_before g n j = then_by (λ c d. rows_before (list_of g j).keys (row_of c n) (row_of d n)) (λ c d. value_before (column_of c (position n)) (column_of d (position n)))

abbrev levels_before : Ground → ℕ → List ℕ → Combination → Combination → Bool
levels_before g n [] = λ c d. false
levels_before g n (j ∷ js) = then_by (level_before g (suc n) j) (levels_before g (suc n) js)

-- ---- the keys, level by level

then_assoc : {X : Type 0} (a b c : X → X → Bool) → then_by (then_by a b) c ≡ then_by a (then_by b c)
then_assoc a b c = fun_ext (λ x. fun_ext (λ y. go (a x y) (a y x) (b x y) (b y x) (c x y)))
  where
    go : (s t u v z : Bool) → ((s || (not t && u)) || (not (t || (not s && v)) && z)) ≡ (s || (not t && (u || (not v && z))))
    go true t u v z = refl
    go false true u v z = refl
    go false false u v z = refl

key_same : (g : Ground) (n j : ℕ) (k : Col) → key_before (key g n j k) ≡ (λ c d. row_key_before k (row_of c n) (row_of d n))
key_same g n j k = fun_ext (λ c. fun_ext (λ d. go k.down c d))
  where
    go : (down : Bool) (c d : Combination) → turned down (λ (c d : Combination). value_before (column_of c (column g n j k.column)) (column_of d (column g n j k.column))) c d
        ≡ turned down (λ (r s : Row). value_before (slice_get r.cells k.column) (slice_get s.cells k.column)) (row_of c n) (row_of d n)
    go true c d = ap₂ value_before (column_is g d n j k.column) (column_is g c n j k.column)
    go false c d = ap₂ value_before (column_is g c n j k.column) (column_is g d n j k.column)

before_append : (g : Ground) (n j : ℕ) (ks : List Col) (ms : List SqlKey) → before (map (key g n j) ks ++ ms) ≡ then_by (λ c d. rows_before ks (row_of c n) (row_of d n)) (before ms)
before_append g n j [] ms = refl
before_append g n j (k ∷ ks) ms =
    ap₂ then_by (key_same g n j k) (before_append g n j ks ms)
    ∙ sym (then_assoc (λ c d. row_key_before k (row_of c n) (row_of d n)) (λ c d. rows_before ks (row_of c n) (row_of d n)) (before ms))

keys_mean : (g : Ground) (n : ℕ) (js : List ℕ) → before (keys g n js) ≡ levels_before g n js
keys_mean g n [] = refl
keys_mean g n (j ∷ js) =
    before_append g (suc n) j (list_of g j).keys (position_key false (suc n) ∷ keys g (suc n) js)
    ∙ ap (λ lt. then_by (λ c d. rows_before (list_of g j).keys (row_of c (suc n)) (row_of d (suc n))) (then_by (λ c d. value_before (column_of c (position (suc n))) (column_of d (position (suc n)))) lt)) (keys_mean g (suc n) js)
    ∙ sym (then_assoc (λ c d. rows_before (list_of g j).keys (row_of c (suc n)) (row_of d (suc n))) (λ c d. value_before (column_of c (position (suc n))) (column_of d (position (suc n)))) (levels_before g (suc n) js))

levels_shift : (g : Ground) (n : ℕ) (js : List ℕ) (a : Place) (c : Combination) (b : Place) (d : Combination) → levels_before g (suc n) js (a ∷ c) (b ∷ d) ≡ levels_before g n js c d
levels_shift g n [] a c b d = refl
levels_shift g n (j ∷ js) a c b d = ap (λ x. level_before g (suc n) j c d || (not (level_before g (suc n) j d c) && x)) (levels_shift g (suc n) js a c b d)

-- each element is less than those after it
abbrev pub RisesStrictly : {X : Type 0} → (X → X → Bool) → List X → Type 0
RisesStrictly lt [] = Unit {0}
RisesStrictly lt (x ∷ xs) = AllByRecursion (λ y. lt x y ≡ true) xs × RisesStrictly lt xs

module _ {X : Type 0} (a b : X → X → Bool) (p : IsStrictWeakOrder a) where
  then_not : (x y : X) → then_by a b x y ≡ true → a y x ≡ false
  then_not x y = go (a x y) (a y x) (b x y) (p.one_way x y)
    where
      go : (s t u : Bool) → (s ≡ true → t ≡ false) → (s || (not t && u)) ≡ true → t ≡ false
      go true t u f h = f refl
      go false false u f h = refl
      go false true u f h = cc

  then_true : (x y : X) → a y x ≡ false → b x y ≡ true → then_by a b x y ≡ true
  then_true x y = go (a x y) (a y x) (b x y)
    where
      go : (s t u : Bool) → t ≡ false → u ≡ true → (s || (not t && u)) ≡ true
      go true t u f g = refl
      go false false true f g = refl
      go false false false f g = cc
      go false true u f g = cc

  then_first : (x y : X) → a x y ≡ true → then_by a b x y ≡ true
  then_first x y e = ap (λ s. s || (not (a y x) && b x y)) e

  both_all : (x y : X) → a y x ≡ false → (ys : List X) → AllByRecursion (λ w. b x w ≡ true) ys → AllByRecursion (λ w. then_by a b y w ≡ true) ys → AllByRecursion (λ w. then_by a b x w ≡ true) ys
  both_all x y e [] f g = tt
  both_all x y e (w ∷ ws) f g = (then_true x w (p.chain w y x (then_not y w g.0) e) f.0, both_all x y e ws f.1 g.1)

  strict_put_in : (x : X) (ys : List X) → AllByRecursion (λ w. b x w ≡ true) ys → RisesStrictly (then_by a b) ys → RisesStrictly (then_by a b) (put_in a x ys)
  strict_put_in x [] f r = (tt, tt)
  strict_put_in x (y ∷ ys) f r = go (a y x) refl (strict_put_in x ys f.1 r.1)
    where
      go : (c : Bool) → a y x ≡ c → RisesStrictly (then_by a b) (put_in a x ys) → RisesStrictly (then_by a b) (cond c (y ∷ put_in a x ys) (x ∷ y ∷ ys))
      go true e later = (all_put_in a p (λ w. then_by a b y w ≡ true) x ys (then_first y x e) r.0, later)
      go false e later = ((then_true x y e f.0, both_all x y e ys f.1 r.0), r)

  pub all_sorted : (P : X → Type 0) (xs : List X) → AllByRecursion P xs → AllByRecursion P (stable_sort a xs)
  all_sorted P [] h = tt
  all_sorted P (x ∷ xs) h = all_put_in a p P x (stable_sort a xs) h.0 (all_sorted P xs h.1)

  -- a stable sort of a list that rises by b rises by a and then b
  pub strict_sort : (xs : List X) → RisesStrictly b xs → RisesStrictly (then_by a b) (stable_sort a xs)
  strict_sort [] r = tt
  strict_sort (x ∷ xs) r = strict_put_in x (stable_sort a xs) (all_sorted (λ w. b x w ≡ true) xs r.0) (strict_sort xs r.1)

-- a product of lists that rise
module _ {X : Type 0} (a : X → X → Bool) (o : IsStrictWeakOrder a) (L B : List X → List X → Bool) (shift : (x : X) (c : List X) (y : X) (d : List X) → L (x ∷ c) (y ∷ d) ≡ (a x y || (not (a y x) && B c d))) where
  same_head : (x : X) (c d : List X) → B d c ≡ false → L (x ∷ d) (x ∷ c) ≡ false
  same_head x c d e = shift x d x c ∙ go (a x x) (B d c) (not_below_itself a o x) e
    where
      go : (s t : Bool) → s ≡ false → t ≡ false → (s || (not s && t)) ≡ false
      go false t f g = g
      go true t f g = cc

  later_head : (x y : X) (c d : List X) → a x y ≡ true → L (y ∷ d) (x ∷ c) ≡ false
  later_head x y c d e = shift y d x c ∙ go (a y x) (a x y) (B d c) (o.one_way x y e) e
    where
      go : (s t u : Bool) → s ≡ false → t ≡ true → (s || (not t && u)) ≡ false
      go false true u f g = refl
      go false false u f g = cc
      go true t u f g = cc

  rises_front : (x : X) (cs vs : List (List X)) → Rises B cs → ((c : List X) → AllByRecursion (λ v. L v (x ∷ c) ≡ false) vs) → Rises L vs → Rises L (map (λ c. x ∷ c) cs ++ vs)
  rises_front x [] vs r h s = s
  rises_front x (c ∷ cs) vs r h s = (all_append (λ v. L v (x ∷ c) ≡ false) (map (λ c. x ∷ c) cs) vs (all_map (λ d. B d c ≡ false) (λ v. L v (x ∷ c) ≡ false) (λ c. x ∷ c) (same_head x c) cs r.0) (h c), rises_front x cs vs r.1 h s)

  any_all : (cs : List (List X)) → AllByRecursion (λ c. Unit {0}) cs
  any_all [] = tt
  any_all (c ∷ cs) = (tt, any_all cs)

  pub product_rises : (xs : List X) (cs : List (List X)) → RisesStrictly a xs → Rises B cs → Rises L (flat_map (λ x. map (λ c. x ∷ c) cs) xs)
  product_rises [] cs r s = tt
  product_rises (x ∷ xs) cs r s =
      rises_front x cs (flat_map (λ x. map (λ c. x ∷ c) cs) xs) s
      (λ c. all_flat_map (λ y. a x y ≡ true) (λ v. L v (x ∷ c) ≡ false) (λ x. map (λ c. x ∷ c) cs) (λ y e. all_map (λ d. Unit {0}) (λ v. L v (x ∷ c) ≡ false) (λ c. y ∷ c) (λ d u. later_head x y c d e) cs (any_all cs)) xs r.0)
      (product_rises xs cs r.1 s)

rows_key_order : (k : Col) → IsStrictWeakOrder (row_key_before k)
rows_key_order k =
    turned_order k.down (λ (r s : Row). value_before (slice_get r.cells k.column) (slice_get s.cells k.column))
    (record { one_way = λ r s. value_order.one_way (slice_get r.cells k.column) (slice_get s.cells k.column); chain = λ r s t. value_order.chain (slice_get r.cells k.column) (slice_get s.cells k.column) (slice_get t.cells k.column) })

rows_order : (ks : List Col) → IsStrictWeakOrder (rows_before ks)
rows_order [] = record { one_way = λ x y h. refl; chain = λ x y z h k. refl }
rows_order (k ∷ ks) = then_order (row_key_before k) (rows_before ks) (rows_key_order k) (rows_order ks)

pub by_row_order : (g : Ground) (j : ℕ) → IsStrictWeakOrder (by_row g j)
by_row_order g j = let o : IsStrictWeakOrder (rows_before (list_of g j).keys) = rows_order (list_of g j).keys in record { one_way = λ x y h. o.one_way x.1 y.1 h; chain = λ x y z h k. o.chain x.1 y.1 z.1 h k }

by_pos_order : IsStrictWeakOrder by_pos
by_pos_order = record {
  one_way = λ x y. value_order.one_way (Some (scalars.Long (pos x.0))) (Some (scalars.Long (pos y.0)));
  chain = λ x y z. value_order.chain (Some (scalars.Long (pos x.0))) (Some (scalars.Long (pos y.0))) (Some (scalars.Long (pos z.0)));
}

place_before_order : (g : Ground) (j : ℕ) → IsStrictWeakOrder (place_before g j)
place_before_order g j = then_order (by_row g j) by_pos (by_row_order g j) by_pos_order

less_position : (m n : ℕ) → m < n → is_lt (int_cmp (pos m) (pos n)) ≡ true
less_position m n h = let e : int_lt (pos m) (pos n) ≡ true = lt_true m n h in ap (λ b. is_lt (cond b Less (cond (int_lt (pos n) (pos m)) Greater Equal))) e

places_above : (m n : ℕ) (row : Row) (rows : List Row) → m < n → AllByRecursion (λ (b : Place). by_pos (m, row) b ≡ true) (enumerate_from n rows)
places_above m n row [] h = tt
places_above m n row (r ∷ rows) h = (less_position m n h, places_above m (n + 1) row rows (omega arith))

places_rise : (n : ℕ) (rows : List Row) → RisesStrictly by_pos (enumerate_from n rows)
places_rise n [] = tt
places_rise n (r ∷ rows) = (places_above n (n + 1) r rows (omega arith), places_rise (n + 1) rows)

chosen_rises : (g : Ground) (db : Database) (js : List ℕ) → Rises (levels_before g 0 js) (chosen g db js)
chosen_rises g db [] = (tt, tt)
chosen_rises g db (j ∷ js) =
    product_rises (place_before g j) (place_before_order g j) (levels_before g 0 (j ∷ js)) (levels_before g 0 js)
    (λ x c y d. ap (λ z. place_before g j x y || (not (place_before g j y x) && z)) (levels_shift g 0 js x c y d))
    (sorted_places g db j) (chosen g db js) (strict_sort (by_row g j) by_pos (by_row_order g j) (places_of db (from_item g j)) (places_rise 0 (rows_of db (from_item g j).table))) (chosen_rises g db js)

-- ---- a key for each position

any_after : (p : SqlKey → Bool) (xs ys : List SqlKey) → list_any p ys ≡ true → list_any p (xs ++ ys) ≡ true
any_after p [] ys h = h
any_after p (x ∷ xs) ys h = or_right (p x) (list_any p (xs ++ ys)) (any_after p xs ys h)

named_here : (m : ℕ) → names_position (suc (m + 0)) (position_key false (suc m)) ≡ true
named_here m = let e : suc m ≡ suc (m + 0) = omega arith in subst (λ n. names_position n (position_key false (suc m)) ≡ true) e (ap (λ b. b && true) (eq_itself (suc m)))

keys_complete : (g : Ground) (m : ℕ) (js : List ℕ) (i : ℕ) → i < length js → list_any (names_position (suc (m + i))) (keys g m js) ≡ true
keys_complete g m [] i h = absurd (omega arith)
keys_complete g m (j ∷ js) zero h =
    any_after (names_position (suc (m + 0))) (map (key g (suc m) j) (list_of g j).keys) (position_key false (suc m) ∷ keys g (suc m) js)
    (or_left (names_position (suc (m + 0)) (position_key false (suc m))) (list_any (names_position (suc (m + 0))) (keys g (suc m) js)) (named_here m))
keys_complete g m (j ∷ js) (suc i) h =
    any_after (names_position (suc (m + suc i))) (map (key g (suc m) j) (list_of g j).keys) (position_key false (suc m) ∷ keys g (suc m) js)
    (or_right (names_position (suc (m + suc i)) (position_key false (suc m))) (list_any (names_position (suc (m + suc i))) (keys g (suc m) js))
    (let e : suc (suc m + i) ≡ suc (m + suc i) = omega arith in subst (λ n. list_any (names_position n) (keys g (suc m) js) ≡ true) e (keys_complete g (suc m) js i (omega arith))))

names_each : (g : Ground) (js : List ℕ) (i : ℕ) → i < length (from_items g js) → IsTrue (list_any (names_position (suc i)) (keys g 0 js))
names_each g js i h =
    let n : 0 + i ≡ i = omega arith in
    let l : length (from_items g js) ≡ length js = length_map (from_item g) js in
    subst (λ k. list_any (names_position (suc k)) (keys g 0 js) ≡ true) n (keys_complete g 0 js i (omega (arith, h, l)))

pub names_all : (g : Ground) (js : List ℕ) → IsTrue (name_positions (length (from_items g js)) (keys g 0 js))
names_all g js = (positions_decided (keys g 0 js) (length (from_items g js))).1 (names_each g js)

-- ---- what is listed

all_move : (g : Ground) (db : Database) (js : List ℕ) → AllMove (map (places_of db) (from_items g js)) (map (sorted_places g db) js)
all_move g db [] = tt
all_move g db (j ∷ js) = (moves_sort (by_row g j) (places_of db (from_item g j)), all_move g db js)

pub chosen_moves : (g : Ground) (db : Database) (js : List ℕ) → Moves (product db (from_items g js)) (chosen g db js)
chosen_moves g db js = moves_choices (map (places_of db) (from_items g js)) (map (sorted_places g db) js) (all_move g db js)

abbrev pub rows_listing : Ground → List ℕ → SqlItem → Filter → Option ℕ → PlainListing
rows_listing g js item filter_ limit = record { item = item; from = from_items g js; filter = filter_; group = None; keys = keys g 0 js; limit = limit; params = [] }

pub listing_complete : (g : Ground) (js : List ℕ) (item : SqlItem) (filter_ : Filter) (limit : Option ℕ) → IsOrderComplete (Listing (rows_listing g js item filter_ limit))
listing_complete g js item filter_ limit = names_all g js

-- a list query's rows are the items of the sorted tables' combinations
pub listed_rows : (g : Ground) (db : Database) (params : List Scalar) (js : List ℕ) (item : SqlItem) (filter_ : Filter) (limit : Option ℕ)
    → listing_rows db params (rows_listing g js item filter_ limit) ≡ map (item_of item) (cut limit (filter (passes db params filter_) (chosen g db js)))
listed_rows g db params js item filter_ limit =
    let q : PlainListing = rows_listing g js item filter_ limit in
    sym ((has_one_answer q db params (listing_complete g js item filter_ limit)).only (map (item_of item) (cut limit (filter (passes db params filter_) (chosen g db js)))) an_order)
  where
    rises : Rises (before (keys g 0 js)) (chosen g db js)
    rises = subst (λ lt. Rises lt (chosen g db js)) (sym (keys_mean g 0 js)) (chosen_rises g db js)

    an_order : AreOrdered (rows_listing g js item filter_ limit) (true_ones db params (from_items g js) filter_) (map (item_of item) (cut limit (filter (passes db params filter_) (chosen g db js))))
    an_order = record {
      order = filter (passes db params filter_) (chosen g db js);
      permutation = permutation_from_moves (true_ones db params (from_items g js) filter_) (filter (passes db params filter_) (chosen g db js)) (moves_filter (passes db params filter_) (product db (from_items g js)) (chosen g db js) (chosen_moves g db js));
      sorted = sorted_from_rises (before (keys g 0 js)) (before_order (keys g 0 js)) (filter (passes db params filter_) (chosen g db js)) (rises_filter (before (keys g 0 js)) (before_order (keys g 0 js)) (passes db params filter_) (chosen g db js) rises);
      rows_are = refl;
    }
