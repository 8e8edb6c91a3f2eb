-- The tuples of a nest of loops are the combinations of its lists' places, without their positions.
use Rattle.std.proofs.Common.{◌≡◌, ℕ, zero, suc, ◌<◌, Bool, true, false, cond, ◌||◌, List, [], ◌∷◌, ◌++◌, map, take, drop, length, slice_get, refl, sym, ap, ap₂, ◌∙◌, subst, arith, nat_eq, nat_lt}
use Rattle.std.specs.List.{AllByRecursion, filter, flat_map, list_all, enumerate_from}
use Rattle.std.specs.declared.option.Option.{Option}
use Rattle.std.specs.declared.option.Option.TheVariants.{Some, None}
use Rattle.std.proofs.lemmas.List.{append-nil}
use Rattle.qbs_base.specs.declared.scalar.Row.{Row}
use Rattle.qbs_base.specs.Sort.{stable_sort, choices}
use Rattle.qbs_base.specs.Values.{Schema, Database, AreCells, IsDatabaseOf}
use Rattle.qbs_base.specs.Tables.{rows_of}
use Rattle.qbs_base.proofs.Mapped.{map_sort}
use Rattle.tor_terms.specs.declared.term.Atom.{Atom}
use Rattle.tor_terms.specs.Plain.{Form, Tree, Walk}
use Rattle.tor_terms.specs.Truth.{Tuple, Datum, Tup, World, row_at, rows_at, all_hold, has_loop}
use Rattle.tor_terms.specs.Value.{here, walked, paired, joined, value}
use Rattle.kernel_lang.specs.declared.parts.ListDef.{ListDef}
use Rattle.kernel_lang.specs.Given.{before as rows_before, cut as cut_rows, list_at}
use Rattle.kernel_lang.specs.Postcondition.{nest_ones, nest_walks, body}
use Rattle.kernel_lang.proofs.Listing.{and_left, and_right}
use Rattle.sql_ast.specs.declared.tree.FromItem.{FromItem}
use Rattle.sql_ast.specs.Meaning.{Place, Combination, row_of, places_of, cut}
use Rattle.sql_ast.proofs.Combinations.{all_map, all_flat_map}
use Rattle.sql_parts.specs.Scopes.{Ground, numbered, number_in, def_of, list_of, from_item, from_items}
use Rattle.sql_parts.proofs.Chosen.{by_row, by_row_order, sorted_places, chosen, all_sorted}
use Rattle.sql_parts.proofs.Rows.{columns_at}
use Rattle.sql_parts.proofs.Tables.{IsRowAt, TypedFor, all_places}
use Rattle.sql_parts.proofs.Tools.{map_map, map_flat_map, flat_map_map, flat_map_agree, filter_of_map, take_map, without_places, all_take, eq_true, lt_true, lt_of}

-- the places that a loop's list has
abbrev pub seen_places : Ground → Database → ℕ → List Place
seen_places g db j = cut (list_of g j).limit (sorted_places g db j)

abbrev pub seen : Ground → Database → List ℕ → List Combination
seen g db js = choices (map (seen_places g db) js)

abbrev pub rest : Combination → Combination
rest [] = []
rest (b ∷ c) = c

-- a combination without its positions; where it is too short, empty rows
abbrev pub tuple_of : List ℕ → Combination → Tuple
tuple_of [] c = []
tuple_of (j ∷ js) c = (j, row_of c 1) ∷ tuple_of js (rest c)

-- ---- the lists of the loops

rows_are : (db : Database) (n : ℕ) (d : ListDef) → cut_rows d.limit (stable_sort (rows_before d.keys) (rows_of db n)) ≡ map (λ (b : Place). b.1) (cut d.limit (stable_sort (λ (a b : Place). rows_before d.keys a.1 b.1) (enumerate_from 0 (rows_of db n))))
rows_are db n d = go d.limit
  where
    sorted : stable_sort (rows_before d.keys) (rows_of db n) ≡ map (λ (b : Place). b.1) (stable_sort (λ (a b : Place). rows_before d.keys a.1 b.1) (enumerate_from 0 (rows_of db n)))
    sorted = ap (stable_sort (rows_before d.keys)) (sym (without_places 0 (rows_of db n))) ∙ sym (map_sort (rows_before d.keys) (λ (b : Place). b.1) (enumerate_from 0 (rows_of db n)))

    go : (limit : Option ℕ) → cut_rows limit (stable_sort (rows_before d.keys) (rows_of db n)) ≡ map (λ (b : Place). b.1) (cut limit (stable_sort (λ (a b : Place). rows_before d.keys a.1 b.1) (enumerate_from 0 (rows_of db n))))
    go None = sorted
    go (Some m) = ap (take m) sorted ∙ sym (take_map (λ (b : Place). b.1) m (stable_sort (λ (a b : Place). rows_before d.keys a.1 b.1) (enumerate_from 0 (rows_of db n))))

lower : (m n : ℕ) → nat_lt (suc m) (suc n) ≡ true → nat_lt m n ≡ true
lower m n h = let l : suc m < suc n = lt_of (suc m) (suc n) h in lt_true m n (omega (arith, l))

pub list_there : (lists : List ListDef) (j : ℕ) → nat_lt j (length lists) ≡ true → slice_get lists j ≡ Some (def_of (slice_get lists j))
list_there [] j h = let l : j < 0 = lt_of j 0 h in absurd (omega (arith, l))
list_there (d ∷ lists) zero h = refl
list_there (d ∷ lists) (suc j) h = list_there lists j (lower j (length lists) h)

-- each loop's list has the rows of its places
abbrev pub ListsAre : Ground → Database → World → List ℕ → Type 0
ListsAre g db w js = AllByRecursion (λ j. w.lists j ≡ map (λ (b : Place). b.1) (seen_places g db j)) js

pub lists_are : (g : Ground) (db : Database) (w : World) → ((j : ℕ) → w.lists j ≡ list_at db (slice_get g.lists j)) → (js : List ℕ) → list_all (λ j. nat_lt j (length g.lists)) js ≡ true → ListsAre g db w js
lists_are g db w lists [] h = tt
lists_are g db w lists (j ∷ js) h = (
  lists j ∙ ap (list_at db) (list_there g.lists j (and_left (nat_lt j (length g.lists)) (list_all (λ j. nat_lt j (length g.lists)) js) h)) ∙ rows_are db (list_of g j).table (list_of g j),
  lists_are g db w lists js (and_right (nat_lt j (length g.lists)) (list_all (λ j. nat_lt j (length g.lists)) js) h),
)

-- ---- nests

singles_walk : (j : ℕ) (bs : List Place) → walked j (map (λ (b : Place). b.1) bs) ≡ map (λ c. Tup (tuple_of (j ∷ []) c)) (choices (bs ∷ []))
singles_walk j [] = refl
singles_walk j (b ∷ bs) = ap (λ xs. Tup ((j, b.1) ∷ []) ∷ xs) (singles_walk j bs)

join_is : (j : ℕ) (ks : List ℕ) (bs : List Place) (cs : List Combination)
    → joined (walked j (map (λ (b : Place). b.1) bs)) (map (λ c. Tup (tuple_of ks c)) cs) ≡ map (λ c. Tup (tuple_of (j ∷ ks) c)) (flat_map (λ b. map (λ c. b ∷ c) cs) bs)
join_is j ks bs cs =
    ap (λ (xs : List Datum). flat_map (λ x. map (paired x) (map (λ c. Tup (tuple_of ks c)) cs)) xs) (map_map (λ (r : Row). Tup ((j, r) ∷ [])) (λ (b : Place). b.1) bs)
    ∙ flat_map_map (λ x. map (paired x) (map (λ c. Tup (tuple_of ks c)) cs)) (λ (b : Place). Tup ((j, b.1) ∷ [])) bs
    ∙ flat_map_agree (λ (b : Place). map (paired (Tup ((j, b.1) ∷ []))) (map (λ c. Tup (tuple_of ks c)) cs)) (λ b. map (λ c. Tup (tuple_of (j ∷ ks) c)) (map (λ c. b ∷ c) cs))
    (λ b. map_map (paired (Tup ((j, b.1) ∷ []))) (λ c. Tup (tuple_of ks c)) cs ∙ sym (map_map (λ c. Tup (tuple_of (j ∷ ks) c)) (λ c. b ∷ c) cs)) bs
    ∙ sym (map_flat_map (λ c. Tup (tuple_of (j ∷ ks) c)) (λ b. map (λ c. b ∷ c) cs) bs)

pub nest_is : (g : Ground) (db : Database) (w : World) (atoms : List Atom) (j : ℕ) (js : List ℕ) → ListsAre g db w (j ∷ js) → value w atoms (nest_walks (Walk j) js) ≡ map (λ c. Tup (tuple_of (j ∷ js) c)) (seen g db (j ∷ js))
nest_is g db w atoms j [] lists = ap (walked j) lists.0 ∙ singles_walk j (seen_places g db j)
nest_is g db w atoms j (k ∷ ks) lists = ap₂ (λ (rows : List Row) ys. joined (walked j rows) ys) lists.0 (nest_is g db w atoms k ks lists.1) ∙ join_is j (k ∷ ks) (seen_places g db j) (seen g db (k ∷ ks))

-- behind the current rows of loops outside
one_before : (j : ℕ) (r : Row) (t : Combination → Tuple) (cs : List Combination) → joined (Tup ((j, r) ∷ []) ∷ []) (map (λ c. Tup (t c)) cs) ≡ map (λ c. Tup ((j, r) ∷ t c)) cs
one_before j r t cs = append-nil (map (paired (Tup ((j, r) ∷ []))) (map (λ c. Tup (t c)) cs)) ∙ map_map (paired (Tup ((j, r) ∷ []))) (λ c. Tup (t c)) cs

ones_are : (w : World) (atoms : List Atom) (outer : List ℕ) (x : Tree) (t : Combination → Tuple) (cs : List Combination) → value w atoms x ≡ map (λ c. Tup (t c)) cs → value w atoms (nest_ones outer x) ≡ map (λ c. Tup (here w outer ++ t c)) cs
ones_are w atoms [] x t cs e = e
ones_are w atoms (j ∷ outer) x t cs e = ap (joined (Tup ((j, w.current j) ∷ []) ∷ [])) (ones_are w atoms outer x t cs e) ∙ one_before j (w.current j) (λ c. here w outer ++ t c) cs

-- the tuples for which the formulas hold
pub body_is : (g : Ground) (db : Database) (w : World) (atoms : List Atom) (fs : List Form) (outer : List ℕ) (j : ℕ) (js : List ℕ) → ListsAre g db w (j ∷ js)
    → value w atoms (body fs outer (Walk j) js) ≡ map (λ c. Tup (here w outer ++ tuple_of (j ∷ js) c)) (filter (λ c. all_hold w atoms (row_at w.current (here w outer ++ tuple_of (j ∷ js) c)) fs) (seen g db (j ∷ js)))
body_is g db w atoms fs outer j js lists =
    ap (filter (λ x. all_hold w atoms (rows_at w.current x) fs)) (ones_are w atoms outer (nest_walks (Walk j) js) (tuple_of (j ∷ js)) (seen g db (j ∷ js)) (nest_is g db w atoms j js lists))
    ∙ filter_of_map (λ x. all_hold w atoms (rows_at w.current x) fs) (λ c. Tup (here w outer ++ tuple_of (j ∷ js) c)) (seen g db (j ∷ js))

-- ---- rows by loops and by numbers

-- the row of a loop is that of the item with its number
row_behind : (c : Combination) (n : ℕ) → row_of c (suc n) ≡ row_of (drop n c) 1
row_behind c zero = refl
row_behind [] (suc n) = refl
row_behind (b ∷ c) (suc n) = row_behind c n

rest_drop : (n : ℕ) (c : Combination) → rest (drop n c) ≡ drop (suc n) c
rest_drop zero [] = refl
rest_drop zero (b ∷ c) = refl
rest_drop (suc n) [] = refl
rest_drop (suc n) (b ∷ c) = rest_drop n c

pub same_row : (rows : ℕ → Row) (others : List (ℕ × ℕ)) (js : List ℕ) (n : ℕ) (c : Combination) (j : ℕ) → has_loop js j ≡ true → row_of c (number_in (numbered n js ++ others) j) ≡ row_at rows (tuple_of js (drop n c)) j
same_row rows others [] n c j h = absurd cc
same_row rows others (k ∷ js) n c j h = go (nat_eq k j) h (λ i. same_row rows others js (suc n) c j i ∙ ap (λ d. row_at rows (tuple_of js d) j) (sym (rest_drop n c)))
  where
    go : (b : Bool) → (b || has_loop js j) ≡ true → (has_loop js j ≡ true → row_of c (number_in (numbered (suc n) js ++ others) j) ≡ row_at rows (tuple_of js (rest (drop n c))) j)
        → row_of c (cond b (suc n) (number_in (numbered (suc n) js ++ others) j)) ≡ cond b (row_of (drop n c) 1) (row_at rows (tuple_of js (rest (drop n c))) j)
    go true i later = row_behind c n
    go false i later = later i

-- more combinations behind change no row
pub tuple_front : (js : List ℕ) (c d : Combination) → length c ≡ length js → tuple_of js (c ++ d) ≡ tuple_of js c
tuple_front [] c d e = refl
tuple_front (j ∷ js) [] d e = absurd (omega arith)
tuple_front (j ∷ js) (b ∷ c) d e = ap (λ t. (j, b.1) ∷ t) (tuple_front js c d (omega arith))

pub drop_front : (c d : Combination) → drop (length c) (c ++ d) ≡ d
drop_front [] d = refl
drop_front (b ∷ c) d = drop_front c d

-- ---- rows by their types

pub rows_typed : (g : Ground) (rows : ℕ → Row) (js : List ℕ) (c : Combination) → TypedFor g.schema (from_items g js) c → (j : ℕ) → has_loop js j ≡ true → AreCells (columns_at g j) (row_at rows (tuple_of js c) j).cells
rows_typed g rows [] c h j e = absurd cc
rows_typed g rows (k ∷ js) [] h j e = absurd h
rows_typed g rows (k ∷ js) (b ∷ c) h j e = go (nat_eq k j) refl e (rows_typed g rows js c h.1 j)
  where
    go : (t : Bool) → nat_eq k j ≡ t → (t || has_loop js j) ≡ true → (has_loop js j ≡ true → AreCells (columns_at g j) (row_at rows (tuple_of js c) j).cells) → AreCells (columns_at g j) (cond t b.1 (row_at rows (tuple_of js c) j)).cells
    go true is i later = subst (λ n. AreCells (columns_at g n) b.1.cells) (eq_true k j is) h.0
    go false is i later = later i

module _ (g : Ground) (db : Database) (h : IsDatabaseOf g.schema db) where
  abbrev IsPlaceOf : ℕ → Place → Type 0
  IsPlaceOf j b = IsRowAt g.schema (list_of g j).table b.1

  sorted_typed : (j : ℕ) → AllByRecursion (IsPlaceOf j) (sorted_places g db j)
  sorted_typed j = all_sorted (by_row g j) (λ a b. false) (by_row_order g j) (IsPlaceOf j) (places_of db (from_item g j)) (all_places g.schema db h (from_item g j))

  cut_typed : (j : ℕ) (limit : Option ℕ) → AllByRecursion (IsPlaceOf j) (cut limit (sorted_places g db j))
  cut_typed j None = sorted_typed j
  cut_typed j (Some n) = all_take (IsPlaceOf j) n (sorted_places g db j) (sorted_typed j)

  pub choices_typed : (places : ℕ → List Place) → ((j : ℕ) → AllByRecursion (IsPlaceOf j) (places j)) → (js : List ℕ) → AllByRecursion (TypedFor g.schema (from_items g js)) (choices (map places js))
  choices_typed places k [] = (tt, tt)
  choices_typed places k (j ∷ js) =
      all_flat_map (IsPlaceOf j) (TypedFor g.schema (from_items g (j ∷ js))) (λ b. map (λ c. b ∷ c) (choices (map places js)))
      (λ b l. all_map (TypedFor g.schema (from_items g js)) (TypedFor g.schema (from_items g (j ∷ js))) (λ c. b ∷ c) (λ c m. (l, m)) (choices (map places js)) (choices_typed places k js))
      (places j) (k j)

  pub seen_typed : (js : List ℕ) → AllByRecursion (TypedFor g.schema (from_items g js)) (seen g db js)
  seen_typed js = choices_typed (seen_places g db) (λ j. cut_typed j (list_of g j).limit) js

  pub chosen_typed : (js : List ℕ) → AllByRecursion (TypedFor g.schema (from_items g js)) (chosen g db js)
  chosen_typed js = choices_typed (sorted_places g db) sorted_typed js

pub typed_length : (schema : Schema) (froms : List FromItem) (c : Combination) → TypedFor schema froms c → length c ≡ length froms
typed_length schema [] [] h = refl
typed_length schema [] (b ∷ c) h = absurd h
typed_length schema (from ∷ froms) [] h = absurd h
typed_length schema (from ∷ froms) (b ∷ c) h = ap suc (typed_length schema froms c h.1)
