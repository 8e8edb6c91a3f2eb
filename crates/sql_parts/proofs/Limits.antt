-- Limits: the first rows of one loop.
use Rattle.std.proofs.Common.{◌≡◌, ℕ, zero, suc, ◌+◌, ◌≤◌, pos, Bool, true, false, cond, ◌&&◌, List, [], ◌∷◌, ◌++◌, map, take, refl, sym, ap, ap₂, ◌∙◌, arith, nat_lt, ◌⊎◌, inl, inr}
use Rattle.std.specs.Prelude.{int_lt}
use Rattle.std.specs.Ordering.{int_cmp, is_lt}
use Rattle.std.specs.declared.cmp.Ordering.TheVariants.{Less, Equal, Greater}
use Rattle.std.specs.List.{AllByRecursion, filter, flat_map, enumerate_from, list_all}
use Rattle.std.specs.declared.option.Option.{Option}
use Rattle.std.specs.declared.option.Option.TheVariants.{Some, None}
use Rattle.qbs_base.specs.declared.scalar.Row.{Row}
use Rattle.qbs_base.specs.declared.scalar.Scalar.{Scalar}
use Rattle.qbs_base.specs.Sort.{put_in, stable_sort}
use Rattle.qbs_base.specs.Values.{Database}
use Rattle.qbs_base.specs.Tables.{rows_of}
use Rattle.tor_terms.specs.Plain.{Form}
use Rattle.kernel_lang.specs.declared.parts.Col.{Col}
use Rattle.kernel_lang.specs.Given.{before as rows_before}
use Rattle.sql_ast.specs.Meaning.{Place, Combination, cut, truth_of}
use Rattle.sql_parts.specs.Scopes.{Ground, list_of, from_item}
use Rattle.sql_parts.specs.Emitted.{limit_tests, limits, sorted_limit, limit_of}
use Rattle.sql_parts.proofs.Chosen.{chosen, sorted_places}
use Rattle.sql_parts.proofs.Nest.{seen}
use Rattle.sql_parts.proofs.Tools.{lt_true, lt_false, and_true}

no_put : {X : Type 0} (x : X) (xs : List X) → put_in (λ a b. false) x xs ≡ x ∷ xs
no_put x [] = refl
no_put x (y ∷ ys) = refl

pub no_sort : {X : Type 0} (xs : List X) → stable_sort (λ a b. false) xs ≡ xs
no_sort [] = refl
no_sort (x ∷ xs) = ap (put_in (λ a b. false) x) (no_sort xs) ∙ no_put x xs

-- ---- positions below a limit

abbrev single : Place → List Combination
single b = (b ∷ []) ∷ []

none_below : (c n : ℕ) (rows : List Row) → c ≤ n → filter (λ (b : Place). nat_lt b.0 c) (enumerate_from n rows) ≡ []
none_below c n [] h = refl
none_below c n (r ∷ rows) h = ap (λ t. cond t ((n, r) ∷ filter (λ (b : Place). nat_lt b.0 c) (enumerate_from (n + 1) rows)) (filter (λ (b : Place). nat_lt b.0 c) (enumerate_from (n + 1) rows))) (lt_false n c h) ∙ none_below c (n + 1) rows (omega arith)

first_places : (c n : ℕ) (rows : List Row) → filter (λ (b : Place). nat_lt b.0 (n + c)) (enumerate_from n rows) ≡ take c (enumerate_from n rows)
first_places zero n rows = none_below (n + 0) n rows (omega arith)
first_places (suc c) n [] = refl
first_places (suc c) n (r ∷ rows) =
    ap (λ t. cond t ((n, r) ∷ filter (λ (b : Place). nat_lt b.0 (n + suc c)) (enumerate_from (n + 1) rows)) (filter (λ (b : Place). nat_lt b.0 (n + suc c)) (enumerate_from (n + 1) rows))) (lt_true n (n + suc c) (omega arith))
    ∙ ap (λ (bs : List Place). (n, r) ∷ bs) (let e : n + suc c ≡ (n + 1) + c = omega arith in ap (λ m. filter (λ (b : Place). nat_lt b.0 m) (enumerate_from (n + 1) rows)) e ∙ first_places c (n + 1) rows)

less_is : (m n : ℕ) → is_lt (int_cmp (pos m) (pos n)) ≡ nat_lt m n
less_is m n = go (int_lt (pos m) (pos n)) (int_lt (pos n) (pos m))
  where
    go : (b c : Bool) → is_lt (cond b Less (cond c Greater Equal)) ≡ b
    go true c = refl
    go false true = refl
    go false false = refl

-- a test of the position first, and then the rest
filter_twice : (p : Combination → Bool) (t : Combination → Bool) (n : ℕ) → ((b : Place) → t (b ∷ []) ≡ nat_lt b.0 n) → (bs : List Place) → filter (λ c. t c && p c) (flat_map single bs) ≡ filter p (flat_map single (filter (λ b. nat_lt b.0 n) bs))
filter_twice p t n h [] = refl
filter_twice p t n h (b ∷ bs) =
    ap (λ s. cond (s && p (b ∷ [])) ((b ∷ []) ∷ filter (λ c. t c && p c) (flat_map single bs)) (filter (λ c. t c && p c) (flat_map single bs))) (h b)
    ∙ go (nat_lt b.0 n) (filter_twice p t n h bs)
  where
    go : (s : Bool) → filter (λ c. t c && p c) (flat_map single bs) ≡ filter p (flat_map single (filter (λ b. nat_lt b.0 n) bs))
        → cond (s && p (b ∷ [])) ((b ∷ []) ∷ filter (λ c. t c && p c) (flat_map single bs)) (filter (λ c. t c && p c) (flat_map single bs)) ≡ filter p (flat_map single (cond s (b ∷ filter (λ b. nat_lt b.0 n) bs) (filter (λ b. nat_lt b.0 n) bs)))
    go true e = ap (λ (r : List Combination). cond (p (b ∷ [])) ((b ∷ []) ∷ r) r) e
    go false e = e

take_singles : (n : ℕ) (bs : List Place) → take n (flat_map single bs) ≡ flat_map single (take n bs)
take_singles zero bs = refl
take_singles (suc n) [] = refl
take_singles (suc n) (b ∷ bs) = ap (λ (cs : List Combination). (b ∷ []) ∷ cs) (take_singles n bs)

filter_all : {X : Type 0} (p : X → Bool) → ((x : X) → p x ≡ true) → (xs : List X) → filter p xs ≡ xs
filter_all p h [] = refl
filter_all p h (x ∷ xs) = ap₂ (λ b ys. cond b (x ∷ ys) ys) (h x) (filter_all p h xs)

-- ---- one loop

abbrev by_keys : List Col → Place → Place → Bool
by_keys keys a b = rows_before keys a.1 b.1

module _ (db : Database) (params : List Scalar) (rows : List Row) where
  abbrev bs : List Place
  bs = enumerate_from 0 rows

  abbrev tests_hold : List Col → Option ℕ → Combination → Bool
  tests_hold keys limit c = list_all (λ d. truth_of db params d c) (limit_tests 1 keys limit ++ [])

  -- where the list is sorted and cut there is no other condition
  one_loop : (keys : List Col) (limit : Option ℕ) (p : Combination → Bool) → (keys ≡ []) ⊎ ((c : Combination) → p c ≡ true)
      → cut (sorted_limit keys limit) (filter (λ c. tests_hold keys limit c && p c) (flat_map single (stable_sort (by_keys keys) bs))) ≡ filter p (flat_map single (cut limit (stable_sort (by_keys keys) bs)))
  one_loop [] None p h = refl
  one_loop (k ∷ keys) None p h = refl
  one_loop [] (Some n) p h =
      ap (λ (cs : List Place). filter (λ c. tests_hold [] (Some n) c && p c) (flat_map single cs)) (no_sort bs)
      ∙ filter_twice p (tests_hold [] (Some n)) n (λ b. and_true (is_lt (int_cmp (pos b.0) (pos n))) ∙ less_is b.0 n) bs
      ∙ ap (λ (cs : List Place). filter p (flat_map single cs)) (let e : n ≡ 0 + n = omega arith in ap (λ m. filter (λ (b : Place). nat_lt b.0 m) bs) e ∙ first_places n 0 rows ∙ ap (take n) (sym (no_sort bs)))
  one_loop (k ∷ keys) (Some n) p (inl e) = absurd cc
  one_loop (k ∷ keys) (Some n) p (inr h) =
      ap (take n) (filter_all p h (flat_map single (stable_sort (by_keys (k ∷ keys)) bs))) ∙ take_singles n (stable_sort (by_keys (k ∷ keys)) bs) ∙ sym (filter_all p h (flat_map single (take n (stable_sort (by_keys (k ∷ keys)) bs))))

-- ---- chains

-- no limit, or one loop whose list has no keys, or one loop with nothing chosen
pub data Limited (g : Ground) : List ℕ → List Form → Type 0 where
  unlimited : (js : List ℕ) (fs : List Form) → AllByRecursion (λ j. (list_of g j).limit ≡ None) js → Limited g js fs
  unsorted : (j : ℕ) (fs : List Form) → (list_of g j).keys ≡ [] → Limited g (j ∷ []) fs
  whole : (j : ℕ) → Limited g (j ∷ []) []

no_tests : (n : ℕ) (keys : List Col) → limit_tests n keys None ≡ []
no_tests n [] = refl
no_tests n (k ∷ keys) = refl

pub no_limits : (g : Ground) (n : ℕ) (js : List ℕ) → AllByRecursion (λ j. (list_of g j).limit ≡ None) js → limits g n js ≡ []
no_limits g n [] h = refl
no_limits g n (j ∷ js) h = ap₂ (λ ds es. ds ++ es) (ap (limit_tests (suc n) (list_of g j).keys) h.0 ∙ no_tests (suc n) (list_of g j).keys) (no_limits g (suc n) js h.1)

none_cut : (keys : List Col) → sorted_limit keys None ≡ None
none_cut [] = refl
none_cut (k ∷ keys) = refl

no_limit_of : (g : Ground) (js : List ℕ) → AllByRecursion (λ j. (list_of g j).limit ≡ None) js → limit_of g js ≡ None
no_limit_of g [] h = refl
no_limit_of g (j ∷ js) h = ap (sorted_limit (list_of g j).keys) h.0 ∙ none_cut (list_of g j).keys

pub seen_is_chosen : (g : Ground) (db : Database) (js : List ℕ) → AllByRecursion (λ j. (list_of g j).limit ≡ None) js → seen g db js ≡ chosen g db js
seen_is_chosen g db [] h = refl
seen_is_chosen g db (j ∷ js) h = ap₂ (λ (l : Option ℕ) (cs : List Combination). flat_map (λ b. map (λ c. b ∷ c) cs) (cut l (sorted_places g db j))) h.0 (seen_is_chosen g db js h.1)

-- what passes, with the limits, is what passes of the lists' own places
pub limited : (g : Ground) (db : Database) (params : List Scalar) (js : List ℕ) (fs : List Form) (p : Combination → Bool) → Limited g js fs → (fs ≡ [] → (c : Combination) → p c ≡ true)
    → cut (limit_of g js) (filter (λ c. list_all (λ d. truth_of db params d c) (limits g 0 js) && p c) (chosen g db js)) ≡ filter p (seen g db js)
limited g db params _ _ p (unlimited js fs h) all =
    ap₂ (λ (l : Option ℕ) ds. cut l (filter (λ c. list_all (λ d. truth_of db params d c) ds && p c) (chosen g db js))) (no_limit_of g js h) (no_limits g 0 js h)
    ∙ ap (filter p) (sym (seen_is_chosen g db js h))
limited g db params _ _ p (unsorted j fs e) all = one_loop db params (rows_of db (from_item g j).table) (list_of g j).keys (list_of g j).limit p (inl e)
limited g db params _ _ p (whole j) all = one_loop db params (rows_of db (from_item g j).table) (list_of g j).keys (list_of g j).limit p (inr (all refl))

-- but for a list that is sorted and cut, no row is left out behind
pub data Uncut (g : Ground) : List ℕ → Type 0 where
  unlimited : (js : List ℕ) → AllByRecursion (λ j. (list_of g j).limit ≡ None) js → Uncut g js
  unsorted : (j : ℕ) → (list_of g j).keys ≡ [] → Uncut g (j ∷ [])

pub uncut : (g : Ground) (js : List ℕ) → Uncut g js → limit_of g js ≡ None
uncut g _ (unlimited js h) = no_limit_of g js h
uncut g _ (unsorted j e) = ap (λ (keys : List Col). sorted_limit keys (list_of g j).limit) e

pub uncut_is : (g : Ground) (db : Database) (params : List Scalar) (js : List ℕ) (p : Combination → Bool) → Uncut g js
    → cut (limit_of g js) (filter (λ c. list_all (λ d. truth_of db params d c) (limits g 0 js) && p c) (chosen g db js)) ≡ filter p (seen g db js)
uncut_is g db params _ p (unlimited js h) =
    ap₂ (λ (l : Option ℕ) ds. cut l (filter (λ c. list_all (λ d. truth_of db params d c) ds && p c) (chosen g db js))) (no_limit_of g js h) (no_limits g 0 js h)
    ∙ ap (filter p) (sym (seen_is_chosen g db js h))
uncut_is g db params _ p (unsorted j e) = one_loop db params (rows_of db (from_item g j).table) (list_of g j).keys (list_of g j).limit p (inl e)
