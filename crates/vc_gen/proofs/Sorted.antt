-- The terms of a level's conditions have the sort of the accumulator, and values of that sort.
use Rattle.std.proofs.Common.{◌≡◌, ℕ, zero, suc, ◌<◌, ◌≤◌, pos, Bool, true, false, not, ◌&&◌, ◌||◌, List, [], ◌∷◌, ◌++◌, length, ◌⊎◌, inl, inr, is_some, nat_eq, nat_lt, slice_get, get_or, refl, sym, ap, ap₂, ◌∙◌, subst, arith, eqb-true}
use Rattle.std.specs.List.{list_all, AllByRecursion}
use Rattle.std.proofs.lemmas.Bool.Decides.{nat_tests}
use Rattle.std.proofs.lemmas.List.Folds.{list_all-map}
use Rattle.std.specs.declared.option.Option.{Option}
use Rattle.std.specs.declared.option.Option.TheVariants.{Some, None}
use Rattle.qbs_base.specs.declared.scalar.Row.{Row}
use Rattle.qbs_base.specs.declared.scalar.Scalar.{Scalar}
use Rattle.qbs_base.specs.declared.scalar.Scalar.TheVariants as scalars
use Rattle.qbs_base.specs.declared.scalar.Ty.TheVariants as tys
use Rattle.qbs_base.specs.declared.scalar.Value.{Value}
use Rattle.qbs_base.specs.declared.scalar.Value.TheVariants as values
use Rattle.tor_terms.specs.declared.env.Env.{Env}
use Rattle.tor_terms.specs.declared.term.Atom.{Atom}
use Rattle.tor_terms.specs.declared.term.Elem.{Elem}
use Rattle.tor_terms.specs.declared.term.Elem.TheVariants as elems
use Rattle.tor_terms.specs.declared.term.Index.{Index}
use Rattle.tor_terms.specs.declared.term.Index.TheVariants.{Zero, At, Next, Len}
use Rattle.tor_terms.specs.Fits.{Sort, Empty, Tuples, Elements, Number, Truth, where_true, apart, is_number, scalar_sort, held_sort, top_sort, cat_sort, join_sort, sel_sort, proj_sort, of_elements, count_sort, any_sort, after_number, both_numbers, both_truths, has_column, index_fits, elem_fits, has_whole, numbers_only, sort}
use Rattle.tor_terms.specs.Plain.{Form, Tree, Walk, Top, One, Proj, Item}
use Rattle.tor_terms.specs.Truth.{Datum, Element, World, rows_at, all_hold, has_loop, form_within}
use Rattle.tor_terms.specs.Valid.{elem_loop}
use Rattle.tor_terms.specs.Value.{plain_row, only_number, only_truth, elem_at, count_of, total, not_empty, value}
use Rattle.tor_terms.specs.Worlds.{world_of, held_list}
use Rattle.kernel_lang.specs.declared.parts.Update.{Update}
use Rattle.kernel_lang.specs.declared.parts.Update.TheVariants.{Push, PushNew, Tick, Plus, Best, Mark}
use Rattle.kernel_lang.specs.Fitting.{is_of}
use Rattle.kernel_lang.specs.Postcondition.{nest_walks, nest_ones, body, val, effect}
use Rattle.kernel_lang.specs.Validity.{element_of, element_within, takes_a_column}
use Rattle.kernel_lang.proofs.Listing.{all_at}
use Rattle.vc_gen.proofs.Scope.{IsNew}
use Rattle.vc_gen.proofs.Uses.{AllCurrent, IndexOf}
use Rattle.vc_gen.proofs.AllOf.{all_append, all_left, all_right, all_map, all_take, all_filter, all_test}
use Rattle.vc_gen.proofs.Levels.{among_current}
use Rattle.vc_gen.proofs.Shapes.{AllElements, IsElement, IsNumeral, IsVerdict, inserted_elements, first_elements, rows_of_elements, all_elements, added_number, total_number, picked_numeral, best_number, either_truth_of, taken_number, numeral_is_number}
use Rattle.vc_gen.proofs.Tuples.{In, Of, walked_of, of_row, walks_of, ones_of}

-- ---- what is known of the chain of an accumulator and of the rows of its lists

abbrev pub Differ : List ℕ → Type 0
Differ [] = Unit {0}
Differ (j ∷ js) = IsNew j js × Differ js

-- all rows have the column of the element
abbrev pub ElementFits : (ℕ → List Row) → Option Elem → Type 0
ElementFits lists None = Unit {0}
ElementFits lists (Some (elems.Whole j)) = Unit {0}
ElementFits lists (Some (elems.Field j c)) = AllByRecursion (λ r. is_some (slice_get r.cells c) ≡ true) (lists j)

abbrev pub NumbersFit : (ℕ → List Row) → Update → Type 0
NumbersFit lists (Plus (elems.Field j c)) = AllByRecursion (λ r. is_of tys.Long (slice_get r.cells c) ≡ true) (lists j)
NumbersFit lists (Best way (elems.Field j c)) = AllByRecursion (λ r. is_of tys.Long (slice_get r.cells c) ≡ true) (lists j)
NumbersFit lists _ = Unit {0}

abbrev pub CountsOne : Update → List ℕ → Type 0
CountsOne Tick chain = (j : ℕ) × (chain ≡ j ∷ [])
CountsOne _ chain = Unit {0}

abbrev pub lists_in : List (List Row) → ℕ → List Row
lists_in lists j = get_or lists j []

pub record Suits (lists : List (List Row)) (atoms : List Atom) (u : Update) (fs : List Form) (chain : List ℕ) : Type 0 where
  pub below : AllByRecursion (λ j. nat_lt j (length lists) ≡ true) chain
  pub differ : Differ chain
  pub forms : list_all (form_within atoms chain) fs ≡ true
  pub element : element_within chain (element_of u) ≡ true
  pub columns : ElementFits (lists_in lists) (element_of u)
  pub numbers : NumbersFit (lists_in lists) u
  pub column : takes_a_column u ≡ true
  pub few : CountsOne u chain

-- ---- the sort and the value that a term of an accumulator has

abbrev pub AreElements : Option Sort → List Datum → Type 0
AreElements o xs = ((o ≡ Some Elements) ⊎ (o ≡ Some Empty)) × AllElements xs

abbrev pub AreNumbers : Option Sort → List Datum → Type 0
AreNumbers o xs = (o ≡ Some Number) × IsNumeral xs

abbrev pub AreTruths : Option Sort → List Datum → Type 0
AreTruths o xs = (o ≡ Some Truth) × IsVerdict xs

abbrev pub Fine : Update → Option Sort → List Datum → Type 0
Fine (Push e) o xs = AreElements o xs
Fine (PushNew e) o xs = AreElements o xs
Fine Tick o xs = AreNumbers o xs
Fine (Plus e) o xs = AreNumbers o xs
Fine (Best way e) o xs = AreNumbers o xs
Fine Mark o xs = AreTruths o xs

elements_fit : (o : Option Sort) (xs : List Datum) → AreElements o xs → is_some o ≡ true
elements_fit o xs h = elim h.0 [ inl e ↦ ap is_some e | inr e ↦ ap is_some e ]

pub fine_fits : (u : Update) (o : Option Sort) (xs : List Datum) → Fine u o xs → is_some o ≡ true
fine_fits (Push e) o xs h = elements_fit o xs h
fine_fits (PushNew e) o xs h = elements_fit o xs h
fine_fits Tick o xs h = ap is_some h.0
fine_fits (Plus e) o xs h = ap is_some h.0
fine_fits (Best way e) o xs h = ap is_some h.0
fine_fits Mark o xs h = ap is_some h.0

-- it can be held
pub record Holdable (u : Update) (xs : List Datum) : Type 0 where
  pub kept : Value
  pub same : xs ≡ held_list (Some kept)
  pub fine : Fine u (held_sort (Some kept)) (held_list (Some kept))

pub fine_held : (u : Update) (o : Option Sort) (xs : List Datum) → Fine u o xs → Holdable u xs
fine_held (Push e) o xs h = let k = rows_of_elements xs h.1 in record { kept = values.Many k.0; same = k.1; fine = (inl refl, all_elements k.0) }
fine_held (PushNew e) o xs h = let k = rows_of_elements xs h.1 in record { kept = values.Many k.0; same = k.1; fine = (inl refl, all_elements k.0) }
fine_held Tick o xs h = record { kept = values.One (scalars.Long h.1.0); same = h.1.1; fine = (refl, (h.1.0, refl)) }
fine_held (Plus e) o xs h = record { kept = values.One (scalars.Long h.1.0); same = h.1.1; fine = (refl, (h.1.0, refl)) }
fine_held (Best way e) o xs h = record { kept = values.One (scalars.Long h.1.0); same = h.1.1; fine = (refl, (h.1.0, refl)) }
fine_held Mark o xs h = record { kept = values.One (scalars.Bool h.1.0); same = h.1.1; fine = (refl, (h.1.0, refl)) }

-- ---- levels

less_more : (j m n : ℕ) → nat_lt j m ≡ true → m ≤ n → nat_lt j n ≡ true
less_more j m n h k = grind (arith, nat_tests)

apart_one : (k : ℕ) (ks : List ℕ) → IsNew k ks → apart (k ∷ []) ks ≡ true
apart_one k [] h = refl
apart_one k (j ∷ js) h = ap₂ (λ a b. not (a || false) && b) h.0 (apart_one k js h.1)

differ_right : (ks ls : List ℕ) → Differ (ks ++ ls) → Differ ls
differ_right [] ls h = h
differ_right (k ∷ ks) ls h = differ_right ks ls h.1

cat_elements : (o : Option Sort) → (o ≡ Some Elements) ⊎ (o ≡ Some Empty) → cat_sort o (Some Elements) ≡ Some Elements
cat_elements o h = elim h [ inl e ↦ ap (λ p. cat_sort p (Some Elements)) e | inr e ↦ ap (λ p. cat_sort p (Some Elements)) e ]

walks_plain : (x : Tree) → has_whole x ≡ false → (inner : List ℕ) → has_whole (nest_walks x inner) ≡ false
walks_plain x h [] = h
walks_plain x h (k ∷ ks) = ap₂ (λ a b. a || b) h (walks_plain (Walk k) refl ks)

ones_plain : (x : Tree) → has_whole x ≡ false → (outer : List ℕ) → has_whole (nest_ones outer x) ≡ false
ones_plain x h [] = h
ones_plain x h (k ∷ ks) = ones_plain x h ks

and_first : (a b : Bool) → a ≡ true → b ≡ true → (a && b) ≡ true
and_first a b h g = ap₂ (λ x y. x && y) h g

module _ (env : Env) (atoms : List Atom) (many_turns : length env.lists ≤ length env.at) (many_rows : length env.lists ≤ length env.cur) where
  abbrev w : World
  w = world_of env

  abbrev IsThere : ℕ → Type 0
  IsThere j = nat_lt j (length env.lists) ≡ true

  -- a term of tuples of one loop
  pub record IsLoop (j : ℕ) (x : Tree) : Type 0 where
    pub sorted : sort env atoms x ≡ Some (Tuples (j ∷ []))
    pub tuples : AllByRecursion (Of w.lists (j ∷ [])) (value w atoms x)
    pub plain : has_whole x ≡ false

  pub walk_is : (j : ℕ) → IsThere j → IsLoop j (Walk j)
  walk_is j h = record { sorted = ap (λ b. where_true b (Tuples (j ∷ []))) h; tuples = walked_of w.lists j; plain = refl }

  index_there : (j : ℕ) (index : Index) → IndexOf j index → IsThere j → index_fits env index ≡ true
  index_there j Zero e h = refl
  index_there j (At k) e h = less_more k (length env.lists) (length env.at) (ap (λ i. nat_lt i (length env.lists)) e ∙ h) many_turns
  index_there j (Next k) e h = less_more k (length env.lists) (length env.at) (ap (λ i. nat_lt i (length env.lists)) e ∙ h) many_turns
  index_there j (Len k) e h = ap (λ i. nat_lt i (length env.lists)) e ∙ h

  pub top_is : (j : ℕ) (index : Index) → IndexOf j index → IsThere j → IsLoop j (Top index (Walk j))
  top_is j index e h =
      record {
        sorted = ap₂ top_sort (index_there j index e h) (walk_is j h).sorted;
        tuples = all_take (Of w.lists (j ∷ [])) (count_of w index) (value w atoms (Walk j)) (walked_of w.lists j);
        plain = refl;
      }

  walks_sorted : (l : ℕ) (x : Tree) → sort env atoms x ≡ Some (Tuples (l ∷ [])) → (inner : List ℕ) → Differ (l ∷ inner) → AllByRecursion IsThere inner → sort env atoms (nest_walks x inner) ≡ Some (Tuples (l ∷ inner))
  walks_sorted l x h [] d b = h
  walks_sorted l x h (k ∷ ks) d b =
      ap₂ join_sort h (walks_sorted k (Walk k) (walk_is k b.0).sorted ks d.1 b.1) ∙ ap (λ t. where_true t (Tuples (l ∷ k ∷ ks))) (apart_one l (k ∷ ks) d.0)

  one_sorted : (k : ℕ) → IsThere k → sort env atoms (One (k ∷ [])) ≡ Some (Tuples (k ∷ []))
  one_sorted k h = ap (λ t. where_true (t && true) (Tuples (k ∷ []))) (less_more k (length env.lists) (length env.cur) h many_rows)

  ones_sorted : (ls : List ℕ) (x : Tree) → sort env atoms x ≡ Some (Tuples ls) → (outer : List ℕ) → Differ (outer ++ ls) → AllByRecursion IsThere outer → sort env atoms (nest_ones outer x) ≡ Some (Tuples (outer ++ ls))
  ones_sorted ls x h [] d b = h
  ones_sorted ls x h (k ∷ ks) d b = ap₂ join_sort (one_sorted k b.0) (ones_sorted ls x h ks d.1 b.1) ∙ ap (λ t. where_true t (Tuples (k ∷ ks ++ ls))) (apart_one k (ks ++ ls) d.0)

  -- a term of tuples of all loops
  pub record IsBody (chain : List ℕ) (x : Tree) : Type 0 where
    pub sorted : sort env atoms x ≡ Some (Tuples chain)
    pub tuples : AllByRecursion (Of w.lists chain) (value w atoms x)
    pub plain : has_whole x ≡ false

  body_here : (fs : List Form) (outer : List ℕ) (j : ℕ) (inner : List ℕ) → Differ (outer ++ j ∷ inner) → AllByRecursion IsThere (outer ++ j ∷ inner) → list_all (form_within atoms (outer ++ j ∷ inner)) fs ≡ true → AllCurrent w outer
      → (x : Tree) → IsLoop j x → IsBody (outer ++ j ∷ inner) (body fs outer x inner)
  body_here fs outer j inner d b forms now x l =
      record {
        sorted =
            ap (sel_sort atoms fs) (ones_sorted (j ∷ inner) (nest_walks x inner) (walks_sorted j x l.sorted inner (differ_right outer (j ∷ inner) d) (all_right IsThere outer (j ∷ inner) b).1) outer d (all_left IsThere outer (j ∷ inner) b))
            ∙ ap (λ t. where_true t (Tuples (outer ++ j ∷ inner))) forms;
        tuples =
            all_filter (Of w.lists (outer ++ j ∷ inner)) (λ y. all_hold w atoms (rows_at w.current y) fs) (value w atoms (nest_ones outer (nest_walks x inner)))
            (ones_of w atoms outer now (j ∷ inner) (nest_walks x inner) (walks_of w atoms j x l.tuples inner));
        plain = ones_plain (nest_walks x inner) (walks_plain x l.plain inner) outer;
      }

  module _ (u : Update) (fs : List Form) (chain : List ℕ) (suits : Suits env.lists atoms u fs chain) where
    pub body_is : (outer : List ℕ) (j : ℕ) (inner : List ℕ) → outer ++ j ∷ inner ≡ chain → AllCurrent w outer → (x : Tree) → IsLoop j x → IsBody chain (body fs outer x inner)
    body_is outer j inner e now x l =
        subst (λ ls. IsBody ls (body fs outer x inner)) e
        (body_here fs outer j inner (subst Differ (sym e) suits.differ) (subst (AllByRecursion IsThere) (sym e) suits.below) (subst (λ ls. list_all (form_within atoms ls) fs ≡ true) (sym e) suits.forms) now x l)

    pub there : (outer : List ℕ) (j : ℕ) (inner : List ℕ) → outer ++ j ∷ inner ≡ chain → IsThere j
    there outer j inner e = (all_right IsThere outer (j ∷ inner) (subst (AllByRecursion IsThere) (sym e) suits.below)).0

  -- ---- elements

  column_in : (e : Elem) → ElementFits w.lists (Some e) → (rows : ℕ → Row) → In w.lists (elem_loop e) (rows (elem_loop e)) → has_column rows e ≡ true
  column_in (elems.Whole j) h rows k = refl
  column_in (elems.Field j c) h rows k = all_at (λ r. is_some (slice_get r.cells c) ≡ true) (w.lists j) k.0 (rows j) h k.1

  module _ (chain : List ℕ) (B : Tree) (b : IsBody chain B) where
    columns_there : (e : Elem) → element_within chain (Some e) ≡ true → ElementFits w.lists (Some e) → list_all (λ x. has_column (rows_at w.current x) e) (value w atoms B) ≡ true
    columns_there e h f = all_test (Of w.lists chain) (λ x. has_column (rows_at w.current x) e) (λ x k. column_in e f (rows_at w.current x) (of_row w.lists w.current chain x (elem_loop e) k h)) (value w atoms B) b.tuples

    taken_sorted : (e : Elem) → element_within chain (Some e) ≡ true → ElementFits w.lists (Some e) → sort env atoms (Proj e B) ≡ Some Elements
    taken_sorted e h f =
        ap (proj_sort e (list_all (λ x. has_column (rows_at w.current x) e) (value w atoms B))) b.sorted
        ∙ ap (λ t. where_true t Elements) (and_first (has_loop chain (elem_loop e)) (list_all (λ x. has_column (rows_at w.current x) e) (value w atoms B)) h (columns_there e h f))

    taken_elements : (e : Elem) → AllElements (value w atoms (Proj e B))
    taken_elements e = all_map (Of w.lists chain) IsElement (λ x. Element (elem_at (rows_at w.current x) e)) (λ x k. tt) (value w atoms B) b.tuples

    -- numbers
    number_at : (j c : ℕ) → element_within chain (Some (elems.Field j c)) ≡ true → AllByRecursion (λ r. is_of tys.Long (slice_get r.cells c) ≡ true) (w.lists j)
        → (x : Datum) → Of w.lists chain x → is_number (Element (elem_at (rows_at w.current x) (elems.Field j c))) ≡ true
    number_at j c h f x k =
        let p = of_row w.lists w.current chain x j k h in
        numeral_is_number (Element (elem_at (rows_at w.current x) (elems.Field j c)))
        (taken_number (slice_get (rows_at w.current x j).cells c) (all_at (λ r. is_of tys.Long (slice_get r.cells c) ≡ true) (w.lists j) p.0 (rows_at w.current x j) f p.1))

    numbers_taken : (j c : ℕ) → element_within chain (Some (elems.Field j c)) ≡ true → AllByRecursion (λ r. is_of tys.Long (slice_get r.cells c) ≡ true) (w.lists j) → list_all is_number (value w atoms (Proj (elems.Field j c) B)) ≡ true
    numbers_taken j c h f =
        list_all-map is_number (λ x. Element (elem_at (rows_at w.current x) (elems.Field j c))) (value w atoms B)
        ∙ all_test (Of w.lists chain) (λ x. is_number (Element (elem_at (rows_at w.current x) (elems.Field j c)))) (number_at j c h f) (value w atoms B) b.tuples

    numbers_sorted : (j c : ℕ) → element_within chain (Some (elems.Field j c)) ≡ true → ElementFits w.lists (Some (elems.Field j c)) → AllByRecursion (λ r. is_of tys.Long (slice_get r.cells c) ≡ true) (w.lists j)
        → of_elements (numbers_only (Proj (elems.Field j c) B) (value w atoms (Proj (elems.Field j c) B))) Number (sort env atoms (Proj (elems.Field j c) B)) ≡ Some Number
    numbers_sorted j c h e f =
        ap₂ (λ t s. of_elements t Number s)
        (ap₂ (λ p q. not p && q) b.plain (numbers_taken j c h f))
        (taken_sorted (elems.Field j c) h e)

    one_loop : (ls : List ℕ) → (j : ℕ) × (ls ≡ j ∷ []) → count_sort (Some (Tuples ls)) ≡ Some Number
    one_loop ls h = ap (λ ms. count_sort (Some (Tuples ms))) h.1

    -- what a level's tuples give, after what is so at entry
    pub val_fine : (u : Update) → element_within chain (element_of u) ≡ true → ElementFits w.lists (element_of u) → NumbersFit w.lists u → takes_a_column u ≡ true → CountsOne u chain
        → (a : Tree) → Fine u (sort env atoms a) (value w atoms a) → Fine u (sort env atoms (val u a B)) (value w atoms (val u a B))
    val_fine (Push e) h f n t one a k =
        (inl (ap (cat_sort (sort env atoms a)) (taken_sorted e h f) ∙ cat_elements (sort env atoms a) k.0), all_append IsElement (value w atoms a) (value w atoms (Proj e B)) k.1 (taken_elements e))
    val_fine (PushNew e) h f n t one a k = (inl (ap (of_elements true Elements) (taken_sorted e h f)), first_elements [] (value w atoms (Proj e B)) tt (taken_elements e))
    val_fine Tick h f n t one a k = (ap₂ both_numbers k.0 (ap count_sort b.sorted ∙ one_loop chain one), added_number (value w atoms a) (only_number (pos (length (value w atoms B)))) k.1 (pos (length (value w atoms B)), refl))
    val_fine (Plus (elems.Field j c)) h f n t one a k = (ap₂ both_numbers k.0 (numbers_sorted j c h f n), added_number (value w atoms a) (total (value w atoms (Proj (elems.Field j c) B))) k.1 (total_number (value w atoms (Proj (elems.Field j c) B)) (numbers_taken j c h n)))
    val_fine (Plus (elems.Whole j)) h f n t one a k = absurd cc
    val_fine (Best way (elems.Field j c)) h f n t one a k = (ap₂ after_number k.0 (numbers_sorted j c h f n), best_number way (value w atoms a) (value w atoms (Proj (elems.Field j c) B)) k.1 (numbers_taken j c h n))
    val_fine (Best way (elems.Whole j)) h f n t one a k = absurd cc
    val_fine Mark h f n t one a k = (ap₂ both_truths k.0 (ap any_sort b.sorted), either_truth_of (value w atoms a) (only_truth (not_empty (value w atoms B))) k.1 (not_empty (value w atoms B), refl))

  -- ---- one update, at the current rows

  current_in : (ls : List ℕ) (j : ℕ) → AllCurrent w ls → has_loop ls j ≡ true → In w.lists j (w.current j)
  current_in ls j now h = let k = among_current w j ls now h in (w.turns j, k.row)

  among_there : (ls : List ℕ) (j : ℕ) → AllByRecursion IsThere ls → has_loop ls j ≡ true → IsThere j
  among_there [] j b h = absurd cc
  among_there (l ∷ ls) j b h = go (nat_eq l j) refl h (among_there ls j b.1)
    where
      go : (x : Bool) → nat_eq l j ≡ x → (x || has_loop ls j) ≡ true → (has_loop ls j ≡ true → IsThere j) → IsThere j
      go true e h ih = subst IsThere (eqb-true l j e) b.0
      go false e h ih = ih h

  module _ (chain : List ℕ) (below : AllByRecursion IsThere chain) (now : AllCurrent w chain) where
    element_there : (e : Elem) → element_within chain (Some e) ≡ true → ElementFits w.lists (Some e) → elem_fits env e ≡ true
    element_there e h f =
        and_first (nat_lt (elem_loop e) (length env.cur)) (has_column w.current e) (less_more (elem_loop e) (length env.lists) (length env.cur) (among_there chain (elem_loop e) below h) many_rows)
        (column_in e f w.current (current_in chain (elem_loop e) now h))

    row_there : (rows : List Row) (j : ℕ) → nat_lt j (length rows) ≡ true → slice_get rows j ≡ Some (get_or rows j (plain_row None))
    row_there [] j h = absurd (let k : j < 0 = grind (arith, nat_tests) in omega (arith, k))
    row_there (r ∷ rows) zero h = refl
    row_there (r ∷ rows) (suc j) h = row_there rows j (let k : j < length rows = grind (arith, nat_tests) in grind (arith, nat_tests))

    item_number : (o : Option Scalar) → is_of tys.Long o ≡ true → (elim o [ Some x ↦ Some (scalar_sort x) | None ↦ None ]) ≡ Some Number
    item_number (Some (scalars.Long n)) h = refl
    item_number (Some (scalars.Bool b)) h = absurd cc
    item_number (Some (scalars.Text t)) h = absurd cc
    item_number None h = absurd cc

    long_there : (j c : ℕ) → element_within chain (Some (elems.Field j c)) ≡ true → AllByRecursion (λ r. is_of tys.Long (slice_get r.cells c) ≡ true) (w.lists j) → is_of tys.Long (slice_get (w.current j).cells c) ≡ true
    long_there j c h f = let p = current_in chain j now h in all_at (λ r. is_of tys.Long (slice_get r.cells c) ≡ true) (w.lists j) p.0 (w.current j) f p.1

    item_sorted : (j c : ℕ) → element_within chain (Some (elems.Field j c)) ≡ true → AllByRecursion (λ r. is_of tys.Long (slice_get r.cells c) ≡ true) (w.lists j) → sort env atoms (Item (elems.Field j c)) ≡ Some Number
    item_sorted j c h f =
        ap (λ (o : Option Row). elim o [ Some row ↦ elim (slice_get row.cells c) [ Some x ↦ Some (scalar_sort x) | None ↦ None ] | None ↦ None ]) (row_there env.cur j (less_more j (length env.lists) (length env.cur) (among_there chain j below h) many_rows))
        ∙ item_number (slice_get (w.current j).cells c) (long_there j c h f)

    insert_sorted : (e : Elem) → element_within chain (Some e) ≡ true → ElementFits w.lists (Some e) → (o : Option Sort) → (o ≡ Some Elements) ⊎ (o ≡ Some Empty) → of_elements (elem_fits env e) Elements o ≡ Some Elements
    insert_sorted e h f o k =
        ap (λ t. of_elements t Elements o) (element_there e h f) ∙ elim k [ inl d ↦ ap (of_elements true Elements) d | inr d ↦ ap (of_elements true Elements) d ]

    pub effect_fine : (u : Update) → element_within chain (element_of u) ≡ true → ElementFits w.lists (element_of u) → NumbersFit w.lists u → takes_a_column u ≡ true
        → (a : Tree) → Fine u (sort env atoms a) (value w atoms a) → Fine u (sort env atoms (effect u a)) (value w atoms (effect u a))
    effect_fine (Push e) h f n t a k =
        (inl (ap (λ b. cat_sort (sort env atoms a) (where_true b Elements)) (element_there e h f) ∙ cat_elements (sort env atoms a) k.0), all_append IsElement (value w atoms a) (Element (elem_at w.current e) ∷ []) k.1 (tt, tt))
    effect_fine (PushNew e) h f n t a k = (inl (insert_sorted e h f (sort env atoms a) k.0), inserted_elements (value w atoms a) (Element (elem_at w.current e)) k.1 tt)
    effect_fine Tick h f n t a k = (ap (λ s. both_numbers s (Some Number)) k.0, added_number (value w atoms a) (only_number (pos 1)) k.1 (pos 1, refl))
    effect_fine (Plus (elems.Field j c)) h f n t a k = (ap₂ both_numbers k.0 (item_sorted j c h n), added_number (value w atoms a) (Element (plain_row (slice_get (w.current j).cells c)) ∷ []) k.1 (taken_number (slice_get (w.current j).cells c) (long_there j c h n)))
    effect_fine (Plus (elems.Whole j)) h f n t a k = absurd cc
    effect_fine (Best way (elems.Field j c)) h f n t a k = (ap₂ both_numbers k.0 (item_sorted j c h n), picked_numeral way (value w atoms a) (Element (plain_row (slice_get (w.current j).cells c)) ∷ []) k.1 (taken_number (slice_get (w.current j).cells c) (long_there j c h n)))
    effect_fine (Best way (elems.Whole j)) h f n t a k = absurd cc
    effect_fine Mark h f n t a k = (refl, (true, refl))
